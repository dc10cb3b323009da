-- Laws of what a world tells: of `Passes`, `Keeps`, `KeepsPaths` and `Stays`.
--     passes_none, passes_same     no moment but the present
--     passes_then, passes_on       one stretch of moments after another
--     passes_weaker                what follows from each moment's property
--     .._itself, .._then, .._in    of a change of nothing, of one after another, and of a larger area
use Rattle.std.proofs.Common.{◌≡◌, inl, inr, Bool, false, List, [], ◌∷◌, ◌++◌, refl, sym, ap, subst, ◌∙◌, append_assoc}
use Rattle.std.specs.List.{AllByRecursion}
use Rattle.dvc_base.specs.Path.{Path}
use Rattle.world_api.specs.History.{Fixed, Aside, Moment, History, Stays, itself, KeepsPaths, Keeps, Passes}

-- ---- lists of moments

pub each_append : (P : Moment → Type 0) (xs ys : List Moment) → AllByRecursion P xs → AllByRecursion P ys → AllByRecursion P (xs ++ ys)
each_append P [] ys a b = b
each_append P (x ∷ xs) ys a b = (a.0, each_append P xs ys a.1 b)

pub each_weaker : (P Q : Moment → Type 0) (xs : List Moment) → ((m : Moment) → P m → Q m) → AllByRecursion P xs → AllByRecursion Q xs
each_weaker P Q [] f a = tt
each_weaker P Q (x ∷ xs) f a = (f x a.0, each_weaker P Q xs f a.1)

-- ---- `Passes`

pub passes_none : (P : Moment → Type 0) (h : History) → P h.present → Passes P h h
passes_none P h p = record { since = []; grown = refl; start = inl refl; each = tt; under = ([], refl); now = p }

pub passes_same : (P : Moment → Type 0) (a b : History) → b ≡ a → P a.present → Passes P a b
passes_same P a b e p = subst (λ (h : History). Passes P a h) (sym e) (passes_none P a p)

-- one stretch after another, where the first begins with its old present
passes_joined : (P : Moment → Type 0) (a b c : History) (x : Passes P a b) (y : Passes P b c) → ((more : List Moment) × (x.since ≡ more ++ a.present ∷ [])) → Passes P a c
passes_joined P a b c x y first =
    record {
      since = y.since ++ x.since;
      grown = y.grown ∙ ap (λ (l : List Moment). y.since ++ l) x.grown ∙ sym (append_assoc y.since x.since a.past);
      start = inr (y.since ++ first.0, ap (λ (l : List Moment). y.since ++ l) first.1 ∙ sym (append_assoc y.since first.0 (a.present ∷ [])));
      each = each_append P y.since x.since y.each x.each;
      under = (
        y.under.0 ++ x.under.0,
        y.under.1 ∙ ap (λ (l : List Moment). y.under.0 ++ l) x.under.1 ∙ sym (append_assoc y.under.0 x.under.0 a.under),
      );
      now = y.now;
    }

pub passes_then : (P : Moment → Type 0) (a b c : History) → Passes P a b → Passes P b c → Passes P a c
passes_then P a b c x y =
    elim x.start [
      | inl same ↦ subst (λ (h : History). Passes P h c) same y
      | inr first ↦ passes_joined P a b c x y first
    ]

pub passes_weaker : (P Q : Moment → Type 0) (a b : History) → ((m : Moment) → P m → Q m) → Passes P a b → Passes Q a b
passes_weaker P Q a b f x =
    record {
      since = x.since;
      grown = x.grown;
      start = x.start;
      each = each_weaker P Q x.since f x.each;
      under = x.under;
      now = f b.present x.now;
    }

-- so far P; a call whose moments have Q follows, and what has Q has P
pub passes_on : (P Q : Moment → Type 0) (a b c : History) → Passes P a b → ((m : Moment) → Q m → P m) → Passes Q b c → Passes P a c
passes_on P Q a b c x f y = passes_then P a b c x (passes_weaker Q P b c f y)

-- ---- `Stays`

pub stays_itself : (a : Aside) → Stays itself a a
stays_itself a = record { fixed = refl; book = λ d x e. e }

pub stays_then : (change : Fixed → Fixed) (a b c : Aside) → Stays itself a b → Stays change b c → Stays change a c
stays_then change a b c x y =
    record { fixed = y.fixed ∙ ap change x.fixed; book = λ d bytes e. y.book d bytes (x.book d bytes e) }

-- ---- `KeepsPaths`, `Keeps`

pub keeps_paths_itself : (area : Path → Bool) (m : Moment) → KeepsPaths area m m
keeps_paths_itself area m = record { items = λ p o. refl; loose = λ p o. refl }

pub keeps_paths_then : (area : Path → Bool) (m n o : Moment) → KeepsPaths area m n → KeepsPaths area n o → KeepsPaths area m o
keeps_paths_then area m n o x y =
    record { items = λ p out. y.items p out ∙ x.items p out; loose = λ p out. y.loose p out ∙ x.loose p out }

-- what lies outside the larger area lies outside the smaller one
pub keeps_paths_in : (small large : Path → Bool) (m n : Moment) → ((p : Path) → large p ≡ false → small p ≡ false) → KeepsPaths small m n → KeepsPaths large m n
keeps_paths_in small large m n f x =
    record { items = λ p out. x.items p (f p out); loose = λ p out. x.loose p (f p out) }

pub keeps_itself : (area : Path → Bool) (m : Moment) → Keeps area m m
keeps_itself area m = record { paths = keeps_paths_itself area m; aside = stays_itself m.aside }

pub keeps_then : (area : Path → Bool) (m n o : Moment) → Keeps area m n → Keeps area n o → Keeps area m o
keeps_then area m n o x y =
    record {
      paths = keeps_paths_then area m n o x.paths y.paths;
      aside = stays_then itself m.aside n.aside o.aside x.aside y.aside;
    }

pub keeps_in : (small large : Path → Bool) (m n : Moment) → ((p : Path) → large p ≡ false → small p ≡ false) → Keeps small m n → Keeps large m n
keeps_in small large m n f x = record { paths = keeps_paths_in small large m n f x.paths; aside = x.aside }
