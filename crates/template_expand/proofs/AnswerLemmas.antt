-- Answers, one after another.
--     ends_by            a refusal that is due leads to another that is due
--     all_more           what is made of a list's front, with one item more
--     all_ends           a refusal after a list's front counts for the list
--     folded_more, folded_ends     the same of steps
use Rattle.std.proofs.Common.{◌≡◌, ℕ, ◌+◌, ◌<◌, length, List, [], ◌∷◌, ◌++◌, take, drop, get_or, Ok, Err, refl, sym, ap, ◌∙◌}
use Rattle.std.proofs.lemmas.List.{take_more, drop_more, take-append-drop}
use Rattle.stage_schema.specs.declared.fault.ExpandFault.{ExpandFault}
use Rattle.stage_schema.specs.declared.fault.ExpandFault.TheVariants as e
use Rattle.template_expand.specs.Answer.{Answer, then_by, all_by, folded_by, Ends}

-- ---- refusals

pub ends_by : {A B : Type 0} → (fault : ExpandFault) (a : Answer A) (b : Answer B) → (a ≡ Err fault → b ≡ Err fault) → Ends fault a → Ends fault b
ends_by e.NoMemory a b step h = tt
ends_by (e.Schema key) a b step h = step h
ends_by (e.Unsupported key) a b step h = step h
ends_by (e.Outside text why) a b step h = step h
ends_by (e.TooMany count) a b step h = step h
ends_by (e.NoVariable key) a b step h = step h
ends_by (e.NotScalar key) a b step h = step h
ends_by (e.NoFile file) a b step h = step h
ends_by (e.NoKey file key) a b step h = step h

-- ---- lists

-- a list, cut before one of its items
cut : {A : Type 0} → (xs : List A) (i : ℕ) (x : A) → i < length xs → x ≡ get_or xs i x → xs ≡ take i xs ++ x ∷ drop (i + 1) xs
cut {A = A} xs i x l is =
    sym (take-append-drop i xs) ∙ ap (λ (ys : List A). take i xs ++ ys) (drop_more xs i x l) ∙ ap (λ y. take i xs ++ y ∷ drop (i + 1) xs) (sym is)

front : {A : Type 0} → (xs : List A) (i : ℕ) (x : A) → i < length xs → x ≡ get_or xs i x → take (i + 1) xs ≡ take i xs ++ x ∷ []
front xs i x l is = take_more xs i x l ∙ ap (λ y. take i xs ++ y ∷ []) (sym is)

abbrev before : {B : Type 0} → Answer (List B) → Answer (List B) → Answer (List B)
before back made = then_by (λ ys. then_by (λ zs. Ok (ys ++ zs)) back) made

all_append : {A B : Type 0} → (f : A → Answer B) (xs ys : List A) → all_by f (xs ++ ys) ≡ before (all_by f ys) (all_by f xs)
all_append {B = B} f [] ys = same (all_by f ys)
  where
    same : (r : Answer (List B)) → r ≡ then_by (λ zs. Ok zs) r
    same (Ok zs) = refl
    same (Err fault) = refl
all_append {B = B} f (x ∷ xs) ys = by (f x) (all_by f (xs ++ ys)) (all_by f xs) (all_by f ys) (all_append f xs ys)
  where
    by : (r : Answer B) (whole made back : Answer (List B)) → whole ≡ before back made → then_by (λ y. then_by (λ zs. Ok (y ∷ zs)) whole) r ≡ before back (then_by (λ y. then_by (λ zs. Ok (y ∷ zs)) made) r)
    by (Err fault) whole made back h = refl
    by (Ok y) whole (Err fault) back h = ap (then_by (λ (zs : List B). Ok (y ∷ zs))) h
    by (Ok y) whole (Ok ys) (Err fault) h = ap (then_by (λ (zs : List B). Ok (y ∷ zs))) h
    by (Ok y) whole (Ok ys) (Ok zs) h = ap (then_by (λ (zs : List B). Ok (y ∷ zs))) h

pub all_more : {A B : Type 0} → (f : A → Answer B) (xs : List A) (i : ℕ) (x : A) (made : List B) (y : B) → i < length xs → x ≡ get_or xs i x → all_by f (take i xs) ≡ Ok made → f x ≡ Ok y → all_by f (take (i + 1) xs) ≡ Ok (made ++ y ∷ [])
all_more f xs i x made y l is so_far here =
    ap (all_by f) (front xs i x l is) ∙ all_append f (take i xs) (x ∷ []) ∙ rw (so_far, here) refl

all_refused : {A B : Type 0} → (f : A → Answer B) (xs : List A) (i : ℕ) (x : A) (made : List B) (fault : ExpandFault) → i < length xs → x ≡ get_or xs i x → all_by f (take i xs) ≡ Ok made → f x ≡ Err fault → all_by f xs ≡ Err fault
all_refused f xs i x made fault l is so_far here =
    ap (all_by f) (cut xs i x l is) ∙ all_append f (take i xs) (x ∷ drop (i + 1) xs) ∙ rw (so_far, here) refl

pub all_ends : {A B : Type 0} → (f : A → Answer B) (xs : List A) (i : ℕ) (x : A) (made : List B) (fault : ExpandFault) → i < length xs → x ≡ get_or xs i x → all_by f (take i xs) ≡ Ok made → Ends fault (f x) → Ends fault (all_by f xs)
all_ends f xs i x made fault l is so_far here = ends_by fault (f x) (all_by f xs) (λ h. all_refused f xs i x made fault l is so_far h) here

-- ---- steps

folded_append : {A B : Type 0} → (step : B → A → Answer B) (made : B) (xs ys : List A) → folded_by step made (xs ++ ys) ≡ then_by (λ m. folded_by step m ys) (folded_by step made xs)
folded_append step made [] ys = refl
folded_append {B = B} step made (x ∷ xs) ys = by (step made x) (λ next. folded_append step next xs ys)
  where
    by : (r : Answer B) → ((next : B) → folded_by step next (xs ++ ys) ≡ then_by (λ m. folded_by step m ys) (folded_by step next xs)) → then_by (λ next. folded_by step next (xs ++ ys)) r ≡ then_by (λ m. folded_by step m ys) (then_by (λ next. folded_by step next xs) r)
    by (Err fault) h = refl
    by (Ok next) h = h next

pub folded_more : {A B : Type 0} → (step : B → A → Answer B) (start : B) (xs : List A) (i : ℕ) (x : A) (made next : B) → i < length xs → x ≡ get_or xs i x → folded_by step start (take i xs) ≡ Ok made → step made x ≡ Ok next → folded_by step start (take (i + 1) xs) ≡ Ok next
folded_more step start xs i x made next l is so_far here =
    ap (folded_by step start) (front xs i x l is) ∙ folded_append step start (take i xs) (x ∷ []) ∙ rw (so_far, here) refl

folded_refused : {A B : Type 0} → (step : B → A → Answer B) (start : B) (xs : List A) (i : ℕ) (x : A) (made : B) (fault : ExpandFault) → i < length xs → x ≡ get_or xs i x → folded_by step start (take i xs) ≡ Ok made → step made x ≡ Err fault → folded_by step start xs ≡ Err fault
folded_refused step start xs i x made fault l is so_far here =
    ap (folded_by step start) (cut xs i x l is) ∙ folded_append step start (take i xs) (x ∷ drop (i + 1) xs) ∙ rw (so_far, here) refl

pub folded_ends : {A B : Type 0} → (step : B → A → Answer B) (start : B) (xs : List A) (i : ℕ) (x : A) (made : B) (fault : ExpandFault) → i < length xs → x ≡ get_or xs i x → folded_by step start (take i xs) ≡ Ok made → Ends fault (step made x) → Ends fault (folded_by step start xs)
folded_ends step start xs i x made fault l is so_far here =
    ends_by fault (step made x) (folded_by step start xs) (λ h. folded_refused step start xs i x made fault l is so_far h) here
