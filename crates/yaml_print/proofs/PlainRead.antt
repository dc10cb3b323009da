-- A plain scalar that is written on one line, as it is read.
use Rattle.std.proofs.Common.{◌≡◌, ℕ, zero, suc, eqb, Bool, true, false, cond, not, ◌||◌, ◌&&◌, inl, inr, [], ◌∷◌, ◌++◌, length, refl, ap, sym, ◌∙◌, arith}
use Rattle.std.specs.List.{list_all}
use Rattle.yaml_text.specs.Outcome.{Text}
use Rattle.yaml_text.specs.Line.{is_white, is_bad}
use Rattle.yaml_scalars.specs.Plain.{ends_before, and_more, plain_len, begins_plain, is_reserved, is_gap, may_follow_colon}
use Rattle.yaml_nodes.specs.Part.{is_quote, begins_form}
use Rattle.yaml_nodes.specs.Block.{begins_item}
use Rattle.yaml_print.proofs.BoolLemmas.{either, true_not_false, same, either_false}

-- ---- the part on a line, with more text behind it

-- behind a plain scalar of one line stands what no plain scalar takes
abbrev pub EndsPlain : Text → Type 0
EndsPlain u = (white : Bool) → plain_len false white u ≡ 0

pub feed_ends_plain : (u : Text) → EndsPlain (10 ∷ u)
feed_ends_plain u = λ white. refl

pub colon_ends_plain : (u : Text) → may_follow_colon false u ≡ true → EndsPlain (58 ∷ u)
colon_ends_plain u h true = ap (λ v. cond (v || false) 0 (suc (plain_len false false u))) h
colon_ends_plain u h false = ap (λ v. cond (v || false) 0 (suc (plain_len false false u))) h

last_ends : (x d p : Bool) → ((x || (d && true)) || false) ≡ false → ((x || (d && p)) || false) ≡ false
last_ends true d p h = absurd (true_not_false h)
last_ends false true p h = absurd (true_not_false h)
last_ends false false p h = refl

-- what stands behind a byte decides only for a colon
goes_on : (white : Bool) (b : ℕ) (t u : Text) → ends_before false white b t ≡ false → ends_before false white b (t ++ u) ≡ false
goes_on white b [] u h = last_ends (eqb b 10 || is_bad b || (white && eqb b 35)) (eqb b 58) (may_follow_colon false u) h
goes_on white b (c ∷ t) u h = h

nothing : (n : ℕ) → 0 ≡ suc n → ⊥
nothing n h = absurd (omega arith)

counted : (ends white : Bool) (p q n : ℕ) → cond ends 0 (cond white (and_more p) (suc q)) ≡ suc n → ends ≡ false
counted true white p q n h = absurd (nothing n h)
counted false white p q n h = refl

one_less : (p n : ℕ) → and_more p ≡ suc n → p ≡ n
one_less zero n h = absurd (nothing n h)
one_less (suc p) n h = omega arith

grown : (ends white : Bool) (p q n : ℕ) → ends ≡ false → (white ≡ true → and_more p ≡ suc n) → (white ≡ false → q ≡ n) → cond ends 0 (cond white (and_more p) (suc q)) ≡ suc n
grown true white p q n h f g = absurd (true_not_false h)
grown false true p q n h f g = f refl
grown false false p q n h f g = ap suc (g refl)

inner_white : (ends white : Bool) (p q n : ℕ) → cond ends 0 (cond white (and_more p) (suc q)) ≡ suc n → white ≡ true → and_more p ≡ suc n
inner_white true white p q n h is = absurd (nothing n h)
inner_white false true p q n h is = h
inner_white false false p q n h is = absurd (true_not_false (sym is))

inner_black : (ends white : Bool) (p q n : ℕ) → cond ends 0 (cond white (and_more p) (suc q)) ≡ suc n → white ≡ false → q ≡ n
inner_black true white p q n h is = absurd (nothing n h)
inner_black false true p q n h is = absurd (true_not_false is)
inner_black false false p q n h is = omega arith

pub whole_line : (white : Bool) (t u : Text) → EndsPlain u → plain_len false white t ≡ length t → plain_len false white (t ++ u) ≡ length t
whole_line white [] u ends h = ends white
whole_line white (b ∷ t) u ends h =
    let s = ends_before false white b t in
    let w = is_white b in
    let p = plain_len false true t in
    let q = plain_len false false t in
    grown (ends_before false white b (t ++ u)) w (plain_len false true (t ++ u)) (plain_len false false (t ++ u)) (length t)
    (goes_on white b t u (counted s w p q (length t) h))
    (λ is. let more = inner_white s w p q (length t) h is in
    ap and_more (whole_line true t u ends (one_less p (length t) more) ∙ sym (one_less p (length t) more)) ∙ more)
    (λ is. whole_line false t u ends (inner_black s w p q (length t) h is))

-- ---- how it begins

begin_by : (a d g x e p : Bool) → not ((a || (d && true)) || ((x || (e && true)) || false)) ≡ true → not ((a || (d && g)) || ((x || (e && p)) || false)) ≡ true
begin_by true d g x e p h = absurd (true_not_false (sym h))
begin_by false true g x e p h = absurd (true_not_false (sym h))
begin_by false false g true e p h = absurd (true_not_false (sym h))
begin_by false false g false true p h = absurd (true_not_false (sym h))
begin_by false false g false false p h = refl

pub begins_more : (t u : Text) → begins_plain false t ≡ true → begins_plain false (t ++ u) ≡ true
begins_more [] u h = absurd (true_not_false (sym h))
begins_more (b ∷ []) u h =
    begin_by (is_reserved b || is_white b) (eqb b 45 || eqb b 63 || eqb b 58) (is_gap u) (eqb b 10 || is_bad b || (false && eqb b 35)) (eqb b 58) (may_follow_colon false u) h
begins_more (b ∷ c ∷ t) u h = h

-- a byte with which no plain scalar begins
pub not_first : (k : ℕ) (b : ℕ) (t : Text) → begins_plain false (k ∷ t) ≡ false → begins_plain false (b ∷ t) ≡ true → eqb b k ≡ false
not_first k b t never h =
    elim (either (eqb b k)) [ inl is ↦ absurd (true_not_false (sym h ∙ ap (λ c. begins_plain false (c ∷ t)) (same b k is) ∙ never)) | inr is ↦ is ]

no_dash_by : (a x y z g s : Bool) → not ((a || ((x || y || z) && g)) || s) ≡ true → (x && g) ≡ false
no_dash_by true x y z g s h = absurd (true_not_false (sym h))
no_dash_by false false y z g s h = refl
no_dash_by false true y z true s h = absurd (true_not_false (sym h))
no_dash_by false true y z false s h = refl

pub plain_no_item : (b : ℕ) (t : Text) → begins_plain false (b ∷ t) ≡ true → begins_item (b ∷ t) ≡ false
plain_no_item b t h = no_dash_by (is_reserved b || is_white b) (eqb b 45) (eqb b 63) (eqb b 58) (is_gap t) (ends_before false false b t) h

pub plain_no_quote : (b : ℕ) (t : Text) → begins_plain false (b ∷ t) ≡ true → is_quote (b ∷ t) ≡ false
plain_no_quote b t h = either_false (eqb b 39) (eqb b 34) (not_first 39 b t refl h) (not_first 34 b t refl h)

pub plain_not_open : (b : ℕ) (t : Text) → begins_plain false (b ∷ t) ≡ true → begins_form (b ∷ t) ≡ false
plain_not_open b t h = either_false (eqb b 91) (eqb b 123) (not_first 91 b t refl h) (not_first 123 b t refl h)

-- ---- what a part on a line holds

shown_by : (white : Bool) (a b c d : Bool) → ((((a || b) || c) || d) || false) ≡ false → not (a || b) ≡ true
shown_by white true b c d h = absurd (true_not_false h)
shown_by white false true c d h = absurd (true_not_false h)
shown_by white false false c d h = refl

pub plain_shown : (white : Bool) (t : Text) → plain_len false white t ≡ length t → list_all (λ b. not (eqb b 10 || is_bad b)) t ≡ true
plain_shown white [] h = refl
plain_shown white (b ∷ t) h =
    let s = ends_before false white b t in
    let w = is_white b in
    let p = plain_len false true t in
    let q = plain_len false false t in
    let here = shown_by white (eqb b 10) (is_bad b) (white && eqb b 35) (eqb b 58 && may_follow_colon false t) (counted s w p q (length t) h) in
    let rest : list_all (λ c. not (eqb c 10 || is_bad c)) t ≡ true =
    elim (either w) [
      | inl is ↦ plain_shown true t (one_less p (length t) (inner_white s w p q (length t) h is))
      | inr is ↦ plain_shown false t (inner_black s w p q (length t) h is)
    ] in
    ap (λ v. v && list_all (λ c. not (eqb c 10 || is_bad c)) t) here ∙ rest
