-- The stages that are taken, from the last on.
--     IsTaken                    of some of the last stages those are taken that are brought, and the set has what is wanted
--     taken_skip, taken_more     a stage before them
--     next_back                  the stages from the one before
use Rattle.std.proofs.Common.{◌≡◌, ℕ, ◌+◌, ◌-◌, ◌<◌, Bool, true, false, ◌||◌, ◌==◌, cond, List, [], ◌∷◌, ◌++◌, length, drop, get_or, reverse, refl, sym, ap, ◌∙◌, subst, arith}
use Rattle.std.specs.List.{list_any}
use Rattle.std.proofs.lemmas.List.{drop_more, reverse-append}
use Rattle.stage_order.specs.Order.{is_in, above_of}
use Rattle.stage_order.specs.Brought.{brought, with_wanted, is_wanted}

pub record IsTaken (above : List (List ℕ)) (chosen later taken wanted : List ℕ) : Type 0 where
  pub taken_are : reverse taken ≡ brought above chosen later
  pub wanted_are : (n : ℕ) → is_in wanted n ≡ is_wanted above chosen (brought above chosen later) n

pub one_of : (a b c : Bool) → (a || (b || c)) ≡ (b || (c || a))
one_of true true c = refl
one_of true false true = refl
one_of true false false = refl
one_of false true c = refl
one_of false false true = refl
one_of false false false = refl

with_more : (a b c : Bool) → ((a || b) || c) ≡ (a || (c || b))
with_more true b c = refl
with_more false true true = refl
with_more false true false = refl
with_more false false true = refl
with_more false false false = refl

pub taken_skip : (above : List (List ℕ)) (chosen later taken wanted : List ℕ) (s : ℕ) → is_in wanted s ≡ false →
    IsTaken above chosen later taken wanted → IsTaken above chosen (s ∷ later) taken wanted
taken_skip above chosen later taken wanted s unmet h =
    let old = brought above chosen later in
    let same : with_wanted above chosen old s ≡ old = ap (λ (b : Bool). cond b (s ∷ old) old) (sym (h.wanted_are s) ∙ unmet) in
    record {
      taken_are = h.taken_are ∙ sym same;
      wanted_are = λ n. h.wanted_are n ∙ ap (λ (ts : List ℕ). is_wanted above chosen ts n) (sym same);
    }

pub taken_more : (above : List (List ℕ)) (chosen later taken wanted wanted' : List ℕ) (s : ℕ) → is_in wanted s ≡ true →
    ((n : ℕ) → is_in wanted' n ≡ (is_in wanted n || is_in (above_of above s) n)) →
    IsTaken above chosen later taken wanted → IsTaken above chosen (s ∷ later) (taken ++ s ∷ []) wanted'
taken_more above chosen later taken wanted wanted' s met grown h =
    let old = brought above chosen later in
    let more : with_wanted above chosen old s ≡ s ∷ old = ap (λ (b : Bool). cond b (s ∷ old) old) (sym (h.wanted_are s) ∙ met) in
    record {
      taken_are = reverse-append taken (s ∷ []) ∙ ap (λ (ts : List ℕ). s ∷ ts) h.taken_are ∙ sym more;
      wanted_are = λ n. grown n
          ∙ ap (λ (b : Bool). b || is_in (above_of above s) n) (h.wanted_are n)
          ∙ with_more (is_in chosen n) (list_any (λ b. is_in (above_of above b) n) old) (is_in (above_of above s) n)
          ∙ ap (λ (ts : List ℕ). is_wanted above chosen ts n) (sym more);
    }

pub next_back : (ns : List ℕ) (i : ℕ) → i < length ns →
    drop (length ns - (i + 1)) ns ≡ get_or ns (length ns - 1 - i) 0 ∷ drop (length ns - i) ns
next_back ns i within =
    let j = length ns - 1 - i in
    let less : length ns - (i + 1) ≡ j = omega (arith, within) in
    let inside : j < length ns = omega (arith, within) in
    let more : j + 1 ≡ length ns - i = omega (arith, within) in
    ap (λ (n : ℕ). drop n ns) less ∙ drop_more ns j 0 inside ∙ ap (λ (n : ℕ). get_or ns j 0 ∷ drop n ns) more

pub taken_same : (above : List (List ℕ)) (chosen later later' taken taken' wanted wanted' : List ℕ) →
    later ≡ later' → taken ≡ taken' → wanted ≡ wanted' → IsTaken above chosen later taken wanted → IsTaken above chosen later' taken' wanted'
taken_same above chosen later later' taken taken' wanted wanted' e f g h =
    subst (IsTaken above chosen later' taken') g
    (subst (λ (ts : List ℕ). IsTaken above chosen later' ts wanted) f
    (subst (λ (ls : List ℕ). IsTaken above chosen ls taken wanted) e h))
