-- The order under way: what is done so far, and the turns that are left.
--     IsUnderWay      the order goes on behind what is done
--     next_turn, no_turn      a further stage, and none
use Rattle.std.proofs.Common.{◌≡◌, ℕ, suc, ◌+◌, ◌-◌, ◌<◌, ◌∙◌, sym, subst, arith, List, [], ◌∷◌, ◌++◌, Bool, Option, Some, None}
use Rattle.std.specs.Option.{MatchOption}
use Rattle.stage_order.specs.Order.{order, order_from, next}
use Rattle.stage_order.specs.Seated.{AreSeated}
use Rattle.stage_order.proofs.SeatLemmas.{order_step, order_end}

pub record IsUnderWay (above : List (List ℕ)) (n : ℕ) (done : List ℕ) (marks : List Bool) (ready : List ℕ) (waits : List (List ℕ)) : Type 0 where
  pub seated : AreSeated above done [] marks ready waits
  pub goes_on : order_from n above done ≡ order above

pub next_turn : (above : List (List ℕ)) (n : ℕ) (done : List ℕ) (s : ℕ) → next above done ≡ Some s → order_from (suc n) above done ≡ order above →
    order_from n above (done ++ s ∷ []) ≡ order above
next_turn above n done s met h = sym (order_step n above done s met) ∙ h

pub no_turn : (above : List (List ℕ)) (n : ℕ) (done : List ℕ) → next above done ≡ None → order_from n above done ≡ order above → done ≡ order above
no_turn above n done none h = sym (order_end n above done none) ∙ h

pub at_none : (o : Option ℕ) (P : Type 0) (Q : ℕ → Type 0) → o ≡ None → MatchOption o P Q → P
at_none o P Q e h = subst (λ (p : Option ℕ). MatchOption p P Q) e h

pub at_some : (o : Option ℕ) (P : Type 0) (Q : ℕ → Type 0) (s : ℕ) → o ≡ Some s → MatchOption o P Q → Q s
at_some o P Q s e h = subst (λ (p : Option ℕ). MatchOption p P Q) e h

pub turn_left : (n i : ℕ) → i < n → n - i ≡ suc (n - (i + 1))
turn_left n i inside = omega arith
