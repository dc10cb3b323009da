-- What chosen stages bring, without the order in which it is found.
--     StandsBehind above order                 each stage stands behind all that are above it, and once
--     IsClosure above chosen order stages      of the stages in order, these are the chosen ones and all above them, and no other
use Rattle.std.specs.Prelude.{◌≡◌, ℕ, Bool, true, false, List, [], ◌∷◌}
use Rattle.stage_order.specs.Order.{is_in, above_of}

abbrev pub StandsBehind : List (List ℕ) → List ℕ → Type 0
StandsBehind above [] = Unit {0}
StandsBehind above (s ∷ later) =
    ((n : ℕ) → is_in (above_of above s) n ≡ true → is_in (s ∷ later) n ≡ false) × (is_in later s ≡ false) × StandsBehind above later

pub record IsClosure (above : List (List ℕ)) (chosen order stages : List ℕ) : Type 0 where
  pub within : (s : ℕ) → is_in stages s ≡ true → is_in order s ≡ true
  pub has_chosen : (s : ℕ) → is_in order s ≡ true → is_in chosen s ≡ true → is_in stages s ≡ true
  pub has_above : (b s : ℕ) → is_in stages b ≡ true → is_in (above_of above b) s ≡ true → is_in order s ≡ true → is_in stages s ≡ true
  -- they pass each test that the chosen ones pass, and that those above a stage pass where it does
  pub no_other : (test : ℕ → Bool) → ((s : ℕ) → is_in chosen s ≡ true → test s ≡ true) →
      ((b s : ℕ) → test b ≡ true → is_in (above_of above b) s ≡ true → test s ≡ true) → (s : ℕ) → is_in stages s ≡ true → test s ≡ true
