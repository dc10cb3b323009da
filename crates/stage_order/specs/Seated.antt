-- Stages that are not done: each is ready, or waits for one above it that isn't done.
--     is_marked marks n                            the mark at a number
--     waits_for waits a                            those that wait for a stage
--     AreSeated above done pending marks ready waits   so it is of all stages, but for those that are pending
use Rattle.std.specs.Prelude.{◌≡◌, ◌⊎◌, ◌<◌, ℕ, Bool, true, false, List, [], length, slice_index_or}
use Rattle.stage_order.specs.Order.{is_in, above_of, is_next}

abbrev pub is_marked : List Bool → ℕ → Bool
is_marked marks n = slice_index_or marks n false

abbrev pub waits_for : List (List ℕ) → ℕ → List ℕ
waits_for waits a = slice_index_or waits a []

-- b waits for a stage above it that isn't done
pub record IsHeld (above : List (List ℕ)) (done : List ℕ) (waits : List (List ℕ)) (b : ℕ) : Type 0 where
  pub by : ℕ
  pub above_it : is_in (above_of above b) by ≡ true
  pub left : is_in done by ≡ false
  pub waiting : by < length waits → is_in (waits_for waits by) b ≡ true

abbrev pub IsSeated : List (List ℕ) → List ℕ → List ℕ → List (List ℕ) → ℕ → Type 0
IsSeated above done ready waits b = (is_in done b ≡ true) ⊎ ((is_in ready b ≡ true) ⊎ IsHeld above done waits b)

pub record AreSeated (above : List (List ℕ)) (done pending : List ℕ) (marks : List Bool) (ready : List ℕ) (waits : List (List ℕ)) : Type 0 where
  pub marked : (b : ℕ) → is_marked marks b ≡ is_in done b
  pub marks_all : length marks ≡ length above
  pub waits_all : length waits ≡ length above
  pub free : (b : ℕ) → is_in ready b ≡ true → (b < length above) × (is_next above done b ≡ true)
  pub seated : (b : ℕ) → b < length above → is_in pending b ≡ false → IsSeated above done ready waits b
