-- The least number that passes a test.
--     IsFirst test first     first is the least number that passes, or None where none does
use Rattle.std.specs.Prelude.{◌≡◌, ℕ, ◌≤◌, Bool, true, false, Option, MatchOption}

abbrev pub IsFirst : (ℕ → Bool) → Option ℕ → Type 0
IsFirst test first = MatchOption first ((n : ℕ) → test n ≡ false) (λ a. (test a ≡ true) × ((n : ℕ) → test n ≡ true → a ≤ n))
