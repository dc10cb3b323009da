-- The count of the calls that failed.
--     Counts before now result      one call's answer, with the counts before and after it
use Rattle.std.specs.Prelude.{◌≡◌, ℕ, ◌+◌, ◌-◌, ◌^◌, nat_lt, Result, Ok, Err, if◌then◌else◌}

-- one more; the last count stays
abbrev pub risen : ℕ → ℕ
risen n = if nat_lt n (2 ^ 64 - 1) then n + 1 else n

-- a failure is counted once, and nothing else is
abbrev pub Counts : {T E : Type 0} → ℕ → ℕ → Result T E → Type 0
Counts before now (Ok value) = now ≡ before
Counts before now (Err why) = now ≡ risen before
