-- The parts of a number without where they lie in memory, and numbers that count only up to 2^128 - 1.
use Rattle.std.specs.Prelude.{◌≡◌, ℕ, ◌-◌, ◌^◌, min}
use Rattle.yaml_scalars.specs.declared.number.Numeral.{Numeral}
use Rattle.yaml_scalars.specs.Number.{Parts}

abbrev pub as_parts : Numeral → Parts
as_parts n = record { whole = n.whole.now; fraction = n.fraction.now; below = n.below; exponent = n.exponent.now }

abbrev pub most : ℕ
most = 2 ^ 128 - 1

-- the same count of zeros behind numbers that are alike up to the limit
abbrev pub IsSameToLimit : ℕ × ℕ → ℕ × ℕ → Type 0
IsSameToLimit a b = (min a.0 most ≡ min b.0 most) × (a.1 ≡ b.1)
