use Rattle.std.proofs.Common.{◌≡◌, ℕ, nat_lt}
use Rattle.path_index.specs.Table.{is_in}
use Rattle.path_index.proofs.table.places_of.Given as goal

-- the places so far
abbrev pub invariant-loop-place : goal.invariant-loop-place
invariant-loop-place l = (n : ℕ) → is_in l.places.items n ≡ nat_lt n l.place
