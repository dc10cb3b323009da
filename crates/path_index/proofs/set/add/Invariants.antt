use Rattle.std.proofs.Common.{◌≡◌, ℕ, ◌||◌, take}
use Rattle.path_index.specs.Table.{is_in}
use Rattle.path_index.proofs.set.add.Given as goal

-- those of before, and the places so far
abbrev pub invariant-loop-place : goal.invariant-loop-place
invariant-loop-place l = (n : ℕ) → is_in l.found.keys n ≡ (is_in l.initial.found.keys n || is_in (take l.place-index l.places) n)
