use Rattle.std.proofs.Common.{◌≡◌, map, take}
use Rattle.workspace_files.proofs.search.copies_of.Given as goal

-- those so far
abbrev pub invariant-loop-path : goal.invariant-loop-path
invariant-loop-path l = l.copies ≡ map (λ p. p.now) (take l.path-index l.paths)
