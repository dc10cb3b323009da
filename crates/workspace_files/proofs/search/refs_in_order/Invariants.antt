use Rattle.std.proofs.Common.{◌≡◌, map, take}
use Rattle.workspace_files.proofs.search.refs_in_order.Given as goal

-- the paths so far
abbrev pub invariant-loop-path : goal.invariant-loop-path
invariant-loop-path l = map (λ p. p.now) l.sorted.items ≡ take l.path-index l.paths
