use Rattle.std.proofs.Common.{◌≡◌, drop}
use Rattle.std.specs.List.{find}
use Rattle.dvc_base.specs.Path.{under}
use Rattle.stage_graph.proofs.kept.first_around.Given as goal

-- the first one is among those that are left
abbrev pub invariant-loop-path : goal.invariant-loop-path
invariant-loop-path l = find (λ p. under p l.inner) l.paths ≡ find (λ p. under p l.inner) (drop l.path-index l.paths)
