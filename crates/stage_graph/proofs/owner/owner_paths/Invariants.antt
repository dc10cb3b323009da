use Rattle.std.proofs.Common.{◌≡◌, take}
use Rattle.stage_graph.specs.Paths.{owner_paths}
use Rattle.stage_graph.proofs.owner.owner_paths.Given as goal

-- the paths so far
abbrev pub invariant-loop-owner : goal.invariant-loop-owner
invariant-loop-owner l = l.paths ≡ owner_paths (take l.owner-index l.owners)
