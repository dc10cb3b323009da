use Rattle.std.proofs.Common.{◌≡◌, ◌++◌, map, take}
use Rattle.world_api.specs.Effect.{path_from}
use Rattle.stage_plan.proofs.owners.push_entries.Given as goal

-- the paths so far
abbrev pub invariant-loop-entry : goal.invariant-loop-entry
invariant-loop-entry l = l.owned ≡ l.initial.owned ++ map (λ e. path_from l.dir e.path) (take l.entry-index l.entries)
