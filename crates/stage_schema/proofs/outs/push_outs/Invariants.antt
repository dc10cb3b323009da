use Rattle.std.proofs.Common.{◌≡◌, ◌++◌, take}
use Rattle.std.specs.List.{flat_map}
use Rattle.stage_schema.specs.Stages.{outs_at}
use Rattle.stage_schema.proofs.outs.push_outs.Given as goal

-- the outputs of the keys so far
abbrev pub invariant-loop-pair : goal.invariant-loop-pair
invariant-loop-pair l = l.outs ≡ l.initial.outs ++ flat_map outs_at (take l.pair-index l.pairs)
