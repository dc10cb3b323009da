use Rattle.std.proofs.Common.{◌≡◌, ◌++◌, take, map}
use Rattle.stage_schema.specs.Stages.{out_with}
use Rattle.stage_schema.proofs.outs.push_pairs.Given as goal

-- the outputs so far
abbrev pub invariant-loop-pair : goal.invariant-loop-pair
invariant-loop-pair l = l.outs ≡ l.initial.outs ++ map out_with (take l.pair-index l.pairs)
