use Rattle.std.proofs.Common.{◌≡◌, ◌++◌, take}
use Rattle.std.specs.List.{flat_map}
use Rattle.dvc_base.specs.declared.node.Node.{out-Node}
use Rattle.stage_schema.specs.Stages.{outs_in}
use Rattle.stage_schema.proofs.outs.push_items.Given as goal

-- the outputs of the items so far
abbrev pub invariant-loop-item : goal.invariant-loop-item
invariant-loop-item l = l.outs ≡ l.initial.outs ++ flat_map (λ item. outs_in (out-Node item)) (take l.item-index l.items)
