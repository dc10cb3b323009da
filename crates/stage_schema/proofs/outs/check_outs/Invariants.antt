use Rattle.std.proofs.Common.{◌≡◌, drop}
use Rattle.dvc_base.specs.declared.node.Node.{out-Node}
use Rattle.stage_schema.specs.Refusal.{first_in}
use Rattle.stage_schema.specs.Schema.{out_fault}
use Rattle.stage_schema.proofs.outs.check_outs.Given as goal

-- the refusal that is due is that of the outputs that are left
abbrev pub invariant-loop-item : goal.invariant-loop-item
invariant-loop-item l = first_in (λ item. out_fault l.name l.at l.key (out-Node item)) l.items ≡ first_in (λ item. out_fault l.name l.at l.key (out-Node item)) (drop l.item-index l.items)
