use Rattle.std.proofs.Common.{◌≡◌, drop, map}
use Rattle.stage_schema.specs.Refusal.{dotted, first_in}
use Rattle.stage_schema.specs.Schema.{vars_item_fault}
use Rattle.stage_schema.proofs.vars.check_vars.Given as goal

-- the refusal that is due is that of the items that are left
abbrev pub invariant-loop-item : goal.invariant-loop-item
invariant-loop-item l =
    first_in (vars_item_fault (dotted (map (λ part. part.now) l.key)) (dotted (map (λ part. part.now) l.left_out))) l.items
    ≡ first_in (vars_item_fault (dotted (map (λ part. part.now) l.key)) (dotted (map (λ part. part.now) l.left_out))) (drop l.item-index l.items)
