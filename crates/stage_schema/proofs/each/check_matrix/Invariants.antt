use Rattle.std.proofs.Common.{◌≡◌, drop}
use Rattle.stage_schema.specs.Refusal.{first_in}
use Rattle.stage_schema.specs.Schema.{axis_fault}
use Rattle.stage_schema.proofs.each.check_matrix.Given as goal

-- the refusal that is due is that of the axes that are left
abbrev pub invariant-loop-axis : goal.invariant-loop-axis
invariant-loop-axis l = first_in (axis_fault l.name) l.axes ≡ first_in (axis_fault l.name) (drop l.axis-index l.axes)
