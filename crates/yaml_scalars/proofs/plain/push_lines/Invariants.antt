use Rattle.std.proofs.Common.{◌≡◌, ◌++◌}
use Rattle.std.specs.Prelude.{replicate}
use Rattle.yaml_scalars.proofs.plain.push_lines.Given as goal

abbrev pub invariant-loop-left : goal.invariant-loop-left
invariant-loop-left l = l.found.items ++ replicate l.left 10 ≡ l.fn.found.items ++ replicate l.count 10

abbrev pub decreases-loop-left : goal.decreases-loop-left
decreases-loop-left l = l.left
