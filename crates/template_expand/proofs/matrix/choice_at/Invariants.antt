use Rattle.std.proofs.Common.{◌≡◌, ◌<◌, ◌^◌, ◌++◌, [], length, drop, get_or}
use Rattle.template_expand.specs.Source.{choices_of, choice_of}
use Rattle.template_expand.proofs.matrix.choice_at.Given as goal

-- what is chosen so far, and then the choice of the axes that are left
abbrev pub invariant-loop-i : goal.invariant-loop-i
invariant-loop-i l = record {
  chosen : get_or (choices_of l.axes) l.place [] ≡ choice_of l.choice ++ get_or (choices_of (drop l.i l.axes)) l.left [];
  within : l.left < length (choices_of (drop l.i l.axes));
  small : l.left < 2 ^ 32;
}
