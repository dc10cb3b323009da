use Rattle.std.proofs.Common.{◌≡◌, take, map, Ok}
use Rattle.template_expand.specs.Answer.{all_by}
use Rattle.template_expand.specs.Made.{axis}
use Rattle.template_expand.specs.Source.{picks_of}
use Rattle.template_expand.proofs.matrix.axes_of.Given as goal

-- the axes of the pairs so far
abbrev pub invariant-loop-pair : goal.invariant-loop-pair
invariant-loop-pair l = all_by (axis l.name l.own) (take l.pair-index l.pairs) ≡ Ok (map picks_of l.axes)
