use Rattle.std.proofs.Common.{◌≡◌, length}
use Rattle.yaml_text.specs.Line.{is_white_end}
use Rattle.yaml_text.proofs.line.is_white_end.Given as goal

abbrev pub invariant-loop-text : goal.invariant-loop-text
invariant-loop-text l = is_white_end l.text ≡ is_white_end l.initial.text

abbrev pub decreases-loop-text : goal.decreases-loop-text
decreases-loop-text l = length l.text
