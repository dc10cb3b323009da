use Rattle.std.proofs.Common.{◌≡◌, length, false}
use Rattle.yaml_text.specs.Source.{is_all_blank}
use Rattle.yaml_text.proofs.whole.is_all_blank.Given as goal

abbrev pub invariant-loop-text : goal.invariant-loop-text
invariant-loop-text l = is_all_blank l.inside l.text ≡ is_all_blank false l.initial.text

abbrev pub decreases-loop-text : goal.decreases-loop-text
decreases-loop-text l = length l.text
