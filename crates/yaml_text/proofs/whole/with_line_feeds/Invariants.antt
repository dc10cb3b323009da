use Rattle.std.proofs.Common.{◌≡◌, ◌++◌, length}
use Rattle.yaml_text.specs.Source.{with_line_feeds}
use Rattle.yaml_text.proofs.whole.with_line_feeds.Given as goal

abbrev pub invariant-loop-text : goal.invariant-loop-text
invariant-loop-text l = l.lines.items ++ with_line_feeds l.text ≡ with_line_feeds l.initial.text

abbrev pub decreases-loop-text : goal.decreases-loop-text
decreases-loop-text l = length l.text
