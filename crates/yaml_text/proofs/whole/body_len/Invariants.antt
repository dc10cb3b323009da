use Rattle.std.proofs.Common.{◌≡◌, ◌+◌, length, true}
use Rattle.yaml_text.specs.Source.{body_from}
use Rattle.yaml_text.proofs.whole.body_len.Given as goal

abbrev pub invariant-loop-rest : goal.invariant-loop-rest
invariant-loop-rest l = (l.at + body_from l.begins l.rest ≡ body_from true l.text) × (l.at + length l.rest ≡ length l.text)

abbrev pub decreases-loop-rest : goal.decreases-loop-rest
decreases-loop-rest l = length l.rest
