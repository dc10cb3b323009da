use Rattle.std.proofs.Common.{◌≡◌, ◌≤◌, length, false}
use Rattle.yaml_nodes.specs.Flow.{parts_from}
use Rattle.yaml_nodes.proofs.flow.between_parts.Given as goal

abbrev pub invariant-loop-text : goal.invariant-loop-text
invariant-loop-text l = (parts_from l.may l.inside l.text ≡ parts_from false false l.initial.text) × (length l.text ≤ length l.initial.text)

abbrev pub decreases-loop-text : goal.decreases-loop-text
decreases-loop-text l = length l.text
