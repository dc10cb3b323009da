use Rattle.std.proofs.Common.{◌≡◌, length}
use Rattle.std.specs.List.{list_any}
use Rattle.std.specs.Str.Lines.{lines}
use Rattle.workspace_files.specs.Ignores.{is_rule}
use Rattle.workspace_files.proofs.ignores.has_rules.Given as goal

-- the lines so far have no rule
abbrev pub invariant-loop-rest : goal.invariant-loop-rest
invariant-loop-rest l = list_any is_rule (lines l.rest) ≡ list_any is_rule (lines l.text)

abbrev pub decreases-loop-rest : goal.decreases-loop-rest
decreases-loop-rest l = length l.rest
