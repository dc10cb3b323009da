use Rattle.std.proofs.Common.{◌≡◌, ◌+◌, ◌≤◌, false, length, option_copied}
use Rattle.dvc_config.specs.Line.{lines, lines_left}
use Rattle.dvc_config.specs.Config.{bad_from}
use Rattle.dvc_config.proofs.read.bad_line.Given as goal

-- the first line that can't be read is that of the lines that are left
abbrev pub invariant-loop-rest : goal.invariant-loop-rest
invariant-loop-rest l =
    (bad_from l.inside (l.passed + 1) (lines_left (option_copied l.rest)) ≡ bad_from false 1 (lines l.text))
    × (l.passed + length (lines_left (option_copied l.rest)) ≤ length (lines l.text))

abbrev pub decreases-loop-rest : goal.decreases-loop-rest
decreases-loop-rest l = length (lines_left (option_copied l.rest))
