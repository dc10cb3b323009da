use Rattle.std.proofs.Common.{◌≡◌, [], length, option_copied}
use denote.Text.{Utf8}
use denote.Shadow.{shadow}
use Rattle.dvc_config.specs.Line.{lines, lines_left}
use Rattle.dvc_config.specs.Config.{settings_from, with_settings}
use Rattle.dvc_config.proofs.read.take_settings.Given as goal

-- the settings of the lines that are left come behind those that were taken
abbrev pub invariant-loop-rest : goal.invariant-loop-rest
invariant-loop-rest l =
    shadow (Utf8 l.section)
    × (with_settings l.config (settings_from l.section (lines_left (option_copied l.rest))) ≡ with_settings l.initial.config (settings_from [] (lines l.text)))

abbrev pub decreases-loop-rest : goal.decreases-loop-rest
decreases-loop-rest l = length (lines_left (option_copied l.rest))
