use Rattle.std.proofs.Common.{◌≡◌, ◌++◌, take, string_bytes}
use Rattle.repro_laws.specs.Due.{command_lines}
use Rattle.repro_core.proofs.lines.add_commands.Given as goal

-- the lines of the commands so far
abbrev pub invariant-loop-command : goal.invariant-loop-command
invariant-loop-command l = string_bytes l.lines ≡ string_bytes l.initial.lines ++ command_lines (take l.command-index l.commands)
