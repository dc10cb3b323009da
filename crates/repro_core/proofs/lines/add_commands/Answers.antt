-- The line of the next command follows those so far.
use Rattle.std.proofs.Common.{string_bytes}
use Rattle.repro_core.proofs.LinesLemmas.{command_lines-taken}
use Rattle.repro_core.proofs.lines.add_commands.Goals as goal

pub loop-command-preserved : goal.loop-command-preserved
loop-command-preserved c =
    command_lines-taken c.args.commands.now c.loop-command.command-index c.command-item.result (string_bytes c.args.lines.now) (string_bytes c.loop-command.lines) (string_bytes c.add_between.new.lines) c.loop-command-test.true c.command-item.is c.loop-command.invariant c.in_ok-add_between.ensures.added
