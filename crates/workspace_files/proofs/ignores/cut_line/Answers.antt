use Rattle.std.proofs.Common.{arith}
use Rattle.workspace_files.proofs.LineLemmas.{cut_at, last_line}
use Rattle.workspace_files.proofs.ignores.cut_line.Goals as goal

pub returns-then-len-text-clause-exact : goal.returns-then-len-text-clause-exact
returns-then-len-text-clause-exact c =
    cut_at c.args.text.now c.without_return.result.now c.line_len-len.result c.line_len-len.ensures.value c.if-len-text.true c.without_return.ensures.exact

pub returns-else-len-text-clause-exact : goal.returns-else-len-text-clause-exact
returns-else-len-text-clause-exact c =
    last_line c.args.text.now c.requires.some (omega (arith, c.line_len-len.ensures.value, c.if-len-text.false))
