use Rattle.std.proofs.Common.{arith}
use Rattle.dvc_config.proofs.LineLemmas.{cut_at, last_line}
use Rattle.dvc_config.proofs.line.cut_line.Goals as goal

pub returns-then-len-text : goal.returns-then-len-text
returns-then-len-text c = record {
  exact = cut_at c.args.text.now c.without_return.result.now c.line_len-len.result c.line_len-len.ensures.value c.if-len-text.true c.without_return.ensures.exact;
}

pub returns-else-len-text : goal.returns-else-len-text
returns-else-len-text c = record {
  exact = last_line c.args.text.now (omega (arith, c.line_len-len.ensures.value, c.if-len-text.false));
}
