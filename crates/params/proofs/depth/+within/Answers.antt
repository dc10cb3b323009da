use Rattle.std.proofs.Common.{◌<◌, sym, ◌∙◌, arith}
use Rattle.lock_files.proofs.WithinLemmas.{within_none, within_deep}
use Rattle.params.proofs.depth.+within.Goals as goal

pub is_within-returns-then-depth-eq0 : goal.is_within-returns-then-depth-eq0
is_within-returns-then-depth-eq0 t c = record {
  exact = c.is_scalar.ensures.exact ∙ sym (within_none c.args.depth c.args.node.now c.if-depth-eq0.true);
}

pub is_within-returns-else-depth-eq0 : goal.is_within-returns-else-depth-eq0
is_within-returns-else-depth-eq0 t c =
    let some : 0 < c.args.depth = omega arith in
    record { exact = c.is_within_layer.ensures.exact ∙ sym (within_deep c.args.depth c.args.node.now some) }
