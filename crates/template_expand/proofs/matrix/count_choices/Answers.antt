use Rattle.std.proofs.Common.{◌<◌, ◌^◌, length, rules}
use Rattle.template_expand.proofs.ChoiceLemmas.{count_step}
use Rattle.template_expand.proofs.matrix.count_choices.Goals as goal

pub loop-axis-preserved : goal.loop-axis-preserved
loop-axis-preserved c =
    let within : c.loop-axis.axis-index < length c.args.axes.now = search rules in
    let fits : c.args.most < 2 ^ 64 = search rules in
    count_step c.args.axes.now c.loop-axis.axis-index c.axis-item.result c.loop-axis.count c.axis_len.result c.saturating_mul.result c.min-count.result c.args.most _ fits within c.axis-item.is
    c.axis_len.ensures.exact c.saturating_mul.ensures c.min-count.ensures c.loop-axis.invariant
