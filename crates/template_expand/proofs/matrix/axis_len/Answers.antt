use Rattle.std.proofs.Common.{sym}
use Rattle.template_expand.specs.Made.{pick_at}
use Rattle.template_expand.proofs.ChoiceLemmas.{length_numbered}
use Rattle.template_expand.proofs.matrix.axis_len.Goals as goal

pub returns : goal.returns
returns c = record { exact = sym (length_numbered (pick_at c.args.axis.now.name.now) 0 c.args.axis.now.items.now) }
