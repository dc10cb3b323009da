use Rattle.template_expand.proofs.ChoiceLemmas.{pick_there}
use Rattle.template_expand.proofs.matrix.picked_at.Goals as goal

pub returns : goal.returns
returns c = record { exact = pick_there c.args.axis.now c.args.place c.index-axis-place.result c.requires.within }
