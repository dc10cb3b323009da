use Rattle.dvc_config.proofs.PieceLemmas.{back_stripped}
use Rattle.dvc_config.proofs.piece.before.Goals as goal

pub returns : goal.returns
returns c = record { exact = back_stripped c.args.back.now c.args.text.now c.strip_suffix.result c.strip_suffix.ensures.cases }
