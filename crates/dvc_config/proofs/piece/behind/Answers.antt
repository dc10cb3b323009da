use Rattle.dvc_config.proofs.PieceLemmas.{front_stripped}
use Rattle.dvc_config.proofs.piece.behind.Goals as goal

pub returns : goal.returns
returns c = record { exact = front_stripped c.args.front.now c.args.text.now c.strip_prefix.result c.strip_prefix.ensures.cases }
