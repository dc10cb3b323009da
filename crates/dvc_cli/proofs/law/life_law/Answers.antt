use Rattle.dvc_cli.proofs.LifeLaw.{lives}
use Rattle.dvc_cli.proofs.law.life_law.Goals as goal

pub returns : goal.returns
returns c = lives
