use Rattle.repro_laws.proofs.SkipLaw.{skip_exact}
use Rattle.repro_laws.proofs.law.choice_law.Goals as goal

pub returns : goal.returns
returns c = skip_exact
