use Rattle.repro_laws.proofs.StopLaw.{stops}
use Rattle.repro_laws.proofs.law.stop_law.Goals as goal

pub returns : goal.returns
returns c = stops
