use Rattle.repro_laws.proofs.AllLaws.{sounds}
use Rattle.repro_laws.proofs.law.sound_law.Goals as goal

pub returns : goal.returns
returns c = sounds
