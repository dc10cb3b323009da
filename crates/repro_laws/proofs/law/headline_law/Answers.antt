use Rattle.repro_laws.proofs.AllLaws.{headline, front}
use Rattle.repro_laws.proofs.law.headline_law.Goals as goal

pub returns-clause-headline : goal.returns-clause-headline
returns-clause-headline c = headline

pub returns-clause-front : goal.returns-clause-front
returns-clause-front c = front
