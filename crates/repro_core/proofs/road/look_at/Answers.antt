use Rattle.repro_core.proofs.RoadsLemmas.{on_itself}
use Rattle.repro_core.proofs.road.look_at.Goals as goal

pub returns-in_ok-copy-in-File-clause-told : goal.returns-in_ok-copy-in-File-clause-told
returns-in_ok-copy-in-File-clause-told g c = on_itself c.args.at.now c.in_ok-copy-in-File.field-0 c.in_ok-copy-in-File.ensures.same
