use Rattle.sim_world.specs.Call.{IsEdited}
use Rattle.sim_world.specs.Change.{edited}
use Rattle.sim_world.specs.World.{history_in}
use Rattle.sim_world.proofs.ChangeLemmas.{one_left}
use Rattle.sim_world.proofs.EditLemmas.{edit_done}
use Rattle.sim_world.proofs.world.SimWorld.edit.Goals as goal

pub returns-clause-edited : goal.returns-clause-edited
returns-clause-edited g c =
    let at = c.in_ok-at.at in
    let value = c.in_ok-value.value in
    let was = (history_in c.args.self.now).present in
    rw (← c.in_ok-at.ensures.same, ← c.in_ok-value.ensures.same)
    (one_left c.make.result (IsEdited at value was) (edited at value) _ _ (edit_done at value was (rw c.in_ok-value.ensures.same c.check.ensures.good) (rw c.in_ok-at.ensures.same c.requires)) c.make.ensures.made)
