-- What a world in memory tells.
--     history_in w      its history
--     counts_in w       its counts
use Rattle.world_api.specs.History.{History}
use Rattle.sim_world.specs.Answer.{effect_of}
use Rattle.sim_world.specs.Call.{Counts}
use Rattle.sim_world.specs.Change.{history_of}
use Rattle.sim_world.specs.declared.rule.Rule.{Ghosts}
use Rattle.sim_world.specs.declared.world.SimWorld.{SimWorld}

abbrev pub history_in : {R : Type 0} {rule : Ghosts R} → SimWorld R rule → History
history_in {R} {rule} w = history_of (effect_of rule.effect) w.opening w.log.items

abbrev pub counts_in : {R : Type 0} {rule : Ghosts R} → SimWorld R rule → Counts
counts_in w = record { failed = w.failed; starved = w.starved }
