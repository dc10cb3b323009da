use Rattle.std.proofs.Common.{sym, ◌∙◌}
use Rattle.sim_world.proofs.RoadLemmas.{road_above, road_last}
use Rattle.sim_world.proofs.world.SimWorld.+log_road.Goals as goal

pub returns-in_err-log_road-clause-made : goal.returns-in_err-log_road-clause-made
returns-in_err-log_road-clause-made g t c =
    road_above c.from_residual-in_err-log_road.result c.args.at.now c.in_ok-above.above _ _ c.from_residual-in_err-log_road.ensures.0 c.in_ok-above.ensures.above c.in_err-log_road.ensures.made

pub returns-clause-made : goal.returns-clause-made
returns-clause-made g t c =
    road_last c.make_last.result c.args.at.now c.in_ok-above.above _ _ _ (sym c.is_root.ensures.empty ∙ c.if-is_root.false) c.in_ok-above.ensures.above c.in_ok-log_road.ensures.made c.make_last.ensures.made
