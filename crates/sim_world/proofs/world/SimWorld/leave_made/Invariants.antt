use Rattle.std.proofs.Common.{◌≡◌, take, map}
use Rattle.world_api.specs.Effect.{path_from}
use Rattle.sim_world.specs.Answer.{found}
use Rattle.sim_world.specs.Change.{replay}
use Rattle.sim_world.specs.World.{history_in, counts_in}
use Rattle.sim_world.specs.declared.change.Change.TheVariants.{Left}
use Rattle.sim_world.proofs.world.SimWorld.leave_made.Given as goal

abbrev pub invariant-loop-out : goal.invariant-loop-out
invariant-loop-out g l = record {
  made : history_in l.self ≡ replay (history_in l.initial.self) (map (λ out. Left (path_from l.job.dir out) (found l.made.outs out)) (take l.out-index l.out-items));
  count : counts_in l.self ≡ counts_in l.initial.self;
}
