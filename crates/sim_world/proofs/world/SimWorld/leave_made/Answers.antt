use Rattle.std.proofs.Common.{◌∙◌, List, ℕ, map, subst}
use Rattle.world_api.specs.Effect.{path_from}
use Rattle.sim_world.specs.Answer.{found}
use Rattle.sim_world.specs.Change.{replay, IsFront}
use Rattle.sim_world.specs.Run.{left_outs}
use Rattle.sim_world.specs.World.{history_in}
use Rattle.sim_world.specs.declared.change.Change.{Change}
use Rattle.sim_world.specs.declared.change.Change.TheVariants.{Left}
use Rattle.sim_world.proofs.ChangeLemmas.{makes_part}
use Rattle.sim_world.proofs.RunLemmas.{left_front, left_step}
use Rattle.sim_world.proofs.world.SimWorld.leave_made.Goals as goal

pub returns-in_err-leave_out-clause-made : goal.returns-in_err-leave_out-clause-made
returns-in_err-leave_out-clause-made g c =
    let job = c.args.job.now in
    let made = c.args.made.now in
    let change : List ℕ → Change = λ out. Left (path_from job.dir out) (found made.outs out) in
    let was = history_in c.args.self.now in
    makes_part c.from_residual.result (λ h. replay h (left_outs job made)) (IsFront (left_outs job made)) _ _ c.from_residual.ensures.0
    (subst (λ (outs : List (List ℕ)). IsFront (map change outs) was (history_in c.leave_out.new.self)) c.as_slice-out-items.ensures.same
    (left_front change c.as_slice-out-items.result.now c.loop-out.out-index c.out-item.result _ _ _ c.loop-out-test.true c.out-item.is c.loop-out.invariant.made c.in_err-leave_out.ensures.made))

pub loop-out-preserved : goal.loop-out-preserved
loop-out-preserved g c =
    let change : List ℕ → Change = λ out. Left (path_from c.args.job.now.dir out) (found c.args.made.now.outs out) in
    record {
      made = left_step change c.as_slice-out-items.result.now c.loop-out.out-index c.out-item.result _ _ _ c.loop-out-test.true c.out-item.is c.loop-out.invariant.made c.in_ok-leave_out.ensures.made;
      count = c.leave_out.ensures.count ∙ c.loop-out.invariant.count;
    }
