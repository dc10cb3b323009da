use Rattle.std.proofs.Common.{[], ◌∷◌}
use Rattle.sim_world.specs.Change.{replay, IsFront}
use Rattle.sim_world.specs.Run.{out_changes, run_changes}
use Rattle.sim_world.specs.declared.change.Change.TheVariants.{Started, Ran}
use Rattle.sim_world.proofs.ChangeLemmas.{makes_part}
use Rattle.sim_world.proofs.RunLemmas.{front_amid, made_last}
use Rattle.sim_world.proofs.world.SimWorld.make_run.Goals as goal

pub returns-in_err-make_outs-clause-made : goal.returns-in_err-make_outs-clause-made
returns-in_err-make_outs-clause-made g c =
    let job = c.args.job.now in
    let changes = run_changes job c.args.exit.now.code c.args.made.now in
    makes_part c.from_residual-in_err-make_outs.result (λ h. replay h changes) (IsFront changes) _ _ c.from_residual-in_err-make_outs.ensures.0
    (front_amid (Started job) (out_changes job c.args.exit.now.code c.args.made.now) (Ran job ∷ []) _ _ _ c.in_ok-make_start.ensures.made c.in_err-make_outs.ensures.made)

pub returns-clause-made : goal.returns-clause-made
returns-clause-made g c =
    let job = c.args.job.now in
    made_last c.make_end.result (Started job) (Ran job) (out_changes job c.args.exit.now.code c.args.made.now) _ _ _ _ c.in_ok-make_start.ensures.made c.in_ok-make_outs.ensures.made c.make_end.ensures.made
