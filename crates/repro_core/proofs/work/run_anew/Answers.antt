-- The way is free, the outputs are cleared, and the folders made; then the job is run, and the look sees what it left.
use Rattle.std.proofs.Common.{◌≡◌, ◌∙◌, None, Some, IfSome, subst, sym}
use Rattle.std.proofs.lemmas.Result.{err_from_is_err_and}
use Rattle.world_api.specs.History.{History}
use Rattle.world_api.specs.Outside.{tree_of, PassesFrom}
use Rattle.dvc_base.specs.Answer.{fault_in}
use Rattle.repro_laws.specs.Refusals.{way_fault}
use Rattle.repro_core.specs.Steps.{InWorks, MakesOuts, RunsJob}
use Rattle.repro_core.specs.Ways.{IsLaneFirst}
use Rattle.repro_core.proofs.OutcomeLemmas.{runnable, way_due, way_none, way_tells, run_due, look_due, made_tells, ran_run, ran_look, works_same, works_on, works_run, ran_at}
use Rattle.repro_core.proofs.LaneFirstLemmas.{first_same, first_on, first_run}
use Rattle.repro_core.proofs.work.run_anew.Goals as goal

pub returns-in_err-look_at_roads-clause-made : goal.returns-in_err-look_at_roads-clause-made
returns-in_err-look_at_roads-clause-made g c told =
    let s = c.args.stage.now in
    let start = g.W.Ground.history c.args.world.now in
    let looked = g.W.Ground.history c.look_at_roads.new.files in
    let exit = err_from_is_err_and c.from_residual.result c.from_residual.ensures.1 in
    rw (exit.1, exit.2) (way_due s c.args.prepared.now.job c.as_slice.result.now start.present looked.present c.in_err-look_at_roads.field-0.0 (c.as_slice.ensures.same ∙ c.requires.prepared.roads) (c.in_err-look_at_roads.ensures.answer told))

pub returns-in_err-look_at_roads-clause-moments : goal.returns-in_err-look_at_roads-clause-moments
returns-in_err-look_at_roads-clause-moments g c told =
    works_same c.args.stage.now (g.W.Ground.history c.args.world.now) (g.W.Ground.history c.look_at_roads.new.files) (c.look_at_roads.ensures.unchanged told)

pub returns-in_err-look_at_roads-clause-told : goal.returns-in_err-look_at_roads-clause-told
returns-in_err-look_at_roads-clause-told g c =
    let exit = err_from_is_err_and c.from_residual.result c.from_residual.ensures.1 in
    rw (exit.1, exit.2) (way_tells c.args.stage.now c.as_slice.result.now (Some c.in_err-look_at_roads.field-0.0) c.requires.stage (c.as_slice.ensures.same ∙ c.requires.prepared.roads) c.in_err-look_at_roads.ensures.kinds c.in_err-look_at_roads.ensures.told)

pub make_ready-requires-clause-way : goal.make_ready-requires-clause-way
make_ready-requires-clause-way g c told =
    let s = c.args.stage.now in
    let start = g.W.Ground.history c.args.world.now in
    let free = way_none s c.as_slice.result.now (tree_of start) (c.as_slice.ensures.same ∙ c.requires.prepared.roads) (c.in_ok-look_at_roads.ensures.answer told) in
    subst (λ (h : History). way_fault s (tree_of h) ≡ None) (sym (c.look_at_roads.ensures.unchanged told)) free

pub returns-in_default-clause-moments : goal.returns-in_default-clause-moments
returns-in_default-clause-moments g c told =
    works_on c.args.stage.now (g.W.Ground.history c.args.world.now) (g.W.Ground.history c.look_at_roads.new.files) (g.W.Ground.history c.make_ready.new.files) (c.look_at_roads.ensures.unchanged told) (c.make_ready.ensures.moments told)

pub run_job-requires-clause-texts : goal.run_job-requires-clause-texts
run_job-requires-clause-texts g c = runnable c.args.stage.now c.args.prepared.now.job c.requires.stage c.requires.prepared.job

pub returns-in_err-run_job-clause-made : goal.returns-in_err-run_job-clause-made
returns-in_err-run_job-clause-made g c told =
    let s = c.args.stage.now in
    let start = g.W.Ground.history c.args.world.now in
    let ready = g.W.Ground.history c.make_ready.new.files in
    let ran = g.W.Ground.history c.run_job.new.world in
    let fault = c.in_err-run_job.field-0.0 in
    let exit = err_from_is_err_and c.from_residual-in_err-run_job.result c.from_residual-in_err-run_job.ensures.1 in
    let at = ran_at s c.as_slice.result.now c.args.prepared.now.job start (g.W.Ground.history c.look_at_roads.new.files) ready ran (Some fault) (c.as_slice.ensures.same ∙ c.requires.prepared.roads) (c.look_at_roads.ensures.unchanged told) (c.in_ok-look_at_roads.ensures.answer told) (c.in-Ok.ensures.ready told) (c.make_ready.ensures.moments told) (c.run_job.ensures.moments told) (c.in_err-run_job.ensures.ran told) in
    rw (exit.1, exit.2) (run_due s c.args.prepared.now.job start.present ready.present ran.present fault c.requires.stage c.requires.prepared.job at.way at.ready at.work at.run c.in_err-run_job.ensures.kinds)

pub returns-in_err-run_job-clause-ran : goal.returns-in_err-run_job-clause-ran
returns-in_err-run_job-clause-ran g c told =
    let s = c.args.stage.now in
    let start = g.W.Ground.history c.args.world.now in
    let ready = g.W.Ground.history c.make_ready.new.files in
    let ran = g.W.Ground.history c.run_job.new.world in
    let fault = c.in_err-run_job.field-0.0 in
    let exit = err_from_is_err_and c.from_residual-in_err-run_job.result c.from_residual-in_err-run_job.ensures.1 in
    let at = ran_at s c.as_slice.result.now c.args.prepared.now.job start (g.W.Ground.history c.look_at_roads.new.files) ready ran (Some fault) (c.as_slice.ensures.same ∙ c.requires.prepared.roads) (c.look_at_roads.ensures.unchanged told) (c.in_ok-look_at_roads.ensures.answer told) (c.in-Ok.ensures.ready told) (c.make_ready.ensures.moments told) (c.run_job.ensures.moments told) (c.in_err-run_job.ensures.ran told) in
    rw (exit.1, exit.2) (ran_run s c.args.prepared.now.job start.present ready.present ran.present fault at.work at.run c.in_err-run_job.ensures.kinds)

pub returns-in_err-run_job-clause-moments : goal.returns-in_err-run_job-clause-moments
returns-in_err-run_job-clause-moments g c told =
    works_run c.args.stage.now c.args.prepared.now.job (g.W.Ground.history c.args.world.now) (g.W.Ground.history c.look_at_roads.new.files) (g.W.Ground.history c.make_ready.new.files) (g.W.Ground.history c.run_job.new.world) c.requires.stage c.requires.kept c.requires.prepared.job (c.look_at_roads.ensures.unchanged told) (c.make_ready.ensures.moments told) (c.run_job.ensures.moments told)

pub returns-clause-made : goal.returns-clause-made
returns-clause-made g c told =
    let s = c.args.stage.now in
    let start = g.W.Ground.history c.args.world.now in
    let ready = g.W.Ground.history c.make_ready.new.files in
    let ran = g.W.Ground.history c.run_job.new.world in
    let got = fault_in c.look_at_made.result in
    let at = ran_at s c.as_slice.result.now c.args.prepared.now.job start (g.W.Ground.history c.look_at_roads.new.files) ready ran None (c.as_slice.ensures.same ∙ c.requires.prepared.roads) (c.look_at_roads.ensures.unchanged told) (c.in_ok-look_at_roads.ensures.answer told) (c.in-Ok.ensures.ready told) (c.make_ready.ensures.moments told) (c.run_job.ensures.moments told) (c.in_ok-run_job.ensures.ran told) in
    let due = look_due s c.args.prepared.now.job start.present ready.present ran.present got c.requires.stage c.requires.prepared.job at.way at.ready at.work at.during at.run (c.look_at_made.ensures.answer told) in
    subst (λ (h : History). IfSome start.present.aside.fixed.effect (λ effect. MakesOuts effect s c.args.prepared.now.job got start.present h.present)) (sym (c.look_at_made.ensures.unchanged told)) due

pub returns-clause-ran : goal.returns-clause-ran
returns-clause-ran g c told =
    let s = c.args.stage.now in
    let start = g.W.Ground.history c.args.world.now in
    let ready = g.W.Ground.history c.make_ready.new.files in
    let ran = g.W.Ground.history c.run_job.new.world in
    let got = fault_in c.look_at_made.result in
    let at = ran_at s c.as_slice.result.now c.args.prepared.now.job start (g.W.Ground.history c.look_at_roads.new.files) ready ran None (c.as_slice.ensures.same ∙ c.requires.prepared.roads) (c.look_at_roads.ensures.unchanged told) (c.in_ok-look_at_roads.ensures.answer told) (c.in-Ok.ensures.ready told) (c.make_ready.ensures.moments told) (c.run_job.ensures.moments told) (c.in_ok-run_job.ensures.ran told) in
    subst (λ (h : History). RunsJob c.args.prepared.now.job got start.present h.present) (sym (c.look_at_made.ensures.unchanged told)) (ran_look s c.args.prepared.now.job start.present ready.present ran.present got at.work at.run c.look_at_made.ensures.kinds)

pub returns-clause-moments : goal.returns-clause-moments
returns-clause-moments g c told =
    let s = c.args.stage.now in
    let start = g.W.Ground.history c.args.world.now in
    let moments = works_run s c.args.prepared.now.job start (g.W.Ground.history c.look_at_roads.new.files) (g.W.Ground.history c.make_ready.new.files) (g.W.Ground.history c.run_job.new.world) c.requires.stage c.requires.kept c.requires.prepared.job (c.look_at_roads.ensures.unchanged told) (c.make_ready.ensures.moments told) (c.run_job.ensures.moments told) in
    subst (λ (h : History). PassesFrom (InWorks s) start h) (sym (c.look_at_made.ensures.unchanged told)) moments

pub returns-clause-told : goal.returns-clause-told
returns-clause-told g c = made_tells c.args.stage.now (fault_in c.look_at_made.result) c.requires.stage c.look_at_made.ensures.kinds c.look_at_made.ensures.told

pub returns-in_err-look_at_roads-clause-lane_first : goal.returns-in_err-look_at_roads-clause-lane_first
returns-in_err-look_at_roads-clause-lane_first g c told =
    first_same c.args.stage.now (g.W.Ground.history c.args.world.now) (g.W.Ground.history c.look_at_roads.new.files) (c.look_at_roads.ensures.unchanged told)

pub returns-in_default-clause-lane_first : goal.returns-in_default-clause-lane_first
returns-in_default-clause-lane_first g c told =
    first_on c.args.stage.now (g.W.Ground.history c.args.world.now) (g.W.Ground.history c.look_at_roads.new.files) (g.W.Ground.history c.make_ready.new.files) (c.look_at_roads.ensures.unchanged told) (c.make_ready.ensures.lane_first told)

pub returns-in_err-run_job-clause-lane_first : goal.returns-in_err-run_job-clause-lane_first
returns-in_err-run_job-clause-lane_first g c told =
    first_run c.args.stage.now c.args.prepared.now.job (g.W.Ground.history c.args.world.now) (g.W.Ground.history c.look_at_roads.new.files) (g.W.Ground.history c.make_ready.new.files) (g.W.Ground.history c.run_job.new.world) c.requires.stage c.requires.kept c.requires.prepared.job (c.look_at_roads.ensures.unchanged told) (c.make_ready.ensures.lane_first told) (c.in-Ok.ensures.begun told) (c.run_job.ensures.moments told)

pub returns-clause-lane_first : goal.returns-clause-lane_first
returns-clause-lane_first g c told =
    let s = c.args.stage.now in
    let start = g.W.Ground.history c.args.world.now in
    let first = first_run s c.args.prepared.now.job start (g.W.Ground.history c.look_at_roads.new.files) (g.W.Ground.history c.make_ready.new.files) (g.W.Ground.history c.run_job.new.world) c.requires.stage c.requires.kept c.requires.prepared.job (c.look_at_roads.ensures.unchanged told) (c.make_ready.ensures.lane_first told) (c.in-Ok.ensures.begun told) (c.run_job.ensures.moments told) in
    subst (λ (h : History). PassesFrom (IsLaneFirst s) start h) (sym (c.look_at_made.ensures.unchanged told)) first
