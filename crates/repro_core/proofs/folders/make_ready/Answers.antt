-- The lane is begun, the outputs are cleared and the folders made: each step changes nothing that the job is given.
use Rattle.std.proofs.Common.{◌∙◌}
use Rattle.repro_core.proofs.FoldersLemmas.{scratch_work, cleared_work, made_work, roads_cleared, ready_at}
use Rattle.repro_core.proofs.LaneFirstLemmas.{first_begun, first_cleared, first_made, begun_at}
use Rattle.repro_core.proofs.folders.make_ready.Goals as goal

pub returns-in_err-begin_write-clause-moments : goal.returns-in_err-begin_write-clause-moments
returns-in_err-begin_write-clause-moments g c told =
    scratch_work c.args.stage.now (g.F.Ground.history c.args.files.now) (g.F.Ground.history c.begin_write.new.files) (c.begin_write.ensures.moments told)

pub returns-in_err-clear_outputs-clause-moments : goal.returns-in_err-clear_outputs-clause-moments
returns-in_err-clear_outputs-clause-moments g c told =
    let start = g.F.Ground.history c.args.files.now in
    let begun = g.F.Ground.history c.begin_write.new.files in
    let cleared = g.F.Ground.history c.clear_outputs.new.files in
    cleared_work c.args.stage.now c.as_slice.result.now start begun cleared c.requires.kept c.as_slice.ensures.same (c.begin_write.ensures.moments told) (c.clear_outputs.ensures.moments told)

pub make_folders-requires : goal.make_folders-requires
make_folders-requires g c told =
    let start = g.F.Ground.history c.args.files.now in
    let begun = g.F.Ground.history c.begin_write.new.files in
    let cleared = g.F.Ground.history c.clear_outputs.new.files in
    roads_cleared c.args.stage.now c.as_slice.result.now c.as_slice-2.result.now start begun cleared c.requires.stage c.requires.kept (c.requires.way told) (c.as_slice-2.ensures.same ∙ c.requires.prepared.roads) (c.begin_write.ensures.moments told) (c.clear_outputs.ensures.moments told) (c.in_ok-clear_outputs.ensures.cleared told)

pub returns-clause-ready : goal.returns-clause-ready
returns-clause-ready g c told =
    let start = g.F.Ground.history c.args.files.now in
    let begun = g.F.Ground.history c.begin_write.new.files in
    let cleared = g.F.Ground.history c.clear_outputs.new.files in
    let made = g.F.Ground.history c.make_folders.new.files in
    ready_at c.args.stage.now c.args.prepared.now.job c.as_slice.result.now c.as_slice-2.result.now start begun cleared made c.make_folders.result c.requires.stage c.requires.kept c.requires.ordered c.requires.prepared.job (c.requires.seen told) c.as_slice.ensures.same (c.as_slice-2.ensures.same ∙ c.requires.prepared.roads) (c.begin_write.ensures.moments told) (c.clear_outputs.ensures.moments told) (c.make_folders.ensures.moments told) (c.make_folders.ensures.made told)

pub returns-clause-moments : goal.returns-clause-moments
returns-clause-moments g c told =
    let start = g.F.Ground.history c.args.files.now in
    let begun = g.F.Ground.history c.begin_write.new.files in
    let cleared = g.F.Ground.history c.clear_outputs.new.files in
    let made = g.F.Ground.history c.make_folders.new.files in
    made_work c.args.stage.now c.as_slice.result.now c.as_slice-2.result.now start begun cleared made c.requires.stage c.requires.kept c.as_slice.ensures.same (c.as_slice-2.ensures.same ∙ c.requires.prepared.roads) (c.begin_write.ensures.moments told) (c.clear_outputs.ensures.moments told) (c.make_folders.ensures.moments told)

pub returns-in_err-begin_write-clause-lane_first : goal.returns-in_err-begin_write-clause-lane_first
returns-in_err-begin_write-clause-lane_first g c told =
    first_begun c.args.stage.now (g.F.Ground.history c.args.files.now) (g.F.Ground.history c.begin_write.new.files) c.requires.kept (c.begin_write.ensures.moments told)

pub returns-in_err-clear_outputs-clause-lane_first : goal.returns-in_err-clear_outputs-clause-lane_first
returns-in_err-clear_outputs-clause-lane_first g c told =
    let start = g.F.Ground.history c.args.files.now in
    let begun = g.F.Ground.history c.begin_write.new.files in
    let cleared = g.F.Ground.history c.clear_outputs.new.files in
    first_cleared c.args.stage.now c.as_slice.result.now start begun cleared c.requires.kept c.as_slice.ensures.same (c.begin_write.ensures.moments told) (c.in_ok-begin_write.ensures.begun told) (c.clear_outputs.ensures.moments told)

pub returns-clause-begun : goal.returns-clause-begun
returns-clause-begun g c told =
    let begun = g.F.Ground.history c.begin_write.new.files in
    let cleared = g.F.Ground.history c.clear_outputs.new.files in
    let made = g.F.Ground.history c.make_folders.new.files in
    begun_at c.args.stage.now c.as_slice.result.now c.as_slice-2.result.now begun cleared made c.make_folders.result c.requires.kept c.as_slice.ensures.same (c.in_ok-begin_write.ensures.begun told) (c.clear_outputs.ensures.moments told) (c.make_folders.ensures.moments told)

pub returns-clause-lane_first : goal.returns-clause-lane_first
returns-clause-lane_first g c told =
    let start = g.F.Ground.history c.args.files.now in
    let begun = g.F.Ground.history c.begin_write.new.files in
    let cleared = g.F.Ground.history c.clear_outputs.new.files in
    let made = g.F.Ground.history c.make_folders.new.files in
    first_made c.args.stage.now c.as_slice.result.now c.as_slice-2.result.now start begun cleared made c.requires.kept c.as_slice.ensures.same (c.begin_write.ensures.moments told) (c.in_ok-begin_write.ensures.begun told) (c.clear_outputs.ensures.moments told) (c.make_folders.ensures.moments told)
