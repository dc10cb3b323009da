-- What the stage reads, if there is one, is behind the others.
use Rattle.std.proofs.Common.{◌≡◌, ◌≤◌, List, ◌++◌, OnOk, length, rules, refl, sym, subst}
use Rattle.std.proofs.lemmas.Bool.{ltb-true}
use Rattle.std.proofs.lemmas.Option.{slice_get_past, slice_get_read}
use Rattle.dvc_base.specs.Path.{Path}
use Rattle.stage_plan.proofs.PlannedLemmas.{reads_none, reads_some}
use Rattle.stage_plan.proofs.tracks.push_reads_at.Goals as goal

pub returns-in-Some : goal.returns-in-Some
returns-in-Some c =
    let inside = slice_get_read c.args.written.now (length c.args.written.now) c.args.place c.in-Some.stage.now refl (ltb-true c.args.place (length c.args.written.now) (sym c.in-Some.ensures.lookup.0)) c.in-Some.ensures.lookup.1 in
    let same = reads_some c.args.written.now c.args.place c.in-Some.stage.now inside in
    record { ok = subst (λ (ps : List Path). OnOk c.push_needs.result (c.push_needs.new.paths ≡ c.args.paths.now ++ ps)) (sym same) c.push_needs.ensures.ok }

pub returns-in-None : goal.returns-in-None
returns-in-None c =
    let past : length c.args.written.now ≤ c.args.place = search rules in
    record { ok = reads_none c.args.written.now c.args.place c.args.paths.now (slice_get_past c.args.written.now c.args.place past) }
