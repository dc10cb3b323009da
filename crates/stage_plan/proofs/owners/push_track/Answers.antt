-- What a track file records is read from its folder.
use Rattle.std.proofs.Common.{◌≡◌, List, ◌++◌, map, OnOk, sym, ap, ◌∙◌, subst}
use Rattle.dvc_base.specs.Path.{Path, path_text}
use Rattle.world_api.specs.Effect.{path_from}
use Rattle.lock_files.specs.declared.entry.PathEntry.{PathEntry}
use Rattle.stage_graph.specs.Paths.{folder_of}
use Rattle.stage_plan.specs.Targets.{track_outs}
use Rattle.stage_plan.proofs.TrackedLemmas.{entry_paths}
use Rattle.stage_plan.proofs.owners.push_track.Goals as goal

pub returns : goal.returns
returns c =
    let track = c.args.track.now in
    let outs : Path → List PathEntry → List Path = λ dir es. map (λ e. path_from dir e.path) es in
    let same : outs c.in_ok-dir.dir c.as_slice.result.now ≡ track_outs track =
    ap (outs c.in_ok-dir.dir) c.as_slice.ensures.same ∙ ap (λ (dir : Path). outs dir track.track.outs) c.in_ok-dir.ensures.named
    ∙ sym (entry_paths (folder_of track.file) (path_text track.file) track.track.outs) in
    record { ok = subst (λ (ps : List Path). OnOk c.push_entries.result (c.push_entries.new.owned ≡ c.args.owned.now ++ ps)) same c.push_entries.ensures.ok }
