-- The owners are those of the track file.
use Rattle.std.proofs.Common.{ℕ, List, ◌++◌, ap, ◌∙◌}
use Rattle.std.proofs.lemmas.Result.{on_ok_weaker}
use Rattle.dvc_base.specs.Path.{Path, path_text}
use Rattle.lock_files.specs.declared.PathEntry.{PathEntry}
use Rattle.stage_graph.specs.Paths.{folder_of, owners_of_entries}
use Rattle.stage_graph.proofs.owner.push_track.Goals as goal

pub returns : goal.returns
returns c =
    let old = c.args.all.now in
    let t = c.args.track.now in
    record {
      ok = on_ok_weaker c.push_entries.result
          (λ h. h ∙ ap (λ (dir : Path). old ++ owners_of_entries dir c.text.result.now c.as_slice.result.now) c.in_ok-folder.ensures.named
          ∙ ap (λ (name : List ℕ). old ++ owners_of_entries (folder_of t.file) name c.as_slice.result.now) c.text.ensures.by_parts
          ∙ ap (λ (outs : List PathEntry). old ++ owners_of_entries (folder_of t.file) (path_text t.file) outs) c.as_slice.ensures.same)
          c.push_entries.ensures.ok;
    }
