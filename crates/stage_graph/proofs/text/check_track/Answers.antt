-- The folder is that of the file.
use Rattle.std.proofs.Common.{List, ap, ◌∙◌}
use Rattle.dvc_base.specs.Path.{Path}
use Rattle.lock_files.specs.declared.PathEntry.{PathEntry}
use Rattle.stage_graph.specs.Fault.{first_of}
use Rattle.stage_graph.specs.Texts.{text_fault}
use Rattle.stage_graph.proofs.FaultLemmas.{checks_same}
use Rattle.stage_graph.proofs.text.check_track.Goals as goal

pub returns : goal.returns
returns c =
    let t = c.args.track.now in
    record {
      checked = checks_same c.check_entries.result _ _
          (ap (λ (outs : List PathEntry). first_of (λ out. text_fault c.in_ok-folder.folder out.path) outs) c.as_slice.ensures.same
          ∙ ap (λ (folder : Path). first_of (λ out. text_fault folder out.path) t.track.outs) c.in_ok-folder.ensures.named)
          c.check_entries.ensures.checked;
    }
