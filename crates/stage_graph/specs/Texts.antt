-- The texts that are no paths of the workspace.
--     outside_fault stages tracks   the first of them: those of owners come first, and then stage by stage those that it needs
use Rattle.std.specs.Prelude.{ℕ, List, Option, Some, None, Result, Ok, Err}
use Rattle.std.specs.Option.{option_or}
use Rattle.dvc_base.specs.Path.{Path}
use Rattle.dvc_base.specs.Join.{join}
use Rattle.dvc_base.specs.declared.fault.Fault.{Fault}
use Rattle.dvc_base.specs.declared.fault.Fault.TheVariants as f
use Rattle.dvc_base.specs.declared.path.PathFault.{PathFault}
use Rattle.stage_schema.specs.declared.stage.Stage.{Stage}
use Rattle.stage_graph.specs.Fault.{first_of}
use Rattle.stage_graph.specs.Paths.{folder_of}
use Rattle.stage_graph.specs.declared.track.TrackFile.{TrackFile}

abbrev pub join_fault : List ℕ → Result Path PathFault → Option Fault
join_fault text (Ok p) = None
join_fault text (Err why) = Some (f.Outside text why)

abbrev pub text_fault : Path → List ℕ → Option Fault
text_fault dir text = join_fault text (join dir text)

abbrev pub track_texts : TrackFile → Option Fault
track_texts t = first_of (λ out. text_fault (folder_of t.file) out.path) t.track.outs

abbrev pub out_texts : Stage → Option Fault
out_texts s = first_of (λ out. text_fault s.dir out.path) s.outs

abbrev pub need_texts : Stage → Option Fault
need_texts s = option_or (first_of (text_fault s.dir) s.deps) (first_of (λ want. text_fault s.dir want.file) s.params)

abbrev pub outside_fault : List Stage → List TrackFile → Option Fault
outside_fault stages tracks =
    option_or (first_of track_texts tracks) (option_or (first_of out_texts stages) (first_of need_texts stages))
