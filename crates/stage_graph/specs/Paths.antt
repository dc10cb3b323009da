-- The paths that stages and track files speak of, and which stage is above which.
--     owners stages tracks     what is recorded or made: the outs of the tracks, and then the outputs of the stages
--     outputs stages           the outputs of the stages, each with the number of its stage
--     needs s                  the paths that a stage reads: its dependencies, and then its parameter files
--     is_above a b             b isn't frozen, and a path that it needs overlaps an output of a
-- A stage's texts are read from its folder, and a track's from the folder of its file. A text that is no path counts as the
-- root here; it is refused before anything else.
use Rattle.std.specs.Prelude.{ℕ, suc, Bool, not, ◌&&◌, List, [], ◌∷◌, ◌++◌, map, codes}
use Rattle.std.specs.List.{list_any, flat_map}
use Rattle.dvc_base.specs.Path.{Path, path_text, overlap}
use Rattle.world_api.specs.Effect.{path_from}
use Rattle.lock_files.specs.declared.PathEntry.{PathEntry}
use Rattle.stage_schema.specs.declared.stage.Out.{Out}
use Rattle.stage_schema.specs.declared.stage.Stage.{Stage}
use Rattle.stage_graph.specs.declared.owner.Owner.{Owner}
use Rattle.stage_graph.specs.declared.output.Output.{Output}
use Rattle.stage_graph.specs.declared.track.TrackFile.{TrackFile}

-- ---- owners

abbrev pub folder_of : Path → Path
folder_of file = path_from file (codes "..")

abbrev pub owners_of_entries : Path → List ℕ → List PathEntry → List Owner
owners_of_entries dir name outs = map (λ out. record { path = path_from dir out.path; name = name }) outs

abbrev pub owners_of_outs : Path → List ℕ → List Out → List Owner
owners_of_outs dir name outs = map (λ out. record { path = path_from dir out.path; name = name }) outs

-- a track goes by the path of its file
abbrev pub track_owners : TrackFile → List Owner
track_owners t = owners_of_entries (folder_of t.file) (path_text t.file) t.track.outs

abbrev pub stage_owners : Stage → List Owner
stage_owners s = owners_of_outs s.dir s.name s.outs

abbrev pub owners : List Stage → List TrackFile → List Owner
owners stages tracks = flat_map track_owners tracks ++ flat_map stage_owners stages

abbrev pub owner_paths : List Owner → List Path
owner_paths os = map (λ o. o.path) os

-- ---- outputs

abbrev pub stage_outs : Stage → List Path
stage_outs s = map (λ out. path_from s.dir out.path) s.outs

abbrev pub outputs_in : ℕ → Path → List Out → List Output
outputs_in n dir outs = map (λ out. record { path = path_from dir out.path; stage = n }) outs

abbrev pub outputs_of : ℕ → Stage → List Output
outputs_of n s = outputs_in n s.dir s.outs

-- the stages are numbered from n on
abbrev pub outputs_from : ℕ → List Stage → List Output
outputs_from n [] = []
outputs_from n (s ∷ ss) = outputs_of n s ++ outputs_from (suc n) ss

abbrev pub outputs : List Stage → List Output
outputs stages = outputs_from 0 stages

abbrev pub output_paths : List Output → List Path
output_paths os = map (λ o. o.path) os

-- ---- what is read

abbrev pub needs : Stage → List Path
needs s = map (path_from s.dir) s.deps ++ map (λ want. path_from s.dir want.file) s.params

-- ---- above

-- an output of a overlaps the path
abbrev pub makes : Stage → Path → Bool
makes a need = list_any (λ out. overlap out need) (stage_outs a)

abbrev pub is_above : Stage → Stage → Bool
is_above a b = not b.frozen && list_any (makes a) (needs b)
