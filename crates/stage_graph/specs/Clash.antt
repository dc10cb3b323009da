-- Owners of paths that overlap, and variables that come from outputs.
--     clash_fault owners        the first owner that overlaps an earlier one, with the first such earlier one
--     made_fault stages vars    the first file of variables that overlaps an output of a stage, with the first such output
use Rattle.std.specs.Prelude.{List, [], ◌∷◌, ◌++◌, codes, Option, None, option_map, if◌then◌else◌}
use Rattle.std.specs.Option.{option_or}
use Rattle.std.specs.List.{find}
use Rattle.dvc_base.specs.Path.{Path, overlap, is_one}
use Rattle.dvc_base.specs.declared.fault.Fault.{Fault}
use Rattle.dvc_base.specs.declared.fault.Fault.TheVariants as f
use Rattle.stage_schema.specs.declared.stage.Stage.{Stage}
use Rattle.stage_graph.specs.Fault.{first_of}
use Rattle.stage_graph.specs.Paths.{outputs, output_paths}
use Rattle.stage_graph.specs.declared.owner.Owner.{Owner}

-- the fault of two owners whose paths overlap
abbrev pub clash_of : Owner → Owner → Fault
clash_of first second =
    if is_one first.path second.path
    then f.Duplicate second.path first.name second.name
    else f.Overlap first.path second.path

abbrev pub clash_with : List Owner → Owner → Option Fault
clash_with earlier o = option_map (λ first. clash_of first o) (find (λ first. overlap first.path o.path) earlier)

-- the first fault of the later owners, each with those before it
abbrev pub clash_after : List Owner → List Owner → Option Fault
clash_after earlier [] = None
clash_after earlier (o ∷ later) = option_or (clash_with earlier o) (clash_after (earlier ++ o ∷ []) later)

abbrev pub clash_fault : List Owner → Option Fault
clash_fault owners = clash_after [] owners

-- ---- variables

-- it is read, or looked for, in every project
unfoldable pub params_path : Path
params_path = codes "params.yaml" ∷ []

abbrev pub made_by : List Path → Path → Option Fault
made_by outs file = option_map (f.VarsFromOutput file) (find (λ out. overlap out file) outs)

abbrev pub made_fault : List Stage → List Path → Option Fault
made_fault stages vars = first_of (made_by (output_paths (outputs stages))) (params_path ∷ vars)
