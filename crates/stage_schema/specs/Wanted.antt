-- What has to be in form before the files of variables are read.
--     wanted_fault root    the first refusal of the root, of `vars`, and of what stands at `stages`
use Rattle.std.specs.Prelude.{Bool, ◌||◌, Option, Some, None, bytes_eq, codes, [], if◌then◌else◌}
use Rattle.dvc_base.specs.declared.node.Node.TheOpen.{Node-F}
use Rattle.dvc_base.specs.declared.node.Pair.{Pair}
use Rattle.stage_schema.specs.Node.{Layer, key_of}
use Rattle.stage_schema.specs.Refusal.{schema_at, first_in}
use Rattle.stage_schema.specs.Schema.{top_fault}
use Rattle.stage_schema.specs.declared.fault.ExpandFault.{ExpandFault}

-- the other keys are refused later
abbrev pub wanted_top_fault : Pair → Option ExpandFault
wanted_top_fault p =
    if bytes_eq (key_of p) (codes "vars") || bytes_eq (key_of p) (codes "stages") then top_fault p else None

abbrev pub wanted_fault : Layer → Option ExpandFault
wanted_fault Node-F.Null = None
wanted_fault (Node-F.Pairs pairs) = first_in wanted_top_fault pairs
wanted_fault _ = Some (schema_at [])
