-- The limits of values that are named, as refusals.
--     value_limit v     the first limit that naming a value passes
--     limit_fault v     the refusal that it means
use Rattle.std.specs.Prelude.{length, Option, None, option_map}
use Rattle.dvc_base.specs.Limits.{limit_of}
use Rattle.dvc_base.specs.declared.limits.What.{What}
use Rattle.dvc_base.specs.declared.limits.What.TheVariants.{FileSize}
use Rattle.dvc_base.specs.declared.fault.Fault.{Fault}
use Rattle.dvc_base.specs.declared.fault.Fault.TheVariants.{TooLarge}
use Rattle.world_api.specs.Tree.{Value, nothing, content, members}
use Rattle.file_hash.specs.Naming.{if_over, files_limit}

abbrev pub value_limit : Value → Option What
value_limit nothing = None
value_limit (content bytes) = if_over FileSize (length bytes)
value_limit (members m) = files_limit m

abbrev pub limit_fault : Value → Option Fault
limit_fault v = option_map (λ what. TooLarge what (limit_of what)) (value_limit v)
