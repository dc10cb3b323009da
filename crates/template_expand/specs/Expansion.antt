-- What a `dvc.yaml` comes to: its stages, or its first refusal.
--     stage_made name vars body made    the stage that is made of a written one
--     with_written limit files top stages s    the stages so far, and those of a written one
--     expansion root files              all stages in written order. What the file's own keys refuse comes first, then what the top-level
--                                       variables do, then stage by stage; a name that stands twice comes last
use Rattle.std.specs.Prelude.{ℕ, ◌+◌, Bool, List, [], ◌∷◌, ◌++◌, length, ◌==◌, nat_lt, bytes_eq, Option, Some, None, option_map, Ok, Err, codes, if◌then◌else◌}
use Rattle.std.specs.List.{list_any}
use Rattle.dvc_base.specs.Limits.{limit_of}
use Rattle.dvc_base.specs.declared.limits.What.TheVariants.{Stages}
use Rattle.dvc_base.specs.declared.node.Node.{Node, out-Node}
use Rattle.dvc_base.specs.declared.node.Pair.{Pair}
use Rattle.stage_schema.specs.Node.{Layer, key_of, value_of, items_of, pairs_of, has_key, value_at}
use Rattle.stage_schema.specs.Refusal.{dotted, schema_at, first_in}
use Rattle.stage_schema.specs.Schema.{stage_fault, path_fault, root_fault}
use Rattle.stage_schema.specs.Stages.{stage_with}
use Rattle.stage_schema.specs.declared.fault.ExpandFault.{ExpandFault}
use Rattle.stage_schema.specs.declared.fault.ExpandFault.TheVariants as e
use Rattle.stage_schema.specs.declared.stage.Stage.{Stage}
use Rattle.template_expand.specs.declared.files.VarFile.{VarFile}
use Rattle.template_expand.specs.declared.vars.Vars.{Vars}
use Rattle.template_expand.specs.Answer.{Answer, then_by, folded_by}
use Rattle.template_expand.specs.Vars.{with_items, top_vars}
use Rattle.template_expand.specs.Fill.{filled_pairs}
use Rattle.template_expand.specs.declared.made.Made.{Made}
use Rattle.template_expand.specs.Made.{mades}

abbrev pub unless_refused : {A : Type 0} → Option ExpandFault → Answer A → Answer A
unless_refused None answer = answer
unless_refused (Some fault) answer = Err fault

-- ---- one stage

-- the name as it is written is the group of what is made of it
abbrev pub group_of : List ℕ → Made → List ℕ
group_of name made = if length made.suffix == 0 then [] else name

-- that of pairs whose texts are as they stand in the end
abbrev pub filled_stage : List ℕ → Made → List Pair → Answer Stage
filled_stage name made pairs =
    unless_refused (first_in (path_fault name) pairs) (Ok (stage_with (name ++ made.suffix) (group_of name made) pairs))

abbrev pub stage_made : List ℕ → List Pair → List Pair → Made → Answer Stage
stage_made name vars body made = then_by (filled_stage name made) (filled_pairs (made.hiding ++ vars) body)

-- ---- the stages of a written one

-- the limit is met at the first stage past it
abbrev pub with_made : ℕ → List ℕ → List Pair → List Pair → List Stage → Made → Answer (List Stage)
with_made limit name vars body stages made =
    if nat_lt (length stages) limit then then_by (λ stage. Ok (stages ++ stage ∷ [])) (stage_made name vars body made)
    else Err (e.TooMany (limit + 1))

-- the keys of what is made: those of `do`, where there is one
abbrev pub body_of : List Pair → List Pair
body_of pairs = if has_key (codes "foreach") pairs then pairs_of (value_at (codes "do") pairs) else pairs

abbrev pub own_vars : List VarFile → List ℕ → Vars → List Pair → Answer Vars
own_vars files name top body =
    with_items files (dotted (codes "stages" ∷ name ∷ codes "vars" ∷ [])) top (items_of (value_at (codes "vars") body))

abbrev pub with_mades : ℕ → List Stage → List ℕ → List Pair → List Pair → Answer (List Made) → Answer (List Stage)
with_mades limit stages name vars body made = then_by (folded_by (with_made limit name vars body) stages) made

abbrev pub with_stage : ℕ → List VarFile → Vars → List Stage → List ℕ → List Pair → Answer (List Stage)
with_stage limit files top stages name pairs =
    then_by
    (λ own. with_mades limit stages name own.variables (body_of pairs) (mades name top.variables own.variables pairs))
    (own_vars files name top (body_of pairs))

abbrev pub with_written : ℕ → List VarFile → Vars → List Stage → Pair → Answer (List Stage)
with_written limit files top stages s =
    unless_refused (stage_fault s) (with_stage limit files top stages (key_of s) (pairs_of (value_of s)))

-- ---- names

abbrev pub has_name : List ℕ → List Stage → Bool
has_name name stages = list_any (λ s. bytes_eq name s.name) stages

-- the first name that an earlier stage has
abbrev pub second_name : List Stage → List Stage → Option (List ℕ)
second_name before [] = None
second_name before (s ∷ stages) = if has_name s.name before then Some s.name else second_name (before ++ s ∷ []) stages

abbrev pub names_fault : List Stage → Option ExpandFault
names_fault stages = option_map (λ name. schema_at (codes "stages" ∷ name ∷ [])) (second_name [] stages)

-- ---- the file

abbrev pub stages_of : List VarFile → Layer → Answer (List Stage)
stages_of files root =
    then_by (λ top. folded_by (with_written (limit_of Stages) files top) [] (pairs_of (value_at (codes "stages") (pairs_of root))))
    (top_vars files root)

abbrev pub expansion : Node → List VarFile → Answer (List Stage)
expansion root files =
    unless_refused (root_fault (out-Node root))
    (then_by (λ stages. unless_refused (names_fault stages) (Ok stages)) (stages_of files (out-Node root)))
