-- What running every stage anew gives: a tree, from a tree and its stages in order.
--     anew effect stages t      all outputs are taken away, and then the stages are run one after another
-- It knows of no cache, no record and no digest.
use Rattle.std.specs.Prelude.{ℕ, Bool, true, false, not, ◌-◌, List, [], ◌∷◌, ◌++◌, length, take, Option, Some, None, option_and_then, Result, Ok, Err, if◌then◌else◌}
use Rattle.std.specs.List.{list_any, flat_map}
use Rattle.std.specs.FinMap.{insert, retain_keys, entries}
use Rattle.dvc_base.specs.Path.{Path, under}
use Rattle.dvc_base.specs.declared.data.ParamFile.{ParamFile}
use Rattle.dvc_base.specs.declared.fault.Fault.{Fault}
use Rattle.world_api.specs.Tree.{Tree, Item, folder, file, Value, nothing, content, members, item_at}
use Rattle.world_api.specs.Effect.{Effect, Outcome, fails, gives, invocation_of}
use Rattle.repro_laws.specs.Stage.{dep_value, is_nothing, params_at, job_with, stage_outs}
use Rattle.repro_laws.specs.declared.stage.Stage.{Stage}

-- a tree without what stands at or below the paths
abbrev pub without : Tree → List Path → Tree
without t [] = t
without t (p ∷ ps) = without (retain_keys t (λ q. not (under p q))) ps

-- ---- folders

-- a folder at the path, unless something stands there
abbrev pub with_item : Option Item → Tree → Path → Tree
with_item None t p = insert t p folder
with_item (Some item) t p = t

abbrev pub with_folder : Tree → Path → Tree
with_folder t p = with_item (item_at t p) t p

abbrev pub is_file : Option Item → Bool
is_file (Some (file bytes)) = true
is_file _ = false

-- folders at each path from a folder on down, where nothing stands; none below a file
abbrev pub with_folders : Tree → Path → Path → Tree
with_folders t above [] = with_folder t above
with_folders t above (c ∷ p) =
    if is_file (item_at t above) then t else with_folders (with_folder t above) (above ++ c ∷ []) p

-- whether a file stands at a path on the way from a folder down, the last one left out
abbrev pub is_blocked : Tree → Path → Path → Bool
is_blocked t above [] = false
is_blocked t above (c ∷ p) = if is_file (item_at t above) then true else is_blocked t (above ++ c ∷ []) p

-- ---- values

abbrev pub put_members : Tree → Path → List (Path × List ℕ) → Tree
put_members t p [] = t
put_members t p (m ∷ ms) =
    put_members (insert (with_folders t [] (p ++ take (length m.0 - 1) m.0)) (p ++ m.0) (file m.1)) p ms

-- a value put at a path, with the folders above it
abbrev pub put_value : Tree → Path → Value → Tree
put_value t p nothing = t
put_value t p (content bytes) = insert (with_folders t [] (take (length p - 1) p)) p (file bytes)
put_value t p (members m) = put_members (with_folders t [] p) p (entries m)

abbrev pub put_values : Tree → List Path → List Value → Tree
put_values t (p ∷ ps) (v ∷ vs) = put_values (put_value t p v) ps vs
put_values t _ _ = t

-- ---- stages

-- the tree after a stage was run in it; none where it can't be
abbrev pub after_outcome : Tree → List Path → Outcome → Option Tree
after_outcome t outs (fails code) = None
after_outcome t outs (gives values) =
    if list_any is_nothing values then None
    else let after = put_values t outs values in
    if list_any (is_blocked after []) outs then None else Some after

abbrev pub run_with : Effect → Stage → Tree → Result (List ParamFile) Fault → Option Tree
run_with effect s t (Ok ps) =
    after_outcome (with_folders t [] s.dir) (stage_outs s) (effect (invocation_of (job_with s ps) t))
run_with effect s t (Err why) = None

abbrev pub anew_step : Effect → Stage → Tree → Option Tree
anew_step effect s t =
    if list_any (λ d. is_nothing (dep_value t d)) s.deps then None else run_with effect s t (params_at s t)

abbrev pub anew_steps : Effect → List Stage → Tree → Option Tree
anew_steps effect [] t = Some t
anew_steps effect (s ∷ ss) t = option_and_then (anew_steps effect ss) (anew_step effect s t)

abbrev pub anew : Effect → List Stage → Tree → Option Tree
anew effect stages t = anew_steps effect stages (without t (flat_map stage_outs stages))
