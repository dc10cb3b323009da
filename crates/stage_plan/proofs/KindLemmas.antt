-- Of which kinds the refusals of a plan are.
--     plan_kind      each refusal of the graph is one of the plan's
--     told_kind      and want of memory as well
--     kinds_err      the exit of a step that tells one of these kinds
use Rattle.std.proofs.Common.{◌≡◌, ℕ, Bool, true, false, cond, List, [], ◌∷◌, ◌++◌, Option, Some, None, Result, Ok, Err, ◌⊎◌, inl, inr, refl, sym, subst}
use Rattle.std.specs.Option.{option_or, option_map}
use Rattle.std.specs.List.{find}
use Rattle.dvc_base.specs.Path.{Path, is_one, under, overlap}
use Rattle.dvc_base.specs.Join.{join}
use Rattle.dvc_base.specs.Answer.{fault_in}
use Rattle.dvc_base.specs.Fault.{MayBe}
use Rattle.dvc_base.specs.declared.fault.Fault.{Fault}
use Rattle.dvc_base.specs.declared.fault.Fault.TheVariants as f
use Rattle.dvc_base.specs.declared.path.PathFault.{PathFault}
use Rattle.lock_files.specs.declared.PathEntry.{PathEntry}
use Rattle.stage_order.specs.Order.{is_in, order}
use Rattle.stage_order.specs.Walk.{first_walk}
use Rattle.stage_schema.specs.declared.stage.Out.{Out}
use Rattle.stage_schema.specs.declared.stage.ParamWant.{ParamWant}
use Rattle.stage_schema.specs.declared.stage.Stage.{Stage as Written}
use Rattle.stage_graph.specs.Clash.{clash_of, clash_with, clash_after, clash_fault, params_path, made_by, made_fault}
use Rattle.stage_graph.specs.Cycle.{all_above, names_of, cycle_fault}
use Rattle.stage_graph.specs.Fault.{first_of}
use Rattle.stage_graph.specs.Graph.{graph_fault}
use Rattle.stage_graph.specs.Kept.{tool_paths, file_paths, near_fault, itself_if, has_track_name, is_track, name_fault, dir_fault, tool_fault, file_fault, var_fault, reserved_fault}
use Rattle.stage_graph.specs.Paths.{folder_of, needs, owners, owner_paths, outputs, output_paths}
use Rattle.stage_graph.specs.Texts.{join_fault, text_fault, track_texts, out_texts, need_texts, outside_fault}
use Rattle.stage_graph.specs.declared.owner.Owner.{Owner}
use Rattle.stage_graph.specs.declared.track.TrackFile.{TrackFile}
use Rattle.stage_plan.specs.Plan.{made_kinds}

abbrev Fits : Option Fault → Type 0
Fits due = MayBe made_kinds due

or_fits : (a b : Option Fault) → Fits a → Fits b → Fits (option_or a b)
or_fits None b h k = k
or_fits (Some fault) b h k = h

first_fits : {A : Type 0} (fault : A → Option Fault) → ((x : A) → Fits (fault x)) → (xs : List A) → Fits (first_of fault xs)
first_fits fault each [] = tt
first_fits fault each (x ∷ xs) = or_fits (fault x) (first_of fault xs) (each x) (first_fits fault each xs)

map_fits : {A : Type 0} (fault : A → Fault) → ((x : A) → Fits (Some (fault x))) → (o : Option A) → Fits (option_map fault o)
map_fits fault each None = tt
map_fits fault each (Some x) = each x

-- ---- texts that are no paths

join_fits : (text : List ℕ) (r : Result Path PathFault) → Fits (join_fault text r)
join_fits text (Ok p) = tt
join_fits text (Err why) = refl

text_fits : (dir : Path) (text : List ℕ) → Fits (text_fault dir text)
text_fits dir text = join_fits text (join dir text)

out_fits : (s : Written) → Fits (out_texts s)
out_fits s = first_fits (λ (out : Out). text_fault s.dir out.path) (λ out. text_fits s.dir out.path) s.outs

need_fits : (s : Written) → Fits (need_texts s)
need_fits s =
    or_fits (first_of (text_fault s.dir) s.deps) (first_of (λ want. text_fault s.dir want.file) s.params)
    (first_fits (text_fault s.dir) (text_fits s.dir) s.deps)
    (first_fits (λ (want : ParamWant). text_fault s.dir want.file) (λ want. text_fits s.dir want.file) s.params)

track_fits : (t : TrackFile) → Fits (track_texts t)
track_fits t = first_fits (λ (out : PathEntry). text_fault (folder_of t.file) out.path) (λ out. text_fits (folder_of t.file) out.path) t.track.outs

outside_fits : (ss : List Written) (tracks : List TrackFile) → Fits (outside_fault ss tracks)
outside_fits ss tracks =
    or_fits (first_of track_texts tracks) (option_or (first_of out_texts ss) (first_of need_texts ss)) (first_fits track_texts track_fits tracks)
    (or_fits (first_of out_texts ss) (first_of need_texts ss) (first_fits out_texts out_fits ss) (first_fits need_texts need_fits ss))

-- ---- paths that are kept

near_fits : (kept : List Path) (p : Path) → Fits (near_fault kept p)
near_fits kept p = map_fits (f.Reserved p) (λ q. refl) (find (λ q. overlap q p) kept)

itself_fits : (test : Bool) (p : Path) → Fits (itself_if test p)
itself_fits true p = refl
itself_fits false p = tt

dir_fits : (s : Written) → Fits (dir_fault s)
dir_fits s = map_fits (f.Reserved s.dir) (λ q. refl) (find (λ kept. under kept s.dir) tool_paths)

tool_fits : (owned : List Path) (ss : List Written) → Fits (tool_fault owned ss)
tool_fits owned ss =
    or_fits (first_of (near_fault tool_paths) owned) (first_of (λ s. first_of (near_fault tool_paths) (needs s)) ss)
    (first_fits (near_fault tool_paths) (near_fits tool_paths) owned)
    (first_fits (λ (s : Written). first_of (near_fault tool_paths) (needs s)) (λ s. first_fits (near_fault tool_paths) (near_fits tool_paths) (needs s)) ss)

var_fits : (tracks : List TrackFile) (p : Path) → Fits (var_fault tracks p)
var_fits tracks p =
    or_fits (near_fault tool_paths p) (itself_if (is_track tracks p) p) (near_fits tool_paths p) (itself_fits (is_track tracks p) p)

reserved_fits : (vars owned : List Path) (ss : List Written) (tracks : List TrackFile) (ignores : List Path) → Fits (reserved_fault owned ss tracks vars ignores)
reserved_fits vars owned ss tracks ignores =
    let dirs : Option Fault = first_of dir_fault ss in
    let read : Option Fault = first_of (var_fault tracks) vars in
    let names : Option Fault = first_of name_fault owned in
    let files : Option Fault = file_fault tracks ignores owned in
    or_fits (tool_fault owned ss) (option_or files (option_or names (option_or dirs read))) (tool_fits owned ss)
    (or_fits files (option_or names (option_or dirs read)) (first_fits (near_fault (file_paths tracks ignores)) (near_fits (file_paths tracks ignores)) owned)
    (or_fits names (option_or dirs read) (first_fits name_fault (λ p. itself_fits (has_track_name p) p) owned)
    (or_fits dirs read (first_fits dir_fault dir_fits ss) (first_fits (var_fault tracks) (var_fits tracks) vars))))

-- ---- owners that overlap, variables, and cycles

clash_of_fits : (first second : Owner) → Fits (Some (clash_of first second))
clash_of_fits first second = go (is_one first.path second.path)
  where
    go : (b : Bool) → Fits (Some (cond b (f.Duplicate second.path first.name second.name) (f.Overlap first.path second.path)))
    go true = refl
    go false = refl

clash_fits : (earlier later : List Owner) → Fits (clash_after earlier later)
clash_fits earlier [] = tt
clash_fits earlier (o ∷ later) =
    or_fits (clash_with earlier o) (clash_after (earlier ++ o ∷ []) later)
    (map_fits (λ (first : Owner). clash_of first o) (λ first. clash_of_fits first o) (find (λ first. overlap first.path o.path) earlier))
    (clash_fits (earlier ++ o ∷ []) later)

made_fits : (vars : List Path) (ss : List Written) → Fits (made_fault ss vars)
made_fits vars ss =
    let outs = output_paths (outputs ss) in
    first_fits (made_by outs) (λ file. map_fits (f.VarsFromOutput file) (λ out. refl) (find (λ out. overlap out file) outs)) (params_path ∷ vars)

cycle_fits : (ss : List Written) → Fits (cycle_fault ss)
cycle_fits ss = map_fits (λ (ns : List ℕ). f.Cycle (names_of ss ns)) (λ ns. refl) (first_walk (all_above ss) (is_in (order (all_above ss))))

graph_fits : (tracks : List TrackFile) (vars ignores : List Path) (ss : List Written) → Fits (graph_fault ss tracks vars ignores)
graph_fits tracks vars ignores ss =
    let a : Option Fault = outside_fault ss tracks in
    let b : Option Fault = reserved_fault (owner_paths (owners ss tracks)) ss tracks vars ignores in
    let c : Option Fault = clash_fault (owners ss tracks) in
    let d : Option Fault = made_fault ss vars in
    let e : Option Fault = cycle_fault ss in
    or_fits a (option_or b (option_or c (option_or d (option_or e None)))) (outside_fits ss tracks)
    (or_fits b (option_or c (option_or d (option_or e None))) (reserved_fits vars (owner_paths (owners ss tracks)) ss tracks ignores)
    (or_fits c (option_or d (option_or e None)) (clash_fits [] (owners ss tracks))
    (or_fits d (option_or e None) (made_fits vars ss) (or_fits e None (cycle_fits ss) tt))))

pub plan_kind : (tracks : List TrackFile) (vars ignores : List Path) (ss : List Written) (fault : Fault) → graph_fault ss tracks vars ignores ≡ Some fault → MayBe made_kinds (Some fault)
plan_kind tracks vars ignores ss fault told = subst (MayBe made_kinds) told (graph_fits tracks vars ignores ss)

-- want of memory is one of the plan's as well
pub told_kind : (tracks : List TrackFile) (vars ignores : List Path) (ss : List Written) (fault : Fault) → (fault ≡ f.NoMemory) ⊎ (graph_fault ss tracks vars ignores ≡ Some fault) → MayBe made_kinds (Some fault)
told_kind tracks vars ignores ss fault (inl memory) = subst (λ (x : Fault). MayBe made_kinds (Some x)) (sym memory) refl
told_kind tracks vars ignores ss fault (inr told) = plan_kind tracks vars ignores ss fault told

-- the exit of a step
pub kinds_err : {T : Type 0} (r : Result T Fault) (y fault : Fault) → r ≡ Err y → y ≡ fault → MayBe made_kinds (Some fault) → MayBe made_kinds (fault_in r)
kinds_err {T} r y fault e same h =
    subst (λ (o : Result T Fault). MayBe made_kinds (fault_in o)) (sym e) (subst (λ (x : Fault). MayBe made_kinds (Some x)) (sym same) h)
