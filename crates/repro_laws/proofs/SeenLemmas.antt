-- What is seen of a stage in two trees that show the same.
--     IsSeenIn own done s      what that asks of the stage
--     params_alike             the parameters
--     see_alike, seen_alike, entry_alike, way_alike     refusals, what is seen, the entry, and the files on its ways
--     run_fault_alike          and the refusal of a run, where each dependency is there
--     chosen_plain             the choice, where nothing is restored
use Rattle.std.proofs.Common.{◌≡◌, ℕ, Bool, true, false, cond, ◌||◌, List, [], ◌∷◌, map, refl, sym, ap, subst, ◌∙◌, Option, Some, None}
use Rattle.std.specs.List.{AllByRecursion, list_any}
use Rattle.std.proofs.lemmas.Bool.{or_parts, or_from}
use Rattle.dvc_base.specs.Path.{Path}
use Rattle.dvc_base.specs.Answer.{fault_in}
use Rattle.dvc_base.specs.declared.data.ParamFile.{ParamFile}
use Rattle.dvc_base.specs.declared.fault.Fault.{Fault}
use Rattle.dvc_base.specs.declared.fault.Fault.TheVariants.{NotFolder}
use Rattle.dvc_base.proofs.PathLemmas.{under-refl}
use Rattle.world_api.specs.Tree.{Tree, Value, nothing, content, members, value_at}
use Rattle.world_api.specs.Effect.{Effect, Invocation, path_or_root, path_from, given_values, invocation_of}
use Rattle.world_api.specs.Calls.{parent}
use Rattle.world_api.proofs.TreeLemmas.{under_parent}
use Rattle.file_hash.specs.Naming.{named_of}
use Rattle.lock_files.specs.declared.entry.Entry.{Entry}
use Rattle.lock_files.specs.Book.{Lock, entry_of}
use Rattle.change_check.specs.Same.{canonical_files}
use Rattle.change_check.specs.declared.seen.SeenPath.{SeenPath}
use Rattle.change_check.specs.declared.seen.Seen.{Seen}
use Rattle.repro_laws.specs.Stage.{out_path, dep_value, is_nothing, params_at, dep_text, out_text, job_with, Names, IsStage}
use Rattle.repro_laws.specs.Entries.{seen_dep, seen_out, seen_at, all_named, entry_from, entry_at}
use Rattle.repro_laws.specs.Stored.{Stored}
use Rattle.repro_laws.specs.Choices.{is_same_as, entry_to_restore, restore_or_run, choice_of}
use Rattle.repro_laws.specs.Limits.{limit_fault}
use Rattle.repro_laws.specs.Refusals.{first_fault, first_of, refused_dep, deps_fault, present_fault, see_fault, road_fault, way_fault, outcome_fault, run_fault}
use Rattle.repro_laws.specs.Due.{Standing, params_in, chosen_in}
use Rattle.repro_laws.specs.Headline.{IsOwn, IsApart, IsKept}
use Rattle.repro_laws.specs.declared.stage.Dep.{Dep}
use Rattle.repro_laws.specs.declared.stage.Out.{Out}
use Rattle.repro_laws.specs.declared.stage.Stage.{Stage}
use Rattle.repro_laws.specs.declared.stage.Flags.{Flags}
use Rattle.repro_laws.specs.declared.stage.Choice.{Choice}
use Rattle.repro_laws.specs.declared.stage.Choice.TheVariants.{Skip, Run}
use Rattle.repro_laws.proofs.FileLemmas.{file_at}
use Rattle.repro_laws.proofs.AlikeLemmas.{is_inside, Alike, each_on, each_two, each_mapped, each_ordered, each_written, map_same, value_alike, IsDepAlike, dep_alike}
use Rattle.repro_laws.proofs.GrowLemmas.{not_own_above, file_on_alike}
use Rattle.repro_laws.proofs.ParamLemmas.{reads_each, params_by_files}

pub record IsSeenIn (own : Path → Bool) (done : List Path) (s : Stage) : Type 0 where
  pub stage : IsStage s
  pub kept : IsKept own s
  pub deps : AllByRecursion (λ d. is_inside done d.path ≡ true → d.inside ≡ true) s.deps
  pub outs : AllByRecursion (λ o. is_inside done o.path ≡ false) s.made

-- ---- refusals that aren't due

pub first_same : {A : Type 0} (f g : A → Option Fault) (xs : List A) → AllByRecursion (λ x. g x ≡ f x) xs → first_of g xs ≡ first_of f xs
first_same f g [] all = refl
first_same f g (x ∷ xs) all =
    ap (λ o. first_fault o (first_of g xs)) all.0 ∙ ap (first_fault (f x)) (first_same f g xs all.1)

pub first_none : (a b : Option Fault) → first_fault a b ≡ None → (a ≡ None) × (b ≡ None)
first_none None b e = (refl, e)
first_none (Some f) b e = absurd (cc)

pub each_none : {A : Type 0} (f : A → Option Fault) (xs : List A) → first_of f xs ≡ None → AllByRecursion (λ x. f x ≡ None) xs
each_none f [] e = tt
each_none f (x ∷ xs) e =
    let parts = first_none (f x) (first_of f xs) e in
    (parts.0, each_none f xs parts.1)

dep_there : (name : List ℕ) (d : Dep) (v : Value) → refused_dep name d v ≡ None → is_nothing v ≡ false
dep_there name d nothing e = absurd (cc)
dep_there name d (content bytes) e = refl
dep_there name d (members m) e = refl

abbrev pub AreThere : Tree → Stage → Type 0
AreThere t s = AllByRecursion (λ d. is_nothing (dep_value t d) ≡ false) s.deps

pub deps_there : (s : Stage) (t : Tree) → IsStage s → see_fault s t ≡ None → AreThere t s
deps_there s t is e =
    let none = (first_none (deps_fault s t) (first_fault (fault_in (params_at s t)) (present_fault s t)) e).0 in
    let looks : AllByRecursion (λ d. is_nothing (dep_value t d) ≡ false) s.looks =
    each_on (λ d. refused_dep s.name d (dep_value t d) ≡ None) (λ d. is_nothing (dep_value t d) ≡ false) s.looks (λ d h. dep_there s.name d (dep_value t d) h) (each_none (λ d. refused_dep s.name d (dep_value t d)) s.looks none) in
    subst (AllByRecursion (λ (d : Dep). is_nothing (dep_value t d) ≡ false)) (sym is.deps) (each_ordered dep_text (λ d. is_nothing (dep_value t d) ≡ false) s.looks looks)

pub any_same : {A : Type 0} (f g : A → Bool) (xs : List A) → AllByRecursion (λ x. g x ≡ f x) xs → list_any g xs ≡ list_any f xs
any_same f g [] all = refl
any_same f g (x ∷ xs) all = ap (λ b. b || list_any g xs) all.0 ∙ ap (λ b. f x || b) (any_same f g xs all.1)

pub any_false : {A : Type 0} (f : A → Bool) (xs : List A) → list_any f xs ≡ false → AllByRecursion (λ x. f x ≡ false) xs
any_false f [] e = tt
any_false f (x ∷ xs) e = let parts = or_parts (f x) (list_any f xs) e in (parts.0, any_false f xs parts.1)

pub any_from : {A : Type 0} (f : A → Bool) (xs : List A) → AllByRecursion (λ x. f x ≡ false) xs → list_any f xs ≡ false
any_from f [] all = refl
any_from f (x ∷ xs) all = or_from (f x) (list_any f xs) all.0 (any_from f xs all.1)

-- ---- what the commands are given

pub given_same : (t u : Tree) (dir : Path) (ds : List Dep) → AllByRecursion (λ d. Names dir d.text d.path) ds → AllByRecursion (λ d. value_at u d.path ≡ value_at t d.path) ds → given_values u dir (map dep_text ds) ≡ given_values t dir (map dep_text ds)
given_same t u dir [] names all = refl
given_same t u dir (d ∷ ds) names all =
    let p : path_from dir d.text ≡ d.path = ap path_or_root names.0 in
    let same : value_at u (path_from dir d.text) ≡ value_at t (path_from dir d.text) =
    ap (value_at u) p ∙ all.0 ∙ sym (ap (value_at t) p) in
    ap (λ v. (d.text, v) ∷ given_values u dir (map dep_text ds)) same ∙ ap (λ vs. (d.text, value_at t (path_from dir d.text)) ∷ vs) (given_same t u dir ds names.1 all.1)

invocation_with : Stage → List ParamFile → List (List ℕ × Value) → Invocation
invocation_with s ps given = record { commands = s.commands; deps = given; params = canonical_files ps; outs = map out_text s.made }

pub invocation_same : (s : Stage) (ps : List ParamFile) (t u : Tree) → IsStage s → AllByRecursion (λ d. value_at u d.path ≡ value_at t d.path) s.deps → invocation_of (job_with s ps) u ≡ invocation_of (job_with s ps) t
unfolding invocation_with
invocation_same s ps t u is all = ap (invocation_with s ps) (given_same t u s.dir s.deps is.dep_names all)

seen_with : Stage → List ParamFile → List SeenPath → List SeenPath → Seen
seen_with s ps deps outs = record { commands = s.commands; deps = deps; params = canonical_files ps; outs = outs }

path_with : List ℕ → Value → SeenPath
path_with text v = record { path = text; named = named_of v }

-- ---- two trees

module _ (own : Path → Bool) (done : List Path) (s : Stage) (t u : Tree) (in' : IsSeenIn own done s) (alike : Alike own done t u) where
  pub deps_alike : AllByRecursion (IsDepAlike t u) s.deps
  deps_alike =
      each_two (λ d. IsApart own d.path) (λ d. is_inside done d.path ≡ true → d.inside ≡ true) (IsDepAlike t u) s.deps (λ d a m. dep_alike own done t u d alike a (a d.path (under-refl d.path)) m) (reads_each (IsApart own) s in'.kept.reads).0 in'.deps

  looks_alike : AllByRecursion (IsDepAlike t u) s.looks
  looks_alike =
      each_written dep_text (IsDepAlike t u) s.looks (subst (AllByRecursion (IsDepAlike t u)) in'.stage.deps deps_alike)

  pub outs_alike : AllByRecursion (λ o. value_at u o.path ≡ value_at t o.path) s.made
  outs_alike =
      each_two (λ o. IsApart own o.path) (λ o. is_inside done o.path ≡ false) (λ o. value_at u o.path ≡ value_at t o.path) s.made (λ o a m. value_alike own done t u o.path alike a m) (each_mapped out_path (IsApart own) s.made in'.kept.outs) in'.outs

  written_alike : AllByRecursion (λ o. value_at u o.path ≡ value_at t o.path) s.outs
  written_alike =
      each_written out_text (λ o. value_at u o.path ≡ value_at t o.path) s.outs (subst (AllByRecursion (λ (o : Out). value_at u o.path ≡ value_at t o.path)) in'.stage.made outs_alike)

  -- a file of parameters may lie inside an output: files are the same there as well
  pub params_alike : params_at s u ≡ params_at s t
  params_alike =
      params_by_files s t u (each_on (λ w. IsApart own w.path) (λ w. file_at u w.path ≡ file_at t w.path) s.params (λ w a. alike.files w.path (a w.path (under-refl w.path))) (reads_each (IsApart own) s in'.kept.reads).1)

  pub see_alike : see_fault s u ≡ see_fault s t
  see_alike =
      let deps : deps_fault s u ≡ deps_fault s t =
      first_same (λ d. refused_dep s.name d (dep_value t d)) (λ d. refused_dep s.name d (dep_value u d)) s.looks (each_on (IsDepAlike t u) (λ d. refused_dep s.name d (dep_value u d) ≡ refused_dep s.name d (dep_value t d)) s.looks (λ d h. ap (refused_dep s.name d) h.value) looks_alike) in
      let present : present_fault s u ≡ present_fault s t =
      first_same (λ o. limit_fault (value_at t o.path)) (λ o. limit_fault (value_at u o.path)) s.outs (each_on (λ o. value_at u o.path ≡ value_at t o.path) (λ o. limit_fault (value_at u o.path) ≡ limit_fault (value_at t o.path)) s.outs (λ o h. ap limit_fault h) written_alike) in
      ap (λ o. first_fault o (first_fault (fault_in (params_at s u)) (present_fault s u))) deps ∙ ap (λ o. first_fault (deps_fault s t) (first_fault (fault_in o) (present_fault s u))) params_alike ∙ ap (λ o. first_fault (deps_fault s t) (first_fault (fault_in (params_at s t)) o)) present

  seen_deps_alike : map (seen_dep u) s.deps ≡ map (seen_dep t) s.deps
  unfolding path_with
  seen_deps_alike =
      map_same (seen_dep t) (seen_dep u) s.deps (each_on (IsDepAlike t u) (λ d. seen_dep u d ≡ seen_dep t d) s.deps (λ d h. ap (path_with d.text) h.value) deps_alike)

  seen_outs_alike : map (seen_out u) s.made ≡ map (seen_out t) s.made
  unfolding path_with
  seen_outs_alike =
      map_same (seen_out t) (seen_out u) s.made (each_on (λ o. value_at u o.path ≡ value_at t o.path) (λ o. seen_out u o ≡ seen_out t o) s.made (λ o h. ap (path_with o.text) h) outs_alike)

  pub seen_alike : (ps : List ParamFile) → seen_at s ps u ≡ seen_at s ps t
  unfolding seen_with
  seen_alike ps =
      ap (λ ds. seen_with s ps ds (map (seen_out u) s.made)) seen_deps_alike ∙ ap (seen_with s ps (map (seen_dep t) s.deps)) seen_outs_alike

  pub entry_alike : (ps : List ParamFile) → entry_at s ps u ≡ entry_at s ps t
  entry_alike ps =
      ap (λ ds. entry_from s.commands ps (all_named ds) (all_named (map (seen_out u) s.made))) seen_deps_alike ∙ ap (λ os. entry_from s.commands ps (all_named (map (seen_dep t) s.deps)) (all_named os)) seen_outs_alike

  road_alike : IsOwn own → (p : Path) → own p ≡ false → road_fault u p ≡ road_fault t p
  road_alike area p k = ap (Rattle.std.specs.Prelude.option_map NotFolder) (file_on_alike own done area t u [] p alike k)

  pub way_alike : IsOwn own → way_fault s u ≡ way_fault s t
  way_alike area =
      let outs : AllByRecursion (λ o. IsApart own o.path) s.outs =
      each_written out_text (λ o. IsApart own o.path) s.outs (subst (AllByRecursion (λ (o : Out). IsApart own o.path)) in'.stage.made (each_mapped out_path (IsApart own) s.made in'.kept.outs)) in
      ap (λ o. first_fault o (first_of (λ o. road_fault u (parent o.path)) s.outs)) (road_alike area s.dir in'.kept.dir) ∙ ap (first_fault (road_fault t s.dir)) (first_same (λ o. road_fault t (parent o.path)) (λ o. road_fault u (parent o.path)) s.outs (each_on (λ o. IsApart own o.path) (λ o. road_fault u (parent o.path) ≡ road_fault t (parent o.path)) s.outs (λ o a. road_alike area (parent o.path) (not_own_above own done area (parent o.path) o.path (under_parent o.path) (a o.path (under-refl o.path)))) outs))

  pub raw_alike : AreThere t s → AllByRecursion (λ d. value_at u d.path ≡ value_at t d.path) s.deps
  raw_alike there =
      each_two (IsDepAlike t u) (λ d. is_nothing (dep_value t d) ≡ false) (λ d. value_at u d.path ≡ value_at t d.path) s.deps (λ d h k. h.raw k) deps_alike there

  pub invocation_alike : (ps : List ParamFile) → AreThere t s → invocation_of (job_with s ps) u ≡ invocation_of (job_with s ps) t
  invocation_alike ps there = invocation_same s ps t u in'.stage (raw_alike there)

  pub run_fault_alike : IsOwn own → (effect : Effect) (ps : List ParamFile) → AreThere t s → run_fault effect s ps u ≡ run_fault effect s ps t
  run_fault_alike area effect ps there =
      ap (λ o. first_fault o (outcome_fault s (effect (invocation_of (job_with s ps) u)))) (way_alike area) ∙ ap (λ i. first_fault (way_fault s t) (outcome_fault s (effect i))) (invocation_alike ps there)

  pub missing_alike : list_any (λ d. is_nothing (dep_value u d)) s.deps ≡ list_any (λ d. is_nothing (dep_value t d)) s.deps
  missing_alike =
      any_same (λ d. is_nothing (dep_value t d)) (λ d. is_nothing (dep_value u d)) s.deps (each_on (IsDepAlike t u) (λ d. is_nothing (dep_value u d) ≡ is_nothing (dep_value t d)) s.deps (λ d h. ap is_nothing h.value) deps_alike)

-- ---- the choice, where nothing is restored

unfoldable pub plain_choice : Flags → Stage → Seen → Lock → Choice × Option Entry
plain_choice flags s seen lock =
    cond (flags.force || s.always) (Run, None) (cond (is_same_as (entry_of lock s.name) seen) (Skip, None) (Run, None))

pub choice_plain : (flags : Flags) (s : Stage) (seen : Seen) (stored : Stored) (lock : Lock) → flags.run_cache ≡ false → choice_of flags s seen stored lock ≡ plain_choice flags s seen lock
unfolding plain_choice
choice_plain flags s seen stored lock e =
    ap (λ b. cond (flags.force || s.always) (Run, None) (cond (is_same_as (entry_of lock s.name) seen) (Skip, None) (cond b (restore_or_run (entry_to_restore stored s seen lock)) (Run, None)))) e

pub chosen_plain : (flags : Flags) (s : Stage) (st : Standing) → flags.run_cache ≡ false → chosen_in flags s st ≡ plain_choice flags s (seen_at s (params_in s st) st.tree) st.lock
chosen_plain flags s st e = choice_plain flags s (seen_at s (params_in s st) st.tree) st.stored st.lock e
