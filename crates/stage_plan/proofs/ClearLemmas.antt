-- What is so of stages of which the graph refuses nothing.
--     none_both, none_each, none_mapped, none_found     of several refusals none is due
--     far               a path that overlaps nothing of the tool's own
--     IsClear s         a stage by itself: its texts are paths, which lie apart from what the tool keeps
--     AreClear ss       all of them: no two outputs overlap
--     owned_paths       the paths of all owners
--     are_clear         such are the stages of a plan
use Rattle.std.proofs.Common.{◌≡◌, ℕ, Bool, true, false, cond, List, [], ◌∷◌, ◌++◌, map, Option, Some, None, Result, Ok, Err, refl, ap, subst, ◌∙◌}
use Rattle.std.specs.Option.{option_or, option_map}
use Rattle.std.specs.List.{AllByRecursion, find, flat_map}
use Rattle.std.proofs.lemmas.List.{map-append}
use Rattle.dvc_base.specs.Path.{Path, under, overlap}
use Rattle.dvc_base.specs.Join.{join}
use Rattle.dvc_base.specs.declared.fault.Fault.{Fault}
use Rattle.dvc_base.specs.declared.fault.Fault.TheVariants as f
use Rattle.dvc_base.specs.declared.path.PathFault.{PathFault}
use Rattle.world_api.specs.Effect.{path_or_root, path_from}
use Rattle.world_api.specs.Layout.{dvc_path, lock_path, yaml_path}
use Rattle.stage_schema.specs.declared.stage.Out.{Out as WrittenOut}
use Rattle.stage_schema.specs.declared.stage.Stage.{Stage as Written}
use Rattle.stage_graph.specs.Clash.{clash_of, clash_with, clash_after, clash_fault, made_fault}
use Rattle.stage_graph.specs.Cycle.{cycle_fault}
use Rattle.stage_graph.specs.Fault.{first_of}
use Rattle.stage_graph.specs.Kept.{tool_paths, file_paths, near_fault, name_fault, dir_fault, var_fault, tool_fault, file_fault, reserved_fault}
use Rattle.stage_graph.specs.Paths.{stage_outs, needs, track_owners, stage_owners, owners_of_outs, owners, owner_paths}
use Rattle.stage_graph.specs.Texts.{join_fault, text_fault, track_texts, out_texts, need_texts, outside_fault}
use Rattle.stage_graph.specs.declared.owner.Owner.{Owner}
use Rattle.stage_graph.specs.declared.track.TrackFile.{TrackFile}
use Rattle.repro_laws.proofs.ListLemmas.{each_from, each_first, each_second}
use Rattle.stage_plan.specs.declared.sources.Sources.{Sources}
use Rattle.stage_plan.specs.Plan.{all_outs, plan_fault}
use Rattle.stage_plan.proofs.PairLemmas.{AllPairs, pairs_map, each_of_flat}
use Rattle.stage_plan.proofs.SchemaLemmas.{IsWritten}

-- ---- no refusal

some_is_none : {A : Type 0} (a : A) → Some a ≡ None → ⊥
some_is_none a e = cc

pub none_both : {A : Type 0} (a b : Option A) → option_or a b ≡ None → (a ≡ None) × (b ≡ None)
none_both None b h = (refl, h)
none_both (Some x) b h = absurd (some_is_none x h)

pub none_each : {A : Type 0} (fault : A → Option Fault) (xs : List A) → first_of fault xs ≡ None → AllByRecursion (λ x. fault x ≡ None) xs
none_each fault [] h = tt
none_each fault (x ∷ xs) h =
    let parts = none_both (fault x) (first_of fault xs) h in
    (parts.0, none_each fault xs parts.1)

pub none_mapped : {A B : Type 0} (g : A → B) (o : Option A) → option_map g o ≡ None → o ≡ None
none_mapped g None h = refl
none_mapped g (Some x) h = absurd (some_is_none (g x) h)

none_here : {A : Type 0} (b : Bool) (x : A) (rest : Option A) → cond b (Some x) rest ≡ None → (b ≡ false) × (rest ≡ None)
none_here true x rest h = absurd (some_is_none x h)
none_here false x rest h = (refl, h)

pub none_found : {A : Type 0} (t : A → Bool) (xs : List A) → find t xs ≡ None → AllByRecursion (λ x. t x ≡ false) xs
none_found t [] h = tt
none_found t (x ∷ xs) h =
    let parts = none_here (t x) x (find t xs) h in
    (parts.0, none_found t xs parts.1)

-- ---- one stage

-- a path lies apart from what is the tool's own
pub record IsFar (p : Path) : Type 0 where
  pub dvc : overlap dvc_path p ≡ false
  pub lock : overlap lock_path p ≡ false

abbrev pub IsNamed : Path → List ℕ → Type 0
IsNamed dir text = join dir text ≡ Ok (path_from dir text)

pub record IsClear (s : Written) : Type 0 where
  pub written : IsWritten s
  pub deps : AllByRecursion (IsNamed s.dir) s.deps
  pub outs : AllByRecursion (λ out. IsNamed s.dir out.path) s.outs
  pub dir_dvc : under dvc_path s.dir ≡ false
  pub dir_lock : under lock_path s.dir ≡ false
  pub reads : AllByRecursion IsFar (needs s)
  pub makes : AllByRecursion IsFar (stage_outs s)
  pub yaml : AllByRecursion (λ p. overlap yaml_path p ≡ false) (stage_outs s)

named : (text : List ℕ) (r : Result Path PathFault) → join_fault text r ≡ None → r ≡ Ok (path_or_root r)
named text (Ok p) h = refl
named text (Err why) h = absurd (some_is_none (f.Outside text why) h)

pub far : (p : Path) → near_fault tool_paths p ≡ None → IsFar p
far p h =
    let all = none_found (λ q. overlap q p) tool_paths (none_mapped (f.Reserved p) (find (λ q. overlap q p) tool_paths) h) in
    record { dvc = all.0; lock = all.1.0 }

-- what is apart from all the files that the tool reads
abbrev IsApart : Sources → Path → Type 0
IsApart sources p = near_fault (file_paths sources.tracks sources.ignores) p ≡ None

far_yaml : (sources : Sources) (p : Path) → IsApart sources p → overlap yaml_path p ≡ false
far_yaml sources p h =
    let files = file_paths sources.tracks sources.ignores in
    (none_found (λ q. overlap q p) files (none_mapped (f.Reserved p) (find (λ q. overlap q p) files) h)).0

clear : (sources : Sources) (s : Written) → IsWritten s → out_texts s ≡ None → need_texts s ≡ None → dir_fault s ≡ None → first_of (near_fault tool_paths) (needs s) ≡ None →
    AllByRecursion (λ p. near_fault tool_paths p ≡ None) (stage_outs s) → AllByRecursion (IsApart sources) (stage_outs s) → IsClear s
clear sources s written outs need dir read makes files =
    let texts = none_both (first_of (text_fault s.dir) s.deps) (first_of (λ want. text_fault s.dir want.file) s.params) need in
    let around = none_found (λ kept. under kept s.dir) tool_paths (none_mapped (f.Reserved s.dir) (find (λ kept. under kept s.dir) tool_paths) dir) in
    record {
      written = written;
      deps = each_from (λ t. text_fault s.dir t ≡ None) (IsNamed s.dir) s.deps (λ t h. named t (join s.dir t) h) (none_each (text_fault s.dir) s.deps texts.0);
      outs = each_from (λ (out : WrittenOut). text_fault s.dir out.path ≡ None) (λ (out : WrittenOut). IsNamed s.dir out.path) s.outs (λ out h. named out.path (join s.dir out.path) h)
          (none_each (λ (out : WrittenOut). text_fault s.dir out.path) s.outs outs);
      dir_dvc = around.0;
      dir_lock = around.1.0;
      reads = each_from (λ p. near_fault tool_paths p ≡ None) IsFar (needs s) far (none_each (near_fault tool_paths) (needs s) read);
      makes = each_from (λ p. near_fault tool_paths p ≡ None) IsFar (stage_outs s) far makes;
      yaml = each_from (IsApart sources) (λ p. overlap yaml_path p ≡ false) (stage_outs s) (far_yaml sources) files;
    }

-- ---- all of them

abbrev pub AreFree : Path → Path → Type 0
AreFree p q = overlap p q ≡ false

pub record AreClear (ss : List Written) : Type 0 where
  pub each : AllByRecursion IsClear ss
  pub apart : AllPairs AreFree (all_outs ss)

paths_of_outs : (dir : Path) (name : List ℕ) (outs : List WrittenOut) → owner_paths (owners_of_outs dir name outs) ≡ map (λ out. path_from dir out.path) outs
paths_of_outs dir name [] = refl
paths_of_outs dir name (out ∷ outs) = ap (λ (ps : List Path). path_from dir out.path ∷ ps) (paths_of_outs dir name outs)

owner_path : Owner → Path
owner_path o = o.path

all_paths : (ss : List Written) → owner_paths (flat_map stage_owners ss) ≡ all_outs ss
all_paths [] = refl
all_paths (s ∷ ss) =
    map-append (λ (o : Owner). o.path) (stage_owners s) (flat_map stage_owners ss)
    ∙ ap (λ (ps : List Path). ps ++ owner_paths (flat_map stage_owners ss)) (paths_of_outs s.dir s.name s.outs)
    ∙ ap (λ (ps : List Path). stage_outs s ++ ps) (all_paths ss)

-- the outputs of the stages stand behind the outs of the tracks
pub owned_paths : (tracks : List TrackFile) (ss : List Written) → owner_paths (owners ss tracks) ≡ owner_paths (flat_map track_owners tracks) ++ all_outs ss
owned_paths tracks ss =
    map-append (λ (o : Owner). o.path) (flat_map track_owners tracks) (flat_map stage_owners ss)
    ∙ ap (λ (ps : List Path). owner_paths (flat_map track_owners tracks) ++ ps) (all_paths ss)

of_stages : (P : Path → Type 0) (tracks : List TrackFile) (ss : List Written) → AllByRecursion P (owner_paths (owners ss tracks)) → AllByRecursion P (all_outs ss)
of_stages P tracks ss h = each_second P (owner_paths (flat_map track_owners tracks)) (all_outs ss) (subst (AllByRecursion P) (owned_paths tracks ss) h)

pairs_second : {A : Type 0} (R : A → A → Type 0) (xs ys : List A) → AllPairs R (xs ++ ys) → AllPairs R ys
pairs_second R [] ys h = h
pairs_second R (x ∷ xs) ys h = pairs_second R xs ys h.1

-- two owners whose paths don't overlap
abbrev Apart : Owner → Owner → Type 0
Apart a b = overlap a.path b.path ≡ false

-- each of the later owners is apart from the earlier ones
abbrev AreApartFrom : List Owner → List Owner → Type 0
AreApartFrom earlier later = AllByRecursion (λ o. AllByRecursion (λ first. Apart first o) earlier) later

without_last : (earlier : List Owner) (o : Owner) (later : List Owner) → AreApartFrom (earlier ++ o ∷ []) later → AreApartFrom earlier later × AllByRecursion (Apart o) later
without_last earlier o [] h = (tt, tt)
without_last earlier o (x ∷ later) h =
    let rest = without_last earlier o later h.1 in (
      (each_first (λ first. Apart first x) earlier (o ∷ []) h.0, rest.0),
      ((each_second (λ first. Apart first x) earlier (o ∷ []) h.0).0, rest.1),
    )

clash_pairs : (earlier later : List Owner) → clash_after earlier later ≡ None → AreApartFrom earlier later × AllPairs Apart later
clash_pairs earlier [] h = (tt, tt)
clash_pairs earlier (o ∷ later) h =
    let parts = none_both (clash_with earlier o) (clash_after (earlier ++ o ∷ []) later) h in
    let first : Option Owner = find (λ (x : Owner). overlap x.path o.path) earlier in
    let here = none_found (λ (x : Owner). overlap x.path o.path) earlier (none_mapped (λ (x : Owner). clash_of x o) first parts.0) in
    let rest = clash_pairs (earlier ++ o ∷ []) later parts.1 in
    let back = without_last earlier o later rest.0 in
    ((here, back.0), (back.1, rest.1))

all_clear : (sources : Sources) (ss : List Written) → AllByRecursion IsWritten ss → AllByRecursion (λ s. out_texts s ≡ None) ss → AllByRecursion (λ s. need_texts s ≡ None) ss →
    AllByRecursion (λ s. dir_fault s ≡ None) ss → AllByRecursion (λ s. first_of (near_fault tool_paths) (needs s) ≡ None) ss →
    AllByRecursion (λ s. AllByRecursion (λ p. near_fault tool_paths p ≡ None) (stage_outs s)) ss →
    AllByRecursion (λ s. AllByRecursion (IsApart sources) (stage_outs s)) ss → AllByRecursion IsClear ss
all_clear sources [] a c d e g h i = tt
all_clear sources (s ∷ ss) a c d e g h i = (clear sources s a.0 c.0 d.0 e.0 g.0 h.0 i.0, all_clear sources ss a.1 c.1 d.1 e.1 g.1 h.1 i.1)

pub are_clear : (sources : Sources) (vars : List Path) (ss : List Written) → AllByRecursion IsWritten ss → plan_fault sources vars ss ≡ None → AreClear ss
are_clear sources vars ss written h =
    let tracks : List TrackFile = sources.tracks in
    let tracked : List Path = owner_paths (flat_map track_owners tracks) in
    let a : Option Fault = outside_fault ss tracks in
    let owned : List Path = owner_paths (owners ss tracks) in
    let b : Option Fault = reserved_fault owned ss tracks vars sources.ignores in
    let c : Option Fault = clash_fault (owners ss tracks) in
    let d : Option Fault = made_fault ss vars in
    let e : Option Fault = cycle_fault ss in
    let pa = none_both a (option_or b (option_or c (option_or d (option_or e None)))) h in
    let pb = none_both b (option_or c (option_or d (option_or e None))) pa.1 in
    let pc = none_both c (option_or d (option_or e None)) pb.1 in
    let pd = none_both d (option_or e None) pc.1 in
    let outside = none_both (first_of track_texts tracks) (option_or (first_of out_texts ss) (first_of need_texts ss)) pa.0 in
    let texts = none_both (first_of out_texts ss) (first_of need_texts ss) outside.1 in
    let names : Option Fault = first_of name_fault owned in
    let dirs : Option Fault = first_of dir_fault ss in
    let read : Option Fault = first_of (var_fault tracks) vars in
    let tool = none_both (tool_fault owned ss) (option_or (file_fault tracks sources.ignores owned) (option_or names (option_or dirs read))) pb.0 in
    let files = none_both (file_fault tracks sources.ignores owned) (option_or names (option_or dirs read)) tool.1 in
    let named = none_both names (option_or dirs read) files.1 in
    let dir = none_both dirs read named.1 in
    let owner = none_both (first_of (near_fault tool_paths) owned) (first_of (λ s. first_of (near_fault tool_paths) (needs s)) ss) tool.0 in
    let makes = of_stages (λ (p : Path). near_fault tool_paths p ≡ None) tracks ss (none_each (near_fault tool_paths) owned owner.0) in
    let kept = of_stages (IsApart sources) tracks ss (none_each (near_fault (file_paths tracks sources.ignores)) owned files.0) in
    record {
      each = all_clear sources ss written (none_each out_texts ss texts.0) (none_each need_texts ss texts.1) (none_each dir_fault ss dir.0)
          (none_each (λ (s : Written). first_of (near_fault tool_paths) (needs s)) ss owner.1)
          (each_of_flat stage_outs (λ p. near_fault tool_paths p ≡ None) ss makes)
          (each_of_flat stage_outs (IsApart sources) ss kept);
      apart = pairs_second AreFree tracked (all_outs ss)
          (subst (AllPairs AreFree) (owned_paths tracks ss) (pairs_map (λ (o : Owner). o.path) AreFree (owners ss tracks) (clash_pairs [] (owners ss tracks) pc.0).1));
    }
