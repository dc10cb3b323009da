-- The folders that a run needs, and the look at them.
--     all_at, one_at          of an item at a place of a list
--     outs_not_root           no output is the root
--     way_roads, on_way       the roads of a stage, and what lies on one
--     on_itself, tells_here   what is told of a folder is told of the way on which it lies
--     made_at                 what is told of one of the outputs is told of them
use Rattle.std.proofs.Common.{◌≡◌, ◌≢◌, zero, suc, ℕ, ◌<◌, Bool, true, false, ◌||◌, List, [], ◌∷◌, ◌++◌, length, map, get_or, inl, inr, refl, sym, ap, subst, ◌∙◌, arith, Option, Some, None}
use Rattle.std.specs.List.{AllByRecursion, list_any}
use Rattle.std.proofs.lemmas.Bool.{false≢true, or_left, or_right, or_cases, and_parts}
use Rattle.dvc_base.specs.Path.{Path, under}
use Rattle.dvc_base.specs.declared.fault.Fault.{Fault}
use Rattle.dvc_base.specs.declared.fault.Fault.TheVariants.{NotFolder, MissingOutput}
use Rattle.dvc_base.proofs.PathLemmas.{under-refl, under-trans, under-append}
use Rattle.world_api.specs.Tree.{Tree}
use Rattle.world_api.specs.Calls.{parent, is_apart, are_apart}
use Rattle.repro_laws.specs.Stage.{out_path, out_text, stage_outs, IsStage}
use Rattle.repro_laws.specs.Refusals.{first_fault, first_of, road_fault, way_fault}
use Rattle.repro_laws.specs.Turns.{is_way}
use Rattle.repro_laws.specs.declared.stage.Out.{Out}
use Rattle.repro_laws.specs.declared.stage.Stage.{Stage}
use Rattle.repro_laws.proofs.AlikeLemmas.{each_written}
use Rattle.repro_laws.proofs.ListLemmas.{each_mapped}
use Rattle.repro_laws.proofs.RefusalLemmas.{any_in_order}
use Rattle.repro_laws.proofs.RoadLemmas.{apart_root}
use Rattle.repro_core.specs.Steps.{above_out}
use Rattle.repro_core.specs.Telling.{IsOneOf}
use Rattle.repro_core.specs.Ways.{is_on_any, roads_fault, TellsWay, TellsMade}

-- ---- an item of a list

pub all_at : {A : Type 0} (P : A → Type 0) (xs : List A) (i : ℕ) (x : A) → i < length xs → x ≡ get_or xs i x → AllByRecursion P xs → P x
all_at P [] i x l e all = absurd (omega arith)
all_at P (y ∷ ys) zero x l e all = subst P (sym e) all.0
all_at P (y ∷ ys) (suc i) x l e all = all_at P ys i x (omega arith) e all.1

pub any_at : {A : Type 0} (f : A → Bool) (xs : List A) (i : ℕ) (x : A) → i < length xs → x ≡ get_or xs i x → f x ≡ true → list_any f xs ≡ true
any_at f [] i x l e h = absurd (omega arith)
any_at f (y ∷ ys) zero x l e h = or_left (f y) (list_any f ys) (ap f (sym e) ∙ h)
any_at f (y ∷ ys) (suc i) x l e h = or_right (f y) (list_any f ys) (any_at f ys i x (omega arith) e h)

pub one_at : (os : List Out) (i : ℕ) (o : Out) → i < length os → o ≡ get_or os i o → IsOneOf (map out_path os) o.path
one_at [] i o l e = absurd (omega arith)
one_at (q ∷ qs) zero o l e = inl (ap out_path e)
one_at (q ∷ qs) (suc i) o l e = inr (one_at qs i o (omega arith) e)

-- ---- outputs

pub roots_apart : (ps : List Path) → are_apart ps ≡ true → AllByRecursion (λ p. p ≢ []) ps
roots_apart [] h = tt
roots_apart (p ∷ ps) h =
    let parts = and_parts (is_apart p ps) (are_apart ps) h in
    (apart_root p ps parts.0, roots_apart ps parts.1)

pub outs_not_root : (s : Stage) → IsStage s → AllByRecursion (λ o. o.path ≢ []) s.outs
outs_not_root s stage =
    each_written out_text (λ o. o.path ≢ []) s.outs (subst (AllByRecursion (λ (o : Out). o.path ≢ [])) stage.made (each_mapped out_path (λ p. p ≢ []) s.made (roots_apart (stage_outs s) stage.apart)))

-- ---- the roads of a stage

first_map : {A B : Type 0} (f : A → B) (fault : B → Option Fault) (xs : List A) → first_of fault (map f xs) ≡ first_of (λ x. fault (f x)) xs
first_map f fault [] = refl
first_map f fault (x ∷ xs) = ap (first_fault (fault (f x))) (first_map f fault xs)

pub way_roads : (s : Stage) (t : Tree) → roads_fault t (s.dir ∷ map above_out s.outs) ≡ way_fault s t
way_roads s t = ap (first_fault (road_fault t s.dir)) (first_map above_out (road_fault t) s.outs)

pub any_map : {A B : Type 0} (f : A → B) (test : B → Bool) (xs : List A) → list_any test (map f xs) ≡ list_any (λ x. test (f x)) xs
any_map f test [] = refl
any_map f test (x ∷ xs) = ap (λ b. test (f x) || b) (any_map f test xs)

pub on_way : (s : Stage) (q : Path) → IsStage s → is_on_any (s.dir ∷ map above_out s.outs) q ≡ is_way s q
on_way s q stage =
    let test : Out → Bool = λ o. under q (parent o.path) in
    ap (λ b. under q s.dir || b)
    (any_map above_out (under q) s.outs ∙ sym (any_in_order out_text test s.outs) ∙ ap (list_any test) (sym stage.made) ∙ sym (any_map out_path (λ p. under q (parent p)) s.made))

-- ---- what is told of a road

pub way_wider : (ps qs : List Path) (got : Option Fault) → ((q : Path) → is_on_any ps q ≡ true → is_on_any qs q ≡ true) → TellsWay ps got → TellsWay qs got
way_wider ps qs None f h = tt
way_wider ps qs (Some (NotFolder path)) f h = f path h
way_wider ps qs (Some _) f h = tt

on_one : (p q : Path) → under q p ≡ true → is_on_any (p ∷ []) q ≡ true
on_one p q u = or_left (under q p) false u

one_on : (p q : Path) → is_on_any (p ∷ []) q ≡ true → under q p ≡ true
one_on p q h =
    elim (or_cases (under q p) false h) [
      | inl u ↦ u
      | inr none ↦ absurd (false≢true none)
    ]

pub on_itself : (p q : Path) → q ≡ p → is_on_any (p ∷ []) q ≡ true
on_itself p q e = on_one p q (ap (λ (x : Path). under q x) (sym e) ∙ under-refl q)

pub tells_here : (here parts : Path) (got : Option Fault) → TellsWay (here ∷ []) got → TellsWay ((here ++ parts) ∷ []) got
tells_here here parts got h =
    way_wider (here ∷ []) ((here ++ parts) ∷ []) got (λ q on. on_one (here ++ parts) q (under-trans q here (here ++ parts) (one_on here q on) (under-append here parts))) h

-- ---- a missing output

only_one : (os : List Out) (o : Out) (path : Path) → IsOneOf (map out_path os) o.path → IsOneOf (map out_path (o ∷ [])) path → IsOneOf (map out_path os) path
only_one os o path there (inl e) = subst (IsOneOf (map out_path os)) (sym e) there
only_one os o path there (inr none) = absurd none

pub made_at : (name : List ℕ) (os : List Out) (i : ℕ) (o : Out) (got : Option Fault) → i < length os → o ≡ get_or os i o → TellsMade name (o ∷ []) got → TellsMade name os got
made_at name os i o None l e h = tt
made_at name os i o (Some (MissingOutput stage path)) l e h = (h.0, only_one os o path (one_at os i o l e) h.1)
made_at name os i o (Some _) l e h = tt
