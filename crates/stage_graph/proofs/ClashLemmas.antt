-- The first owner that overlaps one, among all and among the earlier ones.
--     found_before, none_before      the first place before a bound, or none
--     owner_place                    the place among the paths is that among the owners
--     clash_none, clash_told         the fault of the owners that are left, one step on
use Rattle.std.proofs.Common.{◌≡◌, ℕ, zero, suc, ◌+◌, ◌-◌, ◌<◌, ◌≤◌, Bool, cond, List, [], ◌∷◌, ◌++◌, length, take, drop, get_or, Option, Some, None, refl, sym, ap, ◌∙◌, arith}
use Rattle.std.specs.Option.{option_map}
use Rattle.std.specs.List.{find, position_from}
use Rattle.std.proofs.lemmas.Bool.{cases_Bool}
use Rattle.std.proofs.lemmas.List.{drop_more, take_more}
use Rattle.dvc_base.specs.Path.{Path, overlap}
use Rattle.dvc_base.specs.declared.fault.Fault.{Fault}
use Rattle.path_index.specs.Overlap.{first_overlap}
use Rattle.stage_order.proofs.NumberLemmas.{either}
use Rattle.stage_graph.specs.Clash.{clash_of, clash_with, clash_after}
use Rattle.stage_graph.specs.Paths.{owner_paths}
use Rattle.stage_graph.specs.declared.owner.Owner.{Owner}
use Rattle.stage_graph.proofs.FaultLemmas.{IsTold, after_none, due_same, due_first}

-- ---- places

some_same : (a b : ℕ) → Some a ≡ Some b → a ≡ b
some_same a b e = cc

none_some : (a : ℕ) → None ≡ Some a → ⊥
none_some a e = cc

place_from : {A : Type 0} (t : A → Bool) (xs : List A) (k f : ℕ) → position_from t k xs ≡ Some f → k ≤ f
place_from t [] k f e = absurd (none_some f e)
place_from t (x ∷ xs) k f e = either (cases_Bool (t x))
    (λ met. let same : k ≡ f = some_same k f (sym (ap (λ (b : Bool). cond b (Some k) (position_from t (k + 1) xs)) met) ∙ e) in omega arith)
    (λ unmet. let further : k + 1 ≤ f = place_from t xs (k + 1) f (sym (ap (λ (b : Bool). cond b (Some k) (position_from t (k + 1) xs)) unmet) ∙ e) in omega arith)

found_in : {A : Type 0} (t : A → Bool) (xs : List A) (k f m : ℕ) (d : A) → position_from t k xs ≡ Some f → f < k + m → find t (take m xs) ≡ Some (get_or xs (f - k) d)
found_in t [] k f m d e below = absurd (none_some f e)
found_in t (x ∷ xs) k f zero d e below = let from : k ≤ f = place_from t (x ∷ xs) k f e in absurd (omega arith)
found_in t (x ∷ xs) k f (suc m) d e below = either (cases_Bool (t x))
    (λ met. let same : k ≡ f = some_same k f (sym (ap (λ (b : Bool). cond b (Some k) (position_from t (k + 1) xs)) met) ∙ e) in
    let nothing : f - k ≡ 0 = omega arith in
    ap (λ (b : Bool). cond b (Some x) (find t (take m xs))) met ∙ ap (λ (i : ℕ). Some (get_or (x ∷ xs) i d)) (sym nothing))
    (λ unmet. let later : position_from t (k + 1) xs ≡ Some f = sym (ap (λ (b : Bool). cond b (Some k) (position_from t (k + 1) xs)) unmet) ∙ e in
    let further : k + 1 ≤ f = place_from t xs (k + 1) f later in
    let back : f - k ≡ suc (f - (k + 1)) = omega arith in
    ap (λ (b : Bool). cond b (Some x) (find t (take m xs))) unmet
    ∙ found_in t xs (k + 1) f m d later (omega arith) ∙ ap (λ (i : ℕ). Some (get_or (x ∷ xs) i d)) (sym back))

none_in : {A : Type 0} (t : A → Bool) (xs : List A) (k f m : ℕ) → position_from t k xs ≡ Some f → k + m ≤ f → find t (take m xs) ≡ None
none_in t xs k f zero e past = refl
none_in t [] k f (suc m) e past = refl
none_in t (x ∷ xs) k f (suc m) e past = either (cases_Bool (t x))
    (λ met. let same : k ≡ f = some_same k f (sym (ap (λ (b : Bool). cond b (Some k) (position_from t (k + 1) xs)) met) ∙ e) in absurd (omega arith))
    (λ unmet. ap (λ (b : Bool). cond b (Some x) (find t (take m xs))) unmet
    ∙ none_in t xs (k + 1) f m (sym (ap (λ (b : Bool). cond b (Some k) (position_from t (k + 1) xs)) unmet) ∙ e) (omega arith))

none_at_all : {A : Type 0} (t : A → Bool) (xs : List A) (k m : ℕ) → position_from t k xs ≡ None → find t (take m xs) ≡ None
none_at_all t xs k zero e = refl
none_at_all t [] k (suc m) e = refl
none_at_all t (x ∷ xs) k (suc m) e = either (cases_Bool (t x))
    (λ met. absurd (none_some k (sym e ∙ ap (λ (b : Bool). cond b (Some k) (position_from t (k + 1) xs)) met)))
    (λ unmet. ap (λ (b : Bool). cond b (Some x) (find t (take m xs))) unmet
    ∙ none_at_all t xs (k + 1) m (sym (ap (λ (b : Bool). cond b (Some k) (position_from t (k + 1) xs)) unmet) ∙ e))

-- ---- owners

abbrev over : Path → Owner → Bool
over p o = overlap o.path p

pub owner_place : (p : Path) (k : ℕ) (os : List Owner) → position_from (λ q. overlap q p) k (owner_paths os) ≡ position_from (λ o. overlap o.path p) k os
owner_place p k [] = refl
owner_place p k (o ∷ os) = ap (λ (later : Option ℕ). cond (overlap o.path p) (Some k) later) (owner_place p (k + 1) os)

pub found_before : (os : List Owner) (o : Owner) (f m : ℕ) (d : Owner) → first_overlap (owner_paths os) o.path ≡ Some f → f < m →
    clash_with (take m os) o ≡ Some (clash_of (get_or os f d) o)
found_before os o f m d e below =
    ap (option_map (λ first. clash_of first o)) (found_in (over o.path) os 0 f m d (sym (owner_place o.path 0 os) ∙ e) (omega (arith, below)))
    ∙ ap (λ (i : ℕ). Some (clash_of (get_or os i d) o)) (all f)
  where
    all : (n : ℕ) → n - 0 ≡ n
    all n = omega arith

pub none_before : (os : List Owner) (o : Owner) (f m : ℕ) → first_overlap (owner_paths os) o.path ≡ Some f → m ≤ f → clash_with (take m os) o ≡ None
none_before os o f m e past =
    ap (option_map (λ first. clash_of first o)) (none_in (over o.path) os 0 f m (sym (owner_place o.path 0 os) ∙ e) (omega (arith, past)))

pub none_found : (os : List Owner) (o : Owner) (m : ℕ) → first_overlap (owner_paths os) o.path ≡ None → clash_with (take m os) o ≡ None
none_found os o m e =
    ap (option_map (λ first. clash_of first o)) (none_at_all (over o.path) os 0 m (sym (owner_place o.path 0 os) ∙ e))

pub clash_none : (os : List Owner) (i : ℕ) (d : Owner) → i < length os → clash_with (take i os) (get_or os i d) ≡ None →
    clash_after (take i os) (drop i os) ≡ clash_after (take (i + 1) os) (drop (i + 1) os)
clash_none os i d inside none =
    ap (clash_after (take i os)) (drop_more os i d inside)
    ∙ after_none (clash_with (take i os) (get_or os i d)) (clash_after (take i os ++ get_or os i d ∷ []) (drop (i + 1) os)) none
    ∙ ap (λ (earlier : List Owner). clash_after earlier (drop (i + 1) os)) (sym (take_more os i d inside))

pub clash_told : (os : List Owner) (i : ℕ) (d : Owner) (fault : Fault) → i < length os → IsTold (clash_with (take i os) (get_or os i d)) fault →
    IsTold (clash_after (take i os) (drop i os)) fault
clash_told os i d fault inside h =
    due_same (clash_after (take i os) (get_or os i d ∷ drop (i + 1) os)) (clash_after (take i os) (drop i os)) fault
    (ap (clash_after (take i os)) (drop_more os i d inside))
    (due_first (clash_with (take i os) (get_or os i d)) (clash_after (take i os ++ get_or os i d ∷ []) (drop (i + 1) os)) fault h)
