-- The stages above one, found among all outputs.
--     or_assoc                       three tests
--     stage_some, stage_none         the stage at a place
--     stages_more                    the stages at one more place
--     makers_found                   the stages at the places that overlap a path are its makers
--     above_none, above_found        the stages above a frozen stage, and above another
use Rattle.std.proofs.Common.{◌≡◌, ℕ, suc, ◌+◌, ◌<◌, ◌≤◌, Bool, true, false, not, ◌&&◌, ◌||◌, ◌==◌, cond, List, [], ◌∷◌, ◌++◌, length, map, Option, Some, None, refl, sym, ap, ◌∙◌, subst, arith, append_assoc, slice_get, get_or, take}
use Rattle.std.specs.Option.{option_map}
use Rattle.std.specs.List.{list_any, cons_option}
use Rattle.std.specs.List.Sorted.{IsStrictlySortedBy}
use Rattle.std.specs.BTreeSet.{insert_key}
use Rattle.std.specs.Ordering.{nat_cmp}
use Rattle.std.specs.declared.cmp.Ordering.TheVariants.{Less}
use Rattle.std.proofs.lemmas.Bool.{cases_Bool, or_cases, or_left, and_parts, eqb-true, eq-eqb, false≢true, false_from_ne_true}
use Rattle.std.proofs.lemmas.List.{length-append, take_more}
use Rattle.std.proofs.lemmas.List.Elements.{All-from_recursion, filter_map-append}
use Rattle.std.proofs.lemmas.List.Folds.{list_any-append}
use Rattle.std.proofs.lemmas.Map.Keys.{sorted_head, sorted_tail}
use Rattle.dvc_base.specs.Path.{Path, overlap}
use Rattle.path_index.specs.Overlap.{places, places_from, overlapping}
use Rattle.stage_order.specs.Order.{is_in}
use Rattle.stage_order.proofs.NumberLemmas.{either, or_false, in_insert, above_all}
use Rattle.stage_schema.specs.declared.stage.Out.{Out}
use Rattle.stage_schema.specs.declared.stage.Stage.{Stage}
use Rattle.world_api.specs.Effect.{path_from}
use Rattle.stage_graph.specs.Makers.{is_maker, stages_at}
use Rattle.stage_graph.specs.Paths.{outputs, outputs_in, outputs_of, outputs_from, output_paths, needs, makes, is_above}
use Rattle.stage_graph.specs.declared.output.Output.{Output}

-- ---- the stages at places

pub or_assoc : (a b c : Bool) → ((a || b) || c) ≡ (a || (b || c))
or_assoc true b c = refl
or_assoc false b c = refl

pub stage_some : (made : List Output) (place n : ℕ) (o : Output) (old now : List ℕ) → slice_get made place ≡ Some o → now ≡ insert_key nat_cmp old o.stage →
    is_in now n ≡ (is_in old n || is_in (stages_at made (place ∷ [])) n)
stage_some made place n o old now there same =
    ap (λ (ks : List ℕ). is_in ks n) same ∙ in_insert old o.stage n
    ∙ turned (o.stage == n) (is_in old n)
    ∙ ap (λ (p : Option Output). is_in old n || is_in (cons_option (option_map (λ q. q.stage) p) []) n) (sym there)
  where
    turned : (a b : Bool) → (a || b) ≡ (b || (a || false))
    turned true true = refl
    turned true false = refl
    turned false true = refl
    turned false false = refl

pub stage_none : (made : List Output) (place n : ℕ) (old : List ℕ) → slice_get made place ≡ None →
    is_in old n ≡ (is_in old n || is_in (stages_at made (place ∷ [])) n)
stage_none made place n old missing =
    sym (or_false (is_in old n)) ∙ ap (λ (p : Option Output). is_in old n || is_in (cons_option (option_map (λ q. q.stage) p) []) n) (sym missing)

pub stages_more : (made : List Output) (places : List ℕ) (i n : ℕ) → i < length places →
    is_in (stages_at made (take (i + 1) places)) n ≡ (is_in (stages_at made (take i places)) n || is_in (stages_at made (get_or places i 0 ∷ [])) n)
stages_more made places i n inside =
    ap (λ (ps : List ℕ). is_in (stages_at made ps) n) (take_more places i 0 inside)
    ∙ ap (λ (ns : List ℕ). is_in ns n) (filter_map-append (λ place. option_map (λ o. o.stage) (slice_get made place)) (take i places) (get_or places i 0 ∷ []))
    ∙ list_any-append (λ m. m == n) (stages_at made (take i places)) (stages_at made (get_or places i 0 ∷ []))

get_behind : (pre : List Output) (x : Output) (xs : List Output) → slice_get (pre ++ x ∷ xs) (length pre) ≡ Some x
get_behind [] x xs = refl
get_behind (p ∷ pre) x xs = get_behind pre x xs

-- the stage of x, behind others, is among those at the places where x passes the test
stage_behind : (t : Path → Bool) (n : ℕ) (pre : List Output) (x : Output) (xs : List Output) →
    is_in (stages_at (pre ++ x ∷ xs) (places_from t (suc (length pre)) (output_paths xs))) n ≡ list_any (λ (o : Output). t o.path && (o.stage == n)) xs →
    is_in (stages_at (pre ++ x ∷ xs) (places_from t (length pre) (output_paths (x ∷ xs)))) n ≡ list_any (λ (o : Output). t o.path && (o.stage == n)) (x ∷ xs)
stage_behind t n pre x xs later = either (cases_Bool (t x.path))
    (λ met. ap (λ (b : Bool). is_in (stages_at all (cond b (length pre ∷ rest) rest)) n) met
    ∙ ap (λ (o : Option Output). is_in (cons_option (option_map (λ p. p.stage) o) (stages_at all rest)) n) (get_behind pre x xs)
    ∙ ap (λ (b : Bool). (x.stage == n) || b) later
    ∙ ap (λ (b : Bool). (b && (x.stage == n)) || list_any (λ (o : Output). t o.path && (o.stage == n)) xs) (sym met))
    (λ unmet. ap (λ (b : Bool). is_in (stages_at all (cond b (length pre ∷ rest) rest)) n) unmet
    ∙ later
    ∙ ap (λ (b : Bool). (b && (x.stage == n)) || list_any (λ (o : Output). t o.path && (o.stage == n)) xs) (sym unmet))
  where
    all : List Output
    all = pre ++ x ∷ xs

    rest : List ℕ
    rest = places_from t (suc (length pre)) (output_paths xs)

stages_behind : (t : Path → Bool) (n : ℕ) (pre xs : List Output) →
    is_in (stages_at (pre ++ xs) (places_from t (length pre) (output_paths xs))) n ≡ list_any (λ (o : Output). t o.path && (o.stage == n)) xs
stages_behind t n pre [] = refl
stages_behind t n pre (x ∷ xs) =
    let later : is_in (stages_at (pre ++ x ∷ xs) (places_from t (suc (length pre)) (output_paths xs))) n ≡ list_any (λ (o : Output). t o.path && (o.stage == n)) xs =
    ap (λ (m : ℕ). is_in (stages_at (pre ++ x ∷ xs) (places_from t m (output_paths xs))) n) (sym longer)
    ∙ ap (λ (os : List Output). is_in (stages_at os (places_from t (length (pre ++ x ∷ [])) (output_paths xs))) n) (sym (append_assoc pre (x ∷ []) xs))
    ∙ stages_behind t n (pre ++ x ∷ []) xs in
    stage_behind t n pre x xs later
  where
    longer : length (pre ++ x ∷ []) ≡ suc (length pre)
    longer = length-append pre (x ∷ []) ∙ one (length pre)
      where
        one : (m : ℕ) → m + 1 ≡ suc m
        one m = omega arith

pub makers_found : (made : List Output) (need : Path) (n : ℕ) → is_in (stages_at made (overlapping (output_paths made) need)) n ≡ is_maker made need n
makers_found made need n = stages_behind (λ q. overlap q need) n [] made

-- ---- tests of several paths

any_or : (p q : Path → Bool) (xs : List Path) → list_any (λ x. p x || q x) xs ≡ (list_any p xs || list_any q xs)
any_or p q [] = refl
any_or p q (x ∷ xs) = ap (λ (b : Bool). (p x || q x) || b) (any_or p q xs) ∙ crossed (p x) (q x) (list_any p xs) (list_any q xs)
  where
    crossed : (a b c d : Bool) → ((a || b) || (c || d)) ≡ ((a || c) || (b || d))
    crossed true b c d = refl
    crossed false true true d = refl
    crossed false true false d = refl
    crossed false false true d = refl
    crossed false false false d = refl

any_and : (a : Bool) (p : Path → Bool) (xs : List Path) → list_any (λ x. a && p x) xs ≡ (a && list_any p xs)
any_and true p xs = refl
any_and false p [] = refl
any_and false p (x ∷ xs) = any_and false p xs

any_same : (p q : Path → Bool) → ((x : Path) → p x ≡ q x) → (xs : List Path) → list_any p xs ≡ list_any q xs
any_same p q same [] = refl
any_same p q same (x ∷ xs) = ap (λ (b : Bool). b || list_any p xs) (same x) ∙ ap (λ (b : Bool). q x || b) (any_same p q same xs)

any_none : (xs : List Path) → list_any (λ x. false) xs ≡ false
any_none [] = refl
any_none (x ∷ xs) = any_none xs

-- ---- the makers by their stages

maker_of : (dir : Path) (outs : List Out) (k n : ℕ) (need : Path) →
    is_maker (outputs_in k dir outs) need n
    ≡ ((k == n) && list_any (λ q. overlap q need) (map (λ (out : Out). path_from dir out.path) outs))
maker_of dir [] k n need = sym (and_false (k == n))
  where
    and_false : (a : Bool) → (a && false) ≡ false
    and_false true = refl
    and_false false = refl
maker_of dir (out ∷ outs) k n need =
    ap (λ (b : Bool). (overlap (path_from dir out.path) need && (k == n)) || b) (maker_of dir outs k n need)
    ∙ shared (overlap (path_from dir out.path) need) (k == n) (list_any (λ q. overlap q need) (map (λ (o : Out). path_from dir o.path) outs))
  where
    shared : (a b c : Bool) → ((a && b) || (b && c)) ≡ (b && (a || c))
    shared true true c = refl
    shared true false c = refl
    shared false true c = refl
    shared false false c = refl

maker_in : (k n : ℕ) (s : Stage) (ss : List Stage) (need : Path) →
    is_maker (outputs_from k (s ∷ ss)) need n ≡ (((k == n) && makes s need) || is_maker (outputs_from (suc k) ss) need n)
maker_in k n s ss need =
    list_any-append (λ (o : Output). overlap o.path need && (o.stage == n)) (outputs_of k s) (outputs_from (suc k) ss)
    ∙ ap (λ (b : Bool). b || is_maker (outputs_from (suc k) ss) need n) (maker_of s.dir s.outs k n need)

in_places : {A : Type 0} (t : A → Bool) (k n : ℕ) (x : A) (xs : List A) →
    is_in (places_from t k (x ∷ xs)) n ≡ (((k == n) && t x) || is_in (places_from t (suc k) xs) n)
in_places t k n x xs = either (cases_Bool (t x))
    (λ met. ap (λ (b : Bool). is_in (cond b (k ∷ rest) rest) n) met ∙ ap (λ (b : Bool). b || is_in rest n) (sym (and_true (k == n)))
    ∙ ap (λ (b : Bool). ((k == n) && b) || is_in rest n) (sym met))
    (λ unmet. ap (λ (b : Bool). is_in (cond b (k ∷ rest) rest) n) unmet ∙ ap (λ (b : Bool). b || is_in rest n) (sym (and_false (k == n)))
    ∙ ap (λ (b : Bool). ((k == n) && b) || is_in rest n) (sym unmet))
  where
    rest : List ℕ
    rest = places_from t (suc k) xs

    and_true : (a : Bool) → (a && true) ≡ a
    and_true true = refl
    and_true false = refl

    and_false : (a : Bool) → (a && false) ≡ false
    and_false true = refl
    and_false false = refl

makers_by_stage : (ps : List Path) (k n : ℕ) (ss : List Stage) →
    list_any (λ need. is_maker (outputs_from k ss) need n) ps ≡ is_in (places_from (λ a. list_any (makes a) ps) k ss) n
makers_by_stage ps k n [] = any_none ps
makers_by_stage ps k n (s ∷ ss) =
    any_same (λ need. is_maker (outputs_from k (s ∷ ss)) need n) (λ need. ((k == n) && makes s need) || is_maker (outputs_from (suc k) ss) need n) (maker_in k n s ss) ps
    ∙ any_or (λ need. (k == n) && makes s need) (λ need. is_maker (outputs_from (suc k) ss) need n) ps
    ∙ ap (λ (b : Bool). b || list_any (λ need. is_maker (outputs_from (suc k) ss) need n) ps) (any_and (k == n) (makes s) ps)
    ∙ ap (λ (b : Bool). ((k == n) && list_any (makes s) ps) || b) (makers_by_stage ps (suc k) n ss)
    ∙ sym (in_places (λ a. list_any (makes a) ps) k n s ss)

-- ---- numbers in order

-- each number is less than those behind it
abbrev Rises : List ℕ → Type 0
Rises [] = Unit {0}
Rises (x ∷ xs) = ((n : ℕ) → is_in xs n ≡ true → x < n) × Rises xs

rises_from : (ks : List ℕ) → IsStrictlySortedBy nat_cmp ks → Rises ks
rises_from [] h = tt
rises_from (k ∷ ks) h =
    (above_all k ks (All-from_recursion (λ q. nat_cmp k q ≡ Less) ks (sorted_head nat_cmp k ks h)), rises_from ks (sorted_tail nat_cmp k ks h))

places_least : {A : Type 0} (t : A → Bool) (k n : ℕ) (xs : List A) → is_in (places_from t k xs) n ≡ true → k ≤ n
places_least t k n [] h = absurd (false≢true h)
places_least t k n (x ∷ xs) h = either (or_cases ((k == n) && t x) (is_in (places_from t (suc k) xs) n) (sym (in_places t k n x xs) ∙ h))
    (λ both. let same : k ≡ n = eqb-true k n (and_parts (k == n) (t x) both).0 in omega arith)
    (λ later. let more : suc k ≤ n = places_least t (suc k) n xs later in omega arith)

places_rise : {A : Type 0} (t : A → Bool) (k : ℕ) (xs : List A) → Rises (places_from t k xs)
places_rise t k [] = tt
places_rise t k (x ∷ xs) = either (cases_Bool (t x))
    (λ met. subst (λ (b : Bool). Rises (cond b (k ∷ rest) rest)) (sym met) ((λ n h. places_least t (suc k) n xs h), places_rise t (suc k) xs))
    (λ unmet. subst (λ (b : Bool). Rises (cond b (k ∷ rest) rest)) (sym unmet) (places_rise t (suc k) xs))
  where
    rest : List ℕ
    rest = places_from t (suc k) xs

first_in : (x : ℕ) (xs : List ℕ) → is_in (x ∷ xs) x ≡ true
first_in x xs = or_left (x == x) (is_in xs x) (eq-eqb x x refl)

same_heads : (x y : ℕ) (xs ys : List ℕ) → Rises (x ∷ xs) → Rises (y ∷ ys) → is_in (y ∷ ys) x ≡ true → is_in (x ∷ xs) y ≡ true → x ≡ y
same_heads x y xs ys p q a b = either (or_cases (y == x) (is_in ys x) a)
    (λ met. sym (eqb-true y x met))
    (λ later. either (or_cases (x == y) (is_in xs y) b)
    (λ met. eqb-true x y met)
    (λ after. let less : y < x = q.0 x later in let more : x < y = p.0 y after in absurd (omega arith)))

same_tails : (x : ℕ) (xs ys : List ℕ) → Rises (x ∷ xs) → Rises (x ∷ ys) → (n : ℕ) → is_in (x ∷ xs) n ≡ is_in (x ∷ ys) n → is_in xs n ≡ is_in ys n
same_tails x xs ys p q n same = either (cases_Bool (x == n))
    (λ met. let here : x ≡ n = eqb-true x n met in
    false_from_ne_true (is_in xs n) (λ h. not_less x n here (p.0 n h)) ∙ sym (false_from_ne_true (is_in ys n) (λ h. not_less x n here (q.0 n h))))
    (λ unmet. sym (ap (λ (b : Bool). b || is_in xs n) unmet) ∙ same ∙ ap (λ (b : Bool). b || is_in ys n) unmet)
  where
    not_less : (a b : ℕ) → a ≡ b → a < b → ⊥
    not_less a b e less = omega arith

rise_same : (xs ys : List ℕ) → Rises xs → Rises ys → ((n : ℕ) → is_in xs n ≡ is_in ys n) → xs ≡ ys
rise_same [] [] p q same = refl
rise_same [] (y ∷ ys) p q same = absurd (false≢true (same y ∙ first_in y ys))
rise_same (x ∷ xs) [] p q same = absurd (false≢true (sym (same x) ∙ first_in x xs))
rise_same (x ∷ xs) (y ∷ ys) p q same =
    let e : x ≡ y = same_heads x y xs ys p q (sym (same x) ∙ first_in x xs) (same y ∙ first_in y ys) in
    let q' : Rises (x ∷ ys) = subst (λ (z : ℕ). Rises (z ∷ ys)) (sym e) q in
    let tails : (n : ℕ) → is_in xs n ≡ is_in ys n =
    λ n. same_tails x xs ys p q' n (same n ∙ ap (λ (z : ℕ). is_in (z ∷ ys) n) (sym e)) in
    ap (λ (zs : List ℕ). x ∷ zs) (rise_same xs ys p.1 q.1 tails) ∙ ap (λ (z : ℕ). z ∷ ys) e

-- ---- the stages above one

pub above_found : (stages : List Stage) (s : Stage) (keys : List ℕ) → s.frozen ≡ false → IsStrictlySortedBy nat_cmp keys →
    ((n : ℕ) → is_in keys n ≡ list_any (λ need. is_maker (outputs stages) need n) (needs s)) → keys ≡ places (λ a. is_above a s) stages
above_found stages s keys thawed sorted found =
    rise_same keys (places (λ a. list_any (makes a) (needs s)) stages) (rises_from keys sorted) (places_rise (λ a. list_any (makes a) (needs s)) 0 stages)
    (λ n. found n ∙ makers_by_stage (needs s) 0 n stages)
    ∙ ap (λ (b : Bool). places (λ a. not b && list_any (makes a) (needs s)) stages) (sym thawed)

none_from : {A : Type 0} (k : ℕ) (xs : List A) → [] ≡ places_from (λ a. false) k xs
none_from k [] = refl
none_from k (x ∷ xs) = none_from (suc k) xs

pub above_none : (stages : List Stage) (s : Stage) → s.frozen ≡ true → [] ≡ places (λ a. is_above a s) stages
above_none stages s frozen = none_from 0 stages ∙ ap (λ (b : Bool). places (λ a. not b && list_any (makes a) (needs s)) stages) (sym frozen)
