-- There are no more turns than stages.
--     turns_short
use Rattle.std.proofs.Common.{◌≡◌, ◌≤◌, ℕ, zero, suc, ◌+◌, Bool, true, false, cond, List, [], ◌∷◌, ◌++◌, length, Option, Some, None, arith, slice_get}
use Rattle.std.specs.List.{cons_option, filter, filter_map}
use Rattle.std.specs.Option.{option_map_or}
use Rattle.std.proofs.lemmas.List.{length-append, length-map}
use Rattle.path_index.specs.Overlap.{places}
use Rattle.stage_order.specs.Order.{next, order, order_from}
use Rattle.stage_order.specs.Brought.{is_wanted, brought}
use Rattle.stage_schema.specs.declared.stage.Stage.{Stage as Written}
use Rattle.stage_graph.specs.Cycle.{all_above}
use Rattle.stage_graph.specs.Paths.{is_above}
use Rattle.stage_plan.specs.Targets.{named, chosen}
use Rattle.stage_plan.specs.Plan.{stage_of, has_turn, with_turns, all_outs, stages_at, planned_at}
use Rattle.std.specs.List.{flat_map}

-- ---- lists

filter_short : {A : Type 0} (t : A → Bool) (xs : List A) → length (filter t xs) ≤ length xs
filter_short t [] = omega arith
filter_short t (x ∷ xs) = by (t x) (filter_short t xs)
  where
    by : (b : Bool) → length (filter t xs) ≤ length xs → length (cond b (x ∷ filter t xs) (filter t xs)) ≤ length (x ∷ xs)
    by true h = omega (h, arith)
    by false h = omega (h, arith)

map_short : {A B : Type 0} (f : A → Option B) (xs : List A) → length (filter_map f xs) ≤ length xs
map_short f [] = omega arith
map_short f (x ∷ xs) = by (f x) (map_short f xs)
  where
    by : (o : Option _) → length (filter_map f xs) ≤ length xs → length (cons_option o (filter_map f xs)) ≤ length (x ∷ xs)
    by None h = omega (h, arith)
    by (Some y) h = omega (h, arith)

-- ---- the order

order_short : (n : ℕ) (above : List (List ℕ)) (done : List ℕ) → length (order_from n above done) ≤ length done + n
order_short zero above done = omega arith
order_short (suc n) above done = by (next above done) (λ s. order_short n above (done ++ s ∷ []))
  where
    by : (o : Option ℕ) → ((s : ℕ) → length (order_from n above (done ++ s ∷ [])) ≤ length (done ++ s ∷ []) + n) → length (option_map_or (λ s. order_from n above (done ++ s ∷ [])) o done) ≤ length done + suc n
    by None h = omega arith
    by (Some s) h = omega (h s, length-append done (s ∷ []), arith)

brought_short : (above : List (List ℕ)) (chosen ns : List ℕ) → length (brought above chosen ns) ≤ length ns
brought_short above chosen [] = omega arith
brought_short above chosen (s ∷ later) = by (is_wanted above chosen (brought above chosen later) s) (brought_short above chosen later)
  where
    by : (b : Bool) → length (brought above chosen later) ≤ length later → length (cond b (s ∷ brought above chosen later) (brought above chosen later)) ≤ length (s ∷ later)
    by true h = omega (h, arith)
    by false h = omega (h, arith)

all_short : (ss : List Written) → length (order (all_above ss)) ≤ length ss
all_short ss =
    let same : length (all_above ss) ≡ length ss = length-map ss (λ y. places (λ x. is_above x y) ss) in
    omega (order_short (length (all_above ss)) (all_above ss) [], same, arith)

chosen_short : (targets : List (List ℕ)) (ss : List Written) → length (chosen targets ss) ≤ length ss
chosen_short [] ss = all_short ss
chosen_short (target ∷ more) ss =
    omega (brought_short (all_above ss) (flat_map (named ss) (target ∷ more)) (order (all_above ss)), all_short ss, arith)

pub turns_short : (targets : List (List ℕ)) (ss : List Written) → length (planned_at ss (chosen targets ss)) ≤ length ss
turns_short targets ss =
    let ns = chosen targets ss in
    let same = length-map (with_turns (stages_at ss ns)) (stage_of (all_outs (with_turns (stages_at ss ns)))) in
    omega (same, filter_short has_turn (stages_at ss ns), map_short (slice_get ss) ns, chosen_short targets ss, arith)
