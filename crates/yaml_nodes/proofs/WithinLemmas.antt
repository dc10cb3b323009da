-- No node leaves more text than it was read from, and each turn but the last leaves less.
use Rattle.std.proofs.Common.{◌≡◌, ℕ, zero, suc, ◌+◌, ◌<◌, ◌≤◌, eqb, ltb, eqb-true, Bool, true, false, cond, ◌||◌, ◌&&◌, List, [], ◌∷◌, ◌++◌, length, take, drop, length-drop, Ok, Err, refl, arith}
use Rattle.std.specs.Result.{IfOk}
use Rattle.dvc_base.specs.declared.node.Node.{Node}
use Rattle.dvc_base.specs.declared.node.Node.TheVariants as nd
use Rattle.dvc_base.specs.declared.node.Pair.{Pair}
use Rattle.yaml_text.specs.Outcome.{Text, Outcome, Step, ◌>>=◌, syntax}
use Rattle.yaml_text.specs.Line.{spaces, past_spaces, past_white, is_bad, is_white, is_marker, is_rest_empty, rest_of_line, next_line}
use Rattle.yaml_text.proofs.OutcomeLemmas.{then_ok, chosen_ok}
use Rattle.yaml_text.proofs.LineLemmas.{drop_le, past_white_le, past_spaces_le}
use Rattle.yaml_text.proofs.WithinLemmas.{Within, chosen_within, rest_within, next_within}
use Rattle.yaml_scalars.specs.Turns.{Turn}
use Rattle.yaml_scalars.specs.Plain.{is_colon, begins_plain, plain_len, plain}
use Rattle.yaml_scalars.specs.Quoted.{quoted}
use Rattle.yaml_scalars.specs.Lines.{lines}
use Rattle.yaml_scalars.specs.Kind.{scalar}
use Rattle.yaml_scalars.proofs.WithinLemmas.{TurnLeaves, StepLeaves, quoted_within, plain_within, lines_within}
use Rattle.yaml_nodes.specs.Part.{steps_within, steps, first, is_quote, begins_form, too_deep, plain_node, quoted_node, with_pair}
use Rattle.yaml_nodes.specs.Flow.{parts_from, between_parts, flow_scalar, is_pair, behind_item, item_at, item_turn, items, begins_bad, behind_plain_key, plain_key, flow_key, new_key, is_key_colon, value_at, flow_value, behind_pair, with_key, pair_at, pair_turn, pairs, flow_form, flow_node}
use Rattle.yaml_nodes.specs.Block.{line_end, lines_node, inline, begins_item, behind_plain, begins_key, item_below, item, next_item, with_found, sequence_turn, sequence, behind_key, block_key, value_below, value, next_pair, with_value, mapping_turn, mapping, block}

-- what a turn leaves is less than n
abbrev pub TurnLess : {S : Type 0} → ℕ → Outcome (Turn S) → Type 0
TurnLess n o = IfOk o (λ r. length r.1.1 < n)

-- the same of a turn that isn't the last, and any turn leaves no more
abbrev pub TurnShrinks : {S : Type 0} → ℕ → Outcome (Turn S) → Type 0
TurnShrinks n o = IfOk o (λ r. (length r.1.1 ≤ n) × (r.0 ≡ false → length r.1.1 < n))

any_ok : {A : Type 0} (o : Outcome A) → IfOk o (λ _. Unit {0})
any_ok (Ok x) = tt
any_ok (Err e) = tt

-- by which way the choice went
pub by_choice : {A : Type 0} (P : A → Type 0) (b : Bool) (x y : Outcome A) → (b ≡ true → IfOk x P) → (b ≡ false → IfOk y P) → IfOk (cond b x y) P
by_choice P true x y h k = h refl
by_choice P false x y h k = k refl

-- a text that begins with a byte other than 0 isn't empty
pub drop_less : (t : Text) (b : ℕ) → eqb (first t) (suc b) ≡ true → length (drop 1 t) < length t
drop_less [] b h = absurd (let e : 0 ≡ suc b = eqb-true 0 (suc b) h in omega arith)
drop_less (c ∷ t) b h = omega arith

-- ---- turns together

steps_leave_by : {S : Type 0} (turn : S → Text → Outcome (Turn S)) → ((n : ℕ) (s : S) (t : Text) → length t ≤ n → TurnLeaves n (turn s t))
    → (k n : ℕ) (s : S) (t : Text) → length t ≤ n → StepLeaves n (steps_within turn k s t)
steps_leave_by turn each zero n s t h = tt
steps_leave_by {S} turn each (suc k) n s t h =
    then_ok (λ (r : Turn S). length r.1.1 ≤ n) (λ (r : S × Text). length r.1 ≤ n) (turn s t)
    (λ r. cond r.0 (Ok r.1) (cond (ltb (length r.1.1) (length t)) (steps_within turn k r.1.0 r.1.1) (syntax t))) (each n s t h)
    (λ r l. chosen_ok (λ (x : S × Text). length x.1 ≤ n) r.0 (Ok r.1) (cond (ltb (length r.1.1) (length t)) (steps_within turn k r.1.0 r.1.1) (syntax t)) l
    (chosen_ok (λ (x : S × Text). length x.1 ≤ n) (ltb (length r.1.1) (length t)) (steps_within turn k r.1.0 r.1.1) (syntax t) (steps_leave_by turn each k n r.1.0 r.1.1 l) tt))

steps_leave : {S : Type 0} (turn : S → Text → Outcome (Turn S)) → ((n : ℕ) (s : S) (t : Text) → length t ≤ n → TurnLeaves n (turn s t))
    → (n : ℕ) (s : S) (t : Text) → length t ≤ n → StepLeaves n (steps turn s t)
unfolding steps
steps_leave turn each n s t h = steps_leave_by turn each (suc (length t)) n s t h

-- ---- between parts of a flow form

parts_within : (n : ℕ) (may inside : Bool) (t : Text) → length t ≤ n → Within n (parts_from may inside t)
parts_within n may inside [] h = h
parts_within n may inside (b ∷ t) h =
    let k : length t ≤ n = omega arith in
    chosen_within n (eqb b 10) (cond (is_marker t) (syntax t) (parts_from true false t))
    (cond inside (cond (is_bad b) (syntax (b ∷ t)) (parts_from true true t)) (cond (is_white b) (parts_from true false t) (cond (may && eqb b 35) (parts_from true true t) (Ok (b ∷ t)))))
    (chosen_within n (is_marker t) (syntax t) (parts_from true false t) tt (parts_within n true false t k))
    (chosen_within n inside (cond (is_bad b) (syntax (b ∷ t)) (parts_from true true t)) (cond (is_white b) (parts_from true false t) (cond (may && eqb b 35) (parts_from true true t) (Ok (b ∷ t))))
    (chosen_within n (is_bad b) (syntax (b ∷ t)) (parts_from true true t) tt (parts_within n true true t k))
    (chosen_within n (is_white b) (parts_from true false t) (cond (may && eqb b 35) (parts_from true true t) (Ok (b ∷ t))) (parts_within n true false t k)
    (chosen_within n (may && eqb b 35) (parts_from true true t) (Ok (b ∷ t)) (parts_within n true true t k) h)))

pub gap_within : (n : ℕ) (t : Text) → length t ≤ n → Within n (between_parts t)
unfolding between_parts
gap_within n t h = parts_within n false false t h

-- ---- scalars

plain_node_within : (flow : Bool) (least n : ℕ) (t : Text) → length t ≤ n → StepLeaves n (plain_node flow least t)
unfolding plain_node
plain_node_within flow least n t h =
    then_ok (λ (r : Text × Text). length r.1 ≤ n) (λ (r : Node × Text). length r.1 ≤ n) (plain flow least t) (λ r. scalar (length t) r.0 >>= λ node. Ok (node, r.1))
    (plain_within flow least n t h)
    (λ r l. then_ok (λ _. Unit {0}) (λ (r : Node × Text). length r.1 ≤ n) (scalar (length t) r.0) (λ node. Ok (node, r.1)) (any_ok (scalar (length t) r.0)) (λ node _. l))

quoted_node_within : (at : Text) (n : ℕ) (t : Text) → length t ≤ n → StepLeaves n (quoted_node at t)
unfolding quoted_node
quoted_node_within at n t h =
    then_ok (λ (r : Text × Text). length r.1 ≤ n) (λ (r : Node × Text). length r.1 ≤ n) (quoted (first at) true t) (λ r. Ok (nd.Text r.0, r.1))
    (quoted_within (first at) true n t h) (λ r l. l)

flow_scalar_within : (n : ℕ) (t : Text) → length t ≤ n → StepLeaves n (flow_scalar t)
unfolding flow_scalar
flow_scalar_within n t h =
    chosen_ok (λ (r : Node × Text). length r.1 ≤ n) (is_quote t) (quoted_node t (drop 1 t)) (cond (begins_plain true t) (plain_node true 0 t) (syntax t))
    (quoted_node_within t n (drop 1 t) (omega (arith, drop_le 1 t)))
    (chosen_ok (λ (r : Node × Text). length r.1 ≤ n) (begins_plain true t) (plain_node true 0 t) (syntax t) (plain_node_within true 0 n t h) tt)

-- ---- flow forms, where `node` leaves no more than it was given

abbrev pub Keeps : (Text → Step Node) → Type 0
Keeps node = (n : ℕ) (t : Text) → length t ≤ n → StepLeaves n (node t)

behind_item_less : (n : ℕ) (found : List Node) (t rest next : Text) → length next ≤ n → TurnLess n (behind_item found t rest next)
behind_item_less n found t rest next h =
    by_choice (λ (r : Turn (List Node)). length r.1.1 < n) (eqb (first next) 44) (Ok (false, (found, drop 1 next)))
    (cond (eqb (first next) 93) (Ok (true, (found, drop 1 next))) (cond (is_pair t rest next) (syntax t) (syntax next)))
    (λ e. let l = drop_less next 43 e in omega arith)
    (λ _. by_choice (λ (r : Turn (List Node)). length r.1.1 < n) (eqb (first next) 93) (Ok (true, (found, drop 1 next))) (cond (is_pair t rest next) (syntax t) (syntax next))
    (λ e. let l = drop_less next 92 e in omega arith)
    (λ _. chosen_ok (λ (r : Turn (List Node)). length r.1.1 < n) (is_pair t rest next) (syntax t) (syntax next) tt tt))

item_at_less : (node : Text → Step Node) → Keeps node → (n : ℕ) (found : List Node) (t : Text) → length t ≤ n → TurnLess n (item_at node found t)
item_at_less node each n found t h =
    by_choice (λ (r : Turn (List Node)). length r.1.1 < n) (eqb (first t) 93) (Ok (true, (found, drop 1 t)))
    (node t >>= λ r. between_parts r.1 >>= λ next. behind_item (found ++ r.0 ∷ []) t r.1 next)
    (λ e. let l = drop_less t 92 e in omega arith)
    (λ _. then_ok (λ (r : Node × Text). length r.1 ≤ n) (λ (r : Turn (List Node)). length r.1.1 < n) (node t)
    (λ r. between_parts r.1 >>= λ next. behind_item (found ++ r.0 ∷ []) t r.1 next) (each n t h)
    (λ r l. then_ok (λ (u : Text). length u ≤ n) (λ (r : Turn (List Node)). length r.1.1 < n) (between_parts r.1) (λ next. behind_item (found ++ r.0 ∷ []) t r.1 next)
    (gap_within n r.1 l) (λ next m. behind_item_less n (found ++ r.0 ∷ []) t r.1 next m)))

pub item_less : (node : Text → Step Node) → Keeps node → (n : ℕ) (found : List Node) (t : Text) → length t ≤ n → TurnLess n (item_turn node found t)
unfolding item_turn
item_less node each n found t h =
    then_ok (λ (u : Text). length u ≤ n) (λ (r : Turn (List Node)). length r.1.1 < n) (between_parts t) (item_at node found) (gap_within n t h) (item_at_less node each n found)

plain_key_within : (n : ℕ) (t : Text) → length t ≤ n → StepLeaves n (plain_key t)
plain_key_within n t h =
    chosen_ok (λ (r : Text × Text). length r.1 ≤ n) (begins_bad (behind_plain_key t)) (syntax (behind_plain_key t))
    (Ok (take (plain_len true false t) t, drop (plain_len true false t) t)) tt (omega (arith, drop_le (plain_len true false t) t))

flow_key_within : (n : ℕ) (t : Text) → length t ≤ n → StepLeaves n (flow_key t)
unfolding flow_key
flow_key_within n t h =
    chosen_ok (λ (r : Text × Text). length r.1 ≤ n) (is_quote t) (quoted (first t) true (drop 1 t))
    (cond (begins_plain true t) (plain_key t) (syntax t))
    (quoted_within (first t) true n (drop 1 t) (omega (arith, drop_le 1 t)))
    (chosen_ok (λ (r : Text × Text). length r.1 ≤ n) (begins_plain true t) (plain_key t) (syntax t) (plain_key_within n t h) tt)

value_at_within : (node : Text → Step Node) → Keeps node → (n : ℕ) (t : Text) → length t ≤ n → StepLeaves n (value_at node t)
value_at_within node each n t h =
    chosen_ok (λ (r : Node × Text). length r.1 ≤ n) (eqb (first t) 44 || eqb (first t) 125) (Ok (nd.Null, t)) (node t) h (each n t h)

flow_value_within : (node : Text → Step Node) → Keeps node → (n : ℕ) (t next : Text) → length next ≤ n → StepLeaves n (flow_value node t next)
unfolding flow_value
flow_value_within node each n t next h =
    chosen_ok (λ (r : Node × Text). length r.1 ≤ n) (is_key_colon t next)
    (between_parts (drop 1 next) >>= value_at node >>= λ r. between_parts r.1 >>= λ after. Ok (r.0, after)) (Ok (nd.Null, next))
    (then_ok (λ (r : Node × Text). length r.1 ≤ n) (λ (r : Node × Text). length r.1 ≤ n) (between_parts (drop 1 next) >>= value_at node)
    (λ r. between_parts r.1 >>= λ after. Ok (r.0, after))
    (then_ok (λ (u : Text). length u ≤ n) (λ (r : Node × Text). length r.1 ≤ n) (between_parts (drop 1 next)) (value_at node)
    (gap_within n (drop 1 next) (omega (arith, drop_le 1 next))) (value_at_within node each n))
    (λ r l. then_ok (λ (u : Text). length u ≤ n) (λ (r : Node × Text). length r.1 ≤ n) (between_parts r.1) (λ after. Ok (r.0, after)) (gap_within n r.1 l) (λ u m. m)))
    h

behind_pair_less : (n : ℕ) (found : List Pair) (next : Text) → length next ≤ n → TurnLess n (behind_pair found next)
behind_pair_less n found next h =
    by_choice (λ (r : Turn (List Pair)). length r.1.1 < n) (eqb (first next) 44) (Ok (false, (found, drop 1 next)))
    (cond (eqb (first next) 125) (Ok (true, (found, drop 1 next))) (syntax next))
    (λ e. let l = drop_less next 43 e in omega arith)
    (λ _. by_choice (λ (r : Turn (List Pair)). length r.1.1 < n) (eqb (first next) 125) (Ok (true, (found, drop 1 next))) (syntax next)
    (λ e. let l = drop_less next 124 e in omega arith) (λ _. tt))

with_key_less : (node : Text → Step Node) → Keeps node → (n : ℕ) (found : List Pair) (t : Text) (key : Text × Text) → length key.1 ≤ n → TurnLess n (with_key node found t key)
with_key_less node each n found t key h =
    then_ok (λ _. Unit {0}) (λ (r : Turn (List Pair)). length r.1.1 < n) (new_key found t key.0)
    (λ name. between_parts key.1 >>= λ next. flow_value node t next >>= λ value. behind_pair (with_pair found name value.0) value.1) (any_ok (new_key found t key.0))
    (λ name _. then_ok (λ (u : Text). length u ≤ n) (λ (r : Turn (List Pair)). length r.1.1 < n) (between_parts key.1)
    (λ next. flow_value node t next >>= λ value. behind_pair (with_pair found name value.0) value.1) (gap_within n key.1 h)
    (λ next l. then_ok (λ (r : Node × Text). length r.1 ≤ n) (λ (r : Turn (List Pair)). length r.1.1 < n) (flow_value node t next)
    (λ value. behind_pair (with_pair found name value.0) value.1) (flow_value_within node each n t next l)
    (λ value m. behind_pair_less n (with_pair found name value.0) value.1 m)))

pair_at_less : (node : Text → Step Node) → Keeps node → (n : ℕ) (found : List Pair) (t : Text) → length t ≤ n → TurnLess n (pair_at node found t)
pair_at_less node each n found t h =
    by_choice (λ (r : Turn (List Pair)). length r.1.1 < n) (eqb (first t) 125) (Ok (true, (found, drop 1 t))) (flow_key t >>= with_key node found t)
    (λ e. let l = drop_less t 124 e in omega arith)
    (λ _. then_ok (λ (r : Text × Text). length r.1 ≤ n) (λ (r : Turn (List Pair)). length r.1.1 < n) (flow_key t) (with_key node found t)
    (flow_key_within n t h) (with_key_less node each n found t))

pub pair_less : (node : Text → Step Node) → Keeps node → (n : ℕ) (found : List Pair) (t : Text) → length t ≤ n → TurnLess n (pair_turn node found t)
unfolding pair_turn
pair_less node each n found t h =
    then_ok (λ (u : Text). length u ≤ n) (λ (r : Turn (List Pair)). length r.1.1 < n) (between_parts t) (pair_at node found) (gap_within n t h) (pair_at_less node each n found)

less_leaves : {S : Type 0} (n : ℕ) (o : Outcome (Turn S)) → TurnLess n o → TurnLeaves n o
less_leaves n (Ok r) h = omega arith
less_leaves n (Err e) h = tt

items_within : (node : Text → Step Node) → Keeps node → (n : ℕ) (t : Text) → length t ≤ n → StepLeaves n (items node t)
unfolding items
items_within node each n t h =
    then_ok (λ (r : List Node × Text). length r.1 ≤ n) (λ (r : Node × Text). length r.1 ≤ n) (steps (item_turn node) [] t) (λ r. Ok (nd.Items r.0, r.1))
    (steps_leave (item_turn node) (λ n s t h. less_leaves n (item_turn node s t) (item_less node each n s t h)) n [] t h) (λ r l. l)

pairs_within : (node : Text → Step Node) → Keeps node → (n : ℕ) (t : Text) → length t ≤ n → StepLeaves n (pairs node t)
unfolding pairs
pairs_within node each n t h =
    then_ok (λ (r : List Pair × Text). length r.1 ≤ n) (λ (r : Node × Text). length r.1 ≤ n) (steps (pair_turn node) [] t) (λ r. Ok (nd.Pairs r.0, r.1))
    (steps_leave (pair_turn node) (λ n s t h. less_leaves n (pair_turn node s t) (pair_less node each n s t h)) n [] t h) (λ r l. l)

flow_form_within : (node : Text → Step Node) → Keeps node → (n : ℕ) (t : Text) → length t ≤ n → StepLeaves n (flow_form node t)
unfolding flow_form
flow_form_within node each n t h =
    let k : length (drop 1 t) ≤ n = omega (arith, drop_le 1 t) in
    chosen_ok (λ (r : Node × Text). length r.1 ≤ n) (eqb (first t) 91) (items node (drop 1 t)) (pairs node (drop 1 t))
    (items_within node each n (drop 1 t) k) (pairs_within node each n (drop 1 t) k)

pub flow_keeps : (depth : ℕ) → Keeps (flow_node depth)
unfolding flow_node
flow_keeps zero n t h = chosen_ok (λ (r : Node × Text). length r.1 ≤ n) (begins_form t) (too_deep t) (flow_scalar t) tt (flow_scalar_within n t h)
flow_keeps (suc depth) n t h =
    chosen_ok (λ (r : Node × Text). length r.1 ≤ n) (begins_form t) (flow_form (flow_node depth) t) (flow_scalar t)
    (flow_form_within (flow_node depth) (flow_keeps depth) n t h) (flow_scalar_within n t h)

-- ---- block style

below_within : (n : ℕ) (t : Text) → length t ≤ n → Within n (rest_of_line false t >>= next_line)
below_within n t h = then_ok (λ (u : Text). length u ≤ n) (λ (u : Text). length u ≤ n) (rest_of_line false t) next_line (rest_within n false t h) (next_within n)

line_end_within : (n : ℕ) (r : Node × Text) → length r.1 ≤ n → StepLeaves n (line_end r)
line_end_within n r h =
    then_ok (λ (u : Text). length u ≤ n) (λ (r : Node × Text). length r.1 ≤ n) (rest_of_line false r.1 >>= next_line) (λ next. Ok (r.0, next)) (below_within n r.1 h) (λ u l. l)

lines_node_within : (least n : ℕ) (t : Text) → length t ≤ n → StepLeaves n (lines_node least t)
lines_node_within least n t h =
    then_ok (λ (r : Text × Text). length r.1 ≤ n) (λ (r : Node × Text). length r.1 ≤ n) (lines (eqb (first t) 62) least (drop 1 t)) (λ r. next_line r.1 >>= λ next. Ok (nd.Text r.0, next))
    (lines_within (eqb (first t) 62) least n (drop 1 t) (omega (arith, drop_le 1 t)))
    (λ r l. then_ok (λ (u : Text). length u ≤ n) (λ (r : Node × Text). length r.1 ≤ n) (next_line r.1) (λ next. Ok (nd.Text r.0, next)) (next_within n r.1 l) (λ u m. m))

ended_within : (n : ℕ) (o : Step Node) → StepLeaves n o → StepLeaves n (o >>= line_end)
ended_within n o h = then_ok (λ (r : Node × Text). length r.1 ≤ n) (λ (r : Node × Text). length r.1 ≤ n) o line_end h (line_end_within n)

pub inline_within : (depth least n : ℕ) (t : Text) → length t ≤ n → StepLeaves n (inline depth least t)
unfolding inline
inline_within depth least n t h =
    chosen_ok (λ (r : Node × Text). length r.1 ≤ n) (begins_form t) (flow_node depth t >>= line_end)
    (cond (is_quote t) (quoted_node t (drop 1 t) >>= line_end)
    (cond (eqb (first t) 124 || eqb (first t) 62) (lines_node least t) (cond (begins_plain false t) (plain_node false least t >>= line_end) (syntax t))))
    (ended_within n (flow_node depth t) (flow_keeps depth n t h))
    (chosen_ok (λ (r : Node × Text). length r.1 ≤ n) (is_quote t) (quoted_node t (drop 1 t) >>= line_end)
    (cond (eqb (first t) 124 || eqb (first t) 62) (lines_node least t) (cond (begins_plain false t) (plain_node false least t >>= line_end) (syntax t)))
    (ended_within n (quoted_node t (drop 1 t)) (quoted_node_within t n (drop 1 t) (omega (arith, drop_le 1 t))))
    (chosen_ok (λ (r : Node × Text). length r.1 ≤ n) (eqb (first t) 124 || eqb (first t) 62) (lines_node least t) (cond (begins_plain false t) (plain_node false least t >>= line_end) (syntax t))
    (lines_node_within least n t h)
    (chosen_ok (λ (r : Node × Text). length r.1 ≤ n) (begins_plain false t) (plain_node false least t >>= line_end) (syntax t)
    (ended_within n (plain_node false least t) (plain_node_within false least n t h)) tt)))

-- where `inner` leaves no more than it was given
abbrev pub Holds : (ℕ → ℕ → Text → Step Node) → Type 0
Holds inner = (least column n : ℕ) (t : Text) → length t ≤ n → StepLeaves n (inner least column t)

item_below_within : (inner : ℕ → ℕ → Text → Step Node) → Holds inner → (column n : ℕ) (t : Text) → length t ≤ n → StepLeaves n (item_below inner column t)
item_below_within inner each column n t h =
    chosen_ok (λ (r : Node × Text). length r.1 ≤ n) (ltb column (spaces t)) (inner (column + 1) (spaces t) (past_spaces t)) (Ok (nd.Null, t))
    (each (column + 1) (spaces t) n (past_spaces t) (omega (arith, past_spaces_le t))) h

item_within : (inner : ℕ → ℕ → Text → Step Node) → Holds inner → (column n : ℕ) (t : Text) → length t ≤ n → StepLeaves n (item inner column t)
unfolding item
item_within inner each column n t h =
    let k : length (past_spaces t) ≤ n = omega (arith, past_spaces_le t) in
    chosen_ok (λ (r : Node × Text). length r.1 ≤ n) (is_rest_empty t) (rest_of_line false t >>= next_line >>= item_below inner column)
    (cond (eqb (first (past_spaces t)) 9) (syntax (past_spaces t)) (inner (column + 1) (column + 1 + spaces t) (past_spaces t)))
    (then_ok (λ (u : Text). length u ≤ n) (λ (r : Node × Text). length r.1 ≤ n) (rest_of_line false t >>= next_line) (item_below inner column)
    (below_within n t h) (item_below_within inner each column n))
    (chosen_ok (λ (r : Node × Text). length r.1 ≤ n) (eqb (first (past_spaces t)) 9) (syntax (past_spaces t)) (inner (column + 1) (column + 1 + spaces t) (past_spaces t)) tt
    (each (column + 1) (column + 1 + spaces t) n (past_spaces t) k))

-- where a dash follows, the text isn't empty
item_some : (t : Text) → begins_item t ≡ true → 0 < length t
item_some [] h = absurd (cc)
item_some (b ∷ t) h = omega arith

and_right : (a b : Bool) → (a && b) ≡ true → b ≡ true
and_right true b h = h
and_right false b h = absurd (cc)

next_item_by : (n : ℕ) (found : List Node) (t u : Text) → length t ≤ n → length u ≤ length (drop 1 t) → (b : Bool) → (b ≡ true → 0 < length (past_spaces u))
    → (length (with_found found (cond b (false, past_spaces u) (true, u))).1.1 ≤ n)
    × ((with_found found (cond b (false, past_spaces u) (true, u))).0 ≡ false → length (with_found found (cond b (false, past_spaces u) (true, u))).1.1 < n)
next_item_by n found t u h k true some =
    let l = some refl in
    (omega (arith, past_spaces_le u, length-drop 1 t), λ _. omega (arith, past_spaces_le u, length-drop 1 t))
next_item_by n found t u h k false some = (omega (arith, length-drop 1 t), λ e. absurd (cc))

next_item_shrinks : (n : ℕ) (found : List Node) (column : ℕ) (t u : Text) → length t ≤ n → length u ≤ length (drop 1 t) → TurnShrinks n (Ok (with_found found (next_item column u)))
next_item_shrinks n found column t u h k =
    next_item_by n found t u h k (eqb (spaces u) column && begins_item (past_spaces u))
    (λ e. item_some (past_spaces u) (and_right (eqb (spaces u) column) (begins_item (past_spaces u)) e))

pub entry_shrinks : (inner : ℕ → ℕ → Text → Step Node) → Holds inner → (column n : ℕ) (found : List Node) (t : Text) → length t ≤ n
    → TurnShrinks n (sequence_turn inner column found t)
unfolding sequence_turn
entry_shrinks inner each column n found t h =
    then_ok (λ (r : Node × Text). length r.1 ≤ length (drop 1 t)) (λ (r : Turn (List Node)). (length r.1.1 ≤ n) × (r.0 ≡ false → length r.1.1 < n)) (item inner column (drop 1 t))
    (λ r. Ok (with_found (found ++ r.0 ∷ []) (next_item column r.1))) (item_within inner each column (length (drop 1 t)) (drop 1 t) (omega arith))
    (λ r l. next_item_shrinks n (found ++ r.0 ∷ []) column t r.1 h l)

shrinks_leaves : {S : Type 0} (n : ℕ) (o : Outcome (Turn S)) → TurnShrinks n o → TurnLeaves n o
shrinks_leaves n (Ok r) h = h.0
shrinks_leaves n (Err e) h = tt

sequence_within : (inner : ℕ → ℕ → Text → Step Node) → Holds inner → (column n : ℕ) (t : Text) → length t ≤ n → StepLeaves n (sequence inner column t)
unfolding sequence
sequence_within inner each column n t h =
    then_ok (λ (r : List Node × Text). length r.1 ≤ n) (λ (r : Node × Text). length r.1 ≤ n) (steps (sequence_turn inner column) [] t) (λ r. Ok (nd.Items r.0, r.1))
    (steps_leave (sequence_turn inner column) (λ n s t h. shrinks_leaves n (sequence_turn inner column s t) (entry_shrinks inner each column n s t h)) n [] t h) (λ r l. l)

behind_key_less : (n : ℕ) (key u : Text) → length u ≤ n → IfOk (behind_key (is_colon false u) key u) (λ r. length r.1 < n)
behind_key_less n key [] h = tt
behind_key_less n key (b ∷ u) h =
    chosen_ok (λ (r : Text × Text). length r.1 < n) (is_colon false (b ∷ u)) (Ok (key, u)) (syntax (b ∷ u)) (omega arith) tt

block_key_less : (n : ℕ) (t : Text) → length t ≤ n → IfOk (block_key t) (λ r. length r.1 < n)
unfolding block_key
block_key_less n t h =
    chosen_ok (λ (r : Text × Text). length r.1 < n) (is_quote t) (quoted (first t) false (drop 1 t) >>= λ r. behind_key (is_colon false (past_spaces r.1)) r.0 (past_spaces r.1))
    (cond (begins_plain false t) (behind_key (is_colon false (behind_plain t)) (take (plain_len false false t) t) (behind_plain t)) (syntax t))
    (then_ok (λ (r : Text × Text). length r.1 ≤ n) (λ (r : Text × Text). length r.1 < n) (quoted (first t) false (drop 1 t))
    (λ r. behind_key (is_colon false (past_spaces r.1)) r.0 (past_spaces r.1)) (quoted_within (first t) false n (drop 1 t) (omega (arith, drop_le 1 t)))
    (λ r l. behind_key_less n r.0 (past_spaces r.1) (omega (arith, past_spaces_le r.1))))
    (chosen_ok (λ (r : Text × Text). length r.1 < n) (begins_plain false t) (behind_key (is_colon false (behind_plain t)) (take (plain_len false false t) t) (behind_plain t)) (syntax t)
    (behind_key_less n (take (plain_len false false t) t) (behind_plain t) (omega (arith, past_white_le (drop (plain_len false false t) t), drop_le (plain_len false false t) t))) tt)

value_below_within : (inner : ℕ → ℕ → Text → Step Node) → Holds inner → (column n : ℕ) (t : Text) → length t ≤ n → StepLeaves n (value_below inner column t)
value_below_within inner each column n t h =
    chosen_ok (λ (r : Node × Text). length r.1 ≤ n) (ltb column (spaces t) || (eqb (spaces t) column && begins_item (past_spaces t)))
    (inner (column + 1) (spaces t) (past_spaces t)) (Ok (nd.Null, t))
    (each (column + 1) (spaces t) n (past_spaces t) (omega (arith, past_spaces_le t))) h

value_within : (depth : ℕ) (inner : ℕ → ℕ → Text → Step Node) → Holds inner → (column n : ℕ) (t : Text) → length t ≤ n → StepLeaves n (value depth inner column t)
unfolding value
value_within depth inner each column n t h =
    chosen_ok (λ (r : Node × Text). length r.1 ≤ n) (is_rest_empty t) (rest_of_line false t >>= next_line >>= value_below inner column) (inline depth (column + 1) (past_white t))
    (then_ok (λ (u : Text). length u ≤ n) (λ (r : Node × Text). length r.1 ≤ n) (rest_of_line false t >>= next_line) (value_below inner column)
    (below_within n t h) (value_below_within inner each column n))
    (inline_within depth (column + 1) n (past_white t) (omega (arith, past_white_le t)))

next_pair_less : (n : ℕ) (found : List Pair) (column : ℕ) (t : Text) → length t < n → length (with_found found (next_pair column t)).1.1 < n
next_pair_less n found column t h =
    elim (ltb 0 (length t) && eqb (spaces t) column) as (λ v. length (with_found found (cond v (false, past_spaces t) (true, t))).1.1 < n)
    [ true ↦ omega (arith, past_spaces_le t) | false ↦ h ]

with_value_less : (depth : ℕ) (inner : ℕ → ℕ → Text → Step Node) → Holds inner → (column n : ℕ) (found : List Pair) (t : Text) (key : Text × Text) → length key.1 < n
    → TurnLess n (with_value depth inner column found t key)
with_value_less depth inner each column zero found t key h = absurd (omega arith)
with_value_less depth inner each column (suc n) found t key h =
    then_ok (λ _. Unit {0}) (λ (r : Turn (List Pair)). length r.1.1 < suc n) (new_key found t key.0)
    (λ name. value depth inner column key.1 >>= λ r. Ok (with_found (with_pair found name r.0) (next_pair column r.1))) (any_ok (new_key found t key.0))
    (λ name _. then_ok (λ (r : Node × Text). length r.1 ≤ n) (λ (r : Turn (List Pair)). length r.1.1 < suc n) (value depth inner column key.1)
    (λ r. Ok (with_found (with_pair found name r.0) (next_pair column r.1))) (value_within depth inner each column n key.1 (omega arith))
    (λ r l. next_pair_less (suc n) (with_pair found name r.0) column r.1 (omega arith)))

pub key_less : (depth : ℕ) (inner : ℕ → ℕ → Text → Step Node) → Holds inner → (column n : ℕ) (found : List Pair) (t : Text) → length t ≤ n
    → TurnLess n (mapping_turn depth inner column found t)
unfolding mapping_turn
key_less depth inner each column n found t h =
    then_ok (λ (r : Text × Text). length r.1 < n) (λ (r : Turn (List Pair)). length r.1.1 < n) (block_key t) (with_value depth inner column found t)
    (block_key_less n t h) (with_value_less depth inner each column n found t)

mapping_within : (depth : ℕ) (inner : ℕ → ℕ → Text → Step Node) → Holds inner → (column n : ℕ) (t : Text) → length t ≤ n → StepLeaves n (mapping depth inner column t)
unfolding mapping
mapping_within depth inner each column n t h =
    then_ok (λ (r : List Pair × Text). length r.1 ≤ n) (λ (r : Node × Text). length r.1 ≤ n) (steps (mapping_turn depth inner column) [] t) (λ r. Ok (nd.Pairs r.0, r.1))
    (steps_leave (mapping_turn depth inner column) (λ n s t h. less_leaves n (mapping_turn depth inner column s t) (key_less depth inner each column n s t h)) n [] t h) (λ r l. l)

-- behind the look for a key
keyed_within : (n : ℕ) (o : Outcome Bool) (x y : Step Node) → StepLeaves n x → StepLeaves n y → StepLeaves n (o >>= λ is_key. cond is_key x y)
keyed_within n (Ok true) x y h k = h
keyed_within n (Ok false) x y h k = k
keyed_within n (Err e) x y h k = tt

pub block_holds : (depth : ℕ) → Holds (block depth)
unfolding block
block_holds zero least column n t h =
    chosen_ok (λ (r : Node × Text). length r.1 ≤ n) (begins_item t) (too_deep t) (begins_key t >>= λ is_key. cond is_key (too_deep t) (inline zero least t)) tt
    (keyed_within n (begins_key t) (too_deep t) (inline zero least t) tt (inline_within zero least n t h))
block_holds (suc depth) least column n t h =
    chosen_ok (λ (r : Node × Text). length r.1 ≤ n) (begins_item t) (sequence (block depth) column t)
    (begins_key t >>= λ is_key. cond is_key (mapping depth (block depth) column t) (inline (suc depth) least t))
    (sequence_within (block depth) (block_holds depth) column n t h)
    (keyed_within n (begins_key t) (mapping depth (block depth) column t) (inline (suc depth) least t)
    (mapping_within depth (block depth) (block_holds depth) column n t h) (inline_within (suc depth) least n t h))
