-- What is read can be printed: at most 64 collections stand in one another, keys are distinct, and numbers keep their texts.
--     Gives P o     where o is a value, it is one with P
use Rattle.std.proofs.Common.{◌≡◌, ℕ, zero, suc, ◌+◌, ◌-◌, eqb, ltb, Bool, true, false, cond, not, ◌||◌, ◌&&◌, List, [], ◌∷◌, ◌++◌, length, take, drop, Option, Some, None, Result, Ok, Err, refl, ap, sym, subst, ◌∙◌, arith, append_assoc}
use Rattle.std.specs.Prelude.{option_map}
use Rattle.dvc_base.specs.declared.node.Node.{Node}
use Rattle.dvc_base.specs.declared.node.Node.TheVariants as nd
use Rattle.dvc_base.specs.declared.node.Pair.{Pair, roll-Pair}
use Rattle.yaml_text.specs.declared.refusal.Refusal.TheVariants.{TooWide, Duplicate}
use Rattle.yaml_text.specs.Outcome.{Text, Outcome, Step, ◌>>=◌, syntax}
use Rattle.yaml_text.specs.Line.{is_rest_empty, spaces, past_spaces, past_white, rest_of_line, first_line, next_line}
use Rattle.yaml_text.specs.Source.{source, body_len}
use Rattle.yaml_scalars.specs.Turns.{Turn}
use Rattle.yaml_scalars.specs.Number.{number, past_sign, is_negative, is_wide, parts_of}
use Rattle.yaml_scalars.specs.Kind.{is_null, is_true, is_false, is_octal, is_hexadecimal, is_decimal_whole, with_sign, fits_whole, whole, decimal, numeral, scalar}
use Rattle.yaml_scalars.specs.Plain.{begins_plain, plain}
use Rattle.yaml_scalars.specs.Quoted.{quoted}
use Rattle.yaml_scalars.specs.Lines.{lines}
use Rattle.yaml_nodes.specs.Part.{steps_within, steps, first, is_quote, begins_form, plain_node, quoted_node, key_of, has_key, with_pair}
use Rattle.yaml_nodes.specs.Flow.{between_parts, flow_scalar, is_pair, behind_item, item_at, item_turn, items, flow_key, is_merge, new_key, is_key_colon, value_at, flow_value, behind_pair, with_key, pair_turn, pairs, flow_form, flow_node}
use Rattle.yaml_nodes.specs.Block.{line_end, lines_node, inline, begins_item, begins_key, item_below, item, sequence_turn, sequence, block_key, value_below, value, mapping_turn, mapping, block}
use Rattle.yaml_nodes.specs.Document.{max_depth, sole_node, root, past_marker, document, tail, with_tail, with_body, read, parse}
use Rattle.yaml_print.specs.Print.{value_of}
use Rattle.yaml_print.specs.Sound.{Each, are_new, IsSound, IsPrintable}
use Rattle.yaml_print.proofs.BoolLemmas.{both, both_left, both_right}
use Rattle.yaml_print.proofs.NodeCases.{kind_same}
use Rattle.yaml_print.proofs.SoundLemmas.{sound_null, sound_bool, sound_text, sound_whole, sound_decimal, sound_items, sound_pairs}

abbrev Gives : {A E : Type 0} → (A → Type 0) → Result A E → Type 0
Gives P (Ok x) = P x
Gives P (Err e) = Unit {0}

then : {A B : Type 0} (P : A → Type 0) (Q : B → Type 0) (o : Outcome A) (f : A → Outcome B) → Gives P o → ((x : A) → P x → Gives Q (f x)) → Gives Q (o >>= f)
then P Q (Ok x) f h k = k x h
then P Q (Err e) f h k = tt

anything : {A B : Type 0} (Q : B → Type 0) (o : Outcome A) (f : A → Outcome B) → ((x : A) → Gives Q (f x)) → Gives Q (o >>= f)
anything Q (Ok x) f k = k x
anything Q (Err e) f k = tt

choice : {A E : Type 0} (P : A → Type 0) (b : Bool) (x y : Result A E) → Gives P x → Gives P y → Gives P (cond b x y)
choice P true x y h k = h
choice P false x y h k = k

-- ---- scalars

abbrev Kind : ℕ → Text → Node → Type 0
Kind d w v = scalar 0 w ≡ Ok v → IsSound d v

whole_kind : (d left : ℕ) (w : Text) (below : Bool) (size : ℕ) → Gives (Kind d w) (whole left w below size)
whole_kind d left w below size =
    choice (Kind d w) (fits_whole below size) (Ok (nd.Whole (with_sign below size) w)) (Err (TooWide left)) (λ h. sound_whole d (with_sign below size) w h) tt

decimal_kind : (d left : ℕ) (w : Text) (wide : Option Bool) → Gives (Kind d w) (decimal left w wide)
decimal_kind d left w None = λ h. sound_text d w
decimal_kind d left w (Some true) = tt
decimal_kind d left w (Some false) = λ h. sound_decimal d w h

numeral_kind : (d left : ℕ) (w : Text) → Gives (Kind d w) (numeral left w)
numeral_kind d left w =
    choice (Kind d w) (is_decimal_whole w) _ _ (whole_kind d left w (is_negative w) (number 10 (past_sign w)))
    (choice (Kind d w) (is_octal w) _ _ (whole_kind d left w false (number 8 (drop 2 w)))
    (choice (Kind d w) (is_hexadecimal w) _ _ (whole_kind d left w false (number 16 (drop 2 w)))
    (decimal_kind d left w (option_map is_wide (parts_of w)))))

scalar_kind : (d left : ℕ) (w : Text) → Gives (Kind d w) (scalar left w)
unfolding scalar
scalar_kind d left w =
    choice (Kind d w) (is_null w) (Ok nd.Null) _ (λ h. sound_null d)
    (choice (Kind d w) (is_true w) (Ok (nd.Bool true)) _ (λ h. sound_bool d true)
    (choice (Kind d w) (is_false w) (Ok (nd.Bool false)) _ (λ h. sound_bool d false) (numeral_kind d left w)))

kind_sound : (d left : ℕ) (w : Text) (o : Outcome Node) → scalar left w ≡ o → Gives (Kind d w) o → Gives (IsSound d) o
kind_sound d left w (Ok v) is h = h (kind_same left 0 w v is)
kind_sound d left w (Err e) is h = tt

-- a node that is read, with what is left behind it
abbrev First : ℕ → Node × Text → Type 0
First d r = IsSound d r.0

plain_sound : (d : ℕ) (flow : Bool) (least : ℕ) (t : Text) → Gives (First d) (plain_node flow least t)
unfolding plain_node
plain_sound d flow least t =
    anything (First d) (plain flow least t) _ (λ r.
    then (IsSound d) (First d) (scalar (length t) r.0) (λ node. Ok (node, r.1)) (kind_sound d (length t) r.0 (scalar (length t) r.0) refl (scalar_kind d (length t) r.0)) (λ v h. h))

quoted_sound : (d : ℕ) (at t : Text) → Gives (First d) (quoted_node at t)
unfolding quoted_node
quoted_sound d at t = anything (First d) (quoted (first at) true t) _ (λ r. sound_text d r.0)

-- ---- turns

within_keep : {S : Type 0} (J : S → Type 0) (turn : S → Text → Outcome (Turn S)) → ((s : S) (t : Text) → J s → Gives (λ r. J r.1.0) (turn s t))
    → (n : ℕ) (s : S) (t : Text) → J s → Gives (λ r. J r.0) (steps_within turn n s t)
within_keep J turn keep zero s t h = tt
within_keep J turn keep (suc n) s t h =
    then (λ r. J r.1.0) (λ r. J r.0) (turn s t) (λ r. cond r.0 (Ok r.1) (cond (ltb (length r.1.1) (length t)) (steps_within turn n r.1.0 r.1.1) (syntax t)))
    (keep s t h)
    (λ r k. choice (λ q. J q.0) r.0 (Ok r.1) _ k (choice (λ q. J q.0) (ltb (length r.1.1) (length t)) (steps_within turn n r.1.0 r.1.1) (syntax t) (within_keep J turn keep n r.1.0 r.1.1 k) tt))

steps_keep : {S : Type 0} (J : S → Type 0) (turn : S → Text → Outcome (Turn S)) → ((s : S) (t : Text) → J s → Gives (λ r. J r.1.0) (turn s t))
    → (s : S) (t : Text) → J s → Gives (λ r. J r.0) (steps turn s t)
unfolding steps
steps_keep J turn keep s t h = within_keep J turn keep (suc (length t)) s t h

each_push : {A : Type 0} (P : A → Type 0) (xs : List A) (x : A) → Each P xs → P x → Each P (xs ++ x ∷ [])
each_push P [] x h k = (k, tt)
each_push P (y ∷ xs) x h k = (h.0, each_push P xs x h.1 k)

-- ---- pairs with distinct keys

abbrev Good : ℕ → List Pair → Type 0
Good d ps = (are_new [] ps ≡ true) × Each (λ p. IsSound d (value_of p)) ps

no_more : (ps : List Pair) → ps ++ [] ≡ ps
no_more [] = refl
no_more (p ∷ ps) = ap (λ qs. p ∷ qs) (no_more ps)

new_push : (before found : List Pair) (p : Pair) → are_new before found ≡ true → has_key (key_of p) (before ++ found) ≡ false → are_new before (found ++ p ∷ []) ≡ true
new_push before [] p h fresh =
    let e : has_key (key_of p) before ≡ false = ap (has_key (key_of p)) (sym (no_more before)) ∙ fresh in
    ap (λ v. not v && true) e
new_push before (q ∷ found) p h fresh =
    both (not (has_key (key_of q) before)) (are_new (before ++ q ∷ []) (found ++ p ∷ [])) (both_left (not (has_key (key_of q) before)) (are_new (before ++ q ∷ []) found) h)
    (new_push (before ++ q ∷ []) found p (both_right (not (has_key (key_of q) before)) (are_new (before ++ q ∷ []) found) h) (ap (has_key (key_of p)) (append_assoc before (q ∷ []) found) ∙ fresh))

good_push : (d : ℕ) (found : List Pair) (key : Text) (v : Node) → Good d found → has_key key found ≡ false → IsSound d v → Good d (with_pair found key v)
good_push d found key v h fresh sound =
    let p = roll-Pair (record { key = key; value = v }) in
    (new_push [] found p h.0 fresh, each_push (λ q. IsSound d (value_of q)) found p h.1 sound)

abbrev Fresh : List Pair → Text → Type 0
Fresh found key = has_key key found ≡ false

fresh_by : (found : List Pair) (t key : Text) (b : Bool) → has_key key found ≡ b → Gives (Fresh found) (cond b (Err (Duplicate (length t))) (Ok key))
fresh_by found t key true is = tt
fresh_by found t key false is = is

new_fresh : (found : List Pair) (t key : Text) → Gives (Fresh found) (new_key found t key)
unfolding new_key
new_fresh found t key = choice (Fresh found) (is_merge t key) (syntax t) _ tt (fresh_by found t key (has_key key found) refl)

-- ---- flow forms. `node` reads what stands in them

abbrev Inner : ℕ → (Text → Step Node) → Type 0
Inner d node = (t : Text) → Gives (First d) (node t)

scalar_sound : (d : ℕ) → Inner d flow_scalar
unfolding flow_scalar
scalar_sound d t =
    choice (First d) (is_quote t) _ _ (quoted_sound d t (drop 1 t)) (choice (First d) (begins_plain true t) _ _ (plain_sound d true 0 t) tt)

abbrev Items : ℕ → Turn (List Node) → Type 0
Items d r = Each (IsSound d) r.1.0

abbrev Pairs : ℕ → Turn (List Pair) → Type 0
Pairs d r = Good d r.1.0

behind_item_keep : (d : ℕ) (found : List Node) (t rest next : Text) → Each (IsSound d) found → Gives (Items d) (behind_item found t rest next)
behind_item_keep d found t rest next h =
    choice (Items d) (eqb (first next) 44) _ _ h (choice (Items d) (eqb (first next) 93) _ _ h (choice (Items d) (is_pair t rest next) _ _ tt tt))

item_at_keep : (d : ℕ) (node : Text → Step Node) → Inner d node → (found : List Node) (t : Text) → Each (IsSound d) found → Gives (Items d) (item_at node found t)
item_at_keep d node inner found t h =
    choice (Items d) (eqb (first t) 93) _ _ h
    (then (First d) (Items d) (node t) _ (inner t) (λ r sound.
    anything (Items d) (between_parts r.1) _ (λ next. behind_item_keep d (found ++ r.0 ∷ []) t r.1 next (each_push (IsSound d) found r.0 h sound))))

item_turn_keep : (d : ℕ) (node : Text → Step Node) → Inner d node → (found : List Node) (t : Text) → Each (IsSound d) found → Gives (Items d) (item_turn node found t)
unfolding item_turn
item_turn_keep d node inner found t h = anything (Items d) (between_parts t) _ (λ u. item_at_keep d node inner found u h)

one_less : (d : ℕ) → suc d - 1 ≡ d
one_less d = omega arith

at_level : (d : ℕ) (xs : List Node) → Each (IsSound d) xs → Each (IsSound (suc d - 1)) xs
at_level d xs h = subst (λ k. Each (IsSound k) xs) (sym (one_less d)) h

values_at_level : (d : ℕ) (ps : List Pair) → Each (λ p. IsSound d (value_of p)) ps → Each (λ p. IsSound (suc d - 1) (value_of p)) ps
values_at_level d ps h = subst (λ k. Each (λ p. IsSound k (value_of p)) ps) (sym (one_less d)) h

items_sound : (d : ℕ) (node : Text → Step Node) → Inner d node → (t : Text) → Gives (First (suc d)) (items node t)
unfolding items
items_sound d node inner t =
    then (λ r. Each (IsSound d) r.0) (First (suc d)) (steps (item_turn node) [] t) (λ r. Ok (nd.Items r.0, r.1))
    (steps_keep (Each (IsSound d)) (item_turn node) (item_turn_keep d node inner) [] t tt) (λ r h. sound_items (suc d) r.0 (omega arith) (at_level d r.0 h))

value_at_sound : (d : ℕ) (node : Text → Step Node) → Inner d node → (t : Text) → Gives (First d) (value_at node t)
value_at_sound d node inner t = choice (First d) (eqb (first t) 44 || eqb (first t) 125) _ _ (sound_null d) (inner t)

flow_value_sound : (d : ℕ) (node : Text → Step Node) → Inner d node → (t next : Text) → Gives (First d) (flow_value node t next)
unfolding flow_value
flow_value_sound d node inner t next =
    choice (First d) (is_key_colon t next) _ _
    (then (First d) (First d) (between_parts (drop 1 next) >>= value_at node) _ (anything (First d) (between_parts (drop 1 next)) (value_at node) (value_at_sound d node inner)) (λ r sound.
    anything (First d) (between_parts r.1) _ (λ after. sound)))
    (sound_null d)

behind_pair_keep : (d : ℕ) (found : List Pair) (next : Text) → Good d found → Gives (Pairs d) (behind_pair found next)
behind_pair_keep d found next h = choice (Pairs d) (eqb (first next) 44) _ _ h (choice (Pairs d) (eqb (first next) 125) _ _ h tt)

with_key_keep : (d : ℕ) (node : Text → Step Node) → Inner d node → (found : List Pair) (t : Text) (key : Text × Text) → Good d found → Gives (Pairs d) (with_key node found t key)
with_key_keep d node inner found t key h =
    then (Fresh found) (Pairs d) (new_key found t key.0) _ (new_fresh found t key.0) (λ name fresh.
    anything (Pairs d) (between_parts key.1) _ (λ next.
    then (First d) (Pairs d) (flow_value node t next) _ (flow_value_sound d node inner t next) (λ v sound.
    behind_pair_keep d (with_pair found name v.0) v.1 (good_push d found name v.0 h fresh sound))))

pair_turn_keep : (d : ℕ) (node : Text → Step Node) → Inner d node → (found : List Pair) (t : Text) → Good d found → Gives (Pairs d) (pair_turn node found t)
unfolding pair_turn
pair_turn_keep d node inner found t h =
    anything (Pairs d) (between_parts t) _ (λ u. choice (Pairs d) (eqb (first u) 125) _ _ h (anything (Pairs d) (flow_key u) _ (λ key. with_key_keep d node inner found u key h)))

pairs_sound : (d : ℕ) (node : Text → Step Node) → Inner d node → (t : Text) → Gives (First (suc d)) (pairs node t)
unfolding pairs
pairs_sound d node inner t =
    then (λ r. Good d r.0) (First (suc d)) (steps (pair_turn node) [] t) (λ r. Ok (nd.Pairs r.0, r.1))
    (steps_keep (Good d) (pair_turn node) (pair_turn_keep d node inner) [] t (refl, tt)) (λ r h. sound_pairs (suc d) r.0 (omega arith) h.0 (values_at_level d r.0 h.1))

form_sound : (d : ℕ) (node : Text → Step Node) → Inner d node → (t : Text) → Gives (First (suc d)) (flow_form node t)
unfolding flow_form
form_sound d node inner t = choice (First (suc d)) (eqb (first t) 91) _ _ (items_sound d node inner (drop 1 t)) (pairs_sound d node inner (drop 1 t))

flow_sound : (d : ℕ) → Inner d (flow_node d)
unfolding flow_node
flow_sound zero t = choice (First 0) (begins_form t) _ _ tt (scalar_sound 0 t)
flow_sound (suc d) t = choice (First (suc d)) (begins_form t) _ _ (form_sound d (flow_node d) (flow_sound d) t) (scalar_sound (suc d) t)

-- ---- nodes of block style. `inner` reads what stands in them

ended_sound : (d : ℕ) (o : Step Node) → Gives (First d) o → Gives (First d) (o >>= line_end)
ended_sound d o h =
    then (First d) (First d) o line_end h (λ r sound. anything (First d) (rest_of_line false r.1 >>= next_line) (λ next. Ok (r.0, next)) (λ next. sound))

lines_sound : (d least : ℕ) (t : Text) → Gives (First d) (lines_node least t)
lines_sound d least t = anything (First d) (lines (eqb (first t) 62) least (drop 1 t)) _ (λ r. anything (First d) (next_line r.1) _ (λ next. sound_text d r.0))

inline_sound : (d least : ℕ) (t : Text) → Gives (First d) (inline d least t)
unfolding inline
inline_sound d least t =
    choice (First d) (begins_form t) _ _ (ended_sound d (flow_node d t) (flow_sound d t))
    (choice (First d) (is_quote t) _ _ (ended_sound d (quoted_node t (drop 1 t)) (quoted_sound d t (drop 1 t)))
    (choice (First d) (eqb (first t) 124 || eqb (first t) 62) _ _ (lines_sound d least t)
    (choice (First d) (begins_plain false t) _ _ (ended_sound d (plain_node false least t) (plain_sound d false least t)) tt)))

abbrev Block : ℕ → (ℕ → ℕ → Text → Step Node) → Type 0
Block d inner = (least column : ℕ) (t : Text) → Gives (First d) (inner least column t)

item_sound : (d : ℕ) (inner : ℕ → ℕ → Text → Step Node) → Block d inner → (column : ℕ) (t : Text) → Gives (First d) (item inner column t)
unfolding item
item_sound d inner block column t =
    choice (First d) (is_rest_empty t) _ _
    (anything (First d) (rest_of_line false t >>= next_line) (item_below inner column) (λ u.
    choice (First d) (ltb column (spaces u)) _ _ (block (column + 1) (spaces u) (past_spaces u)) (sound_null d)))
    (choice (First d) (eqb (first (past_spaces t)) 9) _ _ tt (block (column + 1) (column + 1 + spaces t) (past_spaces t)))

sequence_turn_keep : (d : ℕ) (inner : ℕ → ℕ → Text → Step Node) → Block d inner → (column : ℕ) (found : List Node) (t : Text) → Each (IsSound d) found → Gives (Items d) (sequence_turn inner column found t)
unfolding sequence_turn
sequence_turn_keep d inner block column found t h =
    then (First d) (Items d) (item inner column (drop 1 t)) _ (item_sound d inner block column (drop 1 t)) (λ r sound. each_push (IsSound d) found r.0 h sound)

sequence_sound : (d : ℕ) (inner : ℕ → ℕ → Text → Step Node) → Block d inner → (column : ℕ) (t : Text) → Gives (First (suc d)) (sequence inner column t)
unfolding sequence
sequence_sound d inner block column t =
    then (λ r. Each (IsSound d) r.0) (First (suc d)) (steps (sequence_turn inner column) [] t) (λ r. Ok (nd.Items r.0, r.1))
    (steps_keep (Each (IsSound d)) (sequence_turn inner column) (sequence_turn_keep d inner block column) [] t tt) (λ r h. sound_items (suc d) r.0 (omega arith) (at_level d r.0 h))

value_sound : (d : ℕ) (inner : ℕ → ℕ → Text → Step Node) → Block d inner → (column : ℕ) (t : Text) → Gives (First d) (value d inner column t)
unfolding value
value_sound d inner block column t =
    choice (First d) (is_rest_empty t) _ _
    (anything (First d) (rest_of_line false t >>= next_line) (value_below inner column) (λ u.
    choice (First d) (ltb column (spaces u) || (eqb (spaces u) column && begins_item (past_spaces u))) _ _ (block (column + 1) (spaces u) (past_spaces u)) (sound_null d)))
    (inline_sound d (column + 1) (past_white t))

mapping_turn_keep : (d : ℕ) (inner : ℕ → ℕ → Text → Step Node) → Block d inner → (column : ℕ) (found : List Pair) (t : Text) → Good d found → Gives (Pairs d) (mapping_turn d inner column found t)
unfolding mapping_turn
mapping_turn_keep d inner block column found t h =
    anything (Pairs d) (block_key t) _ (λ key.
    then (Fresh found) (Pairs d) (new_key found t key.0) _ (new_fresh found t key.0) (λ name fresh.
    then (First d) (Pairs d) (value d inner column key.1) _ (value_sound d inner block column key.1) (λ r sound. good_push d found name r.0 h fresh sound)))

mapping_sound : (d : ℕ) (inner : ℕ → ℕ → Text → Step Node) → Block d inner → (column : ℕ) (t : Text) → Gives (First (suc d)) (mapping d inner column t)
unfolding mapping
mapping_sound d inner block column t =
    then (λ r. Good d r.0) (First (suc d)) (steps (mapping_turn d inner column) [] t) (λ r. Ok (nd.Pairs r.0, r.1))
    (steps_keep (Good d) (mapping_turn d inner column) (mapping_turn_keep d inner block column) [] t (refl, tt)) (λ r h. sound_pairs (suc d) r.0 (omega arith) h.0 (values_at_level d r.0 h.1))

block_sound : (d : ℕ) → Block d (block d)
unfolding block
block_sound zero least column t =
    choice (First 0) (begins_item t) _ _ tt (anything (First 0) (begins_key t) _ (λ is_key. choice (First 0) is_key _ _ tt (inline_sound 0 least t)))
block_sound (suc d) least column t =
    choice (First (suc d)) (begins_item t) _ _ (sequence_sound d (block d) (block_sound d) column t)
    (anything (First (suc d)) (begins_key t) _ (λ is_key. choice (First (suc d)) is_key _ _ (mapping_sound d (block d) (block_sound d) column t) (inline_sound (suc d) least t)))

-- ---- the document

sole_node_sound : (d : ℕ) (r : Node × Text) → IsSound d r.0 → Gives (IsSound d) (sole_node r)
sole_node_sound d r h = choice (IsSound d) (eqb (length r.1) 0) _ _ h tt

root_by : (d : ℕ) (t : Text) → Gives (IsSound d) (cond (eqb (length t) 0) (Ok nd.Null) (block d 0 (spaces t) (past_spaces t) >>= sole_node))
root_by d t =
    choice (IsSound d) (eqb (length t) 0) (Ok nd.Null) _ (sound_null d)
    (then (First d) (IsSound d) (block d 0 (spaces t) (past_spaces t)) sole_node (block_sound d 0 (spaces t) (past_spaces t)) (λ r h. sole_node_sound d r h))

document_sound : (t : Text) → Gives IsPrintable (document t)
unfolding document
document_sound t = anything IsPrintable (first_line t >>= past_marker) root (λ u. root_by max_depth u)

tail_sound : (t : Text) (v : Node) (o : Outcome Text) → IsPrintable v → Gives IsPrintable (with_tail t v o)
tail_sound t v (Ok rest) h = h
tail_sound t v (Err why) h = tt

body_sound : (t body rest : Text) (o : Outcome Node) → Gives IsPrintable o → Gives IsPrintable (with_body t body rest o)
body_sound t body rest (Ok v) h = tail_sound t v (tail rest) h
body_sound t body rest (Err why) h = tt

parse_sound : (bytes : Text) → Gives IsPrintable (parse bytes)
unfolding parse read
parse_sound bytes =
    let t = source bytes in
    body_sound t (take (body_len t) t) (drop (body_len t) t) (document (take (body_len t) t)) (document_sound (take (body_len t) t))

-- what is read can be printed
pub read_printable : (bytes : Text) (v : Node) → parse bytes ≡ Ok v → IsPrintable v
read_printable bytes v is = subst (λ o. Gives IsPrintable o) is (parse_sound bytes)
