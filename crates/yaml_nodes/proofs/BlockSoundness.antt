-- What the grammar gives for nodes of block style is what reading gives.
use Rattle.std.proofs.Common.{◌≡◌, ◌<◌, ◌≤◌, ℕ, zero, suc, ◌+◌, eqb, lt-ltb, le-ltb, Bool, true, false, cond, List, [], ◌∷◌, ◌++◌, length, drop, Ok, Err, refl, ap, ◌∙◌, ◌⊎◌, inl, inr, ne_eqb, eq-eqb, arith}
use Rattle.dvc_base.specs.declared.node.Node.{Node}
use Rattle.dvc_base.specs.declared.node.Node.TheVariants as nd
use Rattle.dvc_base.specs.declared.node.Pair.{Pair}
use Rattle.yaml_text.specs.declared.refusal.Refusal.{Refusal}
use Rattle.yaml_text.specs.Outcome.{Text, Outcome, Step, ◌>>=◌, syntax}
use Rattle.yaml_text.specs.Line.{spaces, past_spaces, past_white, is_rest_empty, rest_of_line, next_line}
use Rattle.yaml_text.proofs.OutcomeLemmas.{ok_at}
use Rattle.yaml_text.proofs.RuleLemmas.{next_sound}
use Rattle.yaml_scalars.specs.Turns.{Turn}
use Rattle.yaml_scalars.specs.Plain.{begins_plain}
use Rattle.yaml_scalars.specs.Lines.{lines}
use Rattle.yaml_scalars.proofs.LinesRules.{lines_sound}
use Rattle.yaml_nodes.specs.Part.{steps, first, is_quote, begins_form, too_deep, plain_node, quoted_node, with_pair}
use Rattle.yaml_nodes.specs.Flow.{new_key, flow_node}
use Rattle.yaml_nodes.specs.Block.{line_end, lines_node, inline, begins_item, begins_key, item, item_below, sequence_turn, sequence, block_key, value, mapping_turn, mapping, block}
use Rattle.yaml_nodes.specs.Grammar as g
use Rattle.yaml_nodes.proofs.StepLemmas.{steps_err, steps_last, steps_more}
use Rattle.yaml_nodes.proofs.BlockLemmas.{block_none, deep_by}
use Rattle.yaml_nodes.proofs.WithinLemmas.{entry_shrinks, key_less, block_holds}
use Rattle.yaml_nodes.proofs.FlowSoundness.{scalar_at, scalar_sound, new_sound, key_sound, ahead_sound, below_sound, or_eqb, flow_sound}

-- ---- scalars and flow forms

bind_cond : {A B : Type 0} (b : Bool) (x y : Outcome A) (f : A → Outcome B) → (cond b x y >>= f) ≡ cond b (x >>= f) (y >>= f)
bind_cond true x y f = refl
bind_cond false x y f = refl

inline_form : (depth least : ℕ) (t : Text) → begins_form t ≡ true → inline depth least t ≡ (flow_node depth t >>= line_end)
unfolding inline
inline_form depth least t h = cc

no_quote : (t : Text) → (first t ≡ 124) ⊎ (first t ≡ 62) → is_quote t ≡ false
no_quote t (inl h) =
    let d : eqb (first t) 39 ≡ false = ne_eqb (first t) 39 (λ k. absurd (omega arith)) in
    let f : eqb (first t) 34 ≡ false = ne_eqb (first t) 34 (λ k. absurd (omega arith)) in cc
no_quote t (inr h) =
    let d : eqb (first t) 39 ≡ false = ne_eqb (first t) 39 (λ k. absurd (omega arith)) in
    let f : eqb (first t) 34 ≡ false = ne_eqb (first t) 34 (λ k. absurd (omega arith)) in cc

no_form : (t : Text) → (first t ≡ 124) ⊎ (first t ≡ 62) → begins_form t ≡ false
no_form t (inl h) =
    let d : eqb (first t) 91 ≡ false = ne_eqb (first t) 91 (λ k. absurd (omega arith)) in
    let f : eqb (first t) 123 ≡ false = ne_eqb (first t) 123 (λ k. absurd (omega arith)) in cc
no_form t (inr h) =
    let d : eqb (first t) 91 ≡ false = ne_eqb (first t) 91 (λ k. absurd (omega arith)) in
    let f : eqb (first t) 123 ≡ false = ne_eqb (first t) 123 (λ k. absurd (omega arith)) in cc

inline_lines : (depth least : ℕ) (t : Text) → g.begins_lines t ≡ true → inline depth least t ≡ lines_node least t
unfolding inline
inline_lines depth least t h =
    let which = or_eqb (first t) 124 62 h in
    let d = no_form t which in
    let f = no_quote t which in cc

inline_scalar : (depth least : ℕ) (t : Text) → begins_form t ≡ false → g.begins_lines t ≡ false → inline depth least t ≡ (scalar_at false least t >>= line_end)
unfolding inline
inline_scalar depth least t h k =
    let d = bind_cond (is_quote t) (quoted_node t (drop 1 t)) (cond (begins_plain false t) (plain_node false least t) (syntax t)) line_end in
    let f = bind_cond (begins_plain false t) (plain_node false least t) (syntax t) line_end in cc

ended_err : (o : Step Node) (e : Refusal) → o ≡ Err e → (o >>= line_end) ≡ Err e
ended_err o e is = cc

behind_err : (o : Step Node) (r : Node × Text) (e : Refusal) → o ≡ Ok r → (rest_of_line false r.1 >>= next_line) ≡ Err e → (o >>= line_end) ≡ Err e
behind_err o r e is b = cc

ended_ok : (o : Step Node) (r : Node × Text) (u : Text) → o ≡ Ok r → (rest_of_line false r.1 >>= next_line) ≡ Ok u → (o >>= line_end) ≡ Ok (r.0, u)
ended_ok o r u is b = cc

bad_lines : (least : ℕ) (t : Text) (e : Refusal) → lines (eqb (first t) 62) least (drop 1 t) ≡ Err e → lines_node least t ≡ Err e
bad_lines least t e a = cc

behind_lines : (least : ℕ) (t : Text) (r : Text × Text) (e : Refusal) → lines (eqb (first t) 62) least (drop 1 t) ≡ Ok r → next_line r.1 ≡ Err e → lines_node least t ≡ Err e
behind_lines least t r e a b = cc

some_lines : (least : ℕ) (t u : Text) (r : Text × Text) → lines (eqb (first t) 62) least (drop 1 t) ≡ Ok r → next_line r.1 ≡ Ok u → lines_node least t ≡ Ok (nd.Text r.0, u)
some_lines least t u r a b = cc

pub inline_sound : (depth least : ℕ) (t : Text) (o : Step Node) → g.IsInline depth least t o → inline depth least t ≡ o
inline_sound depth least t o (g.bad_form {e = e} h s) = inline_form depth least t h ∙ ended_err (flow_node depth t) e (flow_sound depth t (Err e) s)
inline_sound depth least t o (g.behind_form {r = r} {e = e} h s b) =
    inline_form depth least t h ∙ behind_err (flow_node depth t) r e (flow_sound depth t (Ok r) s) (below_sound b)
inline_sound depth least t o (g.a_form {u = u} {r = r} h s b) = inline_form depth least t h ∙ ended_ok (flow_node depth t) r u (flow_sound depth t (Ok r) s) (below_sound b)
inline_sound depth least t o (g.bad_lines {e = e} h a) =
    inline_lines depth least t h ∙ bad_lines least t e (lines_sound (eqb (first t) 62) least (drop 1 t) (Err e) a)
inline_sound depth least t o (g.behind_lines {r = r} {e = e} h a b) =
    inline_lines depth least t h ∙ behind_lines least t r e (lines_sound (eqb (first t) 62) least (drop 1 t) (Ok r) a) (next_sound r.1 (Err e) b)
inline_sound depth least t o (g.some_lines {u = u} {r = r} h a b) =
    inline_lines depth least t h ∙ some_lines least t u r (lines_sound (eqb (first t) 62) least (drop 1 t) (Ok r) a) (next_sound r.1 (Ok u) b)
inline_sound depth least t o (g.bad_scalar {e = e} h k s) = inline_scalar depth least t h k ∙ ended_err (scalar_at false least t) e (scalar_sound s)
inline_sound depth least t o (g.behind_scalar {r = r} {e = e} h k s b) =
    inline_scalar depth least t h k ∙ behind_err (scalar_at false least t) r e (scalar_sound s) (below_sound b)
inline_sound depth least t o (g.a_scalar {u = u} {r = r} h k s b) = inline_scalar depth least t h k ∙ ended_ok (scalar_at false least t) r u (scalar_sound s) (below_sound b)

-- ---- items of a block sequence, a turn at a time

abbrev entries_from : ℕ → ℕ → List Node → Text → Step Node
entries_from depth column found t = steps (sequence_turn (block depth) column) found t >>= λ r. Ok (nd.Items r.0, r.1)

entries_err : (depth column : ℕ) (found : List Node) (t : Text) (e : Refusal) → item (block depth) column (drop 1 t) ≡ Err e → entries_from depth column found t ≡ Err e
unfolding sequence_turn
entries_err depth column found t e is = ap (λ o. o >>= λ r. Ok (nd.Items r.0, r.1)) (steps_err (sequence_turn (block depth) column) found t e (cc))

last_entry : (depth column : ℕ) (found : List Node) (t : Text) (r : Node × Text) → item (block depth) column (drop 1 t) ≡ Ok r → g.another_item column r.1 ≡ false
    → entries_from depth column found t ≡ Ok (nd.Items (found ++ r.0 ∷ []), r.1)
unfolding sequence_turn
last_entry depth column found t r is h =
    ap (λ o. o >>= λ r. Ok (nd.Items r.0, r.1)) (steps_last (sequence_turn (block depth) column) found t (found ++ r.0 ∷ [], r.1) (cc))

pub one_entry : (depth column : ℕ) (found : List Node) (t : Text) (r : Node × Text) → item (block depth) column (drop 1 t) ≡ Ok r → g.another_item column r.1 ≡ true
    → sequence_turn (block depth) column found t ≡ Ok (false, (found ++ r.0 ∷ [], past_spaces r.1))
unfolding sequence_turn
one_entry depth column found t r is h = cc

pub entry_left : (depth column : ℕ) (found : List Node) (t : Text) (r : List Node × Text) → sequence_turn (block depth) column found t ≡ Ok (false, r) → length r.1 < length t
entry_left depth column found t r is =
    let both = ok_at (λ (x : Turn (List Node)). (length x.1.1 ≤ length t) × (x.0 ≡ false → length x.1.1 < length t)) (sequence_turn (block depth) column found t) (false, r) is
    (entry_shrinks (block depth) (block_holds depth) column (length t) found t (omega arith)) in
    both.1 refl

more_entries : (depth column : ℕ) (found : List Node) (t : Text) (r : List Node × Text) → sequence_turn (block depth) column found t ≡ Ok (false, r)
    → entries_from depth column found t ≡ entries_from depth column r.0 r.1
more_entries depth column found t r is =
    ap (λ o. o >>= λ r. Ok (nd.Items r.0, r.1)) (steps_more (sequence_turn (block depth) column) found t r is (entry_left depth column found t r is))

-- an item below its dash, and beside it
item_err : (depth column : ℕ) (t : Text) (e : Refusal) → is_rest_empty t ≡ true → (rest_of_line false t >>= next_line) ≡ Err e → item (block depth) column t ≡ Err e
unfolding item
item_err depth column t e h b = cc

item_at : (depth column : ℕ) (t u : Text) → is_rest_empty t ≡ true → (rest_of_line false t >>= next_line) ≡ Ok u → item (block depth) column t ≡ item_below (block depth) column u
unfolding item
item_at depth column t u h b = cc

item_deeper : (depth column : ℕ) (u : Text) → column < spaces u → item_below (block depth) column u ≡ block depth (column + 1) (spaces u) (past_spaces u)
item_deeper depth column u h = let d = lt-ltb column (spaces u) h in cc

item_none : (depth column : ℕ) (u : Text) → spaces u ≤ column → item_below (block depth) column u ≡ Ok (nd.Null, u)
item_none depth column u h = let d = le-ltb column (spaces u) h in cc

item_tab : (depth column : ℕ) (t : Text) → is_rest_empty t ≡ false → first (past_spaces t) ≡ 9 → item (block depth) column t ≡ syntax (past_spaces t)
unfolding item
item_tab depth column t h k = let d = eq-eqb (first (past_spaces t)) 9 k in cc

item_beside : (depth column : ℕ) (t : Text) → is_rest_empty t ≡ false → (first (past_spaces t) ≡ 9 → ⊥)
    → item (block depth) column t ≡ block depth (column + 1) (column + 1 + spaces t) (past_spaces t)
unfolding item
item_beside depth column t h k = let d = ne_eqb (first (past_spaces t)) 9 k in cc

-- ---- pairs of a block mapping

abbrev keys_from : ℕ → ℕ → List Pair → Text → Step Node
keys_from depth column found t = steps (mapping_turn depth (block depth) column) found t >>= λ r. Ok (nd.Pairs r.0, r.1)

keys_err : (depth column : ℕ) (found : List Pair) (t : Text) (e : Refusal) → mapping_turn depth (block depth) column found t ≡ Err e → keys_from depth column found t ≡ Err e
keys_err depth column found t e is = ap (λ o. o >>= λ r. Ok (nd.Pairs r.0, r.1)) (steps_err (mapping_turn depth (block depth) column) found t e is)

bad_key : (depth column : ℕ) (found : List Pair) (t : Text) (e : Refusal) → block_key t ≡ Err e → mapping_turn depth (block depth) column found t ≡ Err e
unfolding mapping_turn
bad_key depth column found t e a = cc

old_key : (depth column : ℕ) (found : List Pair) (t : Text) (k : Text × Text) (e : Refusal) → block_key t ≡ Ok k → new_key found t k.0 ≡ Err e
    → mapping_turn depth (block depth) column found t ≡ Err e
unfolding mapping_turn
old_key depth column found t k e a n = cc

bad_value : (depth column : ℕ) (found : List Pair) (t name : Text) (k : Text × Text) (e : Refusal) → block_key t ≡ Ok k → new_key found t k.0 ≡ Ok name
    → value depth (block depth) column k.1 ≡ Err e → mapping_turn depth (block depth) column found t ≡ Err e
unfolding mapping_turn
bad_value depth column found t name k e a n v = cc

pub one_key : (depth column : ℕ) (found : List Pair) (t name : Text) (k : Text × Text) (r : Node × Text) → block_key t ≡ Ok k → new_key found t k.0 ≡ Ok name
    → value depth (block depth) column k.1 ≡ Ok r → g.another_pair column r.1 ≡ true
    → mapping_turn depth (block depth) column found t ≡ Ok (false, (with_pair found name r.0, past_spaces r.1))
unfolding mapping_turn
one_key depth column found t name k r a n v h = cc

last_key : (depth column : ℕ) (found : List Pair) (t name : Text) (k : Text × Text) (r : Node × Text) → block_key t ≡ Ok k → new_key found t k.0 ≡ Ok name
    → value depth (block depth) column k.1 ≡ Ok r → g.another_pair column r.1 ≡ false → keys_from depth column found t ≡ Ok (nd.Pairs (with_pair found name r.0), r.1)
unfolding mapping_turn
last_key depth column found t name k r a n v h =
    ap (λ o. o >>= λ r. Ok (nd.Pairs r.0, r.1)) (steps_last (mapping_turn depth (block depth) column) found t (with_pair found name r.0, r.1) (cc))

pub key_left : (depth column : ℕ) (found : List Pair) (t : Text) (r : List Pair × Text) → mapping_turn depth (block depth) column found t ≡ Ok (false, r) → length r.1 < length t
key_left depth column found t r is =
    ok_at (λ (x : Turn (List Pair)). length x.1.1 < length t) (mapping_turn depth (block depth) column found t) (false, r) is
    (key_less depth (block depth) (block_holds depth) column (length t) found t (omega arith))

more_keys : (depth column : ℕ) (found : List Pair) (t : Text) (r : List Pair × Text) → mapping_turn depth (block depth) column found t ≡ Ok (false, r)
    → keys_from depth column found t ≡ keys_from depth column r.0 r.1
more_keys depth column found t r is =
    ap (λ o. o >>= λ r. Ok (nd.Pairs r.0, r.1)) (steps_more (mapping_turn depth (block depth) column) found t r is (key_left depth column found t r is))

value_err : (depth column : ℕ) (t : Text) (e : Refusal) → is_rest_empty t ≡ true → (rest_of_line false t >>= next_line) ≡ Err e → value depth (block depth) column t ≡ Err e
unfolding value
value_err depth column t e h b = cc

value_deeper : (depth column : ℕ) (t u : Text) → is_rest_empty t ≡ true → (rest_of_line false t >>= next_line) ≡ Ok u → g.has_value column u ≡ true
    → value depth (block depth) column t ≡ block depth (column + 1) (spaces u) (past_spaces u)
unfolding value
value_deeper depth column t u h b k = cc

value_none : (depth column : ℕ) (t u : Text) → is_rest_empty t ≡ true → (rest_of_line false t >>= next_line) ≡ Ok u → g.has_value column u ≡ false
    → value depth (block depth) column t ≡ Ok (nd.Null, u)
unfolding value
value_none depth column t u h b k = cc

value_beside : (depth column : ℕ) (t : Text) → is_rest_empty t ≡ false → value depth (block depth) column t ≡ inline depth (column + 1) (past_white t)
unfolding value
value_beside depth column t h = cc

-- ---- nodes

sequence_block : (depth least column : ℕ) (t : Text) → begins_item t ≡ true → block (suc depth) least column t ≡ entries_from depth column [] t
unfolding sequence
sequence_block depth least column t h = let d = deep_by depth (suc depth) least column t refl in cc

deep_item : (least column : ℕ) (t : Text) → begins_item t ≡ true → block zero least column t ≡ too_deep t
deep_item least column t h = let d = block_none zero least column t refl in cc

mapping_block : (depth least column : ℕ) (t : Text) → begins_item t ≡ false → begins_key t ≡ Ok true → block (suc depth) least column t ≡ keys_from depth column [] t
unfolding mapping
mapping_block depth least column t h k = let d = deep_by depth (suc depth) least column t refl in cc

deep_key : (least column : ℕ) (t : Text) → begins_item t ≡ false → begins_key t ≡ Ok true → block zero least column t ≡ too_deep t
deep_key least column t h k = let d = block_none zero least column t refl in cc

bad_start : (depth least column : ℕ) (t : Text) (e : Refusal) → begins_item t ≡ false → begins_key t ≡ Err e → block depth least column t ≡ Err e
bad_start zero least column t e h k = let d = block_none zero least column t refl in cc
bad_start (suc depth) least column t e h k = let d = deep_by depth (suc depth) least column t refl in cc

inline_block : (depth least column : ℕ) (t : Text) → begins_item t ≡ false → begins_key t ≡ Ok false → block depth least column t ≡ inline depth least t
inline_block zero least column t h k = let d = block_none zero least column t refl in cc
inline_block (suc depth) least column t h k = let d = deep_by depth (suc depth) least column t refl in cc

mutual
  pub block_sound : (depth least column : ℕ) (t : Text) (o : Step Node) → g.IsBlock depth least column t o → block depth least column t ≡ o
  block_sound depth least column t o (g.IsBlock.sequence {depth = d} h s) = sequence_block d least column t h ∙ entries_sound d column [] t o s
  block_sound depth least column t o (g.too_deep_item h) = deep_item least column t h
  block_sound depth least column t o (g.bad_start {e = e} h k) = bad_start depth least column t e h (ahead_sound k)
  block_sound depth least column t o (g.IsBlock.mapping {depth = d} h k s) = mapping_block d least column t h (ahead_sound k) ∙ keys_sound d column [] t o s
  block_sound depth least column t o (g.too_deep_key h k) = deep_key least column t h (ahead_sound k)
  block_sound depth least column t o (g.IsBlock.inline h k s) = inline_block depth least column t h (ahead_sound k) ∙ inline_sound depth least t o s

  entries_sound : (depth column : ℕ) (found : List Node) (t : Text) (o : Step Node) → g.IsEntries depth column found t o → entries_from depth column found t ≡ o
  entries_sound depth column found t o (g.bad_entry {e = e} s) = entries_err depth column found t e (entry_sound depth column (drop 1 t) (Err e) s)
  entries_sound depth column found t o (g.one_entry {r = r} s h more) =
      more_entries depth column found t (found ++ r.0 ∷ [], past_spaces r.1) (one_entry depth column found t r (entry_sound depth column (drop 1 t) (Ok r) s) h)
      ∙ entries_sound depth column (found ++ r.0 ∷ []) (past_spaces r.1) o more
  entries_sound depth column found t o (g.last_entry {r = r} s h) = last_entry depth column found t r (entry_sound depth column (drop 1 t) (Ok r) s) h

  pub entry_sound : (depth column : ℕ) (t : Text) (o : Step Node) → g.IsEntry depth column t o → item (block depth) column t ≡ o
  entry_sound depth column t o (g.bad_entry_below {e = e} h b) = item_err depth column t e h (below_sound b)
  entry_sound depth column t o (g.entry_below {u = u} h b k s) =
      item_at depth column t u h (below_sound b) ∙ item_deeper depth column u k ∙ block_sound depth (column + 1) (spaces u) (past_spaces u) o s
  entry_sound depth column t o (g.no_entry {u = u} h b k) = item_at depth column t u h (below_sound b) ∙ item_none depth column u k
  entry_sound depth column t o (g.a_tab h k) = item_tab depth column t h k
  entry_sound depth column t o (g.entry_beside h k s) =
      item_beside depth column t h k ∙ block_sound depth (column + 1) (column + 1 + spaces t) (past_spaces t) o s

  keys_sound : (depth column : ℕ) (found : List Pair) (t : Text) (o : Step Node) → g.IsKeys depth column found t o → keys_from depth column found t ≡ o
  keys_sound depth column found t o (g.IsKeys.bad_key {e = e} a) = keys_err depth column found t e (bad_key depth column found t e (key_sound a))
  keys_sound depth column found t o (g.IsKeys.old_key {k = k} {e = e} a n) = keys_err depth column found t e (old_key depth column found t k e (key_sound a) (new_sound n))
  keys_sound depth column found t o (g.IsKeys.bad_value {name = name} {k = k} {e = e} a n v) =
      keys_err depth column found t e (bad_value depth column found t name k e (key_sound a) (new_sound n) (value_sound depth column k.1 (Err e) v))
  keys_sound depth column found t o (g.one_key {name = name} {k = k} {r = r} a n v h s) =
      more_keys depth column found t (with_pair found name r.0, past_spaces r.1)
      (one_key depth column found t name k r (key_sound a) (new_sound n) (value_sound depth column k.1 (Ok r) v) h)
      ∙ keys_sound depth column (with_pair found name r.0) (past_spaces r.1) o s
  keys_sound depth column found t o (g.last_key {name = name} {k = k} {r = r} a n v h) =
      last_key depth column found t name k r (key_sound a) (new_sound n) (value_sound depth column k.1 (Ok r) v) h

  pub value_sound : (depth column : ℕ) (t : Text) (o : Step Node) → g.IsValue depth column t o → value depth (block depth) column t ≡ o
  value_sound depth column t o (g.bad_value_below {e = e} h b) = value_err depth column t e h (below_sound b)
  value_sound depth column t o (g.value_below {u = u} h b k s) =
      value_deeper depth column t u h (below_sound b) k ∙ block_sound depth (column + 1) (spaces u) (past_spaces u) o s
  value_sound depth column t o (g.IsValue.no_value {u = u} h b k) = value_none depth column t u h (below_sound b) k
  value_sound depth column t o (g.value_beside h s) = value_beside depth column t h ∙ inline_sound depth (column + 1) (past_white t) o s
