-- The grammar gives an outcome for each text: nodes of block style.
use Rattle.std.proofs.Common.{◌≡◌, ◌<◌, ℕ, zero, suc, ◌+◌, Bool, true, false, List, [], ◌∷◌, ◌++◌, length, drop, Ok, Err, inl, inr, arith}
use Rattle.std.proofs.lemmas.Bool.{cases_Bool, cases_lt}
use Rattle.std.specs.Prelude.{◌==◌}
use Rattle.std.proofs.lemmas.Bool.Decides.{eqb_tells}
use Rattle.dvc_base.specs.declared.node.Node.{Node}
use Rattle.dvc_base.specs.declared.node.Node.TheVariants as nd
use Rattle.dvc_base.specs.declared.node.Pair.{Pair}
use Rattle.yaml_text.specs.Outcome.{Text, syntax}
use Rattle.yaml_text.specs.Line.{spaces, past_spaces, past_white, is_rest_empty}
use Rattle.yaml_text.specs.Rules.{IsNext}
use Rattle.yaml_text.proofs.OutcomeLemmas.{Gives, given}
use Rattle.yaml_text.proofs.RuleLemmas.{next_total}
use Rattle.yaml_scalars.specs.Rules.{IsLines}
use Rattle.yaml_scalars.proofs.LinesRules.{lines_total}
use Rattle.yaml_nodes.specs.Part.{first, begins_form, too_deep, with_pair}
use Rattle.yaml_nodes.specs.Block.{begins_item}
use Rattle.yaml_nodes.specs.Grammar as g
use Rattle.yaml_nodes.proofs.FlowSoundness.{new_sound, key_sound}
use Rattle.yaml_nodes.proofs.BlockSoundness.{entry_sound, value_sound, one_entry, entry_left, one_key, key_left}
use Rattle.yaml_nodes.proofs.FlowTotal.{scalar_total, new_total, key_total, ahead_total, below_total, flow_total}

-- ---- scalars and flow forms

form_total : (depth least : ℕ) (t : Text) → begins_form t ≡ true → Gives (g.IsInline depth least t)
form_total depth least t h =
    elim (given (g.IsFlow depth t) (flow_total depth t)) [
      | inl r ↦ elim (given (g.IsBelow r.0.1) (below_total r.0.1))
          [ inl u ↦ (Ok (r.0.0, u.0), g.a_form h r.1 u.1) | inr e ↦ (Err e.0, g.behind_form h r.1 e.1) ]
      | inr e ↦ (Err e.0, g.bad_form h e.1)
    ]

lines_node_total : (depth least : ℕ) (t : Text) → g.begins_lines t ≡ true → Gives (g.IsInline depth least t)
lines_node_total depth least t h =
    elim (given (IsLines (first t == 62) least (drop 1 t)) (lines_total (first t == 62) least (drop 1 t))) [
      | inl r ↦ elim (given (IsNext r.0.1) (next_total r.0.1)) [ inl u ↦ (Ok (nd.Text r.0.0, u.0), g.some_lines h r.1 u.1) | inr e ↦ (Err e.0, g.behind_lines h r.1 e.1) ]
      | inr e ↦ (Err e.0, g.bad_lines h e.1)
    ]

scalar_line_total : (depth least : ℕ) (t : Text) → begins_form t ≡ false → g.begins_lines t ≡ false → Gives (g.IsInline depth least t)
scalar_line_total depth least t h k =
    elim (given (g.IsScalar false least t) (scalar_total false least t)) [
      | inl r ↦ elim (given (g.IsBelow r.0.1) (below_total r.0.1))
          [ inl u ↦ (Ok (r.0.0, u.0), g.a_scalar h k r.1 u.1) | inr e ↦ (Err e.0, g.behind_scalar h k r.1 e.1) ]
      | inr e ↦ (Err e.0, g.bad_scalar h k e.1)
    ]

inline_total : (depth least : ℕ) (t : Text) → Gives (g.IsInline depth least t)
inline_total depth least t =
    elim (cases_Bool (begins_form t)) [
      | inl h ↦ form_total depth least t h
      | inr h ↦ elim (cases_Bool (g.begins_lines t)) [ inl k ↦ lines_node_total depth least t k | inr k ↦ scalar_line_total depth least t h k ]
    ]

-- ---- items and pairs

-- each node in the collection has an outcome, and so have the shorter texts
abbrev Blocks : ℕ → Type 0
Blocks depth = (least column : ℕ) (t : Text) → Gives (g.IsBlock depth least column t)

abbrev Entries : ℕ → ℕ → ℕ → Type 0
Entries depth column n = (found : List Node) (t : Text) → length t < n → Gives (g.IsEntries depth column found t)

abbrev Keys : ℕ → ℕ → ℕ → Type 0
Keys depth column n = (found : List Pair) (t : Text) → length t < n → Gives (g.IsKeys depth column found t)

entry_below_total : (depth : ℕ) → Blocks depth → (column : ℕ) (t u : Text) → is_rest_empty t ≡ true → g.IsBelow t (Ok u) → Gives (g.IsEntry depth column t)
entry_below_total depth each column t u h b =
    elim (cases_lt column (spaces u))
    [ inl k ↦ let s = each (column + 1) (spaces u) (past_spaces u) in (s.0, g.entry_below h b k s.1) | inr k ↦ (Ok (nd.Null, u), g.no_entry h b k) ]

entry_total : (depth : ℕ) → Blocks depth → (column : ℕ) (t : Text) → Gives (g.IsEntry depth column t)
entry_total depth each column t =
    elim (cases_Bool (is_rest_empty t)) [
      | inl h ↦ elim (given (g.IsBelow t) (below_total t))
          [ inl u ↦ entry_below_total depth each column t u.0 h u.1 | inr e ↦ (Err e.0, g.bad_entry_below h e.1) ]
      | inr h ↦ elim (eqb_tells (first (past_spaces t)) 9) [
        | inl k ↦ (syntax (past_spaces t), g.a_tab h k.1)
        | inr k ↦ let s = each (column + 1) (column + 1 + spaces t) (past_spaces t) in (s.0, g.entry_beside h k.1 s.1)
      ]
    ]

entries_total : (depth : ℕ) → Blocks depth → (column n : ℕ) → Entries depth column n
entries_total depth each column zero found t h = absurd (omega arith)
entries_total depth each column (suc n) found t h =
    elim (given (g.IsEntry depth column (drop 1 t)) (entry_total depth each column (drop 1 t))) [
      | inl r ↦ elim (cases_Bool (g.another_item column r.0.1)) [
        | inl k ↦
            let left = entry_left depth column found t (found ++ r.0.0 ∷ [], past_spaces r.0.1)
            (one_entry depth column found t r.0 (entry_sound depth column (drop 1 t) (Ok r.0) r.1) k) in
            let s = entries_total depth each column n (found ++ r.0.0 ∷ []) (past_spaces r.0.1) (omega arith) in
            (s.0, g.one_entry r.1 k s.1)
        | inr k ↦ (Ok (nd.Items (found ++ r.0.0 ∷ []), r.0.1), g.last_entry r.1 k)
      ]
      | inr e ↦ (Err e.0, g.bad_entry e.1)
    ]

value_below_total : (depth : ℕ) → Blocks depth → (column : ℕ) (t u : Text) → is_rest_empty t ≡ true → g.IsBelow t (Ok u) → Gives (g.IsValue depth column t)
value_below_total depth each column t u h b =
    elim (cases_Bool (g.has_value column u))
    [ inl k ↦ let s = each (column + 1) (spaces u) (past_spaces u) in (s.0, g.value_below h b k s.1) | inr k ↦ (Ok (nd.Null, u), g.IsValue.no_value h b k) ]

value_total : (depth : ℕ) → Blocks depth → (column : ℕ) (t : Text) → Gives (g.IsValue depth column t)
value_total depth each column t =
    elim (cases_Bool (is_rest_empty t)) [
      | inl h ↦ elim (given (g.IsBelow t) (below_total t))
          [ inl u ↦ value_below_total depth each column t u.0 h u.1 | inr e ↦ (Err e.0, g.bad_value_below h e.1) ]
      | inr h ↦ let s = inline_total depth (column + 1) (past_white t) in (s.0, g.value_beside h s.1)
    ]

behind_value_total : (depth column : ℕ) (found : List Pair) (t name : Text) (k : Text × Text) (r : Node × Text) → Keys depth column (length t) → g.IsKey t (Ok k)
    → g.IsNew found t k.0 (Ok name) → g.IsValue depth column k.1 (Ok r) → Gives (g.IsKeys depth column found t)
behind_value_total depth column found t name k r more a n v =
    elim (cases_Bool (g.another_pair column r.1)) [
      | inl h ↦
          let left = key_left depth column found t (with_pair found name r.0, past_spaces r.1)
          (one_key depth column found t name k r (key_sound a) (new_sound n) (value_sound depth column k.1 (Ok r) v) h) in
          let s = more (with_pair found name r.0) (past_spaces r.1) left in
          (s.0, g.one_key a n v h s.1)
      | inr h ↦ (Ok (nd.Pairs (with_pair found name r.0), r.1), g.last_key a n v h)
    ]

named_total : (depth : ℕ) → Blocks depth → (column : ℕ) (found : List Pair) (t : Text) (k : Text × Text) → Keys depth column (length t) → g.IsKey t (Ok k)
    → Gives (g.IsKeys depth column found t)
named_total depth each column found t k more a =
    elim (given (g.IsNew found t k.0) (new_total found t k.0)) [
      | inl n ↦ elim (given (g.IsValue depth column k.1) (value_total depth each column k.1))
          [ inl r ↦ behind_value_total depth column found t n.0 k r.0 more a n.1 r.1 | inr e ↦ (Err e.0, g.IsKeys.bad_value a n.1 e.1) ]
      | inr e ↦ (Err e.0, g.IsKeys.old_key a e.1)
    ]

keys_total : (depth : ℕ) → Blocks depth → (column n : ℕ) → Keys depth column n
keys_total depth each column zero found t h = absurd (omega arith)
keys_total depth each column (suc n) found t h =
    elim (given (g.IsKey t) (key_total t))
    [ inl k ↦ named_total depth each column found t k.0 (λ f v l. keys_total depth each column n f v (omega arith)) k.1 | inr e ↦ (Err e.0, g.IsKeys.bad_key e.1) ]

-- ---- a node

inline_node_total : (depth least column : ℕ) (t : Text) → begins_item t ≡ false → g.IsKeyAhead t (Ok false) → Gives (g.IsBlock depth least column t)
inline_node_total depth least column t h k = let s = inline_total depth least t in (s.0, g.IsBlock.inline h k s.1)

mapping_total : (depth : ℕ) → Blocks depth → (least column : ℕ) (t : Text) → begins_item t ≡ false → (b : Bool) → g.IsKeyAhead t (Ok b) → Gives (g.IsBlock (suc depth) least column t)
mapping_total depth each least column t h true k = let s = keys_total depth each column (suc (length t)) [] t (omega arith) in (s.0, g.IsBlock.mapping h k s.1)
mapping_total depth each least column t h false k = inline_node_total (suc depth) least column t h k

shallow_total : (least column : ℕ) (t : Text) → begins_item t ≡ false → (b : Bool) → g.IsKeyAhead t (Ok b) → Gives (g.IsBlock zero least column t)
shallow_total least column t h true k = (too_deep t, g.too_deep_key h k)
shallow_total least column t h false k = inline_node_total zero least column t h k

pub block_total : (depth : ℕ) → Blocks depth
block_total zero least column t =
    elim (cases_Bool (begins_item t)) [
      | inl h ↦ (too_deep t, g.too_deep_item h)
      | inr h ↦ elim (given (g.IsKeyAhead t) (ahead_total t)) [ inl k ↦ shallow_total least column t h k.0 k.1 | inr e ↦ (Err e.0, g.bad_start h e.1) ]
    ]
block_total (suc depth) least column t =
    elim (cases_Bool (begins_item t)) [
      | inl h ↦ let s = entries_total depth (block_total depth) column (suc (length t)) [] t (omega arith) in (s.0, g.IsBlock.sequence h s.1)
      | inr h ↦ elim (given (g.IsKeyAhead t) (ahead_total t)) [ inl k ↦ mapping_total depth (block_total depth) least column t h k.0 k.1 | inr e ↦ (Err e.0, g.bad_start h e.1) ]
    ]
