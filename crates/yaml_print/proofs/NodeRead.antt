-- Every node, as it is read.
use Rattle.std.proofs.Common.{◌≡◌, ℕ, zero, suc, ◌≤◌, cond, List, [], ◌∷◌, ◌++◌, Ok, refl, ap, sym, subst, ◌∙◌, arith, append_assoc}
use Rattle.dvc_base.specs.declared.node.Node.{Node, out-Node, roll-Node}
use Rattle.dvc_base.specs.declared.node.Node.TheOpen.{Node-F}
use Rattle.dvc_base.specs.declared.node.Node.TheVariants as nd
use Rattle.dvc_base.specs.declared.node.Pair.{Pair}
use Rattle.yaml_text.specs.Outcome.{Text, Step, ◌>>=◌}
use Rattle.yaml_nodes.specs.Part.{steps, too_deep, key_of}
use Rattle.yaml_nodes.specs.Block.{inline, begins_item, begins_key, sequence, mapping, mapping_turn, block}
use Rattle.yaml_print.specs.ScalarText.{Layer}
use Rattle.yaml_print.specs.Print.{value_of, inline_text, rows, item_text, value_text, pair_text, layer_text, node_text}
use Rattle.yaml_print.specs.Sound.{Inside, IsScalar, IsFlat, IsProper, IsSound, IsSpelt, AreTexts}
use Rattle.yaml_print.proofs.NodeLemmas.{scalar_flat}
use Rattle.yaml_print.proofs.NodeCases.{back}
use Rattle.yaml_print.proofs.LineRead.{IsHead, Below}
use Rattle.yaml_print.proofs.InlineRead.{feed_ends, IsUnmarked}
use Rattle.yaml_print.proofs.WrittenRead.{Value, written_key}
use Rattle.yaml_print.proofs.FlatRead.{scalar_value, flat_value}
use Rattle.yaml_print.proofs.ItemsRead.{EndsNode, Reads, items_read}
use Rattle.yaml_print.proofs.PairsRead.{at_pair, pair_apart, pair_head, pair_marks, pair_no_item, follows_colon_value, pairs_read}

-- ---- scalars and empty collections

flat_ends : (l : Layer) (least column : ℕ) (t : Text) → IsFlat l → EndsNode l least column t → Below least t
flat_ends (Node-F.Items (x ∷ xs)) least column t f s = absurd f
flat_ends (Node-F.Items []) least column t f s = s
flat_ends (Node-F.Pairs (p ∷ ps)) least column t f s = absurd f
flat_ends (Node-F.Pairs []) least column t f s = s
flat_ends Node-F.Null least column t f s = s
flat_ends (Node-F.Bool b) least column t f s = s
flat_ends (Node-F.Whole n w) least column t f s = s
flat_ends (Node-F.Decimal w) least column t f s = s
flat_ends (Node-F.Text w) least column t f s = s

pub flat_text : (inner : ℕ → Node → Text) (n : ℕ) (l : Layer) → IsFlat l → layer_text inner n l ≡ inline_text l ++ 10 ∷ []
flat_text inner n (Node-F.Items (x ∷ xs)) f = absurd f
flat_text inner n (Node-F.Items []) f = refl
flat_text inner n (Node-F.Pairs (p ∷ ps)) f = absurd f
flat_text inner n (Node-F.Pairs []) f = refl
flat_text inner n Node-F.Null f = refl
flat_text inner n (Node-F.Bool b) f = refl
flat_text inner n (Node-F.Whole k w) f = refl
flat_text inner n (Node-F.Decimal w) f = refl
flat_text inner n (Node-F.Text w) f = refl

line_apart : (w t : Text) → (w ++ 10 ∷ []) ++ t ≡ w ++ 10 ∷ t
line_apart w t = append_assoc w (10 ∷ []) t

-- neither a dash nor a key
no_collection : (low depth least : ℕ) (w t : Text) (v : Node) (s m : Step Node) → Value low w v → low ≤ depth → Below least t
    → cond (begins_item (w ++ 10 ∷ t)) s (begins_key (w ++ 10 ∷ t) >>= λ is_key. cond is_key m (inline depth least (w ++ 10 ∷ t))) ≡ Ok (v, t)
no_collection low depth least w t v s m r some b =
    let u = w ++ 10 ∷ t in
    let i = inline depth least u in
    ap (λ c. cond c s (begins_key u >>= λ is_key. cond is_key m i)) (r.no_item t)
    ∙ ap (λ o. o >>= λ is_key. cond is_key m i) (r.no_key t)
    ∙ r.reads depth least t some b

-- ---- no collection at all

pub none_sound : (v : Node) → IsSound 0 v → IsProper (out-Node v) × IsScalar (out-Node v)
unfolding IsSound
none_sound v h = h

pub none_spelt : (v : Node) → AreTexts 0 v → IsSpelt (out-Node v)
unfolding AreTexts
none_spelt v h = h

none_text : (n : ℕ) (v : Node) (t : Text) → node_text 0 n v ++ t ≡ inline_text (out-Node v) ++ 10 ∷ t
unfolding node_text
none_text n v t = line_apart (inline_text (out-Node v)) t

none_value : (v : Node) → IsSound 0 v → AreTexts 0 v → Value 0 (inline_text (out-Node v)) v
none_value v sound texts =
    let s = none_sound v sound in
    subst (λ x. Value 0 (inline_text (out-Node v)) x) (back v) (scalar_value (out-Node v) s.1 s.0 (none_spelt v texts))

none_block : (v : Node) (least column : ℕ) (t : Text) → Value 0 (inline_text (out-Node v)) v → Below least t → block 0 least column (inline_text (out-Node v) ++ 10 ∷ t) ≡ Ok (v, t)
unfolding block
none_block v least column t r b =
    let u = inline_text (out-Node v) ++ 10 ∷ t in
    no_collection 0 0 least (inline_text (out-Node v)) t v (too_deep u) (too_deep u) r (omega arith) b

not_items : (l : Layer) (x : Node) (xs : List Node) (o : Type 0) → IsScalar l → l ≡ Node-F.Items (x ∷ xs) → o
not_items l x xs o h is = absurd (subst (λ k. IsScalar k) is h)

reads_none : Reads 0
reads_none = record {
  reads = λ v least column t sound texts ends.
      ap (block 0 least column) (none_text column v t)
      ∙ none_block v least column t (none_value v sound texts) (flat_ends (out-Node v) least column t (scalar_flat (out-Node v) ((none_sound v sound).1)) ends);
  inlines = λ v least column t sound texts flat b.
      ap (inline 0 least) (none_text column v t) ∙ (none_value v sound texts).reads 0 least t (omega arith) b;
  heads = λ v column t sound texts.
      subst (λ w. IsHead w) (sym (none_text column v t)) ((none_value v sound texts).head (10 ∷ t) (feed_ends t));
  marks = λ v column t sound texts.
      subst (λ w. IsUnmarked w) (sym (none_text column v t)) ((none_value v sound texts).marks (10 ∷ t) (feed_ends t));
  dashes = λ v x xs column t sound is. not_items (out-Node v) x xs _ ((none_sound v sound).1) is;
}

-- ---- one more level

pub more_sound : (d : ℕ) (v : Node) → IsSound (suc d) v → IsProper (out-Node v) × Inside (IsSound d) (out-Node v)
unfolding IsSound
more_sound d v h = h

pub more_spelt : (d : ℕ) (v : Node) → AreTexts (suc d) v → IsSpelt (out-Node v) × Inside (AreTexts d) (out-Node v)
unfolding AreTexts
more_spelt d v h = h

more_text : (d n : ℕ) (v : Node) (t : Text) → node_text (suc d) n v ++ t ≡ layer_text (node_text d) n (out-Node v) ++ t
unfolding node_text
more_text d n v t = refl

flat_layer : (d least column : ℕ) (l : Layer) (t : Text) → IsFlat l → IsProper l → IsSpelt l → Below least t → block (suc d) least column (layer_text (node_text d) column l ++ t) ≡ Ok (roll-Node l, t)
unfolding block
flat_layer d least column l t flat proper spelt b =
    let u = inline_text l ++ 10 ∷ t in
    ap (λ w. block (suc d) least column (w ++ t)) (flat_text (node_text d) column l flat)
    ∙ ap (block (suc d) least column) (line_apart (inline_text l) t)
    ∙ no_collection 1 (suc d) least (inline_text l) t (roll-Node l) (sequence (block d) column u) (mapping d (block d) column u) (flat_value l flat proper spelt) (omega arith) b

sequence_read : (d : ℕ) → Reads d → (least column : ℕ) (x : Node) (xs : List Node) (t : Text) → Inside (IsSound d) (Node-F.Items (x ∷ xs)) → Inside (AreTexts d) (Node-F.Items (x ∷ xs)) → EndsNode (Node-F.Items (x ∷ xs)) least column t
    → block (suc d) least column (layer_text (node_text d) column (Node-F.Items (x ∷ xs)) ++ t) ≡ Ok (roll-Node (Node-F.Items (x ∷ xs)), t)
unfolding block sequence
sequence_read d r least column x xs t sound texts ends =
    let line = item_text (node_text d) column in
    ap (block (suc d) least column) (append_assoc (line x) (rows column line xs) t)
    ∙ ap (λ o. o >>= λ q. Ok (nd.Items q.0, q.1)) (items_read d r column [] x xs t sound texts ends)
    ∙ ap (λ v. Ok (v, t)) (sym (nd.rolls-Items (x ∷ xs)))

pairs_apart : (d column : ℕ) (p : Pair) (ps : List Pair) (t : Text)
    → layer_text (node_text d) column (Node-F.Pairs (p ∷ ps)) ++ t ≡ at_pair d column p (rows column (pair_text (node_text d) column) ps ++ t)
pairs_apart d column p ps t =
    append_assoc (pair_text (node_text d) column p) (rows column (pair_text (node_text d) column) ps) t
    ∙ pair_apart d column p (rows column (pair_text (node_text d) column) ps ++ t)

mapping_read : (d : ℕ) → Reads d → (least column : ℕ) (p : Pair) (ps : List Pair) (t : Text) → IsProper (Node-F.Pairs (p ∷ ps)) → IsSpelt (Node-F.Pairs (p ∷ ps))
    → Inside (IsSound d) (Node-F.Pairs (p ∷ ps)) → Inside (AreTexts d) (Node-F.Pairs (p ∷ ps)) → EndsNode (Node-F.Pairs (p ∷ ps)) least column t
    → block (suc d) least column (layer_text (node_text d) column (Node-F.Pairs (p ∷ ps)) ++ t) ≡ Ok (roll-Node (Node-F.Pairs (p ∷ ps)), t)
unfolding block mapping
mapping_read d r least column p ps t fresh spelt sound texts ends =
    let rest = rows column (pair_text (node_text d) column) ps ++ t in
    let u = at_pair d column p rest in
    let s = sequence (block d) column u in
    let m = steps (mapping_turn d (block d) column) [] u >>= λ q. Ok (nd.Pairs q.0, q.1) in
    let i = inline (suc d) least u in
    ap (block (suc d) least column) (pairs_apart d column p ps t)
    ∙ ap (λ c. cond c s (begins_key u >>= λ is_key. cond is_key m i)) (pair_no_item d column p rest spelt.0)
    ∙ ap (λ o. o >>= λ is_key. cond is_key m i) ((written_key (key_of p) spelt.0).begins (value_text (node_text d) column (value_of p) ++ rest) (follows_colon_value d column (value_of p) rest))
    ∙ ap (λ o. o >>= λ q. Ok (nd.Pairs q.0, q.1)) (pairs_read d r column [] p ps t spelt sound texts fresh ends)
    ∙ ap (λ v. Ok (v, t)) (sym (nd.rolls-Pairs (p ∷ ps)))

layer_read : (d : ℕ) → Reads d → (least column : ℕ) (l : Layer) (t : Text) → IsProper l → IsSpelt l → Inside (IsSound d) l → Inside (AreTexts d) l → EndsNode l least column t
    → block (suc d) least column (layer_text (node_text d) column l ++ t) ≡ Ok (roll-Node l, t)
layer_read d r least column (Node-F.Items (x ∷ xs)) t proper spelt sound texts ends = sequence_read d r least column x xs t sound texts ends
layer_read d r least column (Node-F.Pairs (p ∷ ps)) t proper spelt sound texts ends = mapping_read d r least column p ps t proper spelt sound texts ends
layer_read d r least column (Node-F.Items []) t proper spelt sound texts ends = flat_layer d least column (Node-F.Items []) t tt proper spelt ends
layer_read d r least column (Node-F.Pairs []) t proper spelt sound texts ends = flat_layer d least column (Node-F.Pairs []) t tt proper spelt ends
layer_read d r least column Node-F.Null t proper spelt sound texts ends = flat_layer d least column Node-F.Null t tt proper spelt ends
layer_read d r least column (Node-F.Bool b) t proper spelt sound texts ends = flat_layer d least column (Node-F.Bool b) t tt proper spelt ends
layer_read d r least column (Node-F.Whole n w) t proper spelt sound texts ends = flat_layer d least column (Node-F.Whole n w) t tt proper spelt ends
layer_read d r least column (Node-F.Decimal w) t proper spelt sound texts ends = flat_layer d least column (Node-F.Decimal w) t tt proper spelt ends
layer_read d r least column (Node-F.Text w) t proper spelt sound texts ends = flat_layer d least column (Node-F.Text w) t tt proper spelt ends

flat_head : (d column : ℕ) (l : Layer) (t : Text) → IsFlat l → IsProper l → IsSpelt l → IsHead (layer_text (node_text d) column l ++ t)
flat_head d column l t flat proper spelt =
    let e = ap (λ w. w ++ t) (flat_text (node_text d) column l flat) ∙ line_apart (inline_text l) t in
    subst (λ w. IsHead w) (sym e) ((flat_value l flat proper spelt).head (10 ∷ t) (feed_ends t))

layer_head : (d column : ℕ) (l : Layer) (t : Text) → IsProper l → IsSpelt l → IsHead (layer_text (node_text d) column l ++ t)
layer_head d column (Node-F.Items (x ∷ xs)) t proper spelt = (refl, refl, refl, refl)
layer_head d column (Node-F.Pairs (p ∷ ps)) t proper spelt =
    subst (λ w. IsHead w) (sym (pairs_apart d column p ps t)) (pair_head d column p (rows column (pair_text (node_text d) column) ps ++ t) spelt.0)
layer_head d column (Node-F.Items []) t proper spelt = flat_head d column (Node-F.Items []) t tt proper spelt
layer_head d column (Node-F.Pairs []) t proper spelt = flat_head d column (Node-F.Pairs []) t tt proper spelt
layer_head d column Node-F.Null t proper spelt = flat_head d column Node-F.Null t tt proper spelt
layer_head d column (Node-F.Bool b) t proper spelt = flat_head d column (Node-F.Bool b) t tt proper spelt
layer_head d column (Node-F.Whole n w) t proper spelt = flat_head d column (Node-F.Whole n w) t tt proper spelt
layer_head d column (Node-F.Decimal w) t proper spelt = flat_head d column (Node-F.Decimal w) t tt proper spelt
layer_head d column (Node-F.Text w) t proper spelt = flat_head d column (Node-F.Text w) t tt proper spelt

flat_marks : (d column : ℕ) (l : Layer) (t : Text) → IsFlat l → IsProper l → IsSpelt l → IsUnmarked (layer_text (node_text d) column l ++ t)
flat_marks d column l t flat proper spelt =
    let e = ap (λ w. w ++ t) (flat_text (node_text d) column l flat) ∙ line_apart (inline_text l) t in
    subst (λ w. IsUnmarked w) (sym e) ((flat_value l flat proper spelt).marks (10 ∷ t) (feed_ends t))

layer_marks : (d column : ℕ) (l : Layer) (t : Text) → IsProper l → IsSpelt l → IsUnmarked (layer_text (node_text d) column l ++ t)
layer_marks d column (Node-F.Items (x ∷ xs)) t proper spelt = record { dashes = refl; dots = refl; order = refl }
layer_marks d column (Node-F.Pairs (p ∷ ps)) t proper spelt =
    subst (λ w. IsUnmarked w) (sym (pairs_apart d column p ps t)) (pair_marks d column p (rows column (pair_text (node_text d) column) ps ++ t) spelt.0)
layer_marks d column (Node-F.Items []) t proper spelt = flat_marks d column (Node-F.Items []) t tt proper spelt
layer_marks d column (Node-F.Pairs []) t proper spelt = flat_marks d column (Node-F.Pairs []) t tt proper spelt
layer_marks d column Node-F.Null t proper spelt = flat_marks d column Node-F.Null t tt proper spelt
layer_marks d column (Node-F.Bool b) t proper spelt = flat_marks d column (Node-F.Bool b) t tt proper spelt
layer_marks d column (Node-F.Whole n w) t proper spelt = flat_marks d column (Node-F.Whole n w) t tt proper spelt
layer_marks d column (Node-F.Decimal w) t proper spelt = flat_marks d column (Node-F.Decimal w) t tt proper spelt
layer_marks d column (Node-F.Text w) t proper spelt = flat_marks d column (Node-F.Text w) t tt proper spelt

more_inline : (d least column : ℕ) (l : Layer) (t : Text) → IsFlat l → IsProper l → IsSpelt l → Below least t → inline (suc d) least (layer_text (node_text d) column l ++ t) ≡ Ok (roll-Node l, t)
more_inline d least column l t flat proper spelt b =
    ap (λ w. inline (suc d) least (w ++ t)) (flat_text (node_text d) column l flat)
    ∙ ap (inline (suc d) least) (line_apart (inline_text l) t)
    ∙ (flat_value l flat proper spelt).reads (suc d) least t (omega arith) b

back_ok : (v : Node) (t : Text) → (let r : Step Node = Ok (roll-Node (out-Node v), t) in r) ≡ Ok (v, t)
back_ok v t = ap (λ x. Ok (x, t)) (back v)

reads_more : (d : ℕ) → Reads d → Reads (suc d)
reads_more d r = record {
  reads = λ v least column t sound texts ends.
      let s = more_sound d v sound in
      let w = more_spelt d v texts in
      ap (block (suc d) least column) (more_text d column v t) ∙ layer_read d r least column (out-Node v) t s.0 w.0 s.1 w.1 ends ∙ back_ok v t;
  inlines = λ v least column t sound texts flat b.
      ap (inline (suc d) least) (more_text d column v t) ∙ more_inline d least column (out-Node v) t flat ((more_sound d v sound).0) ((more_spelt d v texts).0) b ∙ back_ok v t;
  heads = λ v column t sound texts.
      subst (λ w. IsHead w) (sym (more_text d column v t)) (layer_head d column (out-Node v) t ((more_sound d v sound).0) ((more_spelt d v texts).0));
  marks = λ v column t sound texts.
      subst (λ w. IsUnmarked w) (sym (more_text d column v t)) (layer_marks d column (out-Node v) t ((more_sound d v sound).0) ((more_spelt d v texts).0));
  dashes = λ v x xs column t sound is.
      ap begins_item (more_text d column v t) ∙ ap (λ l. begins_item (layer_text (node_text d) column l ++ t)) is;
}

-- a node of at most d collections in one another is read back, whatever may stand behind it
pub reads_all : (d : ℕ) → Reads d
reads_all zero = reads_none
reads_all (suc d) = reads_more d (reads_all d)
