-- A scalar or an empty collection, as it is read.
use Rattle.std.proofs.Common.{◌≡◌, ℕ, zero, suc, ◌≤◌, Bool, true, false, cond, [], ◌∷◌, Ok, refl, ap, sym, subst, ◌∙◌, arith}
use Rattle.std.specs.Prelude.{codes}
use Rattle.dvc_base.specs.declared.node.Node.{Node, roll-Node}
use Rattle.dvc_base.specs.declared.node.Node.TheOpen.{Node-F}
use Rattle.dvc_base.specs.declared.node.Node.TheVariants as nd
use Rattle.yaml_text.specs.Outcome.{Text, Step, ◌>>=◌}
use Rattle.yaml_scalars.specs.Kind.{scalar}
use Rattle.yaml_nodes.specs.Flow.{between_parts, item_turn, items, pair_turn, pairs, flow_form, flow_node}
use Rattle.yaml_nodes.specs.Block.{line_end, inline, begins_key}
use Rattle.yaml_nodes.proofs.StepLemmas.{steps_step}
use Rattle.yaml_print.specs.ScalarText.{Layer, scalar_text}
use Rattle.yaml_print.specs.Print.{inline_text}
use Rattle.yaml_print.specs.Sound.{IsScalar, IsFlat, IsProper, IsSpelt}
use Rattle.yaml_print.proofs.Shown.{graphs_fine}
use Rattle.yaml_print.proofs.NodeCases.{kind_same}
use Rattle.yaml_print.proofs.InlineRead.{one_line, ended}
use Rattle.yaml_print.proofs.NumberRead.{whole_line, decimal_line}
use Rattle.yaml_print.proofs.WrittenRead.{Value, plain_value, one_line_fine, written_value}

null_value : Value 0 (codes "null") nd.Null
unfolding scalar
null_value = plain_value (codes "null") nd.Null (graphs_fine (codes "null") refl) (one_line (codes "null") refl refl) (λ k. refl)

bool_value : (b : Bool) → Value 0 (cond b (codes "true") (codes "false")) (nd.Bool b)
unfolding scalar
bool_value true = plain_value (codes "true") (nd.Bool true) (graphs_fine (codes "true") refl) (one_line (codes "true") refl refl) (λ k. refl)
bool_value false = plain_value (codes "false") (nd.Bool false) (graphs_fine (codes "false") refl) (one_line (codes "false") refl refl) (λ k. refl)

pub scalar_value : (l : Layer) → IsScalar l → IsProper l → IsSpelt l → Value 0 (inline_text l) (roll-Node l)
scalar_value Node-F.Null s p t = subst (λ v. Value 0 (codes "null") v) (sym nd.rolls-Null) null_value
scalar_value (Node-F.Bool b) s p t = subst (λ v. Value 0 (cond b (codes "true") (codes "false")) v) (sym (nd.rolls-Bool b)) (bool_value b)
scalar_value (Node-F.Whole n w) s p t =
    let l = whole_line n w p in
    subst (λ v. Value 0 w v) (sym (nd.rolls-Whole n w)) (plain_value w (nd.Whole n w) (one_line_fine w t l) l (λ k. kind_same 0 k w (nd.Whole n w) p))
scalar_value (Node-F.Decimal w) s p t =
    let l = decimal_line w p in
    subst (λ v. Value 0 w v) (sym (nd.rolls-Decimal w)) (plain_value w (nd.Decimal w) (one_line_fine w t l) l (λ k. kind_same 0 k w (nd.Decimal w) p))
scalar_value (Node-F.Text w) s p t = subst (λ v. Value 0 (scalar_text w) v) (sym (nd.rolls-Text w)) (written_value w t)
scalar_value (Node-F.Items xs) s p t = absurd s
scalar_value (Node-F.Pairs ps) s p t = absurd s

-- ---- empty collections

no_items : (node : Text → Step Node) (u : Text) → items node (93 ∷ u) ≡ Ok (nd.Items [], u)
unfolding items item_turn between_parts
no_items node u = ap (λ o. o >>= λ r. Ok (nd.Items r.0, r.1)) (sym (steps_step (item_turn node) [] (93 ∷ u)))

no_pairs : (node : Text → Step Node) (u : Text) → pairs node (125 ∷ u) ≡ Ok (nd.Pairs [], u)
unfolding pairs pair_turn between_parts
no_pairs node u = ap (λ o. o >>= λ r. Ok (nd.Pairs r.0, r.1)) (sym (steps_step (pair_turn node) [] (125 ∷ u)))

flow_items : (depth : ℕ) (u : Text) → 1 ≤ depth → flow_node depth (91 ∷ 93 ∷ u) ≡ Ok (nd.Items [], u)
unfolding flow_node flow_form
flow_items zero u some = absurd (omega arith)
flow_items (suc depth) u some = no_items (flow_node depth) u

flow_pairs : (depth : ℕ) (u : Text) → 1 ≤ depth → flow_node depth (123 ∷ 125 ∷ u) ≡ Ok (nd.Pairs [], u)
unfolding flow_node flow_form
flow_pairs zero u some = absurd (omega arith)
flow_pairs (suc depth) u some = no_pairs (flow_node depth) u

items_value : Value 1 (codes "[]") (nd.Items [])
unfolding inline begins_key
items_value = record {
  fine = graphs_fine (codes "[]") refl;
  marks = λ u e. record { dashes = refl; dots = refl; order = refl };
  head = λ u e. (refl, refl, refl, refl);
  no_item = λ u. refl;
  no_key = λ u. refl;
  reads = λ depth least u some b. ap (λ o. o >>= line_end) (flow_items depth (10 ∷ u) some) ∙ ended (nd.Items []) u b.line.next;
}

pairs_value : Value 1 (codes "{}") (nd.Pairs [])
unfolding inline begins_key
pairs_value = record {
  fine = graphs_fine (codes "{}") refl;
  marks = λ u e. record { dashes = refl; dots = refl; order = refl };
  head = λ u e. (refl, refl, refl, refl);
  no_item = λ u. refl;
  no_key = λ u. refl;
  reads = λ depth least u some b. ap (λ o. o >>= line_end) (flow_pairs depth (10 ∷ u) some) ∙ ended (nd.Pairs []) u b.line.next;
}

pub deeper_value : (w : Text) (v : Node) → Value 0 w v → Value 1 w v
deeper_value w v r = record {
  fine = r.fine;
  marks = r.marks;
  head = r.head;
  no_item = r.no_item;
  no_key = r.no_key;
  reads = λ depth least u some b. r.reads depth least u (omega arith) b;
}

pub flat_value : (l : Layer) → IsFlat l → IsProper l → IsSpelt l → Value 1 (inline_text l) (roll-Node l)
flat_value (Node-F.Items []) f p t = subst (λ v. Value 1 (codes "[]") v) (sym (nd.rolls-Items [])) items_value
flat_value (Node-F.Items (x ∷ xs)) f p t = absurd f
flat_value (Node-F.Pairs []) f p t = subst (λ v. Value 1 (codes "{}") v) (sym (nd.rolls-Pairs [])) pairs_value
flat_value (Node-F.Pairs (q ∷ ps)) f p t = absurd f
flat_value Node-F.Null f p t = deeper_value (inline_text Node-F.Null) (roll-Node Node-F.Null) (scalar_value Node-F.Null tt p t)
flat_value (Node-F.Bool b) f p t = deeper_value (inline_text (Node-F.Bool b)) (roll-Node (Node-F.Bool b)) (scalar_value (Node-F.Bool b) tt p t)
flat_value (Node-F.Whole n w) f p t = deeper_value w (roll-Node (Node-F.Whole n w)) (scalar_value (Node-F.Whole n w) tt p t)
flat_value (Node-F.Decimal w) f p t = deeper_value w (roll-Node (Node-F.Decimal w)) (scalar_value (Node-F.Decimal w) tt p t)
flat_value (Node-F.Text w) f p t = deeper_value (scalar_text w) (roll-Node (Node-F.Text w)) (scalar_value (Node-F.Text w) tt p t)
