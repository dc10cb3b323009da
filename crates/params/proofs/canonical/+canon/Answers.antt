-- Each kind of node is made as it is defined.
use Rattle.std.proofs.Common.{◌≡◌, ◌∙◌, ap, sym, refl, rules, SFits}
use Rattle.std.specs.Int.{w128}
use Rattle.std.proofs.lemmas.Int.{to_z-of_z}
use Rattle.dvc_base.specs.declared.node.Node.{out-Node}
use Rattle.dvc_base.specs.declared.node.Node.TheOpen.{Node-F}
use Rattle.dvc_base.specs.declared.node.Node.TheVariants as nd
use Rattle.yaml_print.proofs.NodeCases.{out_null, out_bool, out_whole, out_text}
use Rattle.params.specs.Number.{number_node, whole_number}
use Rattle.params.proofs.CanonLemmas.{of_layer, of_decimal, of_items, of_pairs, if_ok, list_same, pairs_same}
use Rattle.params.proofs.canonical.+canon.Goals as goal

pub canon-returns-in-Null : goal.canon-returns-in-Null
canon-returns-in-Null t c = record { exact = λ d sound. of_layer c.args.node.now Node-F.Null nd.Null (ap out-Node c.in-Null.is ∙ out_null) (λ f. refl) d }

pub canon-returns-in-Bool : goal.canon-returns-in-Bool
canon-returns-in-Bool t c =
    let b = c.in-Bool.bit in
    record { exact = λ d sound. of_layer c.args.node.now (Node-F.Bool b) (nd.Bool b) (ap out-Node c.in-Bool.is ∙ out_bool b) (λ f. refl) d }

pub canon-returns-in-Whole : goal.canon-returns-in-Whole
canon-returns-in-Whole t c =
    let v = c.in-Whole.value in
    let w = c.in-Whole.text in
    let fits : SFits w128 v = search rules in
    record {
      exact = λ d sound.
          if_ok c.number_node.result c.number_node.ensures.exact
          (λ m is. of_layer c.args.node.now (Node-F.Whole v w) m (ap out-Node c.in-Whole.is ∙ out_whole v w) (λ f. is ∙ ap number_node (c.whole_number.ensures.exact ∙ ap whole_number (to_z-of_z w128 v fits))) d);
    }

pub canon-returns-in-Decimal : goal.canon-returns-in-Decimal
canon-returns-in-Decimal t c =
    let w = c.as_bytes.result.now in
    let same : w ≡ c.in-Decimal.text = c.as_bytes.ensures.value ∙ c.as_str.ensures.same in
    let is : c.args.node.now ≡ nd.Decimal w = c.in-Decimal.is ∙ ap nd.Decimal (sym same) in
    record {
      exact = λ d sound.
          if_ok c.number_node-in-Decimal.result c.number_node-in-Decimal.ensures.exact
          (λ m made. of_decimal c.args.node.now w m is (λ h. made ∙ ap number_node (c.decimal_number.ensures.exact h)) d sound);
    }

pub canon-returns-in_ok-copy-in-Text : goal.canon-returns-in_ok-copy-in-Text
canon-returns-in_ok-copy-in-Text t c =
    let w = c.in-Text.text in
    record {
      exact = λ d sound.
          ap nd.Text c.in_ok-copy-in-Text.ensures.same
          ∙ of_layer c.args.node.now (Node-F.Text w) (nd.Text w) (ap out-Node c.in-Text.is ∙ out_text w) (λ f. refl) d;
    }

pub canon-returns-in_ok-canon_items-in-Items : goal.canon-returns-in_ok-canon_items-in-Items
canon-returns-in_ok-canon_items-in-Items t c =
    record {
      exact = of_items c.args.node.now c.in-Items.items c.in_ok-canon_items-in-Items.field-0 c.in-Items.is
          (list_same c.as_slice.result.now c.in-Items.items c.in_ok-canon_items-in-Items.field-0 c.as_slice.ensures.same c.in_ok-canon_items-in-Items.ensures.exact);
    }

pub canon-returns-in_ok-canon_pairs-in-Pairs : goal.canon-returns-in_ok-canon_pairs-in-Pairs
canon-returns-in_ok-canon_pairs-in-Pairs t c =
    let made = c.in_ok-canon_pairs-in-Pairs.field-0.items in
    record {
      exact = λ d sound.
          if_ok c.pairs_node.result c.pairs_node.ensures.exact
          (λ m is. of_pairs c.args.node.now m c.in-Pairs.pairs made c.in-Pairs.is is
          (pairs_same c.as_slice-in-Pairs.result.now c.in-Pairs.pairs made c.as_slice-in-Pairs.ensures.same c.in_ok-canon_pairs-in-Pairs.ensures.exact) d sound);
    }
