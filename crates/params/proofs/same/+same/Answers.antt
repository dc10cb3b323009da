-- Each kind of node is compared as its canonical node is, and lists and mappings an item at a time.
use Rattle.std.proofs.Common.{◌≡◌, ◌∙◌, ℕ, true, false, List, ap, sym, refl, rules, Some, SFits}
use Rattle.std.specs.Int.{w128}
use Rattle.std.specs.List.{list_all}
use Rattle.std.proofs.lemmas.Bool.Decides.{Decides-at}
use Rattle.std.proofs.lemmas.Int.{to_z-of_z}
use Rattle.dvc_base.specs.declared.node.Node.{out-Node}
use Rattle.dvc_base.specs.declared.node.Node.TheOpen.{Node-F}
use Rattle.dvc_base.specs.declared.node.Node.TheVariants as nd
use Rattle.dvc_base.specs.declared.node.Pair.{Pair}
use Rattle.yaml_nodes.specs.Part.{key_of}
use Rattle.yaml_print.proofs.NodeCases.{out_null, out_bool, out_whole, out_decimal, out_text, out_items, out_pairs}
use Rattle.lock_files.specs.Mapping.{is_null_of, is_bool_of, is_text, text_in, value_at, has}
use Rattle.params.specs.declared.number.Number.{Number}
use Rattle.params.specs.Number.{whole_number, decimal_number}
use Rattle.params.specs.Canonical.{is_number, number_in}
use Rattle.params.proofs.CanonLemmas.{proper, proper_at}
use Rattle.params.proofs.AgainLemmas.{whole_stands, decimal_stands}
use Rattle.params.proofs.SameLemmas.{null_same, bool_same, text_same, number_same, other_items, other_pairs, tells, tells_items, tells_pairs, items_at_more, items_at_stop, items_at_short, items_at_end, pairs_at_more, pairs_at_stop, pairs_at_end, list_tells, pairs_tell}
use Rattle.params.proofs.same.+same.Goals as goal

pub same_value-returns-in-Null : goal.same_value-returns-in-Null
same_value-returns-in-Null t c =
    let l = out-Node c.args.b.now in
    record {
      same = λ d sa sb.
          Decides-at c.is_null.result (is_null_of l) c.is_null.ensures.exact
          (tells c.args.a.now c.args.b.now Node-F.Null l (is_null_of l) (ap out-Node c.in-Null.is ∙ out_null) refl (λ f. null_same f l) d);
    }

pub same_value-returns-in-Bool : goal.same_value-returns-in-Bool
same_value-returns-in-Bool t c =
    let l = out-Node c.args.b.now in
    let bit = c.in-Bool.bit in
    record {
      same = λ d sa sb.
          Decides-at c.is_bool.result (is_bool_of bit l) c.is_bool.ensures.exact
          (tells c.args.a.now c.args.b.now (Node-F.Bool bit) l (is_bool_of bit l) (ap out-Node c.in-Bool.is ∙ out_bool bit) refl (λ f. bool_same f bit l) d);
    }

pub same_value-returns-in-Text : goal.same_value-returns-in-Text
same_value-returns-in-Text t c =
    let b = c.args.b.now in
    let text = c.in-Text.text in
    record {
      same = λ d sa sb.
          Decides-at c.is_text.result (is_text text (text_in b)) (c.is_text.ensures.exact ∙ ap (λ (w : List ℕ). is_text w (text_in b)) c.as_str-in-Text.ensures.same)
          (tells c.args.a.now b (Node-F.Text text) (out-Node b) (is_text text (text_in b)) (ap out-Node c.in-Text.is ∙ out_text text) refl (λ f. text_same f text (out-Node b)) d);
    }

pub same_value-returns-in-Whole : goal.same_value-returns-in-Whole
same_value-returns-in-Whole t c =
    let a = c.args.a.now in
    let b = c.args.b.now in
    let v = c.in-Whole.value in
    let w = c.in-Whole.text in
    let fits : SFits w128 v = search rules in
    let whole : c.whole_number.result ≡ whole_number v = c.whole_number.ensures.exact ∙ ap whole_number (to_z-of_z w128 v fits) in
    let is : out-Node a ≡ Node-F.Whole v w = ap out-Node c.in-Whole.is ∙ out_whole v w in
    let test = is_number (whole_number v) (number_in (out-Node b)) in
    record {
      same = λ d sa sb.
          Decides-at c.is_number.result test (c.is_number.ensures.exact (proper d b sb) ∙ ap (λ (n : Number). is_number n (number_in (out-Node b))) whole)
          (tells a b (Node-F.Whole v w) (out-Node b) test is refl
          (λ f. number_same f (whole_number v) (out-Node b) (whole_stands v w (proper_at d a (Node-F.Whole v w) is sa)) (proper d b sb)) d);
    }

pub same_value-returns-in-Decimal : goal.same_value-returns-in-Decimal
same_value-returns-in-Decimal t c =
    let a = c.args.a.now in
    let b = c.args.b.now in
    let w = c.as_bytes.result.now in
    let same : w ≡ c.in-Decimal.text = c.as_bytes.ensures.value ∙ c.as_str.ensures.same in
    let is : out-Node a ≡ Node-F.Decimal w = ap out-Node (c.in-Decimal.is ∙ ap nd.Decimal (sym same)) ∙ out_decimal w in
    let test = is_number (decimal_number w) (number_in (out-Node b)) in
    record {
      same = λ d sa sb.
          Decides-at c.is_number-in-Decimal.result test
          (c.is_number-in-Decimal.ensures.exact (proper d b sb) ∙ ap (λ (n : Number). is_number n (number_in (out-Node b))) (c.decimal_number.ensures.exact (proper_at d a (Node-F.Decimal w) is sa)))
          (tells a b (Node-F.Decimal w) (out-Node b) test is refl
          (λ f. number_same f (decimal_number w) (out-Node b) (decimal_stands w (proper_at d a (Node-F.Decimal w) is sa)) (proper d b sb)) d);
    }

-- ---- lists

pub same_value-returns-in-Some : goal.same_value-returns-in-Some
same_value-returns-in-Some t c =
    record {
      same = tells_items c.args.a.now c.args.b.now c.in-Items.items c.in-Some.others.now c.are_same.result c.in-Items.is (sym c.in-Some.ensures.exact)
          (list_tells c.are_same.result c.as_slice.result.now c.in-Items.items c.in-Some.others.now c.as_slice.ensures.same c.are_same.ensures.same);
    }

pub same_value-returns-in-None : goal.same_value-returns-in-None
same_value-returns-in-None t c =
    let l = out-Node c.args.b.now in
    let xs = c.in-Items.items in
    record {
      same = λ d sa sb.
          tells c.args.a.now c.args.b.now (Node-F.Items xs) l false (ap out-Node c.in-Items.is ∙ out_items xs) refl (λ f. other_items f xs l (sym c.in-None.ensures.exact)) d;
    }

pub are_same-loop-item-preserved : goal.are_same-loop-item-preserved
are_same-loop-item-preserved t c =
    λ r rest.
    c.loop-item.invariant r
    (items_at_more r c.args.items.now c.loop-item.rest.now c.in-Some.more.now c.loop-item.item-index c.item-item.result c.in-Some.other.now c.loop-item-test.true c.item-item.is c.in-Some.ensures.cases.0 c.if-not-same_value.ensures.same rest)

pub are_same-returns-then-not-same_value : goal.are_same-returns-then-not-same_value
are_same-returns-then-not-same_value t c =
    record {
      same = c.loop-item.invariant false
          (items_at_stop c.args.items.now c.loop-item.rest.now c.in-Some.more.now c.loop-item.item-index c.item-item.result c.in-Some.other.now c.loop-item-test.true c.item-item.is c.in-Some.ensures.cases.0 c.if-not-same_value.ensures.same);
    }

pub are_same-returns-in-None : goal.are_same-returns-in-None
are_same-returns-in-None t c =
    record {
      same = c.loop-item.invariant false
          (items_at_short c.args.items.now c.loop-item.rest.now c.loop-item.item-index c.item-item.result c.loop-item-test.true c.item-item.is c.in-None.ensures.cases);
    }

pub are_same-returns : goal.are_same-returns
are_same-returns t c =
    record {
      same = c.loop-item.invariant _ (items_at_end c.args.items.now c.loop-item.rest.now c.loop-item.item-index _ c.loop-item-test.false refl);
    }

-- ---- mappings

pub same_value-returns-in-None-pairs_in : goal.same_value-returns-in-None-pairs_in
same_value-returns-in-None-pairs_in t c =
    let l = out-Node c.args.b.now in
    let ps = c.in-Pairs.pairs in
    record {
      same = λ d sa sb.
          tells c.args.a.now c.args.b.now (Node-F.Pairs ps) l false (ap out-Node c.in-Pairs.is ∙ out_pairs ps) refl (λ f. other_pairs f ps l (sym c.in-None-pairs_in.ensures.exact)) d;
    }

pub same_value-returns-then-not-stand_in : goal.same_value-returns-then-not-stand_in
same_value-returns-then-not-stand_in t c =
    let ps = c.in-Pairs.pairs in
    let qs = c.in-Some-pairs_in.others.now in
    record {
      same = tells_pairs c.args.a.now c.args.b.now ps qs false (list_all (λ p. has (key_of p) ps) qs) c.in-Pairs.is (sym c.in-Some-pairs_in.ensures.exact)
          (pairs_tell false c.as_slice-in-Some-pairs_in.result.now ps qs c.as_slice-in-Some-pairs_in.ensures.same c.if-not-stand_in.ensures.same) refl;
    }

pub same_value-returns-else-not-stand_in : goal.same_value-returns-else-not-stand_in
same_value-returns-else-not-stand_in t c =
    let ps = c.in-Pairs.pairs in
    let qs = c.in-Some-pairs_in.others.now in
    record {
      same = tells_pairs c.args.a.now c.args.b.now ps qs true c.have_keys.result c.in-Pairs.is (sym c.in-Some-pairs_in.ensures.exact)
          (pairs_tell true c.as_slice-in-Some-pairs_in.result.now ps qs c.as_slice-in-Some-pairs_in.ensures.same c.if-not-stand_in.ensures.same)
          (c.have_keys.ensures.exact ∙ ap (λ (zs : List Pair). list_all (λ p. has (key_of p) zs) qs) c.as_slice-in-Some-pairs_in-2.ensures.same);
    }

pub stand_in-loop-pair-preserved : goal.stand_in-loop-pair-preserved
stand_in-loop-pair-preserved t c =
    let p = c.pair-item.result in
    let qs = c.args.others.now in
    let found : value_at (key_of p) qs ≡ Some c.in-Some.value.now = ap (λ (key : List ℕ). value_at key qs) (sym c.as_str.ensures.same) ∙ sym c.in-Some.ensures.exact in
    λ r rest.
    c.loop-pair.invariant r
    (pairs_at_more r c.args.pairs.now qs c.loop-pair.pair-index p c.in-Some.value.now c.loop-pair-test.true c.pair-item.is found c.if-not-same_value.ensures.same rest)

pub stand_in-returns-then-not-same_value : goal.stand_in-returns-then-not-same_value
stand_in-returns-then-not-same_value t c =
    let p = c.pair-item.result in
    let qs = c.args.others.now in
    let found : value_at (key_of p) qs ≡ Some c.in-Some.value.now = ap (λ (key : List ℕ). value_at key qs) (sym c.as_str.ensures.same) ∙ sym c.in-Some.ensures.exact in
    record {
      same = c.loop-pair.invariant false
          (pairs_at_stop c.args.pairs.now qs c.loop-pair.pair-index p c.in-Some.value.now c.loop-pair-test.true c.pair-item.is found c.if-not-same_value.ensures.same);
    }

pub stand_in-returns : goal.stand_in-returns
stand_in-returns t c = record { same = c.loop-pair.invariant true (pairs_at_end c.args.pairs.now c.args.others.now c.loop-pair.pair-index c.loop-pair-test.false) }
