use Rattle.std.proofs.Common.{rules, ◌<◌, ◌++◌, Result, Ok, Err, ap, sym, ◌∙◌, arith}
use Rattle.std.specs.Prelude.{OnOk}
use Rattle.yaml_print.proofs.NodeLemmas.{text_none, text_deep, sound_none, sound_deep, texts_none, texts_deep}
use Rattle.yaml_print.proofs.node.+node.Goals as goal

on_ok : {X E : Type 0} (r : Result X E) (P Q : Type 0) → (P → Q) → OnOk r P → OnOk r Q
on_ok (Ok x) P Q f h = f h
on_ok (Err e) P Q f h = tt

pub node_at-layer-requires : goal.node_at-layer-requires
node_at-layer-requires t c =
    let some : 0 < c.args.depth = omega arith in
    (search rules, (omega arith, sound_deep c.args.depth c.args.node.now some c.requires.sound))

pub node_at-returns-then-depth-eq0-clause-exact : goal.node_at-returns-then-depth-eq0-clause-exact
node_at-returns-then-depth-eq0-clause-exact t c =
    on_ok c.line.result _ _ (λ h. h ∙ ap (λ u. c.args.out.now.items ++ u) (sym (text_none c.args.depth c.args.column c.args.node.now c.if-depth-eq0.true))) c.line.ensures.exact

pub node_at-returns-then-depth-eq0-clause-spelt : goal.node_at-returns-then-depth-eq0-clause-spelt
node_at-returns-then-depth-eq0-clause-spelt t c =
    on_ok c.line.result (Unit {0}) _
    (λ h. texts_none c.args.depth c.args.node.now c.if-depth-eq0.true (c.line.ensures.spelt (sound_none c.args.depth c.args.node.now c.if-depth-eq0.true c.requires.sound)))
    (search rules)

pub node_at-returns-else-depth-eq0-clause-exact : goal.node_at-returns-else-depth-eq0-clause-exact
node_at-returns-else-depth-eq0-clause-exact t c =
    let some : 0 < c.args.depth = omega arith in
    on_ok c.layer.result _ _ (λ h. h ∙ ap (λ u. c.args.out.now.items ++ u) (sym (text_deep c.args.depth c.args.column c.args.node.now some))) c.layer.ensures.exact

pub node_at-returns-else-depth-eq0-clause-spelt : goal.node_at-returns-else-depth-eq0-clause-spelt
node_at-returns-else-depth-eq0-clause-spelt t c =
    let some : 0 < c.args.depth = omega arith in
    on_ok c.layer.result _ _ (λ h. texts_deep c.args.depth c.args.node.now some h) c.layer.ensures.spelt
