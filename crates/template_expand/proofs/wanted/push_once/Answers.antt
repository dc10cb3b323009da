use Rattle.std.proofs.Common.{◌∙◌, ◌++◌, ◌∷◌, [], ap}
use Rattle.std.proofs.lemmas.Result.{on_ok_weaker}
use Rattle.dvc_base.specs.Path.{Path}
use Rattle.template_expand.proofs.WantedLemmas.{path_there, path_new, texts_with_path}
use Rattle.template_expand.proofs.wanted.push_once.Goals as goal

pub returns-then-not-branch-clause-ok : goal.returns-then-not-branch-clause-ok
returns-then-not-branch-clause-ok c =
    path_there c.args.texts.now.keys c.text.result c.args.path.now c.args.once.now c.in_ok-insert.field-0 c.parts.ensures.normal c.requires.texts c.text.ensures.by_parts
    c.in_ok-insert.ensures.added c.if-not-branch.true

pub returns-clause-texts : goal.returns-clause-texts
returns-clause-texts c =
    let new = path_new c.args.texts.now.keys c.text.result c.args.path.now c.args.once.now c.in_ok-insert.field-0 c.parts.ensures.normal c.requires.texts c.text.ensures.by_parts
    c.in_ok-insert.ensures.added c.if-not-branch.false in
    on_ok_weaker c.push.result
    (λ left. texts_with_path c.args.texts.now.keys c.insert.new.self.keys c.text.result c.args.path.now c.args.once.now c.push.new.self c.parts.ensures.normal c.requires.texts
    c.text.ensures.by_parts c.in_ok-insert.ensures.keys (left ∙ ap (λ (p : Path). c.args.once.now ++ p ∷ []) c.in_ok-copy.ensures.same ∙ new))
    c.push.ensures.ok

pub returns-clause-ok : goal.returns-clause-ok
returns-clause-ok c =
    let new = path_new c.args.texts.now.keys c.text.result c.args.path.now c.args.once.now c.in_ok-insert.field-0 c.parts.ensures.normal c.requires.texts c.text.ensures.by_parts
    c.in_ok-insert.ensures.added c.if-not-branch.false in
    on_ok_weaker c.push.result (λ left. left ∙ ap (λ (p : Path). c.args.once.now ++ p ∷ []) c.in_ok-copy.ensures.same ∙ new) c.push.ensures.ok
