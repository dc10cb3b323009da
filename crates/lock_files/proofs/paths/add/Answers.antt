use Rattle.std.proofs.Common.{ap, sym, ◌∙◌, ◌++◌, ◌∷◌, []}
use Rattle.lock_files.specs.Refused.{is_among}
use Rattle.lock_files.proofs.MetLemmas.{texts_push}
use Rattle.lock_files.proofs.paths.add.Goals as goal

pub returns-clause-holds : goal.returns-clause-holds
returns-clause-holds c = λ q.
    texts_push c.args.set.now c.insert.new.self c.args.texts.now c.in_ok-copy.copy c.args.path.now c.in_ok-copy.ensures.ok c.requires c.in_ok-insert.ensures.updates q
    ∙ ap (λ t. is_among q (c.args.texts.now ++ t ∷ [])) (sym c.in_ok-text.ensures.same)
    ∙ ap (λ ts. is_among q ts) (sym c.in_ok-push.ensures.ok)
