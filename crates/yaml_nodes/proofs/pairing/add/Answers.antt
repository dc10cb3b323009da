use Rattle.std.proofs.Common.{sym, ap, ◌∙◌}
use Rattle.yaml_nodes.specs.Part.{has_key}
use Rattle.yaml_nodes.proofs.KeyLemmas.{keys_push}
use Rattle.yaml_nodes.proofs.pairing.add.Goals as goal

pub returns-clause-holds : goal.returns-clause-holds
returns-clause-holds c = λ q.
    keys_push c.args.keys.now c.insert.new.self c.args.pairs.now c.args.copy c.args.key c.args.value c.requires.same c.requires.held c.in_ok-insert.ensures.updates q
    ∙ ap (λ ps. has_key q ps) (sym c.in_ok-push.ensures.ok)
