-- A walk is its first name, and then the others.
use Rattle.std.proofs.Common.{◌≡◌, ◌∷◌, ap, ◌∙◌, rules}
use Rattle.std.specs.List.{flat_map}
use Rattle.world_api.proofs.OutputLemmas.{takes_stop, takes_later}
use Rattle.dvc_base.specs.FaultParts.{walk_text}
use Rattle.dvc_cli.specs.Tell.{next_text}
use Rattle.dvc_cli.proofs.TakesLemmas.{walk-text}
use Rattle.dvc_cli.proofs.message.put_walk.Goals as goal

pub returns-in_err-put-in-Some-clause-all : goal.returns-in_err-put-in-Some-clause-all
returns-in_err-put-in-Some-clause-all g c = λ t.
    let first = c.as_bytes.result.now in
    let others = c.in-Some.others.now in
    let whole : c.args.names.now ≡ first ∷ others = search rules in
    takes_stop (g.K.Sink.taken c.args.to.now) first (flat_map next_text others) (walk_text c.args.names.now) (g.K.Sink.taken c.put.new.self) c.from_residual.result
    (ap walk_text whole ∙ walk-text first others) c.from_residual.ensures.0 (c.in_err-put-in-Some.ensures.taken t)

pub returns-in_ok-put-in-Some-clause-all : goal.returns-in_ok-put-in-Some-clause-all
returns-in_ok-put-in-Some-clause-all g c = λ t.
    let first = c.as_bytes.result.now in
    let others = c.in-Some.others.now in
    let whole : c.args.names.now ≡ first ∷ others = search rules in
    takes_later (g.K.Sink.taken c.args.to.now) first (g.K.Sink.taken c.put.new.self) (flat_map next_text others) (walk_text c.args.names.now) (g.K.Sink.taken c.put_others.new.to) c.put_others.result
    (c.in_ok-put-in-Some.ensures.taken t) (ap walk_text whole ∙ walk-text first others) (c.put_others.ensures.all t)
