-- The names so far were put; the next one follows.
use Rattle.std.proofs.Common.{take, drop, ◌+◌}
use Rattle.std.specs.List.{flat_map}
use Rattle.world_api.proofs.OutputLemmas.{takes_middle}
use Rattle.dvc_cli.specs.Tell.{next_text}
use Rattle.dvc_cli.proofs.TakesLemmas.{pieces-at}
use Rattle.dvc_cli.proofs.message.put_others.Goals as goal

pub returns-in_err-put_next-clause-all : goal.returns-in_err-put_next-clause-all
returns-in_err-put_next-clause-all g c = λ t.
    let all = c.args.names.now in
    let i = c.loop-name.name-index in
    let name = c.name-item.result in
    takes_middle (g.K.Sink.taken c.args.to.now) (flat_map next_text (take i all)) (g.K.Sink.taken c.loop-name.to) (next_text name)
    (flat_map next_text (drop (i + 1) all)) (flat_map next_text all) (g.K.Sink.taken c.put_next.new.to) c.from_residual.result
    (c.loop-name.invariant.taken t) (pieces-at next_text all i name c.loop-name-test.true c.name-item.is)
    c.from_residual.ensures.0 (c.in_err-put_next.ensures.all t)
