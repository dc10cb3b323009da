-- The parts so far were put; the next one follows.
use Rattle.std.proofs.Common.{take, drop, ◌+◌}
use Rattle.world_api.proofs.OutputLemmas.{takes_middle}
use Rattle.dvc_base.specs.FaultParts.{part_text, text_in}
use Rattle.dvc_cli.proofs.TakesLemmas.{pieces-at}
use Rattle.dvc_cli.proofs.message.put_parts.Goals as goal

pub returns-in_err-put_part-clause-all : goal.returns-in_err-put_part-clause-all
returns-in_err-put_part-clause-all g c = λ t.
    let all = c.args.parts.now in
    let i = c.loop-part.part-index in
    let part = c.part-item.result in
    takes_middle (g.K.Sink.taken c.args.to.now) (text_in (take i all)) (g.K.Sink.taken c.loop-part.to) (part_text part)
    (text_in (drop (i + 1) all)) (text_in all) (g.K.Sink.taken c.put_part.new.to) c.from_residual.result
    (c.loop-part.invariant.taken t) (pieces-at part_text all i part c.loop-part-test.true c.part-item.is)
    c.from_residual.ensures.0 (c.in_err-put_part.ensures.all t)
