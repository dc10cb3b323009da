-- The first that passes a limit, as they are written, is the one that is due.
use Rattle.std.proofs.Common.{inl, sym, subst, Some}
use Rattle.world_api.specs.History.{History}
use Rattle.repro_laws.specs.Refusals.{first_of}
use Rattle.repro_laws.specs.Sound.{IsAnswerAt}
use Rattle.repro_core.proofs.LimitedLemmas.{Limit, first_due, stands_due}
use Rattle.repro_core.proofs.store.first_by_limit.Goals as goal

pub returns-in-Ok-clause-answer : goal.returns-in-Ok-clause-answer
returns-in-Ok-clause-answer g c told =
    let s = c.args.stage.now in
    let old = g.F.Ground.history c.args.files.now in
    let answer = stands_due s old.present.tree c.requires.stage (c.requires.there told) old.present.tree c.args.fault (c.in-Ok.ensures.answer told) (c.requires.due told) in
    subst (λ (h : History). IsAnswerAt h.present.tree (Some c.args.fault) (first_of (Limit old.present.tree) s.outs)) (sym (c.name_as_written.ensures.unchanged told)) answer

pub returns-in-Err-clause-answer : goal.returns-in-Err-clause-answer
returns-in-Err-clause-answer g c told =
    let s = c.args.stage.now in
    let old = g.F.Ground.history c.args.files.now in
    inl (first_due s old.present.tree c.requires.stage (c.requires.there told) c.in-Err.first (c.in-Err.ensures.answer told))
