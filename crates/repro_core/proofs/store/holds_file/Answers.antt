-- A look that is refused is in the way of the cache.
use Rattle.std.proofs.Common.{sym, subst, None}
use Rattle.dvc_base.specs.Answer.{fault_in}
use Rattle.world_api.specs.History.{History}
use Rattle.repro_laws.specs.Sound.{IsAnswerAt}
use Rattle.repro_core.specs.Storing.{look_of}
use Rattle.repro_core.proofs.BarredLemmas.{look_answer}
use Rattle.repro_core.proofs.store.holds_file.Goals as goal

pub returns-in-Err-clause-answer : goal.returns-in-Err-clause-answer
returns-in-Err-clause-answer g c told =
    let old = g.F.Ground.history c.args.files.now in
    let why = c.in-Err.why in
    let answer = look_answer c.args.name.now c.args.out.now old.present.tree c.in-Some.named.name why (c.in-Err.ensures.answer told) in
    rw c.looked.ensures.exact (subst (λ (h : History). IsAnswerAt h.present.tree (fault_in (look_of why)) None) (sym (c.has.ensures.unchanged told)) answer)
