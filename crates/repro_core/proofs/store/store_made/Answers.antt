-- What refuses one of the outputs, of which none is missing, is a limit; their values stay while they are put.
use Rattle.std.proofs.Common.{◌≡◌, false, inl, inr, sym, subst, ◌∙◌, Option, Some, None}
use Rattle.dvc_base.specs.declared.fault.Fault.{Fault}
use Rattle.world_api.specs.Tree.{Tree}
use Rattle.repro_laws.specs.Refusals.{first_of}
use Rattle.repro_laws.specs.Sound.{IsAnswerAt}
use Rattle.repro_core.specs.Storing.{is_by_limit}
use Rattle.repro_core.proofs.LimitedLemmas.{PutDue, ok_due, other_due, gone_later, due_later, limit_later}
use Rattle.repro_core.proofs.store.store_made.Goals as goal

answer_none : (t : Tree) (due : Option Fault) → IsAnswerAt t None due → due ≡ None
answer_none t due (inl none) = none
answer_none t due (inr barred) = absurd barred

pub returns-then-not-passes_limit-clause-answer : goal.returns-then-not-passes_limit-clause-answer
returns-then-not-passes_limit-clause-answer g c told =
    let s = c.args.stage.now in
    let old = g.F.Ground.history c.args.files.now in
    let new = g.F.Ground.history c.put_made.new.files in
    let other : is_by_limit c.in-Err.fault ≡ false = sym c.if-not-passes_limit.ensures.exact in
    other_due s old.present.tree c.requires.stage (c.requires.there told) new.present.tree c.in-Err.fault other (c.in-Err.ensures.answer told)

pub first_by_limit-requires-clause-there : goal.first_by_limit-requires-clause-there
first_by_limit-requires-clause-there g c told =
    let s = c.args.stage.now in
    let old = g.F.Ground.history c.args.files.now in
    let new = g.F.Ground.history c.put_made.new.files in
    let moments = c.put_made.ensures.moments told in
    gone_later s old.present new.present c.requires.stage c.requires.kept moments.now ∙ c.requires.there told

pub first_by_limit-requires-clause-due : goal.first_by_limit-requires-clause-due
first_by_limit-requires-clause-due g c told =
    let s = c.args.stage.now in
    let old = g.F.Ground.history c.args.files.now in
    let new = g.F.Ground.history c.put_made.new.files in
    let moments = c.put_made.ensures.moments told in
    subst (IsAnswerAt new.present.tree (Some c.in-Err.fault)) (sym (due_later s old.present new.present c.requires.stage c.requires.kept moments.now)) (c.in-Err.ensures.answer told)

pub returns-in-Ok-clause-answer : goal.returns-in-Ok-clause-answer
returns-in-Ok-clause-answer g c told =
    let s = c.args.stage.now in
    let old = g.F.Ground.history c.args.files.now in
    let new = g.F.Ground.history c.put_made.new.files in
    inl (ok_due s old.present.tree c.requires.stage (c.requires.there told) (answer_none new.present.tree (first_of (PutDue s old.present.tree) s.made) (c.in-Ok.ensures.answer told)))

pub returns-else-not-passes_limit-clause-answer : goal.returns-else-not-passes_limit-clause-answer
returns-else-not-passes_limit-clause-answer g c told =
    let s = c.args.stage.now in
    let old = g.F.Ground.history c.args.files.now in
    let new = g.F.Ground.history c.put_made.new.files in
    let end = g.F.Ground.history c.first_by_limit.new.files in
    let moments = c.put_made.ensures.moments told in
    subst (IsAnswerAt end.present.tree (Some c.first_by_limit.result)) (limit_later s old.present new.present c.requires.stage c.requires.kept moments.now) (c.first_by_limit.ensures.answer told)
