-- Each look answers where nothing before it is refused.
use Rattle.std.proofs.Common.{◌≡◌, ◌∙◌, map, sym, ap, subst, refl, Some, IfOk}
use Rattle.std.proofs.lemmas.Result.{err_from_is_err_and}
use Rattle.dvc_base.specs.Answer.{fault_in, IsAnswer}
use Rattle.dvc_base.proofs.FaultLemmas.{may_be-wider}
use Rattle.world_api.specs.History.{History}
use Rattle.world_api.specs.Outside.{tree_of}
use Rattle.repro_laws.specs.Stage.{params_at}
use Rattle.repro_laws.specs.Entries.{seen_out}
use Rattle.repro_laws.specs.Refusals.{first_fault, deps_fault, present_fault}
use Rattle.repro_core.specs.Steps.{dep_kinds, out_kinds, tracked_kinds, see_kinds}
use Rattle.repro_core.proofs.SeeLemmas.{after_deps, after_params, first_answer, looked_read, looked_seen}
use Rattle.repro_core.proofs.see.see.Goals as goal

-- ---- a dependency is refused

pub returns-in_err-deps-clause-answer : goal.returns-in_err-deps-clause-answer
returns-in_err-deps-clause-answer g c told =
    let s = c.args.stage.now in
    let tree = tree_of (g.F.Ground.history c.args.files.now) in
    let fault = c.in_err-deps.field-0.0 in
    let exit = err_from_is_err_and c.from_residual.result c.from_residual.ensures.1 in
    rw (exit.1, exit.2)
    (first_answer fault (deps_fault s tree) (first_fault (fault_in (params_at s tree)) (present_fault s tree)) (c.in_err-deps.ensures.answer told))

pub returns-in_err-deps-clause-kinds : goal.returns-in_err-deps-clause-kinds
returns-in_err-deps-clause-kinds g c =
    let exit = err_from_is_err_and c.from_residual.result c.from_residual.ensures.1 in
    rw (exit.1, exit.2) (may_be-wider dep_kinds see_kinds refl (Some c.in_err-deps.field-0.0) c.in_err-deps.ensures.kinds)

-- ---- a parameter is refused

pub returns-in-Err-clause-answer : goal.returns-in-Err-clause-answer
returns-in-Err-clause-answer g c told =
    let s = c.args.stage.now in
    let tree = tree_of (g.F.Ground.history c.args.files.now) in
    let fault = c.in-Err.fault in
    let here = subst (λ (h : History). IsAnswer (Some fault) (fault_in (params_at s (tree_of h)))) (c.see_deps.ensures.unchanged told) (c.in-Err.ensures.answer told) in
    after_deps s tree (Some fault) (c.in_ok-deps.ensures.answer told) (first_answer fault (fault_in (params_at s tree)) (present_fault s tree) here)

pub returns-in-Err-clause-kinds : goal.returns-in-Err-clause-kinds
returns-in-Err-clause-kinds g c = may_be-wider tracked_kinds see_kinds refl (Some c.in-Err.fault) c.in-Err.ensures.kinds

-- ---- what is seen beside them

pub returns-in-Ok-clause-answer : goal.returns-in-Ok-clause-answer
returns-in-Ok-clause-answer g c told =
    let s = c.args.stage.now in
    let tree = tree_of (g.F.Ground.history c.args.files.now) in
    let got = fault_in c.see_with.result in
    let read = ap (λ (h : History). params_at s (tree_of h)) (sym (c.see_deps.ensures.unchanged told)) ∙ c.in-Ok.ensures.read told in
    let same = c.read_tracked.ensures.unchanged told ∙ c.see_deps.ensures.unchanged told in
    let here = subst (λ (h : History). IsAnswer got (present_fault s (tree_of h))) same (c.see_with.ensures.answer told) in
    after_params s tree got (c.in_ok-deps.ensures.answer told) c.in-Ok.params read here

pub returns-in-Ok-clause-read : goal.returns-in-Ok-clause-read
returns-in-Ok-clause-read g c told =
    let s = c.args.stage.now in
    let read = ap (λ (h : History). params_at s (tree_of h)) (sym (c.see_deps.ensures.unchanged told)) ∙ c.in-Ok.ensures.read told in
    looked_read c.see_with.result (params_at s (tree_of (g.F.Ground.history c.args.files.now))) c.in-Ok.params read c.see_with.ensures.params

pub returns-in-Ok-clause-seen : goal.returns-in-Ok-clause-seen
returns-in-Ok-clause-seen g c told =
    let s = c.args.stage.now in
    let r = c.see_with.result in
    let made = c.see_with.ensures in
    let same = c.read_tracked.ensures.unchanged told ∙ c.see_deps.ensures.unchanged told in
    let outs = subst (λ (h : History). IfOk r (λ looked. looked.seen.outs ≡ map (seen_out (tree_of h)) s.made)) same (made.outs told) in
    looked_seen s (tree_of (g.F.Ground.history c.args.files.now)) c.in_ok-deps.deps r (c.in_ok-deps.ensures.seen told) made.deps made.commands outs made.good

pub returns-in-Ok-clause-kinds : goal.returns-in-Ok-clause-kinds
returns-in-Ok-clause-kinds g c = may_be-wider out_kinds see_kinds refl (fault_in c.see_with.result) c.see_with.ensures.kinds
