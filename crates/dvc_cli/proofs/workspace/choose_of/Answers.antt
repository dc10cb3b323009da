-- The plan is made, or refused, and then the choice.
use Rattle.std.proofs.Common.{◌≡◌, ◌<◌, false, length, Ok, Err, Result, sym, ap, subst, ◌∙◌, arith, rules}
use Rattle.dvc_base.specs.Answer.{fault_in}
use Rattle.dvc_base.specs.declared.fault.Fault.{Fault}
use Rattle.stage_plan.specs.Plan.{chosen_by, plan_of, planned_at, turns_at}
use Rattle.stage_plan.specs.declared.choose.Chosen.{Chosen}
use Rattle.stage_plan.specs.declared.plan.Plan.{Plan}
use Rattle.stage_plan.specs.declared.turns.Turns.{Turns}
use Rattle.stage_plan.proofs.MadeLemmas.{from_made, made_refused, choice_refused, choice_planned}
use Rattle.plan_turns.proofs.ShortLemmas.{turns_short}
use Rattle.dvc_cli.proofs.ChoiceLemmas.{refused_due, choice_ok, choice_err}
use Rattle.dvc_cli.proofs.workspace.choose_of.Goals as goal

pub returns-in_err-plan-clause-answer : goal.returns-in_err-plan-clause-answer
returns-in_err-plan-clause-answer c =
    let fault = c.in_err-plan.field-0.0 in
    let e : c.from_residual.result ≡ Err fault = search rules in
    rw e (refused_due fault _ (plan_of c.args.targets.now c.args.root.now c.args.vars.now c.args.sources) (made_refused c.args.targets.now c.args.root.now c.args.vars.now c.args.sources c.args.lock fault) c.in_err-plan.ensures.made)

pub returns-in_err-chosen-clause-answer : goal.returns-in_err-chosen-clause-answer
returns-in_err-chosen-clause-answer c =
    let fault = c.in_err-chosen.field-0.0 in
    let plan = c.in_ok-plan.plan in
    let targets = c.args.targets.now in
    let e : c.from_residual-in_err-chosen.result ≡ Err fault = search rules in
    rw e (refused_due fault _ (plan_of targets c.args.root.now c.args.vars.now c.args.sources)
    (λ h. choice_refused targets c.args.root.now c.args.vars.now c.args.sources c.args.lock plan c.in_ok-plan.ensures.made fault (choice_err _ (chosen_by false targets plan.stages plan.tracks) fault h))
    c.in_err-chosen.ensures.chosen)

pub returns-clause-planned : goal.returns-clause-planned
returns-clause-planned c =
    let plan = c.in_ok-plan.plan in
    let targets = c.args.targets.now in
    let is = choice_ok _ (chosen_by false targets plan.stages plan.tracks) c.in_ok-chosen.chosen c.in_ok-chosen.ensures.chosen in
    choice_planned targets c.args.root.now c.args.vars.now c.args.sources c.args.lock plan c.in_ok-plan.ensures.made is.none
    ∙ ap (λ (chosen : Chosen). Ok (turns_at plan chosen)) is.same

pub returns-clause-answer : goal.returns-clause-answer
returns-clause-answer c =
    let plan = c.in_ok-plan.plan in
    let targets = c.args.targets.now in
    let is = choice_ok _ (chosen_by false targets plan.stages plan.tracks) c.in_ok-chosen.chosen c.in_ok-chosen.ensures.chosen in
    ap (λ (r : Result Turns Fault). fault_in r) (choice_planned targets c.args.root.now c.args.vars.now c.args.sources c.args.lock plan c.in_ok-plan.ensures.made is.none)

pub returns-clause-few : goal.returns-clause-few
returns-clause-few c =
    let plan = c.in_ok-plan.plan in
    let targets = c.args.targets.now in
    let is = choice_ok _ (chosen_by false targets plan.stages plan.tracks) c.in_ok-chosen.chosen c.in_ok-chosen.ensures.chosen in
    let few : length plan.stages < 4294967296 = c.in_ok-plan.ensures.form.few in
    subst (λ (chosen : Chosen). length (planned_at plan.stages chosen.stages) < 4294967296) is.same (omega (turns_short targets plan.stages, few, arith))

pub returns-clause-lock : goal.returns-clause-lock
returns-clause-lock c =
    let from = from_made c.args.root.now c.args.vars.now c.args.sources c.args.lock c.in_ok-plan.plan c.in_ok-plan.ensures.made in
    sym (ap (λ (p : Plan). p.lock) from.same)
