-- What was made comes before what the turn makes, and then comes what is left.
use Rattle.std.proofs.Common.{◌∙◌, ◌++◌, ap, sym, subst, Ok, List, ℕ, Result, option_copied, rules}
use Rattle.std.specs.Prelude.{string_bytes}
use Rattle.std.proofs.lemmas.Result.{err_from_is_err_and}
use Rattle.template_vars.specs.declared.fault.TemplateFault.{TemplateFault}
use Rattle.template_vars.specs.Answer.{Ends}
use Rattle.template_vars.specs.Resolve.{before, key_text_if, resolved}
use Rattle.template_vars.proofs.ResolveLemmas.{turn_made, plain_filled, ends_before}
use Rattle.template_vars.proofs.fill.put_text.Goals as goal

pub returns-in_err-put_turn : goal.returns-in_err-put_turn
returns-in_err-put_turn c =
    let turn = c.in-Some.turn in
    let made = string_bytes c.loop-turn.made in
    let vars = c.args.scope.now in
    let fault = c.in_err-put_turn.field-0.0 in
    let refused = ends_before fault (before (Ok (made ++ (turn.plain.now ++ turn.mark.now))) (key_text_if vars (option_copied turn.key))) (resolved vars turn.rest.now) c.in_err-put_turn.ensures.answer in
    let road = sym c.loop-turn.invariant.1.1 ∙ turn_made vars made c.loop-turn.rest.now turn.plain.now turn.mark.now (option_copied turn.key) turn.rest.now turn.closes c.in-Some.ensures.turn in
    let there : Ends fault (before (Ok (string_bytes c.args.made.now)) (resolved vars c.args.text.now)) = subst (λ (due : Result (List ℕ) TemplateFault). Ends fault due) (sym road) refused in
    let exit = err_from_is_err_and c.from_residual.result c.from_residual.ensures.1 in
    rw (exit.1, exit.2) (record { answer = there })

pub loop-turn-preserved : goal.loop-turn-preserved
loop-turn-preserved c =
    let turn = c.in-Some.turn in
    let made = string_bytes c.loop-turn.made in
    let vars = c.args.scope.now in
    let road = turn_made vars made c.loop-turn.rest.now turn.plain.now turn.mark.now (option_copied turn.key) turn.rest.now turn.closes c.in-Some.ensures.turn in
    (search rules, (c.in-Some.ensures.turn.left, ap (λ (x : Result (List ℕ) TemplateFault). before x (resolved vars turn.rest.now)) (sym c.in_ok-put_turn.ensures.answer) ∙ sym road ∙ c.loop-turn.invariant.1.1))

pub returns : goal.returns
returns c = record {
  answer =
      sym c.loop-turn.invariant.1.1 ∙ ap (before (Ok (string_bytes c.loop-turn.made))) (plain_filled c.args.scope.now c.loop-turn.rest.now c.in_default.ensures.turn)
      ∙ ap (λ (t : List ℕ). Ok t) (sym c.in_ok-put.ensures.ok);
}
