use Rattle.std.proofs.Common.{◌≡◌, Ok, ◌∙◌, ap, sym, arith, rules}
use Rattle.std.proofs.lemmas.Grind.{common_steps}
use Rattle.yaml_text.specs.Outcome.{Outcome, ◌>>=◌}
use Rattle.yaml_scalars.specs.Lines.{line_turn, lines_below}
use Rattle.yaml_scalars.proofs.TurnLemmas.{turns_step}
use Rattle.yaml_scalars.proofs.LinesLemmas.{line_shrinks}
use Rattle.yaml_scalars.proofs.lines.lines_below.Goals as goal

pub loop-found-init : goal.loop-found-init
unfolding lines_below
loop-found-init c = first_of (search rules, grind (arith, common_steps))

pub returns-in_err-is_end-clause-exact : goal.returns-in_err-is_end-clause-exact
returns-in_err-is_end-clause-exact c =
    let e = ap (λ o. o >>= λ r. Ok (r.0.0, r.1)) (turns_step (line_turn c.args.folding c.args.style c.args.least c.margin-most.result) (line_shrinks _ _ _ _) (c.loop-found.found.items, c.loop-found.last) c.loop-found.rest.now) ∙ c.loop-found.invariant.0 in
    first_of (search rules, grind (arith, common_steps))

pub returns-then-is_end-clause-exact : goal.returns-then-is_end-clause-exact
returns-then-is_end-clause-exact c =
    let e = ap (λ o. o >>= λ r. Ok (r.0.0, r.1)) (turns_step (line_turn c.args.folding c.args.style c.args.least c.margin-most.result) (line_shrinks _ _ _ _) (c.loop-found.found.items, c.loop-found.last) c.loop-found.rest.now) ∙ c.loop-found.invariant.0 in
    first_of (search rules, grind (arith, common_steps))

pub loop-found-preserved : goal.loop-found-preserved
loop-found-preserved c =
    let e = ap (λ o. o >>= λ r. Ok (r.0.0, r.1)) (turns_step (line_turn c.args.folding c.args.style c.args.least c.margin-most.result) (line_shrinks _ _ _ _) (c.loop-found.found.items, c.loop-found.last) c.loop-found.rest.now) ∙ c.loop-found.invariant.0 in
    first_of (search rules, grind (arith, common_steps))
