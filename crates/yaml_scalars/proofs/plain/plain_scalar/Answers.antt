use Rattle.std.proofs.Common.{◌∙◌, arith, rules}
use Rattle.std.proofs.lemmas.Grind.{common_steps}
use Rattle.yaml_scalars.specs.Plain.{plain_turn, plain}
use Rattle.yaml_scalars.proofs.TurnLemmas.{turns_step}
use Rattle.yaml_scalars.proofs.PlainLemmas.{plain_shrinks}
use Rattle.yaml_scalars.proofs.plain.plain_scalar.Goals as goal

pub loop-found-init : goal.loop-found-init
unfolding plain
loop-found-init c = first_of (search rules, grind (arith, common_steps))

pub returns-in_err-last-clause-exact : goal.returns-in_err-last-clause-exact
returns-in_err-last-clause-exact c =
    let e = turns_step (plain_turn c.args.flow c.args.least) (plain_shrinks _ _) c.loop-found.found.items c.loop-found.rest.now ∙ c.loop-found.invariant.0 in
    first_of (search rules, grind (arith, common_steps))

pub returns-then-last-clause-exact : goal.returns-then-last-clause-exact
returns-then-last-clause-exact c =
    let e = turns_step (plain_turn c.args.flow c.args.least) (plain_shrinks _ _) c.loop-found.found.items c.loop-found.rest.now ∙ c.loop-found.invariant.0 in
    first_of (search rules, grind (arith, common_steps))

pub loop-found-preserved : goal.loop-found-preserved
loop-found-preserved c =
    let e = turns_step (plain_turn c.args.flow c.args.least) (plain_shrinks _ _) c.loop-found.found.items c.loop-found.rest.now ∙ c.loop-found.invariant.0 in
    first_of (search rules, grind (arith, common_steps))
