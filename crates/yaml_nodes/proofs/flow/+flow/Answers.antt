use Rattle.std.proofs.Common.{Ok, ◌∙◌, ap, arith, rules}
use Rattle.std.proofs.lemmas.Grind.{common_steps}
use Rattle.std.proofs.lemmas.Bool.Decides.{nat_tests}
use Rattle.yaml_text.specs.Outcome.{◌>>=◌}
use Rattle.dvc_base.specs.declared.node.Node.TheVariants as nd
use Rattle.yaml_nodes.specs.Flow.{flow_node, item_turn, pair_turn, items, pairs}
use Rattle.yaml_nodes.proofs.StepLemmas.{steps_step}
use Rattle.yaml_nodes.proofs.flow.+flow.Goals as goal

pub items-items-init : goal.items-items-init
unfolding items
items-items-init t c = first_of (search rules, grind (arith, common_steps))

pub items-returns-in_err-last-clause-exact : goal.items-returns-in_err-last-clause-exact
items-returns-in_err-last-clause-exact t c =
    let e = ap (λ o. o >>= λ r. Ok (nd.Items r.0, r.1)) (steps_step (item_turn (flow_node c.args.depth)) c.items.found c.items.rest.now) ∙ c.items.invariant.0 in
    first_of (search rules, grind (arith, common_steps, nat_tests))

pub items-returns-then-last-clause-exact : goal.items-returns-then-last-clause-exact
items-returns-then-last-clause-exact t c =
    let e = ap (λ o. o >>= λ r. Ok (nd.Items r.0, r.1)) (steps_step (item_turn (flow_node c.args.depth)) c.items.found c.items.rest.now) ∙ c.items.invariant.0 in
    first_of (search rules, grind (arith, common_steps, nat_tests))

pub items-items-preserved : goal.items-items-preserved
items-items-preserved t c =
    let e = ap (λ o. o >>= λ r. Ok (nd.Items r.0, r.1)) (steps_step (item_turn (flow_node c.args.depth)) c.items.found c.items.rest.now) ∙ c.items.invariant.0 in
    first_of (search rules, grind (arith, common_steps, nat_tests))

pub pairs-pairs-init : goal.pairs-pairs-init
unfolding pairs
pairs-pairs-init t c = first_of (search rules, grind (arith, common_steps))

pub pairs-returns-in_err-last-clause-exact : goal.pairs-returns-in_err-last-clause-exact
pairs-returns-in_err-last-clause-exact t c =
    let e = ap (λ o. o >>= λ r. Ok (nd.Pairs r.0, r.1)) (steps_step (pair_turn (flow_node c.args.depth)) c.pairs.found c.pairs.rest.now) ∙ c.pairs.invariant.0 in
    first_of (search rules, grind (arith, common_steps, nat_tests))

pub pairs-returns-then-last-clause-exact : goal.pairs-returns-then-last-clause-exact
pairs-returns-then-last-clause-exact t c =
    let e = ap (λ o. o >>= λ r. Ok (nd.Pairs r.0, r.1)) (steps_step (pair_turn (flow_node c.args.depth)) c.pairs.found c.pairs.rest.now) ∙ c.pairs.invariant.0 in
    first_of (search rules, grind (arith, common_steps, nat_tests))

pub pairs-pairs-preserved : goal.pairs-pairs-preserved
pairs-pairs-preserved t c =
    let e = ap (λ o. o >>= λ r. Ok (nd.Pairs r.0, r.1)) (steps_step (pair_turn (flow_node c.args.depth)) c.pairs.found c.pairs.rest.now) ∙ c.pairs.invariant.0 in
    first_of (search rules, grind (arith, common_steps, nat_tests))
