use Rattle.std.proofs.Common.{Ok, ◌∙◌, ap, arith, rules}
use Rattle.std.proofs.lemmas.Grind.{common_steps}
use Rattle.std.proofs.lemmas.Bool.Decides.{nat_tests}
use Rattle.yaml_text.specs.Outcome.{◌>>=◌}
use Rattle.dvc_base.specs.declared.node.Node.TheVariants as nd
use Rattle.yaml_nodes.specs.Block.{block, sequence_turn, mapping_turn, sequence, mapping}
use Rattle.yaml_nodes.proofs.StepLemmas.{steps_step}
use Rattle.yaml_nodes.proofs.block.+block.Goals as goal

pub sequence-items-init : goal.sequence-items-init
unfolding sequence
sequence-items-init t c = first_of (search rules, grind (arith, common_steps))

pub sequence-returns-in_err-last-clause-exact : goal.sequence-returns-in_err-last-clause-exact
sequence-returns-in_err-last-clause-exact t c =
    let e = ap (λ o. o >>= λ r. Ok (nd.Items r.0, r.1)) (steps_step (sequence_turn (block c.args.depth) c.args.column) c.items.found c.items.rest.now) ∙ c.items.invariant.0 in
    first_of (search rules, grind (arith, common_steps, nat_tests))

pub sequence-returns-then-last-clause-exact : goal.sequence-returns-then-last-clause-exact
sequence-returns-then-last-clause-exact t c =
    let e = ap (λ o. o >>= λ r. Ok (nd.Items r.0, r.1)) (steps_step (sequence_turn (block c.args.depth) c.args.column) c.items.found c.items.rest.now) ∙ c.items.invariant.0 in
    first_of (search rules, grind (arith, common_steps, nat_tests))

pub sequence-items-preserved : goal.sequence-items-preserved
sequence-items-preserved t c =
    let e = ap (λ o. o >>= λ r. Ok (nd.Items r.0, r.1)) (steps_step (sequence_turn (block c.args.depth) c.args.column) c.items.found c.items.rest.now) ∙ c.items.invariant.0 in
    first_of (search rules, grind (arith, common_steps, nat_tests))

pub mapping-pairs-init : goal.mapping-pairs-init
unfolding mapping
mapping-pairs-init t c = first_of (search rules, grind (arith, common_steps))

pub mapping-returns-in_err-last-clause-exact : goal.mapping-returns-in_err-last-clause-exact
mapping-returns-in_err-last-clause-exact t c =
    let e = ap (λ o. o >>= λ r. Ok (nd.Pairs r.0, r.1)) (steps_step (mapping_turn c.args.depth (block c.args.depth) c.args.column) c.pairs.found c.pairs.rest.now) ∙ c.pairs.invariant.0 in
    first_of (search rules, grind (arith, common_steps, nat_tests))

pub mapping-returns-then-last-clause-exact : goal.mapping-returns-then-last-clause-exact
mapping-returns-then-last-clause-exact t c =
    let e = ap (λ o. o >>= λ r. Ok (nd.Pairs r.0, r.1)) (steps_step (mapping_turn c.args.depth (block c.args.depth) c.args.column) c.pairs.found c.pairs.rest.now) ∙ c.pairs.invariant.0 in
    first_of (search rules, grind (arith, common_steps, nat_tests))

pub mapping-pairs-preserved : goal.mapping-pairs-preserved
mapping-pairs-preserved t c =
    let e = ap (λ o. o >>= λ r. Ok (nd.Pairs r.0, r.1)) (steps_step (mapping_turn c.args.depth (block c.args.depth) c.args.column) c.pairs.found c.pairs.rest.now) ∙ c.pairs.invariant.0 in
    first_of (search rules, grind (arith, common_steps, nat_tests))
