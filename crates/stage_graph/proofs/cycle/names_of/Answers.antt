-- The name at one more number.
use Rattle.std.proofs.Common.{ℕ, List, [], ◌∷◌, ◌++◌, get_or, sym, ap, ◌∙◌}
use Rattle.stage_graph.specs.Cycle.{names_of}
use Rattle.stage_graph.proofs.CycleLemmas.{names_more}
use Rattle.stage_graph.proofs.cycle.names_of.Goals as goal

pub loop-number-preserved : goal.loop-number-preserved
loop-number-preserved c =
    let stages = c.args.stages.now in
    let ns = c.args.numbers.now in
    let i = c.loop-number.number-index in
    c.in_ok-push_name.ensures.ok
    ∙ ap (λ (names : List (List ℕ)). names ++ names_of stages (get_or ns i 0 ∷ [])) c.loop-number.invariant
    ∙ sym (names_more stages ns i c.loop-number-test.true)
