-- The numbers of those above one more stage.
use Rattle.std.proofs.Common.{ℕ, List, [], ◌∷◌, ◌++◌, map, take, sym, ap, ◌∙◌}
use Rattle.std.proofs.lemmas.List.{map_more}
use Rattle.path_index.specs.Overlap.{places}
use Rattle.stage_schema.specs.declared.stage.Stage.{Stage}
use Rattle.stage_graph.specs.Paths.{is_above}
use Rattle.stage_graph.proofs.edges.all_above.Goals as goal

pub loop-stage-preserved : goal.loop-stage-preserved
loop-stage-preserved c =
    let stages = c.args.stages.now in
    let i = c.loop-stage.stage-index in
    let f : Stage → List ℕ = λ b. places (λ a. is_above a b) stages in
    let numbers = c.in_ok-numbers.numbers in
    c.in_ok-push.ensures.ok
    ∙ ap (λ (all : List (List ℕ)). all ++ numbers ∷ []) c.loop-stage.invariant
    ∙ ap (λ (ns : List ℕ). map f (take i stages) ++ ns ∷ []) (c.in_ok-numbers.ensures.exact stages c.requires.outputs ∙ ap f c.stage-item.is)
    ∙ sym (map_more f stages i c.stage-item.result c.loop-stage-test.true)
