-- The stage at one more place is in the set.
use Rattle.std.proofs.Common.{Bool, ◌||◌, [], ◌∷◌, take, get_or, sym, ap, ◌∙◌}
use Rattle.stage_order.specs.Order.{is_in}
use Rattle.stage_graph.specs.Makers.{stages_at}
use Rattle.stage_graph.proofs.EdgeLemmas.{or_assoc, stages_more}
use Rattle.stage_graph.proofs.edges.add_stages.Goals as goal

pub loop-place-preserved : goal.loop-place-preserved
loop-place-preserved c = λ n.
    let made = c.args.made.now in
    let places = c.args.places.now in
    let i = c.loop-place.place-index in
    let old = is_in c.args.found.now.keys n in
    let here = is_in (stages_at made (get_or places i 0 ∷ [])) n in
    c.in_ok-add_stage.ensures.added n
    ∙ ap (λ (b : Bool). b || here) (c.loop-place.invariant n)
    ∙ or_assoc old (is_in (stages_at made (take i places)) n) here
    ∙ ap (λ (b : Bool). old || b) (sym (stages_more made places i n c.loop-place-test.true))
