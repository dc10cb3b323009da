-- The stages at the places that overlap a path are its makers.
use Rattle.std.proofs.Common.{◌≡◌, ℕ, Bool, ◌||◌, List, ap, ◌∙◌}
use Rattle.std.proofs.lemmas.Result.{on_ok_weaker}
use Rattle.dvc_base.specs.Path.{Path}
use Rattle.path_index.specs.Overlap.{overlapping}
use Rattle.stage_order.specs.Order.{is_in}
use Rattle.stage_graph.specs.Makers.{stages_at}
use Rattle.stage_graph.specs.Paths.{output_paths}
use Rattle.stage_graph.proofs.EdgeLemmas.{makers_found}
use Rattle.stage_graph.proofs.edges.add_makers.Goals as goal

pub returns : goal.returns
returns c =
    let made = c.args.made.now in
    let need = c.args.need.now in
    let places_are : c.as_slice.result.now ≡ overlapping (output_paths made) need =
    c.as_slice.ensures.value ∙ c.in_ok-places.ensures.exact ∙ ap (λ (ps : List Path). overlapping ps need) c.requires.paths in
    record {
      added = on_ok_weaker c.add_stages.result
          (λ h n. h n ∙ ap (λ (b : Bool). is_in c.args.found.now.keys n || b)
          (ap (λ (places : List ℕ). is_in (stages_at made places) n) places_are ∙ makers_found made need n))
          c.add_stages.ensures.added;
    }
