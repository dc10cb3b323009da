-- What the stage needs is all that is looked for.
use Rattle.std.proofs.Common.{◌≡◌, ℕ, List, IfOk, ◌∙◌, subst}
use Rattle.std.specs.List.{list_any}
use Rattle.dvc_base.specs.Path.{Path}
use Rattle.stage_order.specs.Order.{is_in}
use Rattle.stage_graph.specs.Makers.{is_maker}
use Rattle.stage_graph.proofs.edges.makers.Goals as goal

pub returns : goal.returns
returns c = record {
  found = subst (λ (ps : List Path). IfOk c.makers_of.result (λ found. (n : ℕ) → is_in found.keys n ≡ list_any (λ need. is_maker c.args.made.now need n) ps))
      (c.as_slice.ensures.same ∙ c.in_ok-needed.ensures.exact) c.makers_of.ensures.found;
}
