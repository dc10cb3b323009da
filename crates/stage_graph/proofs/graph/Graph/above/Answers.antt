-- Those above each stage, and the order, are the graph's.
use Rattle.std.proofs.Common.{◌≡◌, ℕ, List, IfOk, subst}
use Rattle.stage_order.specs.Brought.{brought}
use Rattle.stage_graph.proofs.graph.Graph.above.Goals as goal

pub returns : goal.returns
returns c =
    let chosen = c.args.chosen.now in
    record {
      exact = subst (λ (above : List (List ℕ)). IfOk c.brought.result (λ stages. stages ≡ brought above chosen c.args.self.now.order)) c.as_slice.ensures.same
          (subst (λ (order : List ℕ). IfOk c.brought.result (λ stages. stages ≡ brought c.as_slice.result.now chosen order)) c.as_slice-2.ensures.same
          c.brought.ensures.exact);
    }
