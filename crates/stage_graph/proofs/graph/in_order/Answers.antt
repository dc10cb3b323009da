-- The order and those above each stage are the graph.
use Rattle.std.proofs.Common.{ℕ, List, sym, ap, ◌∙◌}
use Rattle.std.proofs.lemmas.Result.{err_from_is_err_and}
use Rattle.stage_order.specs.Order.{order}
use Rattle.stage_graph.specs.Cycle.{cycle_with, cycle_fault}
use Rattle.stage_graph.proofs.FaultLemmas.{due_same}
use Rattle.stage_graph.proofs.GraphLemmas.{graph_err, graph_is}
use Rattle.stage_graph.proofs.graph.in_order.Goals as goal

pub returns-in_err-order : goal.returns-in_err-order
returns-in_err-order c =
    let stages = c.args.stages.now in
    let above_is = c.as_slice.ensures.same ∙ c.requires.above in
    let exit = err_from_is_err_and c.from_residual.result c.from_residual.ensures.1 in
    record {
      answer = graph_err stages c.from_residual.result (cycle_fault stages) exit.0 _ exit.1 exit.2
          (due_same (cycle_with stages c.as_slice.result.now) (cycle_fault stages) _
          (ap (λ (above : List (List ℕ)). cycle_with stages above) (sym above_is)) c.in_err-order.ensures.checked);
    }

pub returns : goal.returns
returns c =
    let stages = c.args.stages.now in
    let above_is = c.as_slice.ensures.same ∙ c.requires.above in
    record {
      answer = (
        ap (λ (above : List (List ℕ)). cycle_with stages above) (sym above_is) ∙ c.in_ok-order.ensures.checked,
        graph_is stages c.in_ok-order.order c.args.above
            (c.in_ok-order.ensures.exact ∙ ap (λ (above : List (List ℕ)). order above) c.as_slice.ensures.same) c.requires.above,
      );
    }
