-- What is marked as done is what stands in the order.
use Rattle.std.proofs.Common.{Bool, List, sym, ap, ◌∙◌}
use Rattle.std.proofs.lemmas.Result.{err_from_is_err_and}
use Rattle.stage_order.specs.Order.{is_in, order}
use Rattle.stage_order.specs.Seated.{is_marked}
use Rattle.stage_order.specs.Walk.{first_walk}
use Rattle.stage_graph.specs.Cycle.{walk_fault, cycle_with}
use Rattle.stage_graph.proofs.FaultLemmas.{due_same, checks_err}
use Rattle.stage_graph.proofs.GraphLemmas.{walk_same}
use Rattle.stage_graph.proofs.graph.order_in.Goals as goal

pub returns-in_err-check_cycle-clause-checked : goal.returns-in_err-check_cycle-clause-checked
returns-in_err-check_cycle-clause-checked c =
    let stages = c.args.stages.now in
    let above = c.args.above.now in
    let marks = c.as_slice.result.now in
    let exit = err_from_is_err_and c.from_residual-in_err-check_cycle.result c.from_residual-in_err-check_cycle.ensures.1 in
    checks_err c.from_residual-in_err-check_cycle.result (cycle_with stages above) exit.0 _ exit.1 exit.2
    (due_same (walk_fault stages (first_walk above (is_marked marks))) (cycle_with stages above) _
    (sym (walk_same stages above (is_marked marks) (is_in (order above))
    (λ n. ap (λ (ms : List Bool). is_marked ms n) c.as_slice.ensures.value ∙ c.in_ok-ordered.ensures.done n)))
    c.in_err-check_cycle.ensures.checked)

pub returns-clause-checked : goal.returns-clause-checked
returns-clause-checked c =
    let marks = c.as_slice.result.now in
    sym (walk_same c.args.stages.now c.args.above.now (is_marked marks) (is_in (order c.args.above.now))
    (λ n. ap (λ (ms : List Bool). is_marked ms n) c.as_slice.ensures.value ∙ c.in_ok-ordered.ensures.done n))
    ∙ c.in_ok-check_cycle.ensures.checked
