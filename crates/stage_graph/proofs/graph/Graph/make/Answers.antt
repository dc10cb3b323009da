-- Check after check, the first refusal is due.
use Rattle.std.proofs.Common.{Option, None, sym}
use Rattle.std.specs.Option.{option_or}
use Rattle.std.proofs.lemmas.Result.{err_from_is_err_and}
use Rattle.dvc_base.specs.declared.fault.Fault.{Fault}
use Rattle.stage_graph.specs.Clash.{clash_fault, made_fault}
use Rattle.stage_graph.specs.Cycle.{cycle_fault}
use Rattle.stage_graph.specs.Graph.{graph_fault}
use Rattle.stage_graph.specs.Kept.{reserved_fault}
use Rattle.stage_graph.specs.Paths.{owners, owner_paths}
use Rattle.stage_graph.specs.Texts.{outside_fault}
use Rattle.stage_graph.proofs.FaultLemmas.{due_same, due_first}
use Rattle.stage_graph.proofs.GraphLemmas.{graph_same, graph_err, behind, last_two}
use Rattle.stage_graph.proofs.graph.Graph.make.Goals as goal

pub returns-in_err-check_texts : goal.returns-in_err-check_texts
returns-in_err-check_texts c =
    let stages = c.args.stages.now in
    let tracks = c.args.tracks.now in
    let b : Option Fault = reserved_fault (owner_paths (owners stages tracks)) stages tracks c.args.vars.now c.args.ignores.now in
    let later : Option Fault = option_or b (option_or (clash_fault (owners stages tracks)) (option_or (made_fault stages c.args.vars.now) (option_or (cycle_fault stages) None))) in
    let exit = err_from_is_err_and c.from_residual.result c.from_residual.ensures.1 in
    record {
      answer = graph_err stages c.from_residual.result (graph_fault stages tracks c.args.vars.now c.args.ignores.now) exit.0 _ exit.1 exit.2
          (due_first (outside_fault stages tracks) later _ c.in_err-check_texts.ensures.checked);
    }

pub returns-in_err-check_owners : goal.returns-in_err-check_owners
returns-in_err-check_owners c =
    let stages = c.args.stages.now in
    let tracks = c.args.tracks.now in
    let due : Option Fault = graph_fault stages tracks c.args.vars.now c.args.ignores.now in
    let a : Option Fault = outside_fault stages tracks in
    let b : Option Fault = reserved_fault (owner_paths (owners stages tracks)) stages tracks c.args.vars.now c.args.ignores.now in
    let l : Option Fault = clash_fault (owners stages tracks) in
    let d : Option Fault = made_fault stages c.args.vars.now in
    let e : Option Fault = cycle_fault stages in
    let exit = err_from_is_err_and c.from_residual-in_err-check_owners.result c.from_residual-in_err-check_owners.ensures.1 in
    record {
      answer = graph_err stages c.from_residual-in_err-check_owners.result due exit.0 _ exit.1 exit.2
          (due_same (option_or (option_or b l) (option_or d e)) due _ (behind a b l d e c.in_ok-check_texts.ensures.checked)
          (due_first (option_or b l) (option_or d e) _ c.in_err-check_owners.ensures.checked));
    }

pub returns : goal.returns
returns c =
    let stages = c.args.stages.now in
    let tracks = c.args.tracks.now in
    let a : Option Fault = outside_fault stages tracks in
    let b : Option Fault = reserved_fault (owner_paths (owners stages tracks)) stages tracks c.args.vars.now c.args.ignores.now in
    let l : Option Fault = clash_fault (owners stages tracks) in
    let d : Option Fault = made_fault stages c.args.vars.now in
    let e : Option Fault = cycle_fault stages in
    record {
      answer = graph_same stages c.graph_in.result (option_or d e) (graph_fault stages tracks c.args.vars.now c.args.ignores.now)
          (sym (last_two a b l d e c.in_ok-check_texts.ensures.checked c.in_ok-check_owners.ensures.checked)) c.graph_in.ensures.answer;
    }
