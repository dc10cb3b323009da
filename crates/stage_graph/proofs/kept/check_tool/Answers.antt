-- The paths of the index are the tool's.
use Rattle.std.proofs.Common.{◌≡◌, List, Option, sym, ap, ◌∙◌}
use Rattle.std.specs.Option.{option_or}
use Rattle.std.proofs.lemmas.Result.{err_from_is_err_and}
use Rattle.dvc_base.specs.Path.{Path}
use Rattle.dvc_base.specs.declared.fault.Fault.{Fault}
use Rattle.stage_graph.specs.Fault.{first_of}
use Rattle.stage_graph.specs.Kept.{tool_paths, near_fault}
use Rattle.stage_graph.specs.Paths.{needs}
use Rattle.stage_graph.proofs.FaultLemmas.{after_none, due_same, due_first, checks_same, checks_err}
use Rattle.stage_graph.proofs.kept.check_tool.Goals as goal

pub returns-in_err-check_paths : goal.returns-in_err-check_paths
returns-in_err-check_paths c =
    let owned = c.args.owned.now in
    let of_owned : List Path → Option Fault = λ kept. first_of (near_fault kept) owned in
    let of_needs : Option Fault = first_of (λ s. first_of (near_fault tool_paths) (needs s)) c.args.stages.now in
    let tool_is : c.in_ok-tool.tool ≡ tool_paths = c.in_ok-tool.ensures.same ∙ c.in_ok-paths.ensures.exact in
    let exit = err_from_is_err_and c.from_residual-in_err-check_paths.result c.from_residual-in_err-check_paths.ensures.1 in
    record {
      checked = checks_err c.from_residual-in_err-check_paths.result (option_or (of_owned tool_paths) of_needs) exit.0 _ exit.1 exit.2
          (due_first (of_owned tool_paths) of_needs _
          (due_same (of_owned c.in_ok-tool.tool) (of_owned tool_paths) _ (ap of_owned (sym tool_is)) c.in_err-check_paths.ensures.checked));
    }

pub returns : goal.returns
returns c =
    let owned = c.args.owned.now in
    let of_owned : List Path → Option Fault = λ kept. first_of (near_fault kept) owned in
    let of_needs : List Path → Option Fault = λ kept. first_of (λ s. first_of (near_fault kept) (needs s)) c.args.stages.now in
    let tool_is : c.in_ok-tool.tool ≡ tool_paths = c.in_ok-tool.ensures.same ∙ c.in_ok-paths.ensures.exact in
    record {
      checked = checks_same c.check_needs.result (of_needs c.in_ok-tool.tool) (option_or (of_owned tool_paths) (of_needs tool_paths))
          (ap of_needs tool_is ∙ sym (after_none (of_owned tool_paths) (of_needs tool_paths) (ap of_owned (sym tool_is) ∙ c.in_ok-check_paths.ensures.checked)))
          c.check_needs.ensures.checked;
    }
