-- Check after check, the first refusal is due.
use Rattle.std.proofs.Common.{Option, sym, ◌∙◌}
use Rattle.std.specs.Option.{option_or}
use Rattle.std.proofs.lemmas.Result.{err_from_is_err_and}
use Rattle.dvc_base.specs.declared.fault.Fault.{Fault}
use Rattle.stage_graph.specs.Fault.{first_of}
use Rattle.stage_graph.specs.Kept.{tool_fault, file_fault, name_fault, dir_fault, var_fault}
use Rattle.stage_graph.proofs.FaultLemmas.{after_none, due_same, due_first, checks_same, checks_err}
use Rattle.stage_graph.proofs.kept.check_reserved.Goals as goal

pub returns-in_err-check_tool : goal.returns-in_err-check_tool
returns-in_err-check_tool c =
    let a : Option Fault = tool_fault c.args.owned.now c.args.stages.now in
    let b : Option Fault = file_fault c.args.tracks.now c.args.ignores.now c.args.owned.now in
    let n : Option Fault = first_of name_fault c.args.owned.now in
    let d : Option Fault = option_or (first_of dir_fault c.args.stages.now) (first_of (var_fault c.args.tracks.now) c.args.vars.now) in
    let exit = err_from_is_err_and c.from_residual.result c.from_residual.ensures.1 in
    record {
      checked = checks_err c.from_residual.result (option_or a (option_or b (option_or n d))) exit.0 _ exit.1 exit.2
          (due_first a (option_or b (option_or n d)) _ c.in_err-check_tool.ensures.checked);
    }

pub returns-in_err-check_files : goal.returns-in_err-check_files
returns-in_err-check_files c =
    let a : Option Fault = tool_fault c.args.owned.now c.args.stages.now in
    let b : Option Fault = file_fault c.args.tracks.now c.args.ignores.now c.args.owned.now in
    let n : Option Fault = first_of name_fault c.args.owned.now in
    let d : Option Fault = option_or (first_of dir_fault c.args.stages.now) (first_of (var_fault c.args.tracks.now) c.args.vars.now) in
    let exit = err_from_is_err_and c.from_residual-in_err-check_files.result c.from_residual-in_err-check_files.ensures.1 in
    record {
      checked = checks_err c.from_residual-in_err-check_files.result (option_or a (option_or b (option_or n d))) exit.0 _ exit.1 exit.2
          (due_same (option_or b (option_or n d)) (option_or a (option_or b (option_or n d))) _
          (after_none a (option_or b (option_or n d)) c.in_ok-check_tool.ensures.checked)
          (due_first b (option_or n d) _ c.in_err-check_files.ensures.checked));
    }

pub returns-in_err-check_names : goal.returns-in_err-check_names
returns-in_err-check_names c =
    let a : Option Fault = tool_fault c.args.owned.now c.args.stages.now in
    let b : Option Fault = file_fault c.args.tracks.now c.args.ignores.now c.args.owned.now in
    let n : Option Fault = first_of name_fault c.args.owned.now in
    let d : Option Fault = option_or (first_of dir_fault c.args.stages.now) (first_of (var_fault c.args.tracks.now) c.args.vars.now) in
    let exit = err_from_is_err_and c.from_residual-in_err-check_names.result c.from_residual-in_err-check_names.ensures.1 in
    record {
      checked = checks_err c.from_residual-in_err-check_names.result (option_or a (option_or b (option_or n d))) exit.0 _ exit.1 exit.2
          (due_same (option_or n d) (option_or a (option_or b (option_or n d))) _
          (after_none a (option_or b (option_or n d)) c.in_ok-check_tool.ensures.checked ∙ after_none b (option_or n d) c.in_ok-check_files.ensures.checked)
          (due_first n d _ c.in_err-check_names.ensures.checked));
    }

pub returns : goal.returns
returns c =
    let a : Option Fault = tool_fault c.args.owned.now c.args.stages.now in
    let b : Option Fault = file_fault c.args.tracks.now c.args.ignores.now c.args.owned.now in
    let n : Option Fault = first_of name_fault c.args.owned.now in
    let d : Option Fault = option_or (first_of dir_fault c.args.stages.now) (first_of (var_fault c.args.tracks.now) c.args.vars.now) in
    record {
      checked = checks_same c.check_others.result d (option_or a (option_or b (option_or n d)))
          (sym (after_none a (option_or b (option_or n d)) c.in_ok-check_tool.ensures.checked
          ∙ after_none b (option_or n d) c.in_ok-check_files.ensures.checked ∙ after_none n d c.in_ok-check_names.ensures.checked))
          c.check_others.ensures.checked;
    }
