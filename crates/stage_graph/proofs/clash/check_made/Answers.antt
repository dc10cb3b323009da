-- The parameters come first.
use Rattle.std.proofs.Common.{◌≡◌, None, sym, ap, ◌∙◌}
use Rattle.std.specs.Option.{option_or}
use Rattle.std.proofs.lemmas.Result.{err_from_is_err_and}
use Rattle.dvc_base.specs.Path.{Path}
use Rattle.stage_graph.specs.Clash.{made_by, params_path}
use Rattle.stage_graph.specs.Fault.{first_of}
use Rattle.stage_graph.proofs.FaultLemmas.{after_none, due_same, due_first, checks_same, checks_err}
use Rattle.stage_graph.proofs.clash.check_made.Goals as goal

pub returns-in_err-check_file : goal.returns-in_err-check_file
returns-in_err-check_file c =
    let outs = c.args.outs.now in
    let later = first_of (made_by outs) c.args.vars.now in
    let fault = c.in_err-check_file.field-0.0 in
    let exit = err_from_is_err_and c.from_residual-in_err-check_file.result c.from_residual-in_err-check_file.ensures.1 in
    record {
      checked = checks_err c.from_residual-in_err-check_file.result (option_or (made_by outs params_path) later) exit.0 fault exit.1 exit.2
          (due_first (made_by outs params_path) later fault
          (due_same (made_by outs c.in_ok-params.params) (made_by outs params_path) fault
          (ap (λ (p : Path). made_by outs p) (sym c.in_ok-params.ensures.named)) c.in_err-check_file.ensures.checked));
    }

pub returns : goal.returns
returns c =
    let outs = c.args.outs.now in
    let later = first_of (made_by outs) c.args.vars.now in
    let none : made_by outs params_path ≡ None = ap (λ (p : Path). made_by outs p) (sym c.in_ok-params.ensures.named) ∙ c.in_ok-check_file.ensures.checked in
    record { checked = checks_same c.check_files.result _ _ (sym (after_none (made_by outs params_path) later none)) c.check_files.ensures.checked }
