-- The paths that are kept come first, and then the owners.
use Rattle.std.proofs.Common.{List, Option, sym, ap, ◌∙◌}
use Rattle.std.specs.Option.{option_or}
use Rattle.std.proofs.lemmas.Result.{err_from_is_err_and}
use Rattle.dvc_base.specs.Path.{Path}
use Rattle.dvc_base.specs.declared.fault.Fault.{Fault}
use Rattle.stage_graph.specs.Clash.{clash_fault}
use Rattle.stage_graph.specs.Kept.{reserved_fault}
use Rattle.stage_graph.specs.Paths.{owner_paths}
use Rattle.stage_graph.proofs.FaultLemmas.{after_none, due_same, due_first, checks_same, checks_err}
use Rattle.stage_graph.proofs.graph.check_owned.Goals as goal

pub returns-in_err-check_reserved : goal.returns-in_err-check_reserved
returns-in_err-check_reserved c =
    let os = c.args.owners.now in
    let of_owned : List Path → Option Fault = λ owned. reserved_fault owned c.args.stages.now c.args.tracks.now c.args.vars.now c.args.ignores.now in
    let owned_is = c.paths.ensures.same ∙ c.in_ok-index.ensures.same ∙ c.in_ok-owned.ensures.exact in
    let exit = err_from_is_err_and c.from_residual-in_err-check_reserved.result c.from_residual-in_err-check_reserved.ensures.1 in
    record {
      checked = checks_err c.from_residual-in_err-check_reserved.result (option_or (of_owned (owner_paths os)) (clash_fault os)) exit.0 _ exit.1 exit.2
          (due_first (of_owned (owner_paths os)) (clash_fault os) _
          (due_same (of_owned c.paths.result.now) (of_owned (owner_paths os)) _ (ap of_owned (sym owned_is)) c.in_err-check_reserved.ensures.checked));
    }

pub returns : goal.returns
returns c =
    let os = c.args.owners.now in
    let of_owned : List Path → Option Fault = λ owned. reserved_fault owned c.args.stages.now c.args.tracks.now c.args.vars.now c.args.ignores.now in
    let owned_is = c.paths.ensures.same ∙ c.in_ok-index.ensures.same ∙ c.in_ok-owned.ensures.exact in
    record {
      checked = checks_same c.check_clash.result (clash_fault os) (option_or (of_owned (owner_paths os)) (clash_fault os))
          (sym (after_none (of_owned (owner_paths os)) (clash_fault os) (ap of_owned (sym owned_is) ∙ c.in_ok-check_reserved.ensures.checked)))
          c.check_clash.ensures.checked;
    }
