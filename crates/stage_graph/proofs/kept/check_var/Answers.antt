-- What overlaps the tool's own paths comes first.
use Rattle.std.proofs.Common.{List, Option, sym, ap, ◌∙◌}
use Rattle.std.specs.Option.{option_or}
use Rattle.std.proofs.lemmas.Result.{err_from_is_err_and}
use Rattle.dvc_base.specs.Path.{Path}
use Rattle.dvc_base.specs.declared.fault.Fault.{Fault}
use Rattle.stage_graph.specs.Kept.{tool_paths, near_fault, itself_if, is_track}
use Rattle.stage_graph.proofs.FaultLemmas.{after_none, due_same, due_first, checks_same, checks_err}
use Rattle.stage_graph.proofs.kept.check_var.Goals as goal

pub returns-in_err-check_path : goal.returns-in_err-check_path
returns-in_err-check_path c =
    let p = c.args.file.now in
    let near : List Path → Option Fault = λ kept. near_fault kept p in
    let other : Option Fault = itself_if (is_track c.args.tracks.now p) p in
    let exit = err_from_is_err_and c.from_residual.result c.from_residual.ensures.1 in
    record {
      checked = checks_err c.from_residual.result (option_or (near tool_paths) other) exit.0 _ exit.1 exit.2
          (due_first (near tool_paths) other _
          (due_same (near c.args.tool.now) (near tool_paths) _ (ap near (sym c.requires.tool)) c.in_err-check_path.ensures.checked));
    }

pub returns : goal.returns
returns c =
    let p = c.args.file.now in
    let near : List Path → Option Fault = λ kept. near_fault kept p in
    let other : Option Fault = itself_if (is_track c.args.tracks.now p) p in
    record {
      checked = checks_same c.check_track.result other (option_or (near tool_paths) other)
          (sym (after_none (near tool_paths) other (ap near (sym c.requires.tool) ∙ c.in_ok-check_path.ensures.checked)))
          c.check_track.ensures.checked;
    }
