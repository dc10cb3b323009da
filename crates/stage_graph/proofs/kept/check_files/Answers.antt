-- The paths of the index are those of the files.
use Rattle.std.proofs.Common.{List, ap, ◌∙◌}
use Rattle.dvc_base.specs.Path.{Path}
use Rattle.stage_graph.specs.Fault.{first_of}
use Rattle.stage_graph.specs.Kept.{near_fault}
use Rattle.stage_graph.proofs.FaultLemmas.{checks_same}
use Rattle.stage_graph.proofs.kept.check_files.Goals as goal

pub returns : goal.returns
returns c = record {
  checked = checks_same c.check_paths.result _ _
      (ap (λ (kept : List Path). first_of (near_fault kept) c.args.owned.now) (c.in_ok-files.ensures.same ∙ c.in_ok-paths.ensures.exact))
      c.check_paths.ensures.checked;
}
