-- The owners are those of the tracks and stages.
use Rattle.std.proofs.Common.{List, Option, ap, ◌∙◌}
use Rattle.std.specs.Option.{option_or}
use Rattle.dvc_base.specs.declared.fault.Fault.{Fault}
use Rattle.stage_graph.specs.Clash.{clash_fault}
use Rattle.stage_graph.specs.Kept.{reserved_fault}
use Rattle.stage_graph.specs.Paths.{owners, owner_paths}
use Rattle.stage_graph.specs.declared.owner.Owner.{Owner}
use Rattle.stage_graph.proofs.FaultLemmas.{checks_same}
use Rattle.stage_graph.proofs.graph.check_owners.Goals as goal

pub returns : goal.returns
returns c =
    let of_owners : List Owner → Option Fault = λ os. option_or
    (reserved_fault (owner_paths os) c.args.stages.now c.args.tracks.now c.args.vars.now c.args.ignores.now) (clash_fault os) in
    record {
      checked = checks_same c.check_owned.result (of_owners c.as_slice.result.now) (of_owners (owners c.args.stages.now c.args.tracks.now))
          (ap of_owners (c.as_slice.ensures.same ∙ c.in_ok-owners.ensures.exact)) c.check_owned.ensures.checked;
    }
