-- Each case computes.
use Rattle.std.proofs.Common.{refl}
use Rattle.world_api.specs.Layout.{dvc_path, lock_path, yaml_path}
use Rattle.stage_graph.specs.Clash.{params_path}
use Rattle.stage_graph.specs.Kept.{ignore_path}
use Rattle.stage_graph.proofs.cases.worked_cases.Goals as goal

pub returns-clause-order : goal.returns-clause-order
returns-clause-order c = record {
  folder = refl;
  as_written = refl;
  no_edge = refl;
  parameters = refl;
  frozen = refl;
  frozen_cycle = refl;
  brought_above = refl;
  brought_alone = refl;
}

pub returns-clause-refused : goal.returns-clause-refused
unfolding dvc_path lock_path yaml_path ignore_path params_path
returns-clause-refused c = record {
  overlap = refl;
  apart = refl;
  duplicate = refl;
  cycle = refl;
  itself_above = refl;
  outside = refl;
  yaml = refl;
  tool = refl;
  lock_read = refl;
  ignore = refl;
  track_name = refl;
  other_name = refl;
  variables = refl;
}
