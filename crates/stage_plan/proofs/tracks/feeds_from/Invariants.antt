use Rattle.std.proofs.Common.{◌≡◌, false, take}
use Rattle.std.specs.List.{list_any}
use Rattle.dvc_base.specs.Path.{overlap}
use Rattle.world_api.specs.Effect.{path_from}
use Rattle.stage_plan.proofs.tracks.feeds_from.Given as goal

-- none so far
abbrev pub invariant-loop-out : goal.invariant-loop-out
invariant-loop-out l = list_any (λ out. list_any (λ q. overlap q (path_from l.dir out.path)) l.reads) (take l.out-index l.outs) ≡ false
