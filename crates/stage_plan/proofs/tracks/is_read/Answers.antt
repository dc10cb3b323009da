-- A place is found where a path overlaps.
use Rattle.std.proofs.Common.{◌∙◌, ap}
use Rattle.std.specs.Option.{is_some}
use Rattle.dvc_base.specs.Path.{overlap}
use Rattle.stage_plan.proofs.TrackLemmas.{place_any}
use Rattle.stage_plan.proofs.tracks.is_read.Goals as goal

pub returns : goal.returns
returns c =
    record { exact = c.is_some.ensures ∙ ap is_some c.first_overlap.ensures.exact ∙ place_any (λ q. overlap q c.args.path.now) 0 c.args.reads.now }
