-- The outs of the track file are read from its folder.
use Rattle.std.proofs.Common.{◌≡◌, Bool, List, ap, ◌∙◌}
use Rattle.std.specs.List.{list_any}
use Rattle.std.proofs.lemmas.Result.{IfOk-weaker}
use Rattle.dvc_base.specs.Path.{Path, overlap}
use Rattle.world_api.specs.Effect.{path_from}
use Rattle.lock_files.specs.declared.entry.PathEntry.{PathEntry}
use Rattle.stage_plan.specs.Plan.{feeds}
use Rattle.stage_plan.proofs.TrackLemmas.{feeds_by}
use Rattle.stage_plan.proofs.tracks.feeds.Goals as goal

pub returns : goal.returns
returns c =
    let reads = c.args.reads.now in
    let track = c.args.track.now in
    let meets : Path → List PathEntry → Bool = λ dir outs. list_any (λ out. list_any (λ q. overlap q (path_from dir out.path)) reads) outs in
    record {
      exact = IfOk-weaker c.feeds_from.result (λ found. found ≡ meets c.in_ok-dir.dir c.as_slice.result.now) (λ found. found ≡ feeds reads track)
          (λ found h. h
          ∙ ap (meets c.in_ok-dir.dir) c.as_slice.ensures.same
          ∙ ap (λ (dir : Path). meets dir track.track.outs) c.in_ok-dir.ensures.named
          ∙ feeds_by reads track)
          c.feeds_from.ensures.exact;
    }
