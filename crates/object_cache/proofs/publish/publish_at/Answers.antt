-- What stands at the path gives way, the folders above are made, and the lane is published.
use Rattle.std.proofs.Common.{sym, Some, None, subst}
use Rattle.dvc_base.specs.Path.{Path}
use Rattle.world_api.specs.Writes.{HasRoad, IsFolderAt, InMakeFolder}
use Rattle.world_api.proofs.LaneLemmas.{lane_apart}
use Rattle.object_cache.proofs.GiveLemmas.{passes_cleared, passes_make, passes_publish, give_road, make_lane, make_room, lane_kept, lane_firm}
use Rattle.object_cache.proofs.publish.publish_at.Goals as goal

pub returns-in_err-clear_folder-clause-moments : goal.returns-in_err-clear_folder-clause-moments
returns-in_err-clear_folder-clause-moments g c told bytes lane =
    passes_cleared c.args.at.now (Some bytes) (g.F.Ground.history c.args.files.now) (g.F.Ground.history c.clear_folder.new.files) (c.clear_folder.ensures.moments told)

pub make_folder-requires : goal.make_folder-requires
make_folder-requires g c told =
    let a = g.F.Ground.history c.args.files.now in
    let b = g.F.Ground.history c.clear_folder.new.files in
    subst (λ (p : Path). HasRoad p b.present.tree) (sym c.in_ok-folder.ensures.exact)
    (give_road c.args.at.now None a.present b.present c.requires.below_root (c.clear_folder.ensures.moments told).now (c.requires.road told))

pub returns-in_err-make_folder-clause-moments : goal.returns-in_err-make_folder-clause-moments
returns-in_err-make_folder-clause-moments g c told bytes lane =
    let a = g.F.Ground.history c.args.files.now in
    let b = g.F.Ground.history c.clear_folder.new.files in
    passes_make c.args.at.now c.in_ok-folder.folder (Some bytes) a b (g.F.Ground.history c.make_folder.new.self) c.in_ok-folder.ensures.exact c.requires.below_root
    (passes_cleared c.args.at.now (Some bytes) a b (c.clear_folder.ensures.moments told)) (c.make_folder.ensures.moments told)

pub publish-requires-clause-apart : goal.publish-requires-clause-apart
publish-requires-clause-apart g c = lane_apart 0 c.args.at.now c.requires.apart

pub publish-requires-clause-settled : goal.publish-requires-clause-settled
publish-requires-clause-settled g c told =
    let a = (g.F.Ground.history c.args.files.now).present in
    let b = (g.F.Ground.history c.clear_folder.new.files).present in
    let d = (g.F.Ground.history c.make_folder.new.self).present in
    let made = subst (λ (p : Path). InMakeFolder p b d) c.in_ok-folder.ensures.exact (c.make_folder.ensures.moments told).now in
    let lane = c.requires.lane told in
    lane_firm lane.0 d (lane_kept lane.0 b d (make_lane c.args.at.now b d c.requires.apart made) (lane_kept lane.0 a b (c.clear_folder.ensures.lane told) lane.1))

pub publish-requires-clause-room : goal.publish-requires-clause-room
publish-requires-clause-room g c told =
    let b = (g.F.Ground.history c.clear_folder.new.files).present in
    let d = (g.F.Ground.history c.make_folder.new.self).present in
    let made = subst (λ (p : Path). InMakeFolder p b d) c.in_ok-folder.ensures.exact (c.make_folder.ensures.moments told).now in
    make_room c.args.at.now b d c.requires.below_root (c.in_ok-clear_folder.ensures.cleared told) made (subst (λ (p : Path). IsFolderAt d.tree p) c.in_ok-folder.ensures.exact (c.in_ok-make_folder.ensures.made told))

pub returns-in_err-publish-clause-moments : goal.returns-in_err-publish-clause-moments
returns-in_err-publish-clause-moments g c told bytes lane =
    let a = g.F.Ground.history c.args.files.now in
    let b = g.F.Ground.history c.clear_folder.new.files in
    let d = g.F.Ground.history c.make_folder.new.self in
    let made = subst (λ (p : Path). InMakeFolder p b.present d.present) c.in_ok-folder.ensures.exact (c.make_folder.ensures.moments told).now in
    let stands = lane_kept bytes b.present d.present (make_lane c.args.at.now b.present d.present c.requires.apart made) (lane_kept bytes a.present b.present (c.clear_folder.ensures.lane told) lane) in
    passes_publish 0 c.args.at.now bytes a d (g.F.Ground.history c.publish.new.self) c.requires.apart c.requires.below_root stands.stands
    (passes_make c.args.at.now c.in_ok-folder.folder (Some bytes) a b d c.in_ok-folder.ensures.exact c.requires.below_root
    (passes_cleared c.args.at.now (Some bytes) a b (c.clear_folder.ensures.moments told)) (c.make_folder.ensures.moments told))
    (c.publish.ensures.moments told)

pub returns-clause-published : goal.returns-clause-published
returns-clause-published g c told bytes lane =
    let a = g.F.Ground.history c.args.files.now in
    let b = g.F.Ground.history c.clear_folder.new.files in
    let d = g.F.Ground.history c.make_folder.new.self in
    let made = subst (λ (p : Path). InMakeFolder p b.present d.present) c.in_ok-folder.ensures.exact (c.make_folder.ensures.moments told).now in
    let stands = lane_kept bytes b.present d.present (make_lane c.args.at.now b.present d.present c.requires.apart made) (lane_kept bytes a.present b.present (c.clear_folder.ensures.lane told) lane) in
    (c.in_ok-publish.ensures.published told).moved bytes stands.stands

pub returns-clause-moments : goal.returns-clause-moments
returns-clause-moments g c told bytes lane =
    let a = g.F.Ground.history c.args.files.now in
    let b = g.F.Ground.history c.clear_folder.new.files in
    let d = g.F.Ground.history c.make_folder.new.self in
    let made = subst (λ (p : Path). InMakeFolder p b.present d.present) c.in_ok-folder.ensures.exact (c.make_folder.ensures.moments told).now in
    let stands = lane_kept bytes b.present d.present (make_lane c.args.at.now b.present d.present c.requires.apart made) (lane_kept bytes a.present b.present (c.clear_folder.ensures.lane told) lane) in
    passes_publish 0 c.args.at.now bytes a d (g.F.Ground.history c.publish.new.self) c.requires.apart c.requires.below_root stands.stands
    (passes_make c.args.at.now c.in_ok-folder.folder (Some bytes) a b d c.in_ok-folder.ensures.exact c.requires.below_root
    (passes_cleared c.args.at.now (Some bytes) a b (c.clear_folder.ensures.moments told)) (c.make_folder.ensures.moments told))
    (c.publish.ensures.moments told)
