-- The text is put into the lane, and published at the object's place.
use Rattle.std.proofs.Common.{◌≡◌, true, [], ◌∷◌, sym, ap, subst, ◌∙◌}
use Rattle.std.specs.Prelude.{is_some}
use Rattle.dvc_base.specs.Path.{Path}
use Rattle.world_api.specs.Calls.{parent}
use Rattle.world_api.specs.Writes.{IsNewFile, IsNoScratch}
use Rattle.object_cache.specs.Objects.{object_at}
use Rattle.object_cache.specs.Due.{not_folder}
use Rattle.object_cache.proofs.GiveLemmas.{scratch_road}
use Rattle.object_cache.proofs.RoadLemmas.{road_of, object_apart}
use Rattle.object_cache.proofs.StoreLemmas.{passes_stored_scratch}
use Rattle.object_cache.proofs.PutLemmas.{on_ok, dvc_on_road, passes_put, new_object}
use Rattle.object_cache.proofs.put.store_text_at.Goals as goal

pub fill_text-requires : goal.fill_text-requires
fill_text-requires g c = record {
  no_file = λ told. dvc_on_road (g.F.Ground.history c.args.files.now).present.tree c.args.name.now (c.requires.free told).road;
}

pub returns-in_err-fill_text-clause-moments : goal.returns-in_err-fill_text-clause-moments
returns-in_err-fill_text-clause-moments g c told = passes_stored_scratch (c.args.name.now ∷ []) (g.F.Ground.history c.args.files.now) (g.F.Ground.history c.fill_text.new.files) (c.fill_text.ensures.moments told)

pub publish_at-requires-clause-apart : goal.publish_at-requires-clause-apart
publish_at-requires-clause-apart g c = subst IsNoScratch (sym c.requires.place) (object_apart c.args.name.now)

pub publish_at-requires-clause-lane : goal.publish_at-requires-clause-lane
publish_at-requires-clause-lane g c told = (c.args.text.now, c.in_ok-fill_text.ensures.filled told)

pub publish_at-requires-clause-road : goal.publish_at-requires-clause-road
publish_at-requires-clause-road g c told =
    let a = (g.F.Ground.history c.args.files.now).present in
    let b = (g.F.Ground.history c.fill_text.new.files).present in
    let at = c.args.place.now in
    let out = subst IsNoScratch (sym c.requires.place) (object_apart c.args.name.now) in
    scratch_road at a b out (c.fill_text.ensures.moments told).now (road_of a.tree (parent at) (ap (λ (p : Path). not_folder a.tree (parent p)) c.requires.place ∙ (c.requires.free told).road))

pub returns-clause-stored : goal.returns-clause-stored
returns-clause-stored g c told =
    let d = (g.F.Ground.history c.publish_at.new.files).present in
    let name = c.args.name.now in
    let at = c.args.place.now in
    let text = c.args.text.now in
    on_ok c.publish_at.result (IsNewFile at text d) (is_some (object_at d.tree name) ≡ true) (λ n. new_object name at text d c.requires.place c.requires.named n) (c.publish_at.ensures.published told text (c.in_ok-fill_text.ensures.filled told))

pub returns-clause-moments : goal.returns-clause-moments
returns-clause-moments g c told =
    let text = c.args.text.now in
    passes_put c.args.name.now c.args.place.now text (g.F.Ground.history c.args.files.now) (g.F.Ground.history c.fill_text.new.files) (g.F.Ground.history c.publish_at.new.files) c.requires.place c.requires.named (c.requires.free told) (c.fill_text.ensures.moments told) (c.publish_at.ensures.moments told text (c.in_ok-fill_text.ensures.filled told))
