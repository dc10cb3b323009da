-- The lane is filled, and published at the object's place.
use Rattle.std.proofs.Common.{◌≡◌, [], ◌∷◌, sym, ap, subst, ◌∙◌, Some, Err, rules}
use Rattle.dvc_base.specs.Path.{Path}
use Rattle.dvc_base.specs.Name.{ObjectName}
use Rattle.std.specs.Prelude.{is_some, true, IfErr}
use Rattle.world_api.specs.Tree.{item_at}
use Rattle.world_api.specs.Calls.{parent}
use Rattle.world_api.specs.Writes.{IsNewFile, IsNoScratch}
use Rattle.object_cache.specs.Objects.{object_path, object_at}
use Rattle.object_cache.specs.Giving.{InGive}
use Rattle.object_cache.specs.Due.{IsToldAt, not_folder, place_fault}
use Rattle.object_cache.proofs.GiveLemmas.{scratch_road}
use Rattle.object_cache.proofs.RoadLemmas.{road_of, object_apart}
use Rattle.object_cache.proofs.StoreLemmas.{passes_stored_scratch}
use Rattle.object_cache.proofs.PutLemmas.{on_ok, filled_of_copied, dvc_on_road, passes_put, new_object, kept_fault, told_of_copy}
use Rattle.object_cache.proofs.put.store_at.Goals as goal

pub fill-requires-clause-file : goal.fill-requires-clause-file
fill-requires-clause-file g c told = let known = c.requires.known told in (known.bytes, known.there)

pub fill-requires-clause-no_file : goal.fill-requires-clause-no_file
fill-requires-clause-no_file g c told = dvc_on_road (g.F.Ground.history c.args.files.now).present.tree c.args.name.now (c.requires.free told).road

pub returns-in_err-fill-clause-moments : goal.returns-in_err-fill-clause-moments
returns-in_err-fill-clause-moments g c told = passes_stored_scratch (c.args.name.now ∷ []) (g.F.Ground.history c.args.files.now) (g.F.Ground.history c.fill.new.files) (c.fill.ensures.moments told)

pub returns-in_err-fill-clause-told : goal.returns-in_err-fill-clause-told
returns-in_err-fill-clause-told g c =
    let from = c.args.from.now in
    let why = c.in_err-fill.field-0.0 in
    let e : c.from_residual.result ≡ Err why = search rules in
    subst (λ r. IfErr r (IsToldAt from)) (sym e) (told_of_copy from why c.in_err-fill.ensures.told)

pub publish_at-requires-clause-apart : goal.publish_at-requires-clause-apart
publish_at-requires-clause-apart g c = subst IsNoScratch (sym c.requires.place) (object_apart c.args.name.now)

pub publish_at-requires-clause-below_root : goal.publish_at-requires-clause-below_root
publish_at-requires-clause-below_root g c e = let s : object_path c.args.name.now ≡ [] = sym c.requires.place ∙ e in absurd (cc)

pub publish_at-requires-clause-lane : goal.publish_at-requires-clause-lane
publish_at-requires-clause-lane g c told = let h = filled_of_copied c.args.name.now (item_at (g.F.Ground.history c.args.files.now).present.tree c.args.from.now) (g.F.Ground.history c.fill.new.files).present (c.requires.known told) (c.in_ok-fill.ensures.copied told) in (h.bytes, h.lane)

pub publish_at-requires-clause-road : goal.publish_at-requires-clause-road
publish_at-requires-clause-road g c told =
    let a = (g.F.Ground.history c.args.files.now).present in
    let b = (g.F.Ground.history c.fill.new.files).present in
    let at = c.args.place.now in
    let out = subst IsNoScratch (sym c.requires.place) (object_apart c.args.name.now) in
    scratch_road at a b out (c.fill.ensures.moments told).now (road_of a.tree (parent at) (ap (λ (p : Path). not_folder a.tree (parent p)) c.requires.place ∙ (c.requires.free told).road))

pub returns-clause-stored : goal.returns-clause-stored
returns-clause-stored g c told =
    let d = (g.F.Ground.history c.publish_at.new.files).present in
    let name = c.args.name.now in
    let at = c.args.place.now in
    let h = filled_of_copied c.args.name.now (item_at (g.F.Ground.history c.args.files.now).present.tree c.args.from.now) (g.F.Ground.history c.fill.new.files).present (c.requires.known told) (c.in_ok-fill.ensures.copied told) in
    on_ok c.publish_at.result (IsNewFile at h.bytes d) (is_some (object_at d.tree name) ≡ true) (λ n. new_object name at h.bytes d c.requires.place h.named n) (c.publish_at.ensures.published told h.bytes h.lane)

pub returns-clause-kept : goal.returns-clause-kept
returns-clause-kept g c told =
    let a = g.F.Ground.history c.args.files.now in
    let b = g.F.Ground.history c.fill.new.files in
    let d = g.F.Ground.history c.publish_at.new.files in
    let name = c.args.name.now in
    let at = c.args.place.now in
    let h = filled_of_copied c.args.name.now (item_at (g.F.Ground.history c.args.files.now).present.tree c.args.from.now) (g.F.Ground.history c.fill.new.files).present (c.requires.known told) (c.in_ok-fill.ensures.copied told) in
    let gives = c.publish_at.ensures.moments told h.bytes h.lane in
    let scratch = c.fill.ensures.moments told in
    let store = passes_put name at h.bytes a b d c.requires.place h.named (c.requires.free told) scratch gives in
    on_ok c.publish_at.result (IsNewFile at h.bytes d.present) ((other : ObjectName) → place_fault d.present.tree other ≡ place_fault a.present.tree other)
    (λ n other. kept_fault name other h.bytes a.present b.present d.present (c.requires.free told) scratch.now
    (subst (λ (p : Path). InGive p (Some h.bytes) b.present d.present) c.requires.place gives.now)
    (subst (λ (p : Path). IsNewFile p h.bytes d.present) c.requires.place n) h.small store.now)
    (c.publish_at.ensures.published told h.bytes h.lane)

pub returns-clause-moments : goal.returns-clause-moments
returns-clause-moments g c told =
    let h = filled_of_copied c.args.name.now (item_at (g.F.Ground.history c.args.files.now).present.tree c.args.from.now) (g.F.Ground.history c.fill.new.files).present (c.requires.known told) (c.in_ok-fill.ensures.copied told) in
    passes_put c.args.name.now c.args.place.now h.bytes (g.F.Ground.history c.args.files.now) (g.F.Ground.history c.fill.new.files) (g.F.Ground.history c.publish_at.new.files) c.requires.place h.named (c.requires.free told) (c.fill.ensures.moments told) (c.publish_at.ensures.moments told h.bytes h.lane)
