-- Only a folder is cleared.
use Rattle.std.proofs.Common.{◌≡◌, ◌≢◌, [], sym, ap, ◌∙◌, Some, None, Option, subst, Result, Ok, Err, OnOk}
use Rattle.dvc_base.proofs.PathLemmas.{under-refl}
use Rattle.dvc_base.specs.Path.{Path}
use Rattle.world_api.specs.Tree.{Item, folder, item_at}
use Rattle.world_api.specs.History.{History}
use Rattle.world_api.specs.Calls.{IsCleared, InClear, kind_of}
use Rattle.world_api.specs.Layout.{lane_path}
use Rattle.world_api.specs.Writes.{IsSameUnder, IsNoScratch}
use Rattle.world_api.specs.Outside.{tree_of}
use Rattle.world_api.specs.declared.files.Kind.{Kind}
use Rattle.world_api.specs.declared.files.Kind.TheVariants.{Folder}
use Rattle.world_api.proofs.ValueLemmas.{folder_of_kind}
use Rattle.world_api.proofs.WriteLemmas.{same_under_itself}
use Rattle.object_cache.proofs.GiveLemmas.{passes_still, passes_clear, clear_lane}
use Rattle.object_cache.proofs.publish.clear_folder.Goals as goal

lane_after : (at : Path) (a b c : History) → b ≡ a → IsNoScratch at → at ≢ [] → InClear at b.present c.present → IsSameUnder (lane_path 0) a.present c.present
lane_after at a b c e out root h =
    subst (λ (x : History). InClear at x.present c.present → IsSameUnder (lane_path 0) a.present c.present) (sym e) (λ (y : InClear at a.present c.present). clear_lane at a.present c.present out root y) h

lane_still : (a b : History) → b ≡ a → IsSameUnder (lane_path 0) a.present b.present
lane_still a b e = subst (λ (x : History). IsSameUnder (lane_path 0) a.present x.present) (sym e) (same_under_itself (lane_path 0) a.present)

no_folder : (kind : Kind) (o : Option Item) → kind ≡ kind_of o → (kind ≡ Folder → ⊥) → o ≢ Some folder
no_folder kind o k other e = other (k ∙ ap kind_of e)

gone : {T E : Type 0} (r : Result T E) (at : Path) (n : History) → OnOk r (IsCleared at n.present) → OnOk r (item_at (tree_of n) at ≢ Some folder)
gone (Ok done) at n h = λ e. let s : None ≡ Some folder = sym (h.gone at (under-refl at)) ∙ e in cc
gone (Err why) at n h = tt

pub returns-in_err-kind-clause-moments : goal.returns-in_err-kind-clause-moments
returns-in_err-kind-clause-moments g c told =
    passes_still c.args.at.now None (g.F.Ground.history c.args.files.now) (g.F.Ground.history c.kind.new.self) (c.kind.ensures.unchanged told)

pub returns-in-Folder-clause-cleared : goal.returns-in-Folder-clause-cleared
returns-in-Folder-clause-cleared g c told = gone c.clear.result c.args.at.now (g.F.Ground.history c.clear.new.self) (c.clear.ensures.cleared told)

pub returns-in-Folder-clause-lane : goal.returns-in-Folder-clause-lane
returns-in-Folder-clause-lane g c told =
    lane_after c.args.at.now (g.F.Ground.history c.args.files.now) (g.F.Ground.history c.kind.new.self) (g.F.Ground.history c.clear.new.self) (c.kind.ensures.unchanged told) c.requires.apart c.requires.below_root (c.clear.ensures.moments told).now

pub returns-in-Folder-clause-moments : goal.returns-in-Folder-clause-moments
returns-in-Folder-clause-moments g c told =
    let a = g.F.Ground.history c.args.files.now in
    let stood = folder_of_kind (item_at a.present.tree c.args.at.now) (sym c.in-Folder.is ∙ c.in_ok-kind.ensures.told told) in
    passes_clear c.args.at.now a (g.F.Ground.history c.kind.new.self) (g.F.Ground.history c.clear.new.self) (c.kind.ensures.unchanged told) c.requires.apart c.requires.below_root stood (c.clear.ensures.moments told)

pub returns-in_default-clause-cleared : goal.returns-in_default-clause-cleared
returns-in_default-clause-cleared g c told =
    let a = g.F.Ground.history c.args.files.now in
    let b = g.F.Ground.history c.kind.new.self in
    subst (λ (h : History). item_at h.present.tree c.args.at.now ≢ Some folder) (sym (c.kind.ensures.unchanged told))
    (no_folder c.in_ok-kind.kind (item_at a.present.tree c.args.at.now) (c.in_ok-kind.ensures.told told) c.in_default.not-Folder)

pub returns-in_default-clause-moments : goal.returns-in_default-clause-moments
returns-in_default-clause-moments g c told =
    passes_still c.args.at.now None (g.F.Ground.history c.args.files.now) (g.F.Ground.history c.kind.new.self) (c.kind.ensures.unchanged told)

pub returns-in_default-clause-lane : goal.returns-in_default-clause-lane
returns-in_default-clause-lane g c told = lane_still (g.F.Ground.history c.args.files.now) (g.F.Ground.history c.kind.new.self) (c.kind.ensures.unchanged told)
