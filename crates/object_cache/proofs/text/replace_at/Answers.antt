-- What stands at the path gives way, the folders above are made, and the text is written.
use Rattle.std.proofs.Common.{◌≡◌, ◌≢◌, ◌∙◌, ℕ, List, true, [], sym, ap, subst, Some, None}
use Rattle.std.proofs.lemmas.Bool.{false≢true}
use Rattle.dvc_base.specs.Path.{Path, under}
use Rattle.world_api.specs.Calls.{parent}
use Rattle.world_api.specs.History.{History, Passes}
use Rattle.world_api.specs.Layout.{dvc_path}
use Rattle.world_api.specs.Writes.{HasRoad, IsFolderAt, InMakeFolder}
use Rattle.object_cache.specs.Giving.{InGive}
use Rattle.object_cache.proofs.GiveLemmas.{passes_cleared, passes_make, passes_write, give_road, make_room}
use Rattle.object_cache.proofs.text.replace_at.Goals as goal

-- what has a folder in `.dvc` above isn't the root
not_root : (at : Path) → under dvc_path (parent at) ≡ true → at ≢ []
unfolding dvc_path
not_root at h e = false≢true (sym (ap (λ (p : Path). under dvc_path (parent p)) e) ∙ h)

pub above-requires : goal.above-requires
above-requires g c = not_root c.args.at.now c.requires.inside

pub clear_folder-requires-clause-below_root : goal.clear_folder-requires-clause-below_root
clear_folder-requires-clause-below_root g c = not_root c.args.at.now c.requires.inside

pub returns-in_err-clear_folder-clause-moments : goal.returns-in_err-clear_folder-clause-moments
returns-in_err-clear_folder-clause-moments g c told =
    passes_cleared c.args.at.now (Some c.args.text.now) (g.F.Ground.history c.args.files.now) (g.F.Ground.history c.clear_folder.new.files) (c.clear_folder.ensures.moments told)

pub make_folder-requires : goal.make_folder-requires
make_folder-requires g c told =
    let a = g.F.Ground.history c.args.files.now in
    let b = g.F.Ground.history c.clear_folder.new.files in
    subst (λ (p : Path). HasRoad p b.present.tree) (sym c.in_ok-folder.ensures.exact)
    (give_road c.args.at.now None a.present b.present (not_root c.args.at.now c.requires.inside) (c.clear_folder.ensures.moments told).now (c.requires.road told))

-- so far nothing but folders gave way and were made
so_far : (at up : Path) (text : List ℕ) (a b d : History) → up ≡ parent at → at ≢ [] → Passes (InGive at None a.present) a b → Passes (InMakeFolder up b.present) b d → Passes (InGive at (Some text) a.present) a d
so_far at up text a b d e root x y = passes_make at up (Some text) a b d e root (passes_cleared at (Some text) a b x) y

pub returns-in_err-make_folder-clause-moments : goal.returns-in_err-make_folder-clause-moments
returns-in_err-make_folder-clause-moments g c told =
    so_far c.args.at.now c.in_ok-folder.folder c.args.text.now (g.F.Ground.history c.args.files.now) (g.F.Ground.history c.clear_folder.new.files) (g.F.Ground.history c.make_folder.new.self) c.in_ok-folder.ensures.exact (not_root c.args.at.now c.requires.inside) (c.clear_folder.ensures.moments told) (c.make_folder.ensures.moments told)

pub write_bytes-requires-clause-place : goal.write_bytes-requires-clause-place
write_bytes-requires-clause-place g c told =
    let at = c.args.at.now in
    let root = not_root at c.requires.inside in
    let a = g.F.Ground.history c.args.files.now in
    let b = g.F.Ground.history c.clear_folder.new.files in
    let d = g.F.Ground.history c.make_folder.new.self in
    let made = subst (λ (p : Path). InMakeFolder p b.present d.present) c.in_ok-folder.ensures.exact (c.make_folder.ensures.moments told).now in
    let first = so_far at c.in_ok-folder.folder c.args.text.now a b d c.in_ok-folder.ensures.exact root (c.clear_folder.ensures.moments told) (c.make_folder.ensures.moments told) in
    record {
      room = make_room at b.present d.present root (c.in_ok-clear_folder.ensures.cleared told) made (subst (λ (p : Path). IsFolderAt d.present.tree p) c.in_ok-folder.ensures.exact (c.in_ok-make_folder.ensures.made told));
      no_file = give_road at (Some c.args.text.now) a.present d.present root first.now (c.requires.road told) dvc_path c.requires.inside;
    }

pub returns-in_err-write_bytes-clause-moments : goal.returns-in_err-write_bytes-clause-moments
returns-in_err-write_bytes-clause-moments g c told =
    let a = g.F.Ground.history c.args.files.now in
    let b = g.F.Ground.history c.clear_folder.new.files in
    let d = g.F.Ground.history c.make_folder.new.self in
    let first = so_far c.args.at.now c.in_ok-folder.folder c.args.text.now a b d c.in_ok-folder.ensures.exact (not_root c.args.at.now c.requires.inside) (c.clear_folder.ensures.moments told) (c.make_folder.ensures.moments told) in
    passes_write c.args.at.now c.args.text.now a d (g.F.Ground.history c.write_bytes.new.files) c.requires.apart first (c.write_bytes.ensures.moments told)

pub returns-clause-moments : goal.returns-clause-moments
returns-clause-moments g c told =
    let a = g.F.Ground.history c.args.files.now in
    let b = g.F.Ground.history c.clear_folder.new.files in
    let d = g.F.Ground.history c.make_folder.new.self in
    let first = so_far c.args.at.now c.in_ok-folder.folder c.args.text.now a b d c.in_ok-folder.ensures.exact (not_root c.args.at.now c.requires.inside) (c.clear_folder.ensures.moments told) (c.make_folder.ensures.moments told) in
    passes_write c.args.at.now c.args.text.now a d (g.F.Ground.history c.write_bytes.new.files) c.requires.apart first (c.write_bytes.ensures.moments told)
