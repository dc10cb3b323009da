use Rattle.std.proofs.Common.{sym, ap, subst, ◌∙◌}
use Rattle.world_api.specs.Tree.{item_at}
use Rattle.world_api.specs.Writes.{IsNoScratch}
use Rattle.object_cache.proofs.RoadLemmas.{object_apart, dvc_of_object}
use Rattle.object_cache.proofs.give.copy_whole.Goals as goal

pub copy_file-requires-clause-apart : goal.copy_file-requires-clause-apart
copy_file-requires-clause-apart g c = subst IsNoScratch (sym c.requires.place) (object_apart c.args.name.now)

pub copy_file-requires-clause-no_file : goal.copy_file-requires-clause-no_file
copy_file-requires-clause-no_file g c told =
    let t = (g.F.Ground.history c.args.files.now).present.tree in
    let known = c.requires.told told in
    dvc_of_object t c.args.name.now known.0 (g.met.F.ReadFiles.stands c.args.files.now told).0 (ap (item_at t) (sym c.requires.place) ∙ known.1.0)
