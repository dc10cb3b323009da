-- No folder stands at the key's place, so no record is there.
use Rattle.std.proofs.Common.{sym}
use Rattle.world_api.specs.Tree.{item_at}
use Rattle.world_api.specs.Outside.{tree_of}
use Rattle.run_cache.proofs.RecordLemmas.{none_found, no_folder}
use Rattle.run_cache.proofs.search.find.Goals as goal

pub returns-clause-told : goal.returns-clause-told
returns-clause-told g c told =
    let t = tree_of (g.F.Ground.history c.args.files.now) in
    let p = c.in_ok-folder.folder in
    sym (none_found t c.args.key.now p c.in_ok-folder.ensures.exact (g.met.F.ReadFiles.stands c.args.files.now told).0
    (no_folder c.in_ok-kind.kind (item_at t p) (c.in_ok-kind.ensures.told told) c.in_default.not-Folder)).0

pub returns-clause-answer : goal.returns-clause-answer
returns-clause-answer g c told =
    let t = tree_of (g.F.Ground.history c.args.files.now) in
    let p = c.in_ok-folder.folder in
    (none_found t c.args.key.now p c.in_ok-folder.ensures.exact (g.met.F.ReadFiles.stands c.args.files.now told).0
    (no_folder c.in_ok-kind.kind (item_at t p) (c.in_ok-kind.ensures.told told) c.in_default.not-Folder)).1
