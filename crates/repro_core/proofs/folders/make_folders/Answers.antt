-- The folders are made one after another: no file comes to stand on a road.
use Rattle.std.proofs.Common.{rules}
use Rattle.world_api.specs.Writes.{InMakeFolder}
use Rattle.world_api.proofs.HistoryLemmas.{passes_on}
use Rattle.repro_core.specs.Ways.{InFolders}
use Rattle.repro_core.proofs.FoldersLemmas.{folders_then_make, folders_road, folders_stand}
use Rattle.repro_core.proofs.folders.make_folders.Goals as goal

pub make_folder-requires : goal.make_folder-requires
make_folder-requires g c told =
    let start = g.F.Ground.history c.args.files.now in
    let before = g.F.Ground.history c.loop-road.files in
    folders_road c.args.roads.now c.loop-road.road-index c.road-item.result start.present before.present c.loop-road-test.true c.road-item.is (c.requires told) (c.loop-road.invariant.passes told).now

pub returns-in_err-make_folder-clause-moments : goal.returns-in_err-make_folder-clause-moments
returns-in_err-make_folder-clause-moments g c told =
    let roads = c.args.roads.now in
    let road = c.road-item.result in
    let start = g.F.Ground.history c.args.files.now in
    let before = g.F.Ground.history c.loop-road.files in
    let after = g.F.Ground.history c.make_folder.new.self in
    let so_far = c.loop-road.invariant.passes told in
    passes_on (InFolders roads start.present) (InMakeFolder road before.present) start before after so_far
    (λ m h. folders_then_make roads c.loop-road.road-index road start.present before.present m c.loop-road-test.true c.road-item.is so_far.now h) (c.make_folder.ensures.moments told)

pub loop-road-preserved : goal.loop-road-preserved
loop-road-preserved g c =
    let roads = c.args.roads.now in
    let i = c.loop-road.road-index in
    let road = c.road-item.result in
    let start = g.F.Ground.history c.args.files.now in
    let before = g.F.Ground.history c.loop-road.files in
    let after = g.F.Ground.history c.make_folder.new.self in
    record {
      stand =
          λ told. folders_stand roads i road before.present after.present c.loop-road-test.true c.road-item.is (c.loop-road.invariant.stand told) (c.make_folder.ensures.moments told).now (c.in_ok-make_folder.ensures.made told);
      passes =
          λ told. let so_far = c.loop-road.invariant.passes told in passes_on (InFolders roads start.present) (InMakeFolder road before.present) start before after so_far (λ m h. folders_then_make roads i road start.present before.present m c.loop-road-test.true c.road-item.is so_far.now h) (c.make_folder.ensures.moments told);
      counted = search rules;
    }
