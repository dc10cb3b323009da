-- What the trait says of each writing call follows from the history that the call makes.
use Rattle.sim_world.specs.Stands.{stands}
use Rattle.sim_world.proofs.ChangeLemmas.{clear_passes, clear_cleared, counted_cause}
use Rattle.sim_world.proofs.RoadLemmas.{road_made-stands, road_passes}
use Rattle.sim_world.proofs.WritingLemmas.{begin_passes, begin_begun, append_passes, append_appended, settle_passes, settle_settled, publish_passes, publish_published}
use Rattle.sim_world.proofs.files.SimWorldFiles.TheImpl.Goals as goal

pub clear-tells : goal.clear-tells
clear-tells g c = record {
  cleared = λ told. clear_cleared c.result c.args.at.now _ _ c.requires c.ensures.made;
  moments = λ told. clear_passes c.result c.args.at.now _ _ c.requires c.ensures.made;
  cause = counted_cause c.result _ _ c.ensures.count;
}

pub make_folder-tells : goal.make_folder-tells
make_folder-tells g c = record {
  made = λ told. road_made-stands c.result c.args.at.now _ _ (c.requires told) c.ensures.made;
  moments = λ told. road_passes c.result c.args.at.now _ _ (c.requires told) c.ensures.made;
  cause = counted_cause c.result _ _ c.ensures.count;
}

pub begin-tells : goal.begin-tells
begin-tells g c = record {
  begun = λ told. begin_begun c.result c.args.lane _ _ (c.requires told) c.ensures.made;
  moments = λ told. begin_passes c.result c.args.lane _ _ (c.requires told) c.ensures.made;
  cause = counted_cause c.result _ _ c.ensures.count;
}

pub append-tells : goal.append-tells
append-tells g c =
    let was = c.args.self.now in
    record {
      appended = λ told. append_appended c.result c.args.lane c.args.bytes.now _ _ (stands _ was.opening was.log.items was.trees).0 (c.requires told) c.ensures.made;
      moments = λ told. append_passes c.result c.args.lane c.args.bytes.now _ _ c.ensures.made;
      cause = counted_cause c.result _ _ c.ensures.count;
    }

pub settle-tells : goal.settle-tells
settle-tells g c = record {
  settled = λ told. settle_settled c.result c.args.lane _ _ c.ensures.made;
  moments = λ told. settle_passes c.result c.args.lane _ _ c.ensures.made;
  cause = counted_cause c.result _ _ c.ensures.count;
}

pub publish-tells : goal.publish-tells
publish-tells g c = record {
  published = λ told. publish_published c.result c.args.lane c.args.at.now _ _ c.requires.apart (c.requires.room told) c.ensures.made;
  moments = λ told. publish_passes c.result c.args.lane c.args.at.now _ _ c.requires.apart (c.requires.room told) c.ensures.made;
  cause = counted_cause c.result _ _ c.ensures.count;
}
