-- What the trait says of the names in a folder.
use Rattle.sim_world.specs.Stands.{stands}
use Rattle.sim_world.proofs.ListCallLemmas.{listed_good, listed_cause}
use Rattle.sim_world.proofs.files.SimWorldReadFiles.TheImpl.Goals as goal

pub list-tells : goal.list-tells
list-tells g c =
    let was = c.args.self.now in
    record {
      told = λ told. c.ensures.told;
      good = listed_good c.result _ _ (stands _ was.opening was.log.items was.trees).0 c.ensures.told;
      unchanged = λ told. c.ensures.unchanged;
      cause = listed_cause c.result _ _ c.ensures.memory c.ensures.count;
    }
