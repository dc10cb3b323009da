use Rattle.std.proofs.Common.{◌∙◌, ap, sym}
use Rattle.std.specs.FinMap.{get}
use Rattle.sim_world.proofs.SortedLemmas.{map_found}
use Rattle.sim_world.proofs.sorted.Sorted.get.Goals as goal

pub returns : goal.returns
returns g c = record {
  found =
      c.find.ensures.first
      ∙ rw c.deref.ensures.value (sym (map_found c.args.at.now c.self.inside.members.items c.self.invariant))
      ∙ ap (λ m. get m c.args.at.now) c.self.view_is;
}
