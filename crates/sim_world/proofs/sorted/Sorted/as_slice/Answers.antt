use Rattle.std.proofs.Common.{◌∙◌, ap, sym}
use Rattle.std.specs.FinMap.{entries}
use Rattle.sim_world.specs.Sorted.{pairs_of}
use Rattle.sim_world.proofs.SortedLemmas.{entries_of}
use Rattle.sim_world.proofs.sorted.Sorted.as_slice.Goals as goal

pub returns : goal.returns
returns g c = record {
  all = ap pairs_of c.as_slice.ensures.value ∙ sym (entries_of c.self.inside.members.items c.self.invariant) ∙ ap entries c.self.view_is;
}
