use Rattle.std.proofs.Common.{◌∙◌, ap}
use Rattle.std.specs.List.{flat_map}
use Rattle.std.proofs.lemmas.List.{take_all}
use Rattle.world_api.specs.Tree.{name_below}
use Rattle.sim_world.proofs.NamesLemmas.{names_pairs}
use Rattle.sim_world.proofs.folder.names_in.Goals as goal

pub returns : goal.returns
returns c = record {
  told =
      c.loop-member.invariant
      ∙ ap (flat_map (λ m. name_below c.args.at.now m.path)) (take_all c.loop-member.member-index c.members-member-items.result.now c.loop-member-test.false)
      ∙ names_pairs c.args.at.now c.members-member-items.result.now
      ∙ ap (flat_map (λ e. name_below c.args.at.now e.0)) c.members-member-items.ensures.all;
}
