use Rattle.std.proofs.Common.{◌∙◌, ◌≡◌, ap, not, rules}
use Rattle.std.specs.List.{filter}
use Rattle.std.specs.FinMap.{retain_keys, from_sorted}
use Rattle.std.proofs.lemmas.Fn.{filter_same}
use Rattle.dvc_base.specs.Path.{Path, under}
use Rattle.world_api.specs.Tree.{path_cmp}
use Rattle.sim_world.specs.Sorted.{pairs_of}
use Rattle.sim_world.specs.declared.sorted.Member.{Member}
use Rattle.sim_world.proofs.SortedLemmas.{map_where, in_order_where}
use Rattle.sim_world.proofs.sorted.Sorted.remove_below.Goals as goal

pub invariant_of-self : goal.invariant_of-self
invariant_of-self g c =
    let test : Path → _ = λ p. not (under c.args.at.now p) in
    let kept : c.retain.new.self.items ≡ filter (λ (m : Member _). test m.path) c.self.inside.members.items =
    filter_same _ (λ (m : Member _). test m.path) _ (λ x b f' k. search rules) _ _ c.retain.ensures.filtered in
    rw kept (in_order_where test c.self.inside.members.items c.self.invariant)

pub returns : goal.returns
returns g c =
    let test : Path → _ = λ p. not (under c.args.at.now p) in
    let kept : c.retain.new.self.items ≡ filter (λ (m : Member _). test m.path) c.self.inside.members.items =
    filter_same _ (λ (m : Member _). test m.path) _ (λ x b f' k. search rules) _ _ c.retain.ensures.filtered in
    record {
      without = ap (λ ms. from_sorted {R = path_cmp} (pairs_of ms)) kept ∙ map_where test c.self.inside.members.items c.self.invariant ∙ ap (λ m. retain_keys m test) c.self.view_is;
    }
