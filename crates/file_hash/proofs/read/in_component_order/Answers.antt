-- The sort leaves the members in order.
use Rattle.std.proofs.Common.{◌≡◌, ◌∙◌, Bool, map, ap, Bor, rules}
use Rattle.std.specs.Cmp.{IsStrictWeakOrder}
use Rattle.std.proofs.lemmas.List.{take_all}
use Rattle.std.proofs.lemmas.List.MinMax.{ranks_by}
use Rattle.std.proofs.lemmas.List.Sorted.{answers_always}
use Rattle.world_api.proofs.TreeLemmas.{path_cmp-total}
use Rattle.file_hash.specs.declared.listing.Member.{Member}
use Rattle.file_hash.specs.Listing.{in_order, path_at}
use Rattle.file_hash.specs.Reading.{is_earlier}
use Rattle.file_hash.proofs.OrderLemmas.{order_of_sort, map_in_order}
use Rattle.file_hash.proofs.read.in_component_order.Goals as goal

abbrev member : Bor Member → Member
member m = m.now

abbrev before_ref : Bor Member → Bor Member → Bool
before_ref a b = is_earlier a.now b.now

weak_ref : IsStrictWeakOrder before_ref
weak_ref = ranks_by path_cmp-total (λ (m : Bor Member). path_at m.now)

pub returns : goal.returns
returns c =
    let keys = answers_always _ _ _ (λ f a r next called. search rules) in
    let before = c.loop-member.sorted.items in
    let members = c.args.members.now in
    let named : map member before ≡ members = c.loop-member.invariant ∙ take_all c.loop-member.member-index members c.loop-member-test.false in
    let sorted = order_of_sort before_ref weak_ref before c.sort_by.new.self.items (c.in_ok-sort_by.ensures.sorted _ weak_ref keys) (c.sort_by.ensures.stable _ weak_ref keys) in
    record { exact = ap (map member) sorted ∙ map_in_order member is_earlier before ∙ ap (in_order is_earlier) named }
