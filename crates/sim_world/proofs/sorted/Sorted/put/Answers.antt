use Rattle.std.proofs.Common.{◌≡◌, ◌<◌, ◌∙◌, ap, drop, arith, length}
use Rattle.std.proofs.lemmas.Bool.{both_ways}
use Rattle.std.specs.FinMap.{insert}
use Rattle.sim_world.specs.Sorted.{pairs_of}
use Rattle.sim_world.specs.declared.sorted.Member.{Member}
use Rattle.sim_world.proofs.ListLemmas.{same_item}
use Rattle.sim_world.proofs.SortedLemmas.{paths_of, NextIsLess, next_new, less_none, put_new, put_again, map_put, in_order_put}
use Rattle.sim_world.proofs.sorted.Sorted.put.Goals.{else-place-len-via-then-place-len+else-is_same, else-place-len-via-else-place-len}
use Rattle.sim_world.proofs.sorted.Sorted.put.Goals as goal

pub invariant_of-self : goal.invariant_of-self
invariant_of-self g c =
    let ms = c.self.inside.members.items in
    let n = c.place_of-place.result in
    let at = rw c.deref.ensures.value at c.place_of-place.ensures.place in
    let here = c.index_mut.result.now in
    let l : n < length ms = omega (arith, c.len.ensures, c.if-place-len.true) in
    let same : here ≡ c.index.result.now = same_item ms n here c.index.result.now l c.index_mut.ensures.value c.index.ensures in
    let path : here.path ≡ c.args.path = ap (λ (m : Member _). m.path) same ∙ c.is_same.ensures.equal.0 c.if-is_same.true in
    in_order_put c.args.path c.args.value ms _ c.self.invariant (put_again c.args.path c.args.value ms n here at.before l c.index_mut.ensures.value path)

pub returns-then-is_same-clause-ok : goal.returns-then-is_same-clause-ok
returns-then-is_same-clause-ok g c =
    let ms = c.self.inside.members.items in
    let n = c.place_of-place.result in
    let at = rw c.deref.ensures.value at c.place_of-place.ensures.place in
    let here = c.index_mut.result.now in
    let l : n < length ms = omega (arith, c.len.ensures, c.if-place-len.true) in
    let same : here ≡ c.index.result.now = same_item ms n here c.index.result.now l c.index_mut.ensures.value c.index.ensures in
    let path : here.path ≡ c.args.path = ap (λ (m : Member _). m.path) same ∙ c.is_same.ensures.equal.0 c.if-is_same.true in
    map_put c.args.path c.args.value ms _ c.self.invariant (put_again c.args.path c.args.value ms n here at.before l c.index_mut.ensures.value path)
    ∙ ap (λ m. insert m c.args.path c.args.value) c.self.view_is

pub invariant_of-self-2 : goal.invariant_of-self-2
invariant_of-self-2 g c =
    let ms = c.self.inside.members.items in
    let k = c.args.path in
    let n = c.place_of-place.result in
    let at = rw c.deref.ensures.value at c.place_of-place.ensures.place in
    let next : NextIsLess k (drop n (paths_of ms)) =
    elim c.else-place-len.branch [
      | else-place-len-via-then-place-len+else-is_same w ↦ next_new k ms n w.index.result.now at.next w.index.ensures (λ e. both_ways w.is_same.result w.if-is_same.false (w.is_same.ensures.equal.1 e))
      | else-place-len-via-else-place-len w ↦ less_none k ms n (omega (arith, c.len.ensures, w.if-place-len.false))
    ] in
    in_order_put k c.args.value ms c.insert.new.self.items c.self.invariant (ap pairs_of c.in_ok-insert.ensures.items ∙ put_new k c.args.value ms n at.before next)

pub returns-clause-ok : goal.returns-clause-ok
returns-clause-ok g c =
    let ms = c.self.inside.members.items in
    let k = c.args.path in
    let n = c.place_of-place.result in
    let at = rw c.deref.ensures.value at c.place_of-place.ensures.place in
    let next : NextIsLess k (drop n (paths_of ms)) =
    elim c.else-place-len.branch [
      | else-place-len-via-then-place-len+else-is_same w ↦ next_new k ms n w.index.result.now at.next w.index.ensures (λ e. both_ways w.is_same.result w.if-is_same.false (w.is_same.ensures.equal.1 e))
      | else-place-len-via-else-place-len w ↦ less_none k ms n (omega (arith, c.len.ensures, w.if-place-len.false))
    ] in
    map_put k c.args.value ms c.insert.new.self.items c.self.invariant (ap pairs_of c.in_ok-insert.ensures.items ∙ put_new k c.args.value ms n at.before next)
    ∙ ap (λ m. insert m k c.args.value) c.self.view_is
