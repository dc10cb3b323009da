-- The sort leaves them in order.
use Rattle.std.proofs.Common.{◌≡◌, ◌∙◌, ℕ, List, map, ap, Bor, rules}
use Rattle.std.proofs.lemmas.List.{take_all}
use Rattle.std.proofs.lemmas.List.Sorted.{answers_always}
use Rattle.lock_files.specs.Order.{in_order}
use Rattle.lock_files.proofs.SortLemmas.{weak, order_of_sort, map_in_order}
use Rattle.repro_laws.specs.Stage.{out_text}
use Rattle.repro_laws.specs.declared.stage.Out.{Out}
use Rattle.stage_plan.proofs.by_text.sorted_outs.Goals as goal

abbrev item : Bor Out → Out
item x = x.now

abbrev key : Bor Out → List ℕ
key x = x.now.text

pub returns : goal.returns
returns c =
    let keys = answers_always _ _ _ (λ f a r next called. search rules) in
    let before = c.loop-out.sorted.items in
    let all = c.args.outs.now in
    let named : map item before ≡ all = c.loop-out.invariant ∙ take_all c.loop-out.out-index all c.loop-out-test.false in
    let sorted = order_of_sort key before c.sort_by.new.self.items (c.in_ok-sort_by.ensures.sorted _ (weak key) keys) (c.sort_by.ensures.stable _ (weak key) keys) in
    record { exact = ap (map item) sorted ∙ map_in_order item out_text before ∙ ap (in_order out_text) named }
