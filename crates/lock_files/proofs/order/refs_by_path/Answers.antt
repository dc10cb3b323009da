-- The sort leaves the path entries in order.
use Rattle.std.proofs.Common.{◌≡◌, ◌∙◌, ℕ, List, map, ap, Bor, rules}
use Rattle.std.proofs.lemmas.List.{take_all}
use Rattle.std.proofs.lemmas.List.Sorted.{answers_always}
use Rattle.lock_files.specs.declared.entry.PathEntry.{PathEntry}
use Rattle.lock_files.specs.Order.{in_order}
use Rattle.lock_files.specs.Value.{path_at}
use Rattle.lock_files.proofs.SortLemmas.{weak, order_of_sort, map_in_order}
use Rattle.lock_files.proofs.order.refs_by_path.Goals as goal

abbrev entry : Bor PathEntry → PathEntry
entry e = e.now

abbrev key : Bor PathEntry → List ℕ
key e = e.now.path

pub returns : goal.returns
returns c =
    let keys = answers_always _ _ _ (λ f a r next called. search rules) in
    let before = c.loop-entry.sorted.items in
    let entries = c.args.entries.now in
    let named : map entry before ≡ entries = c.loop-entry.invariant ∙ take_all c.loop-entry.entry-index entries c.loop-entry-test.false in
    let sorted = order_of_sort key before c.sort_by.new.self.items (c.in_ok-sort_by.ensures.sorted _ (weak key) keys) (c.sort_by.ensures.stable _ (weak key) keys) in
    record { exact = ap (map entry) sorted ∙ map_in_order entry path_at before ∙ ap (in_order path_at) named }
