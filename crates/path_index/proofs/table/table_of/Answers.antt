-- The sort leaves the places of all paths, in order.
use Rattle.std.proofs.Common.{rules, of_calls}
use Rattle.std.proofs.lemmas.Fn.{always_returns_same}
use Rattle.std.proofs.lemmas.List.Sorted.{ranks_by}
use Rattle.path_index.specs.Table.{path_at}
use Rattle.path_index.proofs.RunLemmas.{path_total, table_sorted}
use Rattle.path_index.proofs.table.table_of.Goals as goal

pub returns : goal.returns
returns c =
    let paths = c.args.paths.now in
    let sorted = c.in_ok-sort_by.ensures.sorted _ (ranks_by path_total (path_at paths)) (always_returns_same _ _ _ (λ a r next called. search (rules, of_calls))) in
    record { table = table_sorted paths c.in_ok-order.order.items c.sort_by.new.self.items c.in_ok-order.ensures.all c.sort_by.ensures.permutation sorted }
