-- The sort leaves the pairs in order.
use Rattle.std.proofs.Common.{rules}
use Rattle.std.proofs.lemmas.List.Sorted.{answers_always}
use Rattle.yaml_nodes.specs.Part.{key_of}
use Rattle.lock_files.proofs.SortLemmas.{weak, order_of_sort}
use Rattle.params.proofs.canonical.by_key.Goals as goal

pub returns : goal.returns
returns c =
    let keys = answers_always _ _ _ (λ f a r next called. search rules) in
    record { exact = order_of_sort key_of c.args.pairs.items c.sort_by.new.self.items (c.in_ok-sort_by.ensures.sorted _ (weak key_of) keys) (c.sort_by.ensures.stable _ (weak key_of) keys) }
