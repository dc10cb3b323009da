-- The order has those with the front side by side.
use Rattle.std.proofs.Common.{◌≡◌, ◌∙◌, List, ap, rules, of_calls}
use Rattle.std.proofs.lemmas.Fn.{always_returns_same}
use Rattle.std.specs.Ordering.{is_lt, is_le}
use Rattle.dvc_base.specs.Path.{Path}
use Rattle.path_index.specs.Table.{IsTable, is_at, is_cut}
use Rattle.path_index.proofs.RunLemmas.{stands, parted_lt, parted_le, run_in_order, run_members}
use Rattle.path_index.proofs.index.PathIndex.run.Goals as goal

pub slice_bounds-result-count : goal.slice_bounds-result-count
slice_bounds-result-count c =
    let paths = c.as_slice-paths.result.now in
    let order = c.as_slice-order.result.now in
    let front = c.args.front.now in
    let depth = c.args.depth in
    let start = c.partition_point-start in
    let end = c.partition_point-end in
    let table : IsTable paths order = rw (c.as_slice-paths.ensures.same, c.as_slice-order.ensures.value) c.self.invariant in
    let starts = start.ensures.partitioned (λ n. is_lt (stands paths depth front n)) (always_returns_same _ _ _ (λ a r next called. search (rules, of_calls)))
    (parted_lt paths order front depth table) in
    let ends = end.ensures.partitioned (λ n. is_le (stands paths depth front n)) (always_returns_same _ _ _ (λ a r next called. search (rules, of_calls)))
    (parted_le paths order front depth table) in
    run_in_order paths order front depth start.result end.result start.ensures.bound starts ends

pub slice_bounds-result-start : goal.slice_bounds-result-start
slice_bounds-result-start c = slice_bounds-result-count c

pub returns : goal.returns
returns c =
    let paths = c.as_slice-paths.result.now in
    let order = c.as_slice-order.result.now in
    let front = c.args.front.now in
    let depth = c.args.depth in
    let start = c.partition_point-start in
    let end = c.partition_point-end in
    let table : IsTable paths order = rw (c.as_slice-paths.ensures.same, c.as_slice-order.ensures.value) c.self.invariant in
    let starts = start.ensures.partitioned (λ n. is_lt (stands paths depth front n)) (always_returns_same _ _ _ (λ a r next called. search (rules, of_calls)))
    (parted_lt paths order front depth table) in
    let ends = end.ensures.partitioned (λ n. is_le (stands paths depth front n)) (always_returns_same _ _ _ (λ a r next called. search (rules, of_calls)))
    (parted_le paths order front depth table) in
    let upto = run_in_order paths order front depth start.result end.result start.ensures.bound starts ends in
    let same : paths ≡ c.args.self.now = cc in
    record {
      exact = λ n. run_members paths order front depth start.result end.result table upto end.ensures.bound starts ends n
          ∙ ap (λ (ps : List Path). is_at (is_cut depth front) ps n) same;
    }
