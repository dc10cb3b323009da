-- The sort leaves the paths in order.
use Rattle.std.proofs.Common.{◌≡◌, ◌∙◌, Bool, map, ap, Bor, rules}
use Rattle.std.specs.Cmp.{IsStrictWeakOrder}
use Rattle.std.proofs.lemmas.Cmp.{nat_list_cmp_total}
use Rattle.std.proofs.lemmas.List.{take_all}
use Rattle.std.proofs.lemmas.List.MinMax.{ranks_by}
use Rattle.std.proofs.lemmas.List.Sorted.{answers_always}
use Rattle.dvc_base.specs.Path.{Path, path_text}
use Rattle.file_hash.specs.Listing.{in_order}
use Rattle.file_hash.proofs.OrderLemmas.{order_of_sort, map_in_order}
use Rattle.workspace_files.specs.Walk.{is_before}
use Rattle.workspace_files.proofs.search.refs_in_order.Goals as goal

abbrev path : Bor Path → Path
path p = p.now

abbrev before_ref : Bor Path → Bor Path → Bool
before_ref a b = is_before a.now b.now

weak_ref : IsStrictWeakOrder before_ref
weak_ref = ranks_by nat_list_cmp_total (λ (p : Bor Path). path_text p.now)

pub returns : goal.returns
returns c =
    let keys = answers_always _ _ _ (λ f a r next called. search rules) in
    let before = c.loop-path.sorted.items in
    let paths = c.args.paths.now in
    let named : map path before ≡ paths = c.loop-path.invariant ∙ take_all c.loop-path.path-index paths c.loop-path-test.false in
    let sorted = order_of_sort before_ref weak_ref before c.sort_by.new.self.items (c.in_ok-sort_by.ensures.sorted _ weak_ref keys) (c.sort_by.ensures.stable _ weak_ref keys) in
    record { exact = ap (map path) sorted ∙ map_in_order path is_before before ∙ ap (in_order is_before) named }
