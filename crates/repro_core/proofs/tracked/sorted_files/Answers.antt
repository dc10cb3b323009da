-- The sort leaves them in order.
use Rattle.std.proofs.Common.{◌≡◌, ◌∙◌, ℕ, List, map, ap, Bor, rules}
use Rattle.std.proofs.lemmas.List.{take_all}
use Rattle.std.proofs.lemmas.List.Sorted.{answers_always}
use Rattle.dvc_base.specs.declared.data.ParamFile.{ParamFile}
use Rattle.lock_files.specs.Form.{file_at}
use Rattle.lock_files.specs.Order.{in_order}
use Rattle.lock_files.proofs.SortLemmas.{weak, order_of_sort, map_in_order}
use Rattle.repro_core.proofs.tracked.sorted_files.Goals as goal

abbrev item : Bor ParamFile → ParamFile
item x = x.now

abbrev key : Bor ParamFile → List ℕ
key x = x.now.file

pub returns : goal.returns
returns c =
    let keys = answers_always _ _ _ (λ f a r next called. search rules) in
    let before = c.loop-file.sorted.items in
    let all = c.args.files.now in
    let named : map item before ≡ all = c.loop-file.invariant ∙ take_all c.loop-file.file-index all c.loop-file-test.false in
    let sorted = order_of_sort key before c.sort_by.new.self.items (c.in_ok-sort_by.ensures.sorted _ (weak key) keys) (c.sort_by.ensures.stable _ (weak key) keys) in
    record { exact = ap (map item) sorted ∙ map_in_order item file_at before ∙ ap (in_order file_at) named }
