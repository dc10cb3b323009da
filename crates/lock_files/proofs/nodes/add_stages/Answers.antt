use Rattle.std.proofs.Common.{List, ℕ, ◌++◌, ◌∷◌, [], map, take, ap, ◌∙◌}
use Rattle.dvc_base.specs.declared.node.Pair.{Pair}
use Rattle.lock_files.specs.declared.entry.Entry.{Entry}
use Rattle.lock_files.specs.Nodes.{stage_pair}
use Rattle.lock_files.proofs.ListLemmas.{map_step, item_at_place}
use Rattle.lock_files.proofs.nodes.add_stages.Goals as goal

pub loop-place-preserved : goal.loop-place-preserved
loop-place-preserved c =
    let start = c.args.pairs.now in
    let book = c.args.book.now in
    let i = c.loop-place.place in
    let stage : List ℕ × Entry = (c.in-Some.stage.now, c.in-Some.entry.now) in
    let found = item_at_place book i stage c.in-Some.ensures.by_place in
    c.in_ok-add_stage.ensures.added
    ∙ ap (λ (x : List Pair). x ++ stage_pair stage ∷ []) c.loop-place.invariant
    ∙ ap (λ (s : List ℕ × Entry). (start ++ map stage_pair (take i book)) ++ stage_pair s ∷ []) found.1
    ∙ map_step stage_pair start book i stage found.0
