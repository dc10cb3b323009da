-- One more number is in the set.
use Rattle.std.proofs.Common.{◌≡◌, ℕ, Bool, ◌||◌, ◌==◌, List, take, get_or, sym, ap, ◌∙◌}
use Rattle.std.proofs.lemmas.List.Folds.{list_any_more}
use Rattle.stage_order.specs.Order.{is_in}
use Rattle.stage_order.proofs.NumberLemmas.{in_insert}
use Rattle.stage_order.proofs.TakenLemmas.{one_of}
use Rattle.stage_order.proofs.chosen.add_all.Goals as goal

pub loop-number-preserved : goal.loop-number-preserved
loop-number-preserved c = λ n.
    let ns = c.args.numbers.now in
    let i = c.loop-number.number-index in
    let k = get_or ns i 0 in
    let old = is_in c.args.wanted.now.keys n in
    let so_far = is_in (take i ns) n in
    ap (λ (ks : List ℕ). is_in ks n) c.in_ok-insert.ensures.keys
    ∙ in_insert c.loop-number.wanted.keys k n
    ∙ ap (λ (b : Bool). (k == n) || b) (c.loop-number.invariant n)
    ∙ one_of (k == n) old so_far
    ∙ ap (λ (b : Bool). old || b) (sym (list_any_more (λ m. m == n) ns i 0 c.loop-number-test.true))
