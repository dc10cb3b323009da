use Rattle.std.proofs.Common.{◌≡◌, ◌<◌, Some, length, arith}
use Rattle.std.specs.List.{slice_get}
use Rattle.std.proofs.lemmas.Result.{IfOk-weaker}
use Rattle.template_expand.specs.Made.{item_made, list_made}
use Rattle.template_expand.proofs.ChoiceLemmas.{length_numbered, item_at}
use Rattle.template_expand.proofs.made.made_of_item.Goals as goal

pub bounds-items-place : goal.bounds-items-place
bounds-items-place c = omega (arith, c.requires.within, length_numbered item_made 0 c.args.items.now)

pub returns : goal.returns
returns c =
    let within : c.args.place < length c.args.items.now = omega (arith, c.requires.within, length_numbered item_made 0 c.args.items.now) in
    record {
      exact =
          IfOk-weaker c.item_made.result (λ made. made ≡ item_made c.args.place c.index-items-place.result) (λ made. slice_get (list_made c.args.items.now) c.args.place ≡ Some made)
          (λ made. item_at c.args.items.now c.args.place c.index-items-place.result made within c.index-items-place.is) c.item_made.ensures.exact;
    }
