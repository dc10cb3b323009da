use Rattle.std.proofs.Common.{◌∙◌, ℕ, List, ap, option_and_then}
use Rattle.std.specs.List.{slice_get}
use Rattle.dvc_base.specs.declared.node.Node.{Node}
use Rattle.params.specs.Lookup.{place_in}
use Rattle.params.proofs.LookupLemmas.{item_is, item_found}
use Rattle.params.proofs.keys.item_at.Goals as goal

pub returns-in-Items : goal.returns-in-Items
returns-in-Items c =
    let bracket = c.as_bytes.result.now in
    let items = c.as_slice.result.now in
    record {
      exact =
          c.nth.ensures.exact ∙ item_is (place_in bracket) c.in_ok-place.place items c.nth.ensures.short c.in_ok-place.ensures.exact
          ∙ ap (λ (xs : List Node). option_and_then (λ n. slice_get xs n) (place_in bracket)) c.as_slice.ensures.same
          ∙ ap (λ (b : List ℕ). option_and_then (λ n. slice_get c.in-Items.items n) (place_in b)) c.as_bytes.ensures.value
          ∙ item_found c.args.bracket.now c.args.node.now c.in-Items.items c.in-Items.is;
    }
