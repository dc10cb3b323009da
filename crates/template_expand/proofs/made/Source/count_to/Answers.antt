use Rattle.std.proofs.Common.{◌∙◌, length, min, ap, sym}
use Rattle.template_expand.specs.Made.{item_made}
use Rattle.template_expand.specs.Source.{made_in}
use Rattle.template_expand.proofs.ChoiceLemmas.{length_numbered}
use Rattle.template_expand.proofs.made.Source.count_to.Goals as goal

pub returns-in-Items : goal.returns-in-Items
returns-in-Items c = record {
  exact =
      c.min-in-Items.ensures ∙ ap (min c.args.most) (sym (length_numbered item_made 0 c.in-Items.items.now))
      ∙ ap (λ source. min c.args.most (length (made_in source))) (sym c.in-Items.is);
}
