use Rattle.std.proofs.Common.{◌∙◌, ◌++◌, ◌∷◌, append_assoc, ap, sym}
use Rattle.std.proofs.lemmas.List.{take_all}
use Rattle.std.specs.Prelude.{string_bytes}
use Rattle.std.specs.List.{flat_map}
use Rattle.template_expand.specs.Source.{pick_of}
use Rattle.template_expand.specs.declared.matrix.Picked.{Picked}
use Rattle.template_expand.proofs.ChoiceLemmas.{parts_joined}
use Rattle.template_expand.proofs.matrix.put_parts.Goals as goal

pub returns : goal.returns
returns c =
    let others = c.args.others.now in
    let part = (pick_of c.args.first.now).part in
    record {
      ok =
          c.loop-picked.invariant
          ∙ ap (λ xs. string_bytes c.put_pick.new.text ++ flat_map (λ (picked : Picked). 45 ∷ (pick_of picked).part) xs) (take_all c.loop-picked.picked-index others c.loop-picked-test.false)
          ∙ ap (λ t. t ++ flat_map (λ (picked : Picked). 45 ∷ (pick_of picked).part) others) c.in_ok-put_pick.ensures.ok
          ∙ append_assoc (string_bytes c.args.text.now) part (flat_map (λ (picked : Picked). 45 ∷ (pick_of picked).part) others)
          ∙ ap (λ t. string_bytes c.args.text.now ++ t) (sym (parts_joined c.args.first.now others));
    }
