-- The text passes the first refusals, the walk over its pieces ends, and the path's text is measured.
use Rattle.std.proofs.Common.{◌≡◌, ◌==◌, length, ap, sym, subst, ◌∙◌, rules, Err, Some, slice_index, false, inl, inr}
use Rattle.std.specs.List.{list_any, slice_split}
use Rattle.std.proofs.lemmas.Result.{err_from_is_err_and}
use Rattle.dvc_base.specs.Path.{Path, joined}
use Rattle.dvc_base.specs.Join.{walk, reached, join}
use Rattle.dvc_base.specs.Normal.{IsNormal}
use Rattle.dvc_base.proofs.NormalLemmas.{walk_split-normal}
use Rattle.dvc_base.proofs.PathLemmas.{join-walk, reached-short, reached-long}
use Rattle.dvc_base.proofs.path.Rel.join.Goals as goal

pub returns-in_err-parts : goal.returns-in_err-parts
returns-in_err-parts c =
    let text = c.args.text.now in
    let pieces = slice_split (λ byte. byte == 47) text in
    let place : c.deref.result.now ≡ c.args.self.now = c.deref.ensures.value ∙ c.self.view_is in
    let some : (length text == 0) ≡ false = search rules in
    let no_nul : list_any (λ byte. byte == 0) text ≡ false = search rules in
    let inside : (slice_index text 0 == 47) ≡ false = search rules in
    let walked : join c.args.self.now text ≡ reached (walk c.deref.result.now pieces) =
    join-walk c.args.self.now text some no_nul inside ∙ ap (λ (p : Path). reached (walk p pieces)) (sym place) in
    let exit = err_from_is_err_and c.from_residual.result c.from_residual.ensures.1 in
    rw (exit.1, exit.2) (record {
      read =
          elim c.in_err-parts.ensures.read [
            | inl memory ↦ inl memory
            | inr outside ↦ inr (walked ∙ ap reached outside.1 ∙ ap Err (sym outside.0))
          ];
    })

pub returns-in_err-text : goal.returns-in_err-text
returns-in_err-text c =
    let text = c.args.text.now in
    let pieces = slice_split (λ byte. byte == 47) text in
    let place : c.deref.result.now ≡ c.args.self.now = c.deref.ensures.value ∙ c.self.view_is in
    let some : (length text == 0) ≡ false = search rules in
    let no_nul : list_any (λ byte. byte == 0) text ≡ false = search rules in
    let inside : (slice_index text 0 == 47) ≡ false = search rules in
    let walked : join c.args.self.now text ≡ reached (walk c.deref.result.now pieces) =
    join-walk c.args.self.now text some no_nul inside ∙ ap (λ (p : Path). reached (walk p pieces)) (sym place) in
    let exit = err_from_is_err_and c.from_residual-in_err-text.result c.from_residual-in_err-text.ensures.1 in
    rw (exit.1, exit.2) (record {
      read =
          elim c.in_err-text.ensures.read [
            | inl memory ↦ inl memory
            | inr long ↦
                inr (walked ∙ ap reached (c.in_ok-parts.ensures.read ∙ ap Some (sym c.deref-2.ensures.value)) ∙ reached-long c.deref-2.result.now long.1 ∙ ap Err (sym long.0))
          ];
    })

pub returns : goal.returns
returns c =
    let text = c.args.text.now in
    let pieces = slice_split (λ byte. byte == 47) text in
    let place : c.deref.result.now ≡ c.args.self.now = c.deref.ensures.value ∙ c.self.view_is in
    let some : (length text == 0) ≡ false = search rules in
    let no_nul : list_any (λ byte. byte == 0) text ≡ false = search rules in
    let inside : (slice_index text 0 == 47) ≡ false = search rules in
    let walked : join c.args.self.now text ≡ reached (walk c.deref.result.now pieces) =
    join-walk c.args.self.now text some no_nul inside ∙ ap (λ (p : Path). reached (walk p pieces)) (sym place) in
    let short = rw (c.deref-2.ensures.value) at c.in_ok-text.ensures.read.1 in
    record { read = walked ∙ ap reached c.in_ok-parts.ensures.read ∙ reached-short c.in_ok-parts.parts.items short }

pub invariant_of-result : goal.invariant_of-result
invariant_of-result c =
    let text = c.args.text.now in
    let no_nul : list_any (λ byte. byte == 0) text ≡ false = search rules in
    let normal : IsNormal c.deref.result.now = subst IsNormal (sym c.deref.ensures.value) c.self.invariant.normal in
    record {
      text_is = c.in_ok-text.ensures.read.0 ∙ ap joined c.deref-2.ensures.value;
      normal = walk_split-normal c.deref.result.now c.in_ok-parts.parts.items text normal no_nul c.in_ok-parts.ensures.read;
      short = rw (c.deref-2.ensures.value) at c.in_ok-text.ensures.read.1;
    }
