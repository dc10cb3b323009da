-- What is written stands behind the digits, and the rest of the buffer behind that.
use Rattle.std.proofs.Common.{◌≡◌, ℕ, ◌+◌, List, ◌++◌, length, drop, arith, ap, sym, ◌∙◌, append_assoc, length-append, codes, Bool, refl}
use Rattle.std.proofs.lemmas.List.{take_at, drop_at, drop-drop}
use borrow.Rule.Slice.PartMut.{put_mid}
use Rattle.dvc_base.specs.Name.{name_text, ending_of}
use Rattle.dvc_base.proofs.NameLemmas.{are_digits-length}
use Rattle.dvc_base.proofs.name.Name.print.Goals as goal

written : (digits ending old : List ℕ) (n k : ℕ) → length digits ≡ n → length ending ≡ k → put_mid n k (digits ++ drop n old) ending ≡ digits ++ ending ++ drop (length (digits ++ ending)) old
written digits ending old n k a b =
    let front = take_at digits (drop n old) n a in
    let back = drop_at digits (drop n old) n a in
    let rest = drop-drop k n old in
    let count : length (digits ++ ending) ≡ n + k = omega (arith, length-append digits ending) in
    rw (front, back, rest, count) (sym (append_assoc digits ending (drop (n + k) old)))

pub returns-clause-written : goal.returns-clause-written
returns-clause-written c =
    let digits = c.self.inside.digits in
    let text : name_text c.args.self.now ≡ digits ++ codes ".dir" = ap name_text (sym c.self.view_is) ∙ ap (λ (b : Bool). digits ++ ending_of b) c.if-not-self.false in
    let ending : c.copy_from_slice-2.new.self ≡ codes ".dir" = c.copy_from_slice-2.ensures.after ∙ c.as_bytes.ensures.value in
    let whole = are_digits-length digits c.self.invariant in
    rw (text, ending, c.copy_from_slice.ensures.after) (written digits (codes ".dir") c.args.into.now 32 4 whole refl)
