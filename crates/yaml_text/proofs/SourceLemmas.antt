-- Which text the rules read, by whether the bytes are UTF-8.
use Rattle.std.proofs.Common.{◌≡◌, ℕ, Bool, true, false, cond, [], ◌∷◌, ◌++◌, take, drop, refl, ap, ◌∙◌}
use Rattle.std.specs.Str.{IsUtf8, is_utf8}
use Rattle.std.specs.Str.Lossy.{utf8_valid_len}
use Rattle.std.proofs.lemmas.Str.{is_utf8-from_IsUtf8, IsUtf8-from_is_utf8}
use Rattle.yaml_text.specs.Outcome.{Text}
use Rattle.yaml_text.specs.Source.{past_mark, with_line_feeds, source}

chosen_true : {A : Type 0} (b : Bool) (x y : A) → b ≡ true → cond b x y ≡ x
chosen_true b x y h = ap (λ v. cond v x y) h

chosen_false : {A : Type 0} (b : Bool) (x y : A) → b ≡ false → cond b x y ≡ y
chosen_false b x y h = ap (λ v. cond v x y) h

is_other : (bs : Text) (b : Bool) → is_utf8 bs ≡ b → (IsUtf8 bs → ⊥) → b ≡ false
is_other bs true h no_text = absurd (no_text (IsUtf8-from_is_utf8 bs h))
is_other bs false h no_text = refl

pub source_whole : (bs : Text) → IsUtf8 bs → source bs ≡ with_line_feeds (past_mark bs)
unfolding source
source_whole bs h = ap (λ t. with_line_feeds (past_mark t)) (chosen_true (is_utf8 bs) _ _ (is_utf8-from_IsUtf8 bs h))

pub source_cut : (bs : Text) (n : ℕ) → (IsUtf8 bs → ⊥) → utf8_valid_len bs ≡ n → source bs ≡ with_line_feeds (past_mark (take n bs ++ 0 ∷ drop n bs))
unfolding source
source_cut bs n h is =
    ap (λ t. with_line_feeds (past_mark t)) (chosen_false (is_utf8 bs) _ _ (is_other bs (is_utf8 bs) refl h))
    ∙ ap (λ m. with_line_feeds (past_mark (take m bs ++ 0 ∷ drop m bs))) is
