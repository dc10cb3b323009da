-- Tests that fail.
--     or_false         both parts of a test that fails
--     and_false        a test whose first part fails
--     none_before      nothing before the first that passes passes
--     any_from_place, none_from_place    whether one passes, by the place of the first
use Rattle.std.proofs.Common.{◌≡◌, ℕ, suc, ◌+◌, ◌<◌, length, arith, Bool, true, false, ◌||◌, ◌&&◌, List, [], ◌∷◌, cond, not, take, refl, ap, ◌∙◌, true≢false, inl, inr}
use Rattle.std.specs.List.{list_any, position_or_len, before_first}
use Rattle.std.proofs.lemmas.Bool.{cases_Bool}
use Rattle.std.proofs.lemmas.List.Folds.{list_any_at}
use Rattle.std.proofs.lemmas.List.Sums.{passes_at_first}

pub or_false : (p q : Bool) → (p || q) ≡ false → (p ≡ false) × (q ≡ false)
or_false true q h = absurd (true≢false h)
or_false false q h = (refl, h)

pub and_false : (p q : Bool) → p ≡ false → (p && q) ≡ false
and_false p q h = ap (λ r. r && q) h

pub none_before : (p : ℕ → Bool) (xs : List ℕ) → list_any p (before_first p xs) ≡ false
none_before p [] = refl
none_before p (x ∷ xs) =
    elim (cases_Bool (p x)) [
      | inl passes ↦ ap (λ v. list_any p (take (cond (not v) (1 + position_or_len p xs) 0) (x ∷ xs))) passes
      | inr fails ↦ ap (λ v. list_any p (take (cond (not v) (1 + position_or_len p xs) 0) (x ∷ xs))) fails ∙ ap (λ n. list_any p (take n (x ∷ xs))) one_more ∙ ap (λ v. v || list_any p (before_first p xs)) fails ∙ none_before p xs
    ]
  where
    one_more : 1 + position_or_len p xs ≡ suc (position_or_len p xs)
    one_more = omega arith

pub any_from_place : (p : ℕ → Bool) (xs : List ℕ) → position_or_len p xs < length xs → list_any p xs ≡ true
any_from_place p xs l = list_any_at p xs (position_or_len p xs) 0 l (passes_at_first p xs 0 l)

pub none_from_place : (p : ℕ → Bool) (xs : List ℕ) → position_or_len p xs ≡ length xs → list_any p xs ≡ false
none_from_place p [] h = refl
none_from_place p (x ∷ xs) h =
    elim (cases_Bool (p x)) [
      | inl passes ↦
          let none : position_or_len p (x ∷ xs) ≡ 0 = ap (λ v. cond (not v) (1 + position_or_len p xs) 0) passes in
          absurd (omega (arith, none, h))
      | inr fails ↦
          let more : position_or_len p (x ∷ xs) ≡ 1 + position_or_len p xs = ap (λ v. cond (not v) (1 + position_or_len p xs) 0) fails in
          let rest : position_or_len p xs ≡ length xs = omega (arith, more, h) in
          ap (λ v. v || list_any p xs) fails ∙ none_from_place p xs rest
    ]
