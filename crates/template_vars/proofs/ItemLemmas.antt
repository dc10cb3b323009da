-- Items of `vars` and lists of keys, cut at their first colon and comma.
--     cut_some, cut_none    what the first comma cuts, and a text without one
--     no_keys               an item without a colon
use Rattle.std.proofs.Common.{◌≡◌, ℕ, ◌+◌, ◌<◌, Bool, not, cond, List, [], ◌∷◌, length, Some, None, refl, sym, ap, ◌∙◌, inl, inr, arith}
use Rattle.std.specs.List.{list_any, slice_split, onto_first, position_or_len, before_first, after_first}
use Rattle.std.proofs.lemmas.Bool.{cond-false, cases_Bool}
use Rattle.std.proofs.lemmas.List.Splits.{slice_split-cons_no, slice_split_first}
use Rattle.template_vars.specs.Item.{is_colon, is_comma, keys_in, keys_of}
use Rattle.template_vars.proofs.BoolLemmas.{none_from_place}

none_split : (p : ℕ → Bool) (t : List ℕ) → position_or_len p t ≡ length t → slice_split p t ≡ t ∷ []
none_split p [] h = refl
none_split p (b ∷ t) h =
    elim (cases_Bool (p b)) [
      | inl here ↦
          let none : position_or_len p (b ∷ t) ≡ 0 = ap (λ v. cond (not v) (1 + position_or_len p t) 0) here in
          absurd (omega (arith, none, h))
      | inr later ↦
          let more : position_or_len p (b ∷ t) ≡ 1 + position_or_len p t = ap (λ v. cond (not v) (1 + position_or_len p t) 0) later in
          let rest : position_or_len p t ≡ length t = omega (arith, more, h) in
          slice_split-cons_no p b t later ∙ ap (onto_first b) (none_split p t rest)
    ]

pub cut_none : (text : List ℕ) → position_or_len is_comma text ≡ length text → keys_of text ≡ text ∷ []
cut_none text h = none_split is_comma text h

pub cut_some : (text key rest : List ℕ) → position_or_len is_comma text < length text → key ≡ before_first is_comma text → rest ≡ after_first is_comma text → keys_of text ≡ key ∷ keys_of rest
cut_some text key rest l front back =
    slice_split_first is_comma text 0 l
    ∙ ap (λ (x : List ℕ). x ∷ keys_of (after_first is_comma text)) (sym front)
    ∙ ap (λ (x : List ℕ). key ∷ keys_of x) (sym back)

pub no_keys : (item : List ℕ) → position_or_len is_colon item ≡ length item → keys_in item ≡ None
no_keys item h = cond-false (list_any is_colon item) (Some (after_first is_colon item)) None (none_from_place is_colon item h)
