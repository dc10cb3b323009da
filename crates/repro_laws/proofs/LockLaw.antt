-- Laws of the lock.
--     entry_kept        an entry stays where the lock is the same but for other names
--     others_wider      what is the same but for some names is the same but for more of them
use Rattle.std.proofs.Common.{◌≡◌, ℕ, true, false, cond, List, [], ◌∷◌, refl, sym, ap, subst, ◌∙◌, inl, inr, Some, bytes_eq}
use Rattle.std.proofs.lemmas.Bool.{false≢true, or_cases, both_ways, false_from_ne_true, cases_Bool, cond-true, cond-false}
use Rattle.std.proofs.lemmas.Slice.Eq.{bytes_eq-Decides}
use Rattle.lock_files.specs.Book.{Lock, entry_of}
use Rattle.repro_laws.specs.Lock.{is_among, others_of}

pub among_other : (names : List (List ℕ)) (a b : List ℕ) → is_among names a ≡ true → is_among names b ≡ false → bytes_eq a b ≡ false
among_other names a b inside out =
    false_from_ne_true (bytes_eq a b) (λ e. both_ways (is_among names b) out (subst (λ (x : List ℕ). is_among names x ≡ true) ((bytes_eq-Decides a b).0 e) inside))

entry_of-others : (names : List (List ℕ)) (lock : Lock) (name : List ℕ) → is_among names name ≡ false → entry_of (others_of names lock) name ≡ entry_of lock name
entry_of-others names [] name out = refl
entry_of-others names (e ∷ es) name out =
    let rest = entry_of-others names es name out in
    elim (cases_Bool (is_among names e.0)) [
      | inl inside ↦
          ap (λ (l : Lock). entry_of l name) (cond-true (is_among names e.0) (others_of names es) (e ∷ others_of names es) inside)
          ∙ rest
          ∙ sym (cond-false (bytes_eq e.0 name) (Some e.1) (entry_of es name) (among_other names e.0 name inside out))
      | inr other ↦
          ap (λ (l : Lock). entry_of l name) (cond-false (is_among names e.0) (others_of names es) (e ∷ others_of names es) other)
          ∙ ap (cond (bytes_eq e.0 name) (Some e.1)) rest
    ]

pub entry_kept : (names : List (List ℕ)) (a b : Lock) (name : List ℕ) → is_among names name ≡ false → others_of names b ≡ others_of names a → entry_of b name ≡ entry_of a name
entry_kept names a b name out same =
    sym (entry_of-others names b name out) ∙ ap (λ (l : Lock). entry_of l name) same ∙ entry_of-others names a name out

is_one : (name other : List ℕ) → is_among (name ∷ []) other ≡ true → name ≡ other
is_one name other h =
    elim (or_cases (bytes_eq name other) false h) [
      | inl e ↦ (bytes_eq-Decides name other).0 e
      | inr e ↦ absurd (false≢true e)
    ]

-- the entries under one name are left out first
others_first : (names : List (List ℕ)) (name : List ℕ) (lock : Lock) → is_among names name ≡ true → others_of names (others_of (name ∷ []) lock) ≡ others_of names lock
others_first names name [] among = refl
others_first names name (e ∷ es) among =
    let one : List (List ℕ) = name ∷ [] in
    let rest = others_first names name es among in
    elim (cases_Bool (is_among one e.0)) [
      | inl same ↦
          let inside : is_among names e.0 ≡ true = subst (λ (x : List ℕ). is_among names x ≡ true) (is_one name e.0 same) among in
          ap (others_of names) (cond-true (is_among one e.0) (others_of one es) (e ∷ others_of one es) same)
          ∙ rest
          ∙ sym (cond-true (is_among names e.0) (others_of names es) (e ∷ others_of names es) inside)
      | inr other ↦
          ap (others_of names) (cond-false (is_among one e.0) (others_of one es) (e ∷ others_of one es) other)
          ∙ ap (λ (l : Lock). cond (is_among names e.0) l (e ∷ l)) rest
    ]

pub others_wider : (names : List (List ℕ)) (name : List ℕ) (a b : Lock) → is_among names name ≡ true → others_of (name ∷ []) b ≡ others_of (name ∷ []) a → others_of names b ≡ others_of names a
others_wider names name a b among same =
    sym (others_first names name b among) ∙ ap (others_of names) same ∙ others_first names name a among
