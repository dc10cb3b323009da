-- Texts that stand once.
--     are_distinct                no two of some texts are equal
--     text_swap                   equality of texts, the other way round
--     among-more, distinct-more   one text more
--     formed                      the same of texts that stand once, as a lock has them
--     rising                      keys that stand once rise in the order by them
use Rattle.std.proofs.Common.{◌≡◌, ℕ, Bool, true, false, not, ◌&&◌, ◌||◌, List, [], ◌∷◌, ◌++◌, map, refl, sym, ap, ◌∙◌, bytes_eq, inl, inr}
use Rattle.std.specs.List.{AllByRecursion}
use Rattle.std.proofs.lemmas.Bool.{and_parts, and_from, or_parts, or_from, both_ways, false_from_ne_true, not-true, not_from_false, cases_Bool}
use Rattle.std.proofs.lemmas.List.Folds.{list_any-append}
use Rattle.std.proofs.lemmas.Slice.Eq.{bytes_eq-Decides}
use Rattle.lock_files.specs.Form as form
use Rattle.lock_files.specs.Order.{in_order, is_rising}
use Rattle.lock_files.proofs.OrderLemmas.{rising_of_distinct}
use Rattle.repro_laws.specs.Lock.{is_among}

abbrev pub are_distinct : List (List ℕ) → Bool
are_distinct [] = true
are_distinct (text ∷ texts) = not (is_among texts text) && are_distinct texts

pub text_swap : (a b : List ℕ) → bytes_eq a b ≡ bytes_eq b a
text_swap a b =
    elim (cases_Bool (bytes_eq a b)) [
      | inl h ↦ h ∙ sym ((bytes_eq-Decides b a).1 (sym ((bytes_eq-Decides a b).0 h)))
      | inr h ↦ h ∙ sym (false_from_ne_true (bytes_eq b a) (λ e. both_ways (bytes_eq a b) h ((bytes_eq-Decides a b).1 (sym ((bytes_eq-Decides b a).0 e)))))
    ]

or_last : (a b : Bool) → (a || (b || false)) ≡ (a || b)
or_last a true = refl
or_last a false = refl

pub among-more : (texts : List (List ℕ)) (next text : List ℕ) → is_among (texts ++ next ∷ []) text ≡ (is_among texts text || bytes_eq next text)
among-more texts next text = list_any-append (λ t. bytes_eq t text) texts (next ∷ []) ∙ or_last (is_among texts text) (bytes_eq next text)

pub distinct-more : (texts : List (List ℕ)) (next : List ℕ) → are_distinct texts ≡ true → is_among texts next ≡ false → are_distinct (texts ++ next ∷ []) ≡ true
distinct-more [] next h n = refl
distinct-more (text ∷ texts) next h n =
    let a = and_parts (not (is_among texts text)) (are_distinct texts) h in
    let b = or_parts (bytes_eq text next) (is_among texts next) n in
    let first : is_among (texts ++ next ∷ []) text ≡ false =
    among-more texts next text ∙ or_from (is_among texts text) (bytes_eq next text) (not-true (is_among texts text) a.0) (text_swap next text ∙ b.0) in
    and_from (not (is_among (texts ++ next ∷ []) text)) (are_distinct (texts ++ next ∷ [])) (ap not first) (distinct-more texts next a.1 b.1)

-- ---- in order

-- none of the texts is among those before
abbrev AreNew : List (List ℕ) → List (List ℕ) → Type 0
AreNew before texts = AllByRecursion (λ t. is_among before t ≡ false) texts

all_new : (texts : List (List ℕ)) → AreNew [] texts
all_new [] = tt
all_new (text ∷ texts) = (refl, all_new texts)

new_more : (before : List (List ℕ)) (text : List ℕ) (texts : List (List ℕ)) → AreNew before texts → is_among texts text ≡ false → AreNew (before ++ text ∷ []) texts
new_more before text [] out h = tt
new_more before text (t ∷ texts) out h =
    let parts = or_parts (bytes_eq t text) (is_among texts text) h in (
      among-more before text t ∙ or_from (is_among before t) (bytes_eq text t) out.0 (text_swap text t ∙ parts.0),
      new_more before text texts out.1 parts.1,
    )

formed_behind : (before texts : List (List ℕ)) → AreNew before texts → are_distinct texts ≡ true → form.are_distinct before texts ≡ true
formed_behind before [] out h = refl
formed_behind before (text ∷ texts) out h =
    let parts = and_parts (not (is_among texts text)) (are_distinct texts) h in
    and_from (not (is_among before text)) (form.are_distinct (before ++ text ∷ []) texts) (not_from_false (is_among before text) out.0)
    (formed_behind (before ++ text ∷ []) texts (new_more before text texts out.1 (not-true (is_among texts text) parts.0)) parts.1)

pub formed : (texts : List (List ℕ)) → are_distinct texts ≡ true → form.are_distinct [] texts ≡ true
formed texts h = formed_behind [] texts (all_new texts) h

pub rising : {A : Type 0} (key : A → List ℕ) (xs : List A) → are_distinct (map key xs) ≡ true → is_rising (map key (in_order key xs)) ≡ true
rising key xs h = rising_of_distinct key xs (formed (map key xs) h)
