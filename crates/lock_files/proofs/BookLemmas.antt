-- The entries of the map, as a lock: a look-up and an insertion are those of a list of names and entries.
use Rattle.std.proofs.Common.{◌≡◌, ℕ, Bool, true, List, [], ◌∷◌, map, refl, sym, ap, ◌∙◌, Option, Some, inl, inr, bytes_eq, cond, string_bytes}
use Rattle.std.specs.Prelude.{String}
use Rattle.std.specs.String.{string_eq}
use Rattle.std.specs.Map.{lookup}
use Rattle.std.proofs.lemmas.Bool.{cond-true, cond-false, both_ways, false_from_ne_true, cases_Bool}
use Rattle.std.proofs.lemmas.Slice.Eq.{bytes_eq-Decides}
use Rattle.indexmap.specs.IndexMap.{insert_entry}
use Rattle.lock_files.specs.declared.entry.Entry.{Entry}
use Rattle.lock_files.specs.Book.{Lock, entry_of, set}

abbrev pub stage_of : {Y : Type 0} → String Y × Entry → List ℕ × Entry
stage_of e = (string_bytes e.0, e.1)

pub same : (a b : List ℕ) → bytes_eq a b ≡ true → a ≡ b
same a b h = (bytes_eq-Decides a b).0 h

swapped : (a b : List ℕ) → bytes_eq a b ≡ true → bytes_eq b a ≡ true
swapped a b h = (bytes_eq-Decides b a).1 (sym (same a b h))

pub swap : (a b : List ℕ) → bytes_eq a b ≡ bytes_eq b a
swap a b =
    elim (cases_Bool (bytes_eq a b)) [
      | inl h ↦ h ∙ sym (swapped a b h)
      | inr h ↦ h ∙ sym (false_from_ne_true (bytes_eq b a) (λ e. both_ways (bytes_eq a b) h (swapped b a e)))
    ]

pub entry-entries : {Y : Type 0} → (es : List (String Y × Entry)) (name : List ℕ) → lookup (λ k. bytes_eq name (string_bytes k)) es ≡ entry_of (map stage_of es) name
entry-entries [] name = refl
entry-entries (e ∷ es) name =
    ap (λ (b : Bool). cond b (Some e.1) (lookup (λ k. bytes_eq name (string_bytes k)) es)) (swap name (string_bytes e.0))
    ∙ ap (λ (o : Option Entry). cond (bytes_eq (string_bytes e.0) name) (Some e.1) o) (entry-entries es name)

pub set-entries : {Y : Type 0} → (es : List (String Y × Entry)) (key : String Y) (entry : Entry) → map stage_of (insert_entry string_eq es key entry) ≡ set (map stage_of es) (string_bytes key) entry
set-entries [] key entry = refl
set-entries (e ∷ es) key entry =
    let k = string_bytes key in
    let n = string_bytes e.0 in
    elim (cases_Bool (bytes_eq n k)) [
      | inl h ↦
          ap (map stage_of) (cond-true (string_eq key e.0) ((e.0, entry) ∷ es) (e ∷ insert_entry string_eq es key entry) (swapped n k h))
          ∙ ap (λ (x : List ℕ). (x, entry) ∷ map stage_of es) (same n k h)
          ∙ sym (cond-true (bytes_eq n k) ((k, entry) ∷ map stage_of es) ((n, e.1) ∷ set (map stage_of es) k entry) h)
      | inr h ↦
          ap (map stage_of) (cond-false (string_eq key e.0) ((e.0, entry) ∷ es) (e ∷ insert_entry string_eq es key entry) (swap k n ∙ h))
          ∙ ap (λ (l : Lock). (n, e.1) ∷ l) (set-entries es key entry)
          ∙ sym (cond-false (bytes_eq n k) ((k, entry) ∷ map stage_of es) ((n, e.1) ∷ set (map stage_of es) k entry) h)
    ]
