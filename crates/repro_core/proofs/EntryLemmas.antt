-- The entries of a lock in form.
--     entry_good      each of them is in form
use Rattle.std.proofs.Common.{◌≡◌, ℕ, List, [], ◌∷◌, inl, inr, sym, subst, ◌∙◌, bytes_eq, Some}
use Rattle.std.proofs.lemmas.Bool.{cases_Bool, cond-true, cond-false}
use Rattle.std.proofs.lemmas.Option.{same_Some}
use Rattle.yaml_print.specs.Sound.{Each}
use Rattle.lock_files.specs.Book.{Lock, entry_of}
use Rattle.lock_files.specs.Form.{IsEntry}
use Rattle.lock_files.specs.declared.entry.Entry.{Entry}

pub entry_good : (lock : Lock) (name : List ℕ) (e : Entry) → Each (λ s. IsEntry s.1) lock → entry_of lock name ≡ Some e → IsEntry e
entry_good [] name e all found = absurd (cc)
entry_good (s ∷ lock) name e all found =
    elim (cases_Bool (bytes_eq s.0 name)) [
      | inl here ↦
          subst IsEntry (same_Some s.1 e (sym (cond-true (bytes_eq s.0 name) (Some s.1) (entry_of lock name) here) ∙ found)) all.0
      | inr other ↦
          entry_good lock name e all.1 (sym (cond-false (bytes_eq s.0 name) (Some s.1) (entry_of lock name) other) ∙ found)
    ]
