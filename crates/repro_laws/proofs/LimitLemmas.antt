-- Limits of values, and what naming them answers.
--     naming_within     a value that has a name, and passes no limit, is named
--     within_naming     what is named passes no limit, and has just that name
--     naming_large      a value that passes a limit: naming it answers this limit
--     large_naming      and only then
--     limit_large       a refusal by a limit is always of that form
--     missing_naming    only where nothing stands is a value said to be missing
use Rattle.std.proofs.Common.{◌≡◌, ℕ, false, length, refl, sym, ap, ◌∙◌, Option, Some, None, Result, Ok, Err}
use Rattle.std.specs.Prelude.{option_map}
use Rattle.dvc_base.specs.Limits.{limit_of}
use Rattle.dvc_base.specs.declared.limits.What.{What}
use Rattle.dvc_base.specs.declared.limits.What.TheVariants.{FileSize}
use Rattle.dvc_base.specs.declared.fault.Fault.{Fault}
use Rattle.dvc_base.specs.declared.fault.Fault.TheVariants as f
use Rattle.world_api.specs.Tree.{Value, nothing, content, members}
use Rattle.file_hash.specs.Naming.{named_bytes, named_files, named_of, if_over, files_limit, unless_over, naming_of}
use Rattle.file_hash.specs.declared.named.Named.{Named}
use Rattle.file_hash.specs.declared.fault.HashFault.{HashFault}
use Rattle.file_hash.specs.declared.fault.HashFault.TheVariants as h
use Rattle.repro_laws.specs.Limits.{limit_fault}
use Rattle.repro_laws.specs.Stage.{is_nothing}

-- ---- a limit

abbrev fault_by : Option What → Option Fault
fault_by o = option_map (λ what. f.TooLarge what (limit_of what)) o

-- the refusal of this limit, and the answer
abbrev pub IsLarge : What → Fault → Result Named HashFault → Type 0
IsLarge what fault answer = (fault ≡ f.TooLarge what (limit_of what)) × (answer ≡ Err (h.TooLarge what (limit_of what)))

module _ (n : Named) where
  under : (o : Option What) → fault_by o ≡ None → unless_over o n ≡ Ok n
  under None e = refl
  under (Some w) e = absurd (cc)

  under_back : (o : Option What) (m : Named) → unless_over o n ≡ Ok m → (fault_by o ≡ None) × (n ≡ m)
  under_back None m e = (refl, cc)
  under_back (Some w) m e = absurd (cc)

  over : (o : Option What) (fault : Fault) → fault_by o ≡ Some fault → (what : What) × IsLarge what fault (unless_over o n)
  over None fault e = absurd (cc)
  over (Some w) fault e = (w, (cc, refl))

  over_back : (o : Option What) (what : What) (limit : ℕ) → unless_over o n ≡ Err (h.TooLarge what limit) → fault_by o ≡ Some (f.TooLarge what limit)
  over_back None what limit e = absurd (cc)
  over_back (Some w) what limit e = cc

  not_missing : (o : Option What) → unless_over o n ≡ Err h.Missing → ⊥
  not_missing None e = cc
  not_missing (Some w) e = cc

-- ---- values

pub naming_within : (v : Value) → is_nothing v ≡ false → limit_fault v ≡ None → (n : Named) × ((naming_of v ≡ Ok n) × (named_of v ≡ Some n))
naming_within nothing there e = absurd (cc)
naming_within (content bytes) there e =
    (named_bytes bytes, (under (named_bytes bytes) (if_over FileSize (length bytes)) e, refl))
naming_within (members m) there e = (named_files m, (under (named_files m) (files_limit m) e, refl))

pub within_naming : (v : Value) (n : Named) → naming_of v ≡ Ok n → (limit_fault v ≡ None) × (named_of v ≡ Some n)
within_naming nothing n e = absurd (cc)
within_naming (content bytes) n e =
    let parts = under_back (named_bytes bytes) (if_over FileSize (length bytes)) n e in
    (parts.0, ap (λ (x : Named). Some x) parts.1)
within_naming (members m) n e =
    let parts = under_back (named_files m) (files_limit m) n e in
    (parts.0, ap (λ (x : Named). Some x) parts.1)

pub limit_large : (v : Value) (fault : Fault) → limit_fault v ≡ Some fault → (what : What) × IsLarge what fault (naming_of v)
limit_large nothing fault e = absurd (cc)
limit_large (content bytes) fault e = over (named_bytes bytes) (if_over FileSize (length bytes)) fault e
limit_large (members m) fault e = over (named_files m) (files_limit m) fault e

what_of : (a b : What) (x y : ℕ) → f.TooLarge a x ≡ f.TooLarge b y → a ≡ b
what_of a b x y e = cc

pub naming_large : (v : Value) (what : What) → limit_fault v ≡ Some (f.TooLarge what (limit_of what)) → naming_of v ≡ Err (h.TooLarge what (limit_of what))
naming_large v what e =
    let large = limit_large v (f.TooLarge what (limit_of what)) e in
    let same : large.0 ≡ what = sym (what_of what large.0 (limit_of what) (limit_of large.0) large.1.0) in
    large.1.1 ∙ ap (λ (w : What). Err (h.TooLarge w (limit_of w))) same

pub large_naming : (v : Value) (what : What) (limit : ℕ) → naming_of v ≡ Err (h.TooLarge what limit) → limit_fault v ≡ Some (f.TooLarge what limit)
large_naming nothing what limit e = absurd (cc)
large_naming (content bytes) what limit e =
    over_back (named_bytes bytes) (if_over FileSize (length bytes)) what limit e
large_naming (members m) what limit e = over_back (named_files m) (files_limit m) what limit e

pub missing_naming : (v : Value) → naming_of v ≡ Err h.Missing → v ≡ nothing
missing_naming nothing e = refl
missing_naming (content bytes) e = absurd (not_missing (named_bytes bytes) (if_over FileSize (length bytes)) e)
missing_naming (members m) e = absurd (not_missing (named_files m) (files_limit m) e)
