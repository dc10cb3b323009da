-- What the naming of a single file says of the object at its place.
use Rattle.std.proofs.Common.{◌≡◌, ℕ, Bool, true, false, cond, List, length, refl, sym, ap, ◌∙◌, Option, Some, None, Ok, Err, bytes_eq}
use Rattle.std.specs.Prelude.{nat_lt, is_some}
use Rattle.dvc_base.specs.Name.{ObjectName}
use Rattle.dvc_base.specs.Limits.{limit_of}
use Rattle.dvc_base.specs.declared.limits.What.{What}
use Rattle.dvc_base.specs.declared.limits.What.TheVariants.{FileSize}
use Rattle.world_api.specs.Tree.{Item, folder, file}
use Rattle.file_hash.specs.declared.named.Named.{Named}
use Rattle.file_hash.specs.declared.fault.FileFault.TheVariants as f
use Rattle.file_hash.specs.Naming.{named_bytes, file_within, file_naming_of}
use Rattle.object_cache.specs.declared.fault.CacheFault.TheVariants.{TooLarge}
use Rattle.object_cache.specs.Objects.{has_name, whole_in}
use Rattle.object_cache.specs.Due.{size_fault}

is_some_if : (b : Bool) (bytes : List ℕ) → is_some (cond b (Some bytes) None) ≡ b
is_some_if true bytes = refl
is_some_if false bytes = refl

named_within : (b : Bool) (bytes : List ℕ) (named : Named) → Ok named ≡ file_within (cond b (Some FileSize) None) bytes → (b ≡ false) × (named ≡ named_bytes bytes)
named_within true bytes named e = absurd (cc)
named_within false bytes named e = (refl, cc)

pub has_named : (o : Option Item) (name : ObjectName) (named : Named) → Ok named ≡ file_naming_of o → (bytes_eq named.name.digits name.digits ≡ is_some (whole_in name o)) × (size_fault o ≡ None)
has_named None name named e = absurd (cc)
has_named (Some folder) name named e = absurd (cc)
has_named (Some (file bytes)) name named e =
    let r = named_within (nat_lt (limit_of FileSize) (length bytes)) bytes named e in (
      ap (λ (n : Named). bytes_eq n.name.digits name.digits) r.1 ∙ sym (is_some_if (has_name name bytes) bytes),
      ap (λ (b : Bool). cond b (Some (TooLarge FileSize (limit_of FileSize))) None) r.0,
    )

missing_within : (b : Bool) (bytes : List ℕ) → Err f.Missing ≡ file_within (cond b (Some FileSize) None) bytes → ⊥
missing_within true bytes e = cc
missing_within false bytes e = cc

pub has_missing : (o : Option Item) (name : ObjectName) → Err f.Missing ≡ file_naming_of o → (false ≡ is_some (whole_in name o)) × (size_fault o ≡ None)
has_missing None name e = (refl, refl)
has_missing (Some folder) name e = (refl, refl)
has_missing (Some (file bytes)) name e = absurd (missing_within (nat_lt (limit_of FileSize) (length bytes)) bytes e)

large_within : (b : Bool) (bytes : List ℕ) (what : What) (limit : ℕ) → Err (f.TooLarge what limit) ≡ file_within (cond b (Some FileSize) None) bytes → cond b (Some (TooLarge FileSize (limit_of FileSize))) None ≡ Some (TooLarge what limit)
large_within true bytes what limit e = cc
large_within false bytes what limit e = absurd (cc)

pub has_large : (o : Option Item) (what : What) (limit : ℕ) → Err (f.TooLarge what limit) ≡ file_naming_of o → size_fault o ≡ Some (TooLarge what limit)
has_large None what limit e = absurd (cc)
has_large (Some folder) what limit e = absurd (cc)
has_large (Some (file bytes)) what limit e = large_within (nat_lt (limit_of FileSize) (length bytes)) bytes what limit e

changed_within : (b : Bool) (bytes : List ℕ) (told found : ℕ) → Err (f.Changed told found) ≡ file_within (cond b (Some FileSize) None) bytes → ⊥
changed_within true bytes told found e = cc
changed_within false bytes told found e = cc

pub has_changed : (o : Option Item) (told found : ℕ) → Err (f.Changed told found) ≡ file_naming_of o → ⊥
has_changed None told found e = cc
has_changed (Some folder) told found e = cc
has_changed (Some (file bytes)) told found e = changed_within (nat_lt (limit_of FileSize) (length bytes)) bytes told found e
