-- Answers that are due, one after another.
use Rattle.std.proofs.Common.{◌≡◌, ℕ, inl, inr, refl, ap, ◌∙◌, Option, Some, None, Result, Ok, Err, IfErr}
use Rattle.dvc_base.specs.Name.{ObjectName}
use Rattle.world_api.specs.Tree.{Item, folder, file}
use Rattle.world_api.specs.Calls.{kind_of}
use Rattle.world_api.specs.declared.files.Kind.{Kind}
use Rattle.world_api.specs.declared.files.Kind.TheVariants.{File}
use Rattle.object_cache.specs.declared.fault.CacheFault.{CacheFault}
use Rattle.object_cache.specs.declared.fault.CacheFault.TheVariants.{Absent}
use Rattle.object_cache.specs.Objects.{whole_in}
use Rattle.object_cache.specs.Due.{IsDue, IsFree, fault_of, or_then, size_fault, absent_if}

pub due_first : (f : CacheFault) (x y : Option CacheFault) → IsDue (Some f) x → IsDue (Some f) (or_then x y)
due_first f x y (inl free) = inl free
due_first f x y (inr e) = inr (ap (λ (o : Option CacheFault). or_then o y) e)

pub due_second : (got x y : Option CacheFault) → x ≡ None → IsDue got y → IsDue got (or_then x y)
due_second None x y e h = ap (λ (o : Option CacheFault). or_then o y) e ∙ h
due_second (Some f) x y e (inl free) = inl free
due_second (Some f) x y e (inr h) = inr (ap (λ (o : Option CacheFault). or_then o y) e ∙ h)

-- what is no file is no object
pub absent_of : (o : Option Item) (name : ObjectName) (kind : Kind) → kind ≡ kind_of o → ((size : ℕ) → kind ≡ File size → ⊥) → or_then (size_fault o) (absent_if (whole_in name o) name) ≡ Some (Absent name)
absent_of None name kind k other = refl
absent_of (Some folder) name kind k other = refl
absent_of (Some (file bytes)) name kind k other = absurd (other _ k)

pub due_last : {T : Type 0} (r : Result T CacheFault) (due : Option CacheFault) → IfErr r IsFree → due ≡ None → IsDue (fault_of r) due
due_last (Ok done) due free e = e
due_last (Err fault) due free e = inl free

pub both_none : (x y : Option CacheFault) → x ≡ None → y ≡ None → or_then x y ≡ None
both_none x y a b = ap (λ (o : Option CacheFault). or_then o y) a ∙ b
