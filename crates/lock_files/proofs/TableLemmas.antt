-- What it says that nothing of a table is refused.
use Rattle.std.proofs.Common.{◌≡◌, Bool, true, false, Option, Some, None, refl}
use Rattle.std.specs.Option.{option_map_or}
use Rattle.lock_files.specs.declared.fault.LockFault.{LockFault}
use Rattle.lock_files.specs.Refused.{Refusal, refuse_if, refuse_unless, or_then}

pub some_none : {A : Type 0} (o : Type 0) (x : A) → (let s : Option A = Some x in s) ≡ None → o
some_none o x h = absurd (cc)

pub unless_none : (b : Bool) (f : LockFault) → refuse_unless b f ≡ None → b ≡ true
unless_none true f h = refl
unless_none false f h = some_none (false ≡ true) f h

pub if_none : (b : Bool) (f : LockFault) → refuse_if b f ≡ None → b ≡ false
if_none true f h = some_none (true ≡ false) f h
if_none false f h = refl

pub then_none : (due later : Refusal) → or_then due later ≡ None → (due ≡ None) × (later ≡ None)
then_none None later h = (refl, h)
then_none (Some f) later h = some_none ((Some f ≡ None) × (later ≡ None)) f h

-- what is there isn't refused, and something is there
pub map_or_none : {A : Type 0} (check : A → Refusal) (o : Option A) (f : LockFault) → option_map_or check o (Some f) ≡ None → (x : A) × (o ≡ Some x) × (check x ≡ None)
map_or_none check None f h = some_none _ f h
map_or_none check (Some x) f h = (x, refl, h)
