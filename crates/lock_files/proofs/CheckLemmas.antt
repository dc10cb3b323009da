-- The refusal of a table by its rows, and of what is left by a loop's invariant.
--     refuses_first, refuses_later, check_later     a row that refuses, rows that don't
--     refuses_by, check_by                          the same of a refusal that is known to be another
use Rattle.std.proofs.Common.{◌≡◌, Some, None, Result, sym, ap, subst}
use Rattle.lock_files.specs.declared.fault.LockFault.{LockFault}
use Rattle.lock_files.specs.declared.fault.LockFault.TheVariants.{Yaml, Schema, Unsupported, Legacy, NoMemory}
use Rattle.lock_files.specs.Refused.{Refusal, or_then}
use Rattle.lock_files.specs.Read.{Refuses, IsCheck}

some_first : (fault : LockFault) (due later : Refusal) → due ≡ Some fault → or_then due later ≡ Some fault
some_first fault due later h = ap (λ d. or_then d later) h

pub refuses_first : (fault : LockFault) (due later : Refusal) → Refuses fault due → Refuses fault (or_then due later)
refuses_first NoMemory due later h = tt
refuses_first (Yaml why) due later h = some_first (Yaml why) due later h
refuses_first (Schema key) due later h = some_first (Schema key) due later h
refuses_first (Unsupported key) due later h = some_first (Unsupported key) due later h
refuses_first Legacy due later h = some_first Legacy due later h

pub refuses_by : (fault : LockFault) (due whole : Refusal) → due ≡ whole → Refuses fault due → Refuses fault whole
refuses_by fault due whole e h = subst (Refuses fault) e h

later_is : (due later : Refusal) → due ≡ None → later ≡ or_then due later
later_is due later h = sym (ap (λ d. or_then d later) h)

pub refuses_later : (fault : LockFault) (due later : Refusal) → due ≡ None → Refuses fault later → Refuses fault (or_then due later)
refuses_later fault due later n h = refuses_by fault later (or_then due later) (later_is due later n) h

pub check_by : {A : Type 0} (got : Result A LockFault) (due whole : Refusal) → due ≡ whole → IsCheck got due → IsCheck got whole
check_by got due whole e h = subst (IsCheck got) e h

pub check_later : {A : Type 0} (got : Result A LockFault) (due later : Refusal) → due ≡ None → IsCheck got later → IsCheck got (or_then due later)
check_later got due later n h = check_by got later (or_then due later) (later_is due later n) h
