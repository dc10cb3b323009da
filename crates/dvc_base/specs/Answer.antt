-- What an answer has to do with what is due.
--     fault_in result           the fault of a result, if there is one
--     IsAnswer got due          the answer is the one that is due, or a free one
--     GainsFront old whole new  a list has grown by a front of another
--     Gains got old whole new   a list has grown by all that is due, or by a front of it after a free answer
-- Free are want of memory, and the failures of the world and of the output, which have causes of their own.
use Rattle.std.specs.Prelude.{◌≡◌, ◌⊎◌, Bool, true, false, List, ◌++◌, Option, Some, None, Result, Ok, Err, IsTrue}
use Rattle.dvc_base.specs.Fault.{is_free}
use Rattle.dvc_base.specs.declared.fault.Fault.{Fault}

abbrev pub fault_in : {T : Type 0} → Result T Fault → Option Fault
fault_in (Ok done) = None
fault_in (Err fault) = Some fault

abbrev pub IsAnswer : Option Fault → Option Fault → Type 0
IsAnswer None due = due ≡ None
IsAnswer (Some fault) due = IsTrue (is_free fault) ⊎ (due ≡ Some fault)

pub record GainsFront {A : Type 0} (old whole new : List A) : Type 0 where
  pub front : List A
  pub back : List A
  pub cut : whole ≡ front ++ back
  pub grown : new ≡ old ++ front

abbrev pub GainsAs : {A : Type 0} → Bool → List A → List A → List A → Type 0
GainsAs true old whole new = GainsFront old whole new
GainsAs false old whole new = new ≡ old ++ whole

abbrev pub is_free_answer : Option Fault → Bool
is_free_answer None = false
is_free_answer (Some fault) = is_free fault

abbrev pub Gains : {A : Type 0} → Option Fault → List A → List A → List A → Type 0
Gains got old whole new = GainsAs (is_free_answer got) old whole new
