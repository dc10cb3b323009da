-- Which of several faults is answered.
--     first_due dues         the first fault that is due
--     first_of fault xs      the first fault of a member of a list
--     Checks result due      an answer: Ok where nothing is due, and else what is due, but for want of memory
use Rattle.std.specs.Prelude.{◌≡◌, ◌⊎◌, List, [], ◌∷◌, Option, Some, None, Result, Ok, Err}
use Rattle.std.specs.Option.{option_or}
use Rattle.dvc_base.specs.declared.fault.Fault.{Fault}
use Rattle.dvc_base.specs.declared.fault.Fault.TheVariants as f

abbrev pub first_due : List (Option Fault) → Option Fault
first_due [] = None
first_due (due ∷ dues) = option_or due (first_due dues)

abbrev pub first_of : {A : Type 0} → (A → Option Fault) → List A → Option Fault
first_of fault [] = None
first_of fault (x ∷ xs) = option_or (fault x) (first_of fault xs)

abbrev pub Checks : {T : Type 0} → Result T Fault → Option Fault → Type 0
Checks (Ok _) due = due ≡ None
Checks (Err fault) due = (fault ≡ f.NoMemory) ⊎ (due ≡ Some fault)
