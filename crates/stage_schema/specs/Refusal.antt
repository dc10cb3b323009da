-- Refusals, and which of several is answered.
--     schema_at keys, unsupported_at keys    the refusals at the end of a path of keys, whose text is `dotted keys`
--     unless test fault      the refusal of what fails a test
--     option_or fault other  the first of the two that applies
--     first_in fault xs      the first refusal of a member of a list
--     Checks result due      an answer: Ok where nothing is due, and else what is due, but for want of memory
use Rattle.std.specs.Prelude.{◌≡◌, ◌⊎◌, ℕ, Bool, List, [], ◌∷◌, ◌++◌, codes, Option, Some, None, Result, Ok, Err, if◌then◌else◌}
use Rattle.std.specs.Option.{option_or}
use Rattle.std.specs.List.{flat_map}
use Rattle.stage_schema.specs.declared.fault.ExpandFault.{ExpandFault}
use Rattle.stage_schema.specs.declared.fault.ExpandFault.TheVariants as e

-- the first key, and each further one behind a dot
abbrev pub dotted : List (List ℕ) → List ℕ
dotted [] = []
dotted (key ∷ keys) = key ++ flat_map (λ further. codes "." ++ further) keys

abbrev pub schema_at : List (List ℕ) → ExpandFault
schema_at keys = e.Schema (dotted keys)

abbrev pub unsupported_at : List (List ℕ) → ExpandFault
unsupported_at keys = e.Unsupported (dotted keys)

abbrev pub unless : Bool → ExpandFault → Option ExpandFault
unless test fault = if test then None else Some fault

abbrev pub first_in : {A : Type 0} → (A → Option ExpandFault) → List A → Option ExpandFault
first_in fault [] = None
first_in fault (x ∷ xs) = option_or (fault x) (first_in fault xs)

abbrev pub Checks : {T : Type 0} → Result T ExpandFault → Option ExpandFault → Type 0
Checks (Ok _) due = due ≡ None
Checks (Err fault) due = (fault ≡ e.NoMemory) ⊎ (due ≡ Some fault)
