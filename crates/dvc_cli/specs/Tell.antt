-- The line that tells a fault.
--     fault_line fault      `ERROR: `, the fault's text and a line feed
--     Tells                 an output has taken a line
use Rattle.std.specs.Prelude.{◌≡◌, ◌⊎◌, ℕ, List, ◌++◌, codes}
use Rattle.dvc_base.specs.Answer.{GainsFront}
use Rattle.dvc_base.specs.Fault.{text_of}
use Rattle.dvc_base.specs.declared.fault.Fault.{Fault}
use Rattle.world_api.specs.History.{Faults, Rose}

-- a name of a walk behind the first
abbrev pub next_text : List ℕ → List ℕ
next_text name = codes " <- " ++ name

abbrev pub fault_line : Fault → List ℕ
fault_line fault = codes "ERROR: " ++ (text_of fault ++ codes "\n")

-- an output has taken a line, or a front of it where the output has counted a failure
abbrev pub Tells : Faults → Faults → List ℕ → List ℕ → List ℕ → Type 0
Tells before now old line new = (new ≡ old ++ line) ⊎ (Rose before.count now.count × GainsFront old line new)
