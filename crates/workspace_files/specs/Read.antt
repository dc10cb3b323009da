-- What is read of a file of the workspace, beside what is due.
--     IsRead got due       what was read is what is due, but for the free answers
--     text_at at item      the text at a path: none where nothing stands there; a folder and a text past the limit are refused
--     with_first x xs      a list by its first item and the rest of it, or the first refusal among them
use Rattle.std.specs.Prelude.{◌≡◌, ◌⊎◌, ℕ, List, [], ◌∷◌, length, nat_lt, Option, Some, None, Result, Ok, Err, IsTrue, ⊤, if◌then◌else◌}
use Rattle.dvc_base.specs.Path.{Path}
use Rattle.dvc_base.specs.Fault.{is_free}
use Rattle.dvc_base.specs.Limits.{limit_of}
use Rattle.dvc_base.specs.declared.limits.What.TheVariants.{YamlText}
use Rattle.dvc_base.specs.declared.fault.Fault.{Fault}
use Rattle.dvc_base.specs.declared.fault.Fault.TheVariants as f
use Rattle.dvc_base.specs.declared.fault.FaultKind.{FaultKind}
use Rattle.dvc_base.specs.declared.fault.FaultKind.TheVariants as k
use Rattle.world_api.specs.Tree.{Item, folder, file}

-- free are want of memory and the world's failures
abbrev pub IsRead : {A : Type 0} → Result A Fault → Result A Fault → Type 0
IsRead (Ok value) due = due ≡ Ok value
IsRead (Err fault) due = IsTrue (is_free fault) ⊎ (due ≡ Err fault)

abbrev pub short_text : List ℕ → Result (Option (List ℕ)) Fault
short_text text = if nat_lt (limit_of YamlText) (length text) then Err (f.TooLarge YamlText (limit_of YamlText)) else Ok (Some text)

abbrev pub text_at : Path → Option Item → Result (Option (List ℕ)) Fault
text_at at None = Ok None
text_at at (Some folder) = Err (f.NoFile at)
text_at at (Some (file text)) = short_text text

-- a change of size is told of the file that was read, with the size that was told before
abbrev pub IsChangeOf : Path → ℕ → Fault → Type 0
IsChangeOf at size (f.Changed path told found) = (path ≡ at) × (told ≡ size)
IsChangeOf at size _ = ⊤

abbrev pub with_first : {A : Type 0} → Result A Fault → Result (List A) Fault → Result (List A) Fault
with_first (Err fault) rest = Err fault
with_first (Ok x) (Err fault) = Err fault
with_first (Ok x) (Ok xs) = Ok (x ∷ xs)

-- which faults may come of a text
abbrev pub text_kinds : List FaultKind
text_kinds = k.NoMemory ∷ k.WorldFault ∷ k.NoFile ∷ k.TooLarge ∷ k.Changed ∷ []
