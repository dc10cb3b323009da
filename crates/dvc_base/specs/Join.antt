-- A text read as a path from a folder, and each refusal of it.
--     join dir text      the path, or the first fault that applies: Empty, BadCharacter, Outside, TooLong
use Rattle.std.specs.Prelude.{ℕ, Bool, ◌||◌, List, [], ◌∷◌, ◌++◌, length, take, ◌-◌, ◌==◌, nat_lt, bytes_eq, codes, Option, Some, None, option_and_then, Result, Ok, Err, if◌then◌else◌, slice_index}
use Rattle.std.specs.List.{list_any, slice_split}
use Rattle.dvc_base.specs.Path.{Path, joined}
use Rattle.dvc_base.specs.declared.path.PathFault.{PathFault}
use Rattle.dvc_base.specs.declared.path.PathFault.TheVariants.{Empty, BadCharacter, Outside, TooLong}

-- a piece that leads nowhere else
abbrev pub is_here : List ℕ → Bool
is_here piece = (length piece == 0) || bytes_eq piece (codes ".")

abbrev pub is_up : List ℕ → Bool
is_up piece = bytes_eq piece (codes "..")

-- where one piece of a text leads; nowhere above the root
abbrev pub step : Path → List ℕ → Option Path
step p piece =
    if is_here piece then Some p
    else if is_up piece then (if length p == 0 then None else Some (take (length p - 1) p))
    else Some (p ++ piece ∷ [])

abbrev pub walk : Path → List (List ℕ) → Option Path
walk p [] = Some p
walk p (piece ∷ pieces) = option_and_then (λ q. walk q pieces) (step p piece)

-- the path that was reached, if it is not too long
abbrev pub reached : Option Path → Result Path PathFault
reached None = Err Outside
reached (Some p) = if nat_lt 1024 (length (joined p)) then Err TooLong else Ok p

abbrev pub join : Path → List ℕ → Result Path PathFault
join dir text =
    if length text == 0 then Err Empty
    else if list_any (λ byte. byte == 0) text then Err BadCharacter
    else if slice_index text 0 == 47 then Err Outside
    else reached (walk dir (slice_split (λ byte. byte == 47) text))
