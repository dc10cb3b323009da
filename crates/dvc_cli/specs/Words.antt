-- What the words of a command line ask for. So far there is one command, `repro`, with `-f` or `--force`, and with targets, in any
-- order. A word `--` ends the options: what stands behind it is a target, whatever it begins with.
--     asked words          what the words behind the program's name ask for; none where they are those of no command
--     options words        the words before `--`: the force option, at most once, and targets
--     behind words         the words behind it
--     IsAsked got due      they were read as what they ask for; want of memory is free where they ask for something
use Rattle.std.specs.Prelude.{◌≡◌, ◌⊎◌, ℕ, ◌+◌, Bool, true, not, ◌&&◌, ◌||◌, ◌==◌, List, [], ◌∷◌, ◌++◌, take, drop, filter, count_by, nat_lt, Option, Some, None, IsSome, Result, Ok, Err, bytes_eq, codes, if◌then◌else◌}
use Rattle.std.specs.List.{list_all, list_any, position_from}
use Rattle.dvc_base.specs.declared.fault.Fault.{Fault}
use Rattle.dvc_base.specs.declared.fault.Fault.TheVariants.{BadWords, NoMemory}
use Rattle.dvc_cli.specs.declared.words.Request.{Request}
use Rattle.dvc_cli.specs.declared.words.Request.TheVariants.{Repro}

abbrev pub is_end : List ℕ → Bool
is_end word = bytes_eq word (codes "--")

abbrev pub is_force : List ℕ → Bool
is_force word = bytes_eq word (codes "-f") || bytes_eq word (codes "--force")

-- a word that begins with the code of `-` is an option, but for that alone
abbrev pub is_target : List ℕ → Bool
is_target [] = true
is_target (c ∷ []) = true
is_target (c ∷ d ∷ more) = not (c == 45)

-- the place of the word that ends the options, if there is one
abbrev pub end_of : List (List ℕ) → Option ℕ
end_of words = position_from is_end 0 words

abbrev pub options_to : Option ℕ → List (List ℕ) → List (List ℕ)
options_to None words = words
options_to (Some end) words = take end words

abbrev pub behind_of : Option ℕ → List (List ℕ) → List (List ℕ)
behind_of None words = []
behind_of (Some end) words = drop (end + 1) words

abbrev pub options : List (List ℕ) → List (List ℕ)
options words = options_to (end_of words) words

abbrev pub behind : List (List ℕ) → List (List ℕ)
behind words = behind_of (end_of words) words

abbrev pub is_option : List ℕ → Bool
is_option word = is_force word || is_target word

abbrev pub are_options : List (List ℕ) → Bool
are_options words = list_all is_option words && nat_lt (count_by is_force words) 2

abbrev pub targets_in : List (List ℕ) → List (List ℕ)
targets_in words = filter is_target words

abbrev pub repro_of : List (List ℕ) → Option Request
repro_of words =
    if are_options (options words)
    then Some (Repro (list_any is_force (options words)) (targets_in (options words) ++ behind words))
    else None

abbrev pub asked : List (List ℕ) → Option Request
asked [] = None
asked (command ∷ words) = if bytes_eq command (codes "repro") then repro_of words else None

abbrev pub IsAsked : Result Request Fault → Option Request → Type 0
IsAsked (Ok request) due = due ≡ Some request
IsAsked (Err fault) due = ((fault ≡ BadWords) × (due ≡ None)) ⊎ ((fault ≡ NoMemory) × IsSome due)
