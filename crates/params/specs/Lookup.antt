-- What a key such as `a.b[0]` leads to in a node.
--     steps key       the steps of a key: between its points stand names, each with its brackets behind it
--     step s v        where one step leads: a name into a mapping, a bracket into a list
--     lookup key v    where all of them lead, if they lead anywhere
-- An empty name leads nowhere. A bracket leads somewhere only where it holds digits alone and is closed; its number counts from zero.
use Rattle.std.specs.Prelude.{ℕ, ◌-◌, ◌&&◌, ◌==◌, Bool, if◌then◌else◌, List, [], ◌∷◌, length, take, map, slice_index, Option, Some, None, option_and_then}
use Rattle.std.specs.Char.{is_ascii_digit}
use Rattle.std.specs.List.{flat_map, slice_get, slice_split}
use Rattle.dvc_base.specs.declared.node.Node.{Node}
use Rattle.yaml_scalars.specs.Number.{are_all, number}
use Rattle.lock_files.specs.Mapping.{pairs_in, items_in, value_at}

pub data Step : Type 0 where
  Name : List ℕ → Step
  -- what stands behind the bracket that opens, with the one that closes
  Bracket : List ℕ → Step

-- ---- from a key to its steps

abbrev pub steps_of_pieces : List (List ℕ) → List Step
steps_of_pieces [] = []
steps_of_pieces (name ∷ brackets) = Name name ∷ map Bracket brackets

-- a name with its brackets
abbrev pub steps_of_part : List ℕ → List Step
steps_of_part part = steps_of_pieces (slice_split (λ b. b == 91) part)

abbrev pub steps : List ℕ → List Step
steps key = flat_map steps_of_part (slice_split (λ b. b == 46) key)

-- ---- from the steps to a node

abbrev pub named : List ℕ → Node → Option Node
named name v = if length name == 0 then None else option_and_then (value_at name) (pairs_in v)

-- digits up to a closing bracket
abbrev pub is_place : List ℕ → Bool
is_place bracket = (slice_index bracket (length bracket - 1) == 93) && are_all is_ascii_digit (take (length bracket - 1) bracket)

abbrev pub place_in : List ℕ → Option ℕ
place_in bracket = if is_place bracket then Some (number 10 (take (length bracket - 1) bracket)) else None

abbrev pub item_at : List ℕ → Node → Option Node
item_at bracket v = option_and_then (λ n. option_and_then (λ items. slice_get items n) (items_in v)) (place_in bracket)

abbrev pub step : Step → Node → Option Node
step (Name name) v = named name v
step (Bracket bracket) v = item_at bracket v

abbrev pub follow : List Step → Node → Option Node
follow [] v = Some v
follow (s ∷ ss) v = option_and_then (follow ss) (step s v)

abbrev pub lookup : List ℕ → Node → Option Node
lookup key v = follow (steps key) v
