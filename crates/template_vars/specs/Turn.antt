-- A text up to the end of its first template, and what is left of it.
--     IsTurn text plain mark key rest closes    the text is read as `plain` and `mark`, which stand for themselves, then the key if
--                                               there is one, and then what is left. Where `closes` is false, no `}` is left
--     closed_part t                             what stands before the first `}`, and behind it
use Rattle.std.specs.Prelude.{◌≡◌, ℕ, ◌<◌, ◌==◌, if◌then◌else◌, Bool, false, List, [], ◌∷◌, ◌++◌, map, length, Option, Some, None}
use Rattle.std.specs.List.{list_any, before_first, after_first}
use Rattle.template_vars.specs.Template.{Piece, Byte, Key, is_close, pieces}

abbrev pub is_dollar : ℕ → Bool
is_dollar b = b == 36

abbrev pub key_piece : Option (List ℕ) → List Piece
key_piece None = []
key_piece (Some key) = Key key ∷ []

abbrev pub turn_pieces : List ℕ → List ℕ → Option (List ℕ) → List ℕ → List Piece
turn_pieces plain mark key rest = map Byte (plain ++ mark) ++ (key_piece key ++ pieces rest)

abbrev pub IsOpen : List ℕ → Bool → Type 0
IsOpen rest closes = closes ≡ false → list_any is_close rest ≡ false

abbrev pub closed_part : List ℕ → Option (List ℕ × List ℕ)
closed_part t = if list_any is_close t then Some (before_first is_close t, after_first is_close t) else None

pub record IsTurn (text plain mark : List ℕ) (key : Option (List ℕ)) (rest : List ℕ) (closes : Bool) : Type 0 where
  pub read : pieces text ≡ turn_pieces plain mark key rest
  pub shorter : length rest < length text
  pub left : IsOpen rest closes
