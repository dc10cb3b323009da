-- The templates that stand in a text.
--     pieces text          the text, read from its start: bytes that stand for themselves, and keys. `\${` stands for `${`; a key
--                          stands between `${` and the first `}` after it, without the spaces at its ends; any other byte stands
--                          for itself, and so does a `${` with no `}` after it
--     whole_key text       the key of a text that is one `${key}` whole
--     has_template text    a `${` stands somewhere in the text
use Rattle.std.specs.Prelude.{ℕ, zero, suc, ◌+◌, Bool, false, ◌&&◌, ◌||◌, ◌==◌, if◌then◌else◌, List, [], ◌∷◌, ◌++◌, map, length, take, drop, reverse, codes, bytes_eq, Option, Some, None}
use Rattle.std.specs.List.{list_any, position_or_len, before_first}

-- ---- parts of a text

abbrev pub begins : List ℕ → List ℕ → Bool
begins front t = bytes_eq (take (length front) t) front

abbrev pub is_close : ℕ → Bool
is_close b = b == 125

abbrev pub is_space : ℕ → Bool
is_space b = b == 32

abbrev pub past_spaces : List ℕ → List ℕ
past_spaces [] = []
past_spaces (b ∷ t) = if is_space b then past_spaces t else b ∷ t

abbrev pub before_spaces : List ℕ → List ℕ
before_spaces t = reverse (past_spaces (reverse t))

abbrev pub trimmed : List ℕ → List ℕ
trimmed t = before_spaces (past_spaces t)

-- ---- pieces

pub data Piece : Type 0 where
  Byte : ℕ → Piece
  Key : List ℕ → Piece

-- the text begins with a `${` that is closed
abbrev pub opens : List ℕ → Bool
opens t = begins (codes "${") t && list_any is_close t

-- the key behind the `${` that a text begins with
abbrev pub key_in : List ℕ → List ℕ
key_in t = trimmed (before_first is_close (drop 2 t))

-- `read` bytes of the text are read already
abbrev pub pieces_from : ℕ → List ℕ → List Piece
pieces_from read [] = []
pieces_from (suc read) (b ∷ t) = pieces_from read t
pieces_from zero (b ∷ t) =
    if begins (codes "\\${") (b ∷ t) then map Byte (codes "${") ++ pieces_from 2 t
    else if opens (b ∷ t) then Key (key_in (b ∷ t)) ∷ pieces_from (position_or_len is_close t + 1) t
    else Byte b ∷ pieces_from 0 t

abbrev pub pieces : List ℕ → List Piece
pieces text = pieces_from 0 text

-- ---- whole keys, and whether there is a template at all

abbrev pub key_alone : List Piece → Option (List ℕ)
key_alone (Key key ∷ []) = Some key
key_alone _ = None

abbrev pub whole_key : List ℕ → Option (List ℕ)
whole_key text = key_alone (pieces text)

abbrev pub has_template : List ℕ → Bool
has_template [] = false
has_template (b ∷ t) = begins (codes "${") (b ∷ t) || has_template t
