-- A text as a scalar on one line.
--     needs_escape c     a character that only double quotes can hold, as an escape (5.7)
--     in_single, in_double   a character between quotes of this kind
--     is_plain t         a plain scalar of these characters stands for just this text
--     scalar_text t      plain where that can be, else in single quotes, or in double ones for characters that need an escape
use Rattle.std.specs.Prelude.{ℕ, ◌+◌, ◌/◌, ◌%◌, Bool, true, false, not, ◌&&◌, ◌||◌, if◌then◌else◌, ◌==◌, nat_lt, List, [], ◌∷◌, ◌++◌, length, take, bytes_eq, codes, Ok, Err}
use Rattle.std.specs.Char.{encode_utf8}
use Rattle.std.specs.Str.{chars}
use Rattle.std.specs.List.{list_any}
use Rattle.dvc_base.specs.declared.node.Node.{Node, out-Node}
use Rattle.dvc_base.specs.declared.node.Node.TheOpen.{Node-F}
use Rattle.dvc_base.specs.declared.node.Pair.{Pair}
use Rattle.yaml_text.specs.Characters.{tab, line_feed, space, double_quote, single_quote, backslash, digit_zero, small_n, small_t, small_u, small_x, small_offset, delete, next_line_character, line_separator, paragraph_separator, byte_order_mark}
use Rattle.yaml_text.specs.Outcome.{Text, Outcome}
use Rattle.yaml_scalars.specs.Plain.{begins_plain, plain_len}
use Rattle.yaml_scalars.specs.Kind.{scalar}

-- a node, opened once
abbrev pub Layer : Type 0
Layer = Node-F Node Pair

-- ---- between quotes

abbrev pub needs_escape : ℕ → Bool
needs_escape c =
    nat_lt c space || c == delete || c == next_line_character || c == line_separator || c == paragraph_separator || c == byte_order_mark

abbrev pub hex_digit : ℕ → ℕ
hex_digit d = if nat_lt d 10 then digit_zero + d else small_offset + d

abbrev pub hex_2 : ℕ → Text
hex_2 c = hex_digit (c / 16) ∷ hex_digit (c % 16) ∷ []

-- in two digits up to U+007F, and in four above
abbrev pub by_number : ℕ → Text
by_number c = if nat_lt c 128 then small_x ∷ hex_2 c else small_u ∷ hex_2 (c / 256) ++ hex_2 (c % 256)

unfoldable pub in_double : ℕ → Text
in_double c =
    if c == double_quote || c == backslash then backslash ∷ c ∷ []
    else if c == line_feed then backslash ∷ small_n ∷ []
    else if c == tab then backslash ∷ small_t ∷ []
    else if needs_escape c then backslash ∷ by_number c
    else encode_utf8 c

unfoldable pub in_single : ℕ → Text
in_single c = if c == single_quote then single_quote ∷ single_quote ∷ [] else encode_utf8 c

-- `form` gives each character
abbrev pub text_of_each : (ℕ → Text) → List ℕ → Text
text_of_each form [] = []
text_of_each form (c ∷ cs) = form c ++ text_of_each form cs

abbrev pub between : ℕ → ℕ → Text
between quote c = if quote == double_quote then in_double c else in_single c

unfoldable pub in_quotes : ℕ → Text → Text
in_quotes quote t = quote ∷ text_of_each (between quote) (chars t) ++ quote ∷ []

-- ---- plain

abbrev pub is_text_layer : Layer → Bool
is_text_layer (Node-F.Text t) = true
is_text_layer _ = false

-- what a plain scalar stands for is a text (10.3.2)
abbrev pub is_text : Outcome Node → Bool
is_text (Ok node) = is_text_layer (out-Node node)
is_text (Err why) = false

-- `---` and `...` mark documents (9.1)
abbrev pub begins_as_marker : Text → Bool
begins_as_marker t = bytes_eq (take 3 t) (codes "---") || bytes_eq (take 3 t) (codes "...")

-- a plain scalar that is read whole on one line (7.3.3)
abbrev pub is_one_line : Text → Bool
is_one_line t = begins_plain false t && plain_len false false t == length t && not (begins_as_marker t)

unfoldable pub is_plain : Text → Bool
is_plain t = is_one_line t && not (bytes_eq t (codes "<<")) && is_text (scalar 0 t)

unfoldable pub scalar_text : Text → Text
scalar_text t =
    if list_any needs_escape (chars t) then in_quotes double_quote t
    else if is_plain t then t
    else in_quotes single_quote t
