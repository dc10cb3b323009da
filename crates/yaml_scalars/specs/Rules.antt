-- The rules of scalars, as relations between a text and what it gives: each rule is a constructor, and each way in which a text
-- falls short of one. `found` is the scalar's text so far; `o` is its whole text with the text left behind it, or the refusal.
-- Numbers of sections are those of YAML 1.2.
--     IsQuoted over t o             a scalar in quotes, at its opening quote (7.3.1, 7.3.2); `over`: it may go over lines
--     IsPlain flow least t o        a plain scalar (7.3.3); its further lines have at least the indentation `least`
--     IsLines folding least t o     a block scalar, behind its `|` or `>` (8.1)
use Rattle.std.specs.Prelude.{◌≡◌, ◌≢◌, ◌<◌, ◌≤◌, ℕ, Bool, true, false, not, ◌==◌, [], ◌∷◌, ◌++◌, length, take, drop, replicate, slice_index, Option, Some, None, Ok, Err}
use Rattle.std.specs.Char.{encode_utf8}
use Rattle.yaml_text.specs.declared.refusal.Refusal.{Refusal}
use Rattle.yaml_text.specs.Characters.{tab, line_feed, double_quote, single_quote, backslash}
use Rattle.yaml_text.specs.Outcome.{Text, Outcome, Step, syntax}
use Rattle.yaml_text.specs.Line.{is_bad, spaces, past_spaces, past_white, is_marker, blank_lines, breaks}
use Rattle.yaml_text.specs.Rules.{IsRest}
use Rattle.yaml_scalars.specs.declared.lines.Ending.{Ending}
use Rattle.yaml_scalars.specs.declared.lines.Last.{Last}
use Rattle.yaml_scalars.specs.declared.lines.Last.TheVariants.{Nothing}
use Rattle.yaml_scalars.specs.Plain.{is_colon, is_end_or_comment, plain_len}
use Rattle.yaml_scalars.specs.Quoted.{literal_len, solid_len, escape}
use Rattle.yaml_scalars.specs.Lines.{margin, empty_lines, between, ending, last_of, line_len, style_of, past_style}

-- ---- scalars in quotes

-- the characters up to the next one that has a meaning in these quotes, and the text from there on
abbrev pub piece : ℕ → Text → Text
piece quote t = take (literal_len quote t) t

abbrev pub past_piece : ℕ → Text → Text
past_piece quote t = drop (literal_len quote t) t

-- without the white space at its end, which a line break takes with it (6.5)
abbrev pub solid : Text → Text
solid t = take (solid_len t) t

-- what blank lines and the line break before them become, and the text behind the next line's white space (6.5)
abbrev pub fold : Text → Text
fold t = breaks (blank_lines t).0

abbrev pub past_fold : Text → Text
past_fold t = past_white (blank_lines t).1

-- in single quotes (7.3.2)
pub data IsSingle : Bool → Text → Text → Step Text → Type 0 where
  unclosed : {over : Bool} {found t : Text} → past_piece single_quote t ≡ [] → IsSingle over found t (syntax [])
  bad_character : {over : Bool} {found t u : Text} {b : ℕ}
      → past_piece single_quote t ≡ b ∷ u → is_bad b ≡ true → IsSingle over found t (syntax (b ∷ u))
  line_break : {found t u : Text} {o : Step Text}
      → past_piece single_quote t ≡ line_feed ∷ u → IsSingle true ((found ++ solid (piece single_quote t)) ++ fold u) (past_fold u) o
      → IsSingle true found t o
  over_lines : {found t u : Text} → past_piece single_quote t ≡ line_feed ∷ u → IsSingle false found t (syntax (line_feed ∷ u))
  two_quotes : {over : Bool} {found t u : Text} {o : Step Text}
      → past_piece single_quote t ≡ single_quote ∷ u → slice_index u 0 ≡ single_quote
      → IsSingle over ((found ++ piece single_quote t) ++ single_quote ∷ []) (drop 1 u) o
      → IsSingle over found t o
  closing : {over : Bool} {found t u : Text}
      → past_piece single_quote t ≡ single_quote ∷ u → slice_index u 0 ≢ single_quote
      → IsSingle over found t (Ok (found ++ piece single_quote t, u))

-- in double quotes (7.3.1), with escapes (5.7)
pub data IsDouble : Bool → Text → Text → Step Text → Type 0 where
  unclosed : {over : Bool} {found t : Text} → past_piece double_quote t ≡ [] → IsDouble over found t (syntax [])
  bad_character : {over : Bool} {found t u : Text} {b : ℕ}
      → past_piece double_quote t ≡ b ∷ u → is_bad b ≡ true → IsDouble over found t (syntax (b ∷ u))
  line_break : {found t u : Text} {o : Step Text}
      → past_piece double_quote t ≡ line_feed ∷ u → IsDouble true ((found ++ solid (piece double_quote t)) ++ fold u) (past_fold u) o
      → IsDouble true found t o
  over_lines : {found t u : Text} → past_piece double_quote t ≡ line_feed ∷ u → IsDouble false found t (syntax (line_feed ∷ u))
  closing : {over : Bool} {found t u : Text}
      → past_piece double_quote t ≡ double_quote ∷ u → IsDouble over found t (Ok (found ++ piece double_quote t, u))
  -- a backslash before a line break leaves the break out
  escaped_break : {found t u : Text} {o : Step Text}
      → past_piece double_quote t ≡ backslash ∷ u → slice_index u 0 ≡ line_feed
      → IsDouble true ((found ++ piece double_quote t) ++ replicate (blank_lines (drop 1 u)).0 line_feed) (past_fold (drop 1 u)) o
      → IsDouble true found t o
  escape_over_lines : {found t u : Text}
      → past_piece double_quote t ≡ backslash ∷ u → slice_index u 0 ≡ line_feed → IsDouble false found t (syntax (backslash ∷ u))
  escaped : {over : Bool} {found t u : Text} {c : ℕ × Text} {o : Step Text}
      → past_piece double_quote t ≡ backslash ∷ u → slice_index u 0 ≢ line_feed → escape u ≡ Some c
      → IsDouble over ((found ++ piece double_quote t) ++ encode_utf8 c.0) c.1 o → IsDouble over found t o
  bad_escape : {over : Bool} {found t u : Text}
      → past_piece double_quote t ≡ backslash ∷ u → slice_index u 0 ≢ line_feed → escape u ≡ None
      → IsDouble over found t (syntax (backslash ∷ u))

pub data IsQuoted : Bool → Text → Step Text → Type 0 where
  single : {over : Bool} {t : Text} {o : Step Text} → slice_index t 0 ≡ single_quote → IsSingle over [] (drop 1 t) o → IsQuoted over t o
  double : {over : Bool} {t : Text} {o : Step Text} → slice_index t 0 ≡ double_quote → IsDouble over [] (drop 1 t) o → IsQuoted over t o

-- ---- plain scalars

-- the scalar's part on the line at `start`, or nothing where the scalar ended before that line
pub data IsPart : Bool → ℕ → Text → Outcome (Option Text) → Type 0 where
  over : {flow : Bool} {least : ℕ} {start : Text} → is_end_or_comment (past_white start) ≡ true → IsPart flow least start (Ok None)
  marker_in_flow : {least : ℕ} {start : Text}
      → is_end_or_comment (past_white start) ≡ false → is_marker start ≡ true → IsPart true least start (syntax start)
  no_part : {least : ℕ} {start : Text}
      → is_end_or_comment (past_white start) ≡ false → is_marker start ≡ false → plain_len true false (past_white start) ≡ 0
      → IsPart true least start (Ok None)
  part_in_flow : {least : ℕ} {start : Text}
      → is_end_or_comment (past_white start) ≡ false → is_marker start ≡ false → plain_len true false (past_white start) ≢ 0
      → IsPart true least start (Ok (Some (past_white start)))
  less_indented : {least : ℕ} {start : Text}
      → is_end_or_comment (past_white start) ≡ false → spaces start < least → IsPart false least start (Ok None)
  a_tab : {least : ℕ} {start : Text}
      → is_end_or_comment (past_white start) ≡ false → least ≤ spaces start → slice_index (past_spaces start) 0 ≡ tab
      → IsPart false least start (syntax (past_spaces start))
  marker : {least : ℕ} {start : Text}
      → is_end_or_comment (past_white start) ≡ false → least ≤ spaces start → is_marker start ≡ true
      → IsPart false least start (syntax (past_spaces start))
  -- a key can't stand in a line that goes on with the scalar
  key : {least : ℕ} {start : Text}
      → is_end_or_comment (past_white start) ≡ false → least ≤ spaces start → slice_index (past_spaces start) 0 ≢ tab → is_marker start ≡ false
      → is_colon false (past_white (drop (plain_len false false (past_spaces start)) (past_spaces start))) ≡ true
      → IsPart false least start (syntax (past_spaces start))
  part_in_block : {least : ℕ} {start : Text}
      → is_end_or_comment (past_white start) ≡ false → least ≤ spaces start → slice_index (past_spaces start) 0 ≢ tab → is_marker start ≡ false
      → is_colon false (past_white (drop (plain_len false false (past_spaces start)) (past_spaces start))) ≡ false
      → IsPart false least start (Ok (Some (past_spaces start)))

-- behind the scalar's part on a line
pub data IsPlainOn : Bool → ℕ → Text → Text → Step Text → Type 0 where
  text_ends : {flow : Bool} {least : ℕ} {found t : Text} → past_white t ≡ [] → IsPlainOn flow least found t (Ok (found, t))
  bad_character : {flow : Bool} {least : ℕ} {found t u : Text} {b : ℕ}
      → past_white t ≡ b ∷ u → is_bad b ≡ true → IsPlainOn flow least found t (syntax (b ∷ u))
  -- a comment, a `:` or a sign of a flow form
  other_sign : {flow : Bool} {least : ℕ} {found t u : Text} {b : ℕ}
      → past_white t ≡ b ∷ u → b ≢ line_feed → is_bad b ≡ false → IsPlainOn flow least found t (Ok (found, t))
  bad_line : {flow : Bool} {least : ℕ} {found t u : Text} {e : Refusal}
      → past_white t ≡ line_feed ∷ u → IsPart flow least (blank_lines u).1 (Err e) → IsPlainOn flow least found t (Err e)
  no_more : {flow : Bool} {least : ℕ} {found t u : Text}
      → past_white t ≡ line_feed ∷ u → IsPart flow least (blank_lines u).1 (Ok None) → IsPlainOn flow least found t (Ok (found, t))
  goes_on : {flow : Bool} {least : ℕ} {found t u v : Text} {o : Step Text}
      → past_white t ≡ line_feed ∷ u → IsPart flow least (blank_lines u).1 (Ok (Some v))
      → IsPlainOn flow least (found ++ fold u ++ take (plain_len flow false v) v) (drop (plain_len flow false v) v) o
      → IsPlainOn flow least found t o

abbrev pub IsPlain : Bool → ℕ → Text → Step Text → Type 0
IsPlain flow least t o = IsPlainOn flow least (take (plain_len flow false t) t) (drop (plain_len flow false t) t) o

-- ---- block scalars. A line is filled when it has a character other than a space

abbrev pub has_character : Text → Bool
has_character [] = false
has_character (b ∷ t) = not (b == line_feed)

abbrev pub is_filled : Text → Bool
is_filled start = has_character (past_spaces start)

-- The line at `start` without its indentation, or nothing where the scalar ended before it. `most` spaces are taken from each line.
pub data IsLine : ℕ → ℕ → Last → Text → Outcome (Option Text) → Type 0 where
  text_ends : {least most : ℕ} {last : Last} → IsLine least most last [] (Ok None)
  -- leading empty lines have no more spaces than the first filled line (8.1.1.1)
  deep_empty_line : {least most : ℕ} {start : Text}
      → 0 < length start → is_filled start ≡ false → IsLine least most Nothing start (syntax start)
  spaces_alone : {least most : ℕ} {last : Last} {start : Text}
      → 0 < length start → is_filled start ≡ false → last ≢ Nothing → IsLine least most last start (Ok (Some (drop most start)))
  less_indented : {least most : ℕ} {last : Last} {start : Text}
      → is_filled start ≡ true → spaces start < least → IsLine least most last start (Ok None)
  above_margin : {least most : ℕ} {last : Last} {start : Text}
      → is_filled start ≡ true → least ≤ spaces start → spaces start < most → IsLine least most last start (syntax (past_spaces start))
  filled_line : {least most : ℕ} {last : Last} {start : Text}
      → is_filled start ≡ true → least ≤ spaces start → most ≤ spaces start → IsLine least most last start (Ok (Some (drop most start)))

-- behind a line's characters (5.4)
pub data IsBreak : Text → Outcome Text → Type 0 where
  at_end : IsBreak [] (Ok [])
  at_feed : {t : Text} → IsBreak (line_feed ∷ t) (Ok t)
  bad_character : {b : ℕ} {t : Text} → b ≢ line_feed → IsBreak (b ∷ t) (syntax (b ∷ t))

-- the lines from t on, where the last line that isn't empty begins as `last` says
pub data IsContent : Bool → Ending → ℕ → ℕ → Text → Last → Text → Step Text → Type 0 where
  bad_line : {folding : Bool} {style : Ending} {least most : ℕ} {found : Text} {last : Last} {t : Text} {e : Refusal}
      → IsLine least most last (empty_lines most t).1 (Err e) → IsContent folding style least most found last t (Err e)
  -- the lines at the end are as the header says (8.1.1.2)
  last_lines : {folding : Bool} {style : Ending} {least most : ℕ} {found : Text} {last : Last} {t : Text}
      → IsLine least most last (empty_lines most t).1 (Ok None)
      → IsContent folding style least most found last t (Ok (found ++ ending style last (empty_lines most t).0, (empty_lines most t).1))
  bad_character_in_line : {folding : Bool} {style : Ending} {least most : ℕ} {found : Text} {last : Last} {t line : Text} {e : Refusal}
      → IsLine least most last (empty_lines most t).1 (Ok (Some line)) → IsBreak (drop (line_len line) line) (Err e)
      → IsContent folding style least most found last t (Err e)
  one_line : {folding : Bool} {style : Ending} {least most : ℕ} {found : Text} {last : Last} {t line rest : Text} {o : Step Text}
      → IsLine least most last (empty_lines most t).1 (Ok (Some line)) → IsBreak (drop (line_len line) line) (Ok rest)
      → IsContent folding style least most
      (found ++ between folding last (last_of line) (empty_lines most t).0 ++ take (line_len line) line) (last_of line) rest o
      → IsContent folding style least most found last t o

-- the header, and the lines below it (8.1.1)
pub data IsLines : Bool → ℕ → Text → Step Text → Type 0 where
  bad_header : {folding : Bool} {least : ℕ} {t : Text} {e : Refusal} → IsRest false (past_style t) (Err e) → IsLines folding least t (Err e)
  lines_below : {folding : Bool} {least : ℕ} {t u : Text} {o : Step Text}
      → IsRest false (past_style t) (Ok u) → IsContent folding (style_of t) least (margin least u) [] Nothing u o → IsLines folding least t o
