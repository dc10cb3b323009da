-- The rules of lines and comments, as relations between a text and what it gives: each rule is a constructor, and each way in
-- which a text falls short of one. `o` is the text left, or the refusal. Numbers of sections are those of YAML 1.2.
--     IsComment t o        behind a `#`: the text behind this line (6.6)
--     IsRest may t o       behind a node or an indicator: the line has only white space and maybe a comment (6.6); `may`: it may begin at once
--     IsFirst start t o    the text from the first line on that isn't blank and no comment (6.7); only white space stands between `start`,
--                          where a line begins, and t
--     IsNext t o           from the start of a line: the same, where that line may begin a node of block style
use Rattle.std.specs.Prelude.{◌≡◌, ◌≢◌, ℕ, Bool, true, false, [], ◌∷◌, slice_index, Ok, Err}
use Rattle.yaml_text.specs.declared.refusal.Refusal.{Refusal}
use Rattle.yaml_text.specs.Characters.{tab, line_feed, hash}
use Rattle.yaml_text.specs.Outcome.{Text, Outcome, syntax}
use Rattle.yaml_text.specs.Line.{is_white, is_bad, past_spaces, is_marker}

pub data IsComment : Text → Outcome Text → Type 0 where
  comment_ends_text : IsComment [] (Ok [])
  comment_ends : {t : Text} → IsComment (line_feed ∷ t) (Ok t)
  bad_character : {b : ℕ} {t : Text} → is_bad b ≡ true → IsComment (b ∷ t) (syntax (b ∷ t))
  character : {b : ℕ} {t : Text} {o : Outcome Text} → b ≢ line_feed → is_bad b ≡ false → IsComment t o → IsComment (b ∷ t) o

pub data IsRest : Bool → Text → Outcome Text → Type 0 where
  text_ends : {may : Bool} → IsRest may [] (Ok [])
  line_ends : {may : Bool} {t : Text} → IsRest may (line_feed ∷ t) (Ok t)
  white : {may : Bool} {b : ℕ} {t : Text} {o : Outcome Text} → is_white b ≡ true → IsRest true t o → IsRest may (b ∷ t) o
  comment : {t : Text} {o : Outcome Text} → IsComment t o → IsRest true (hash ∷ t) o
  comment_too_near : {t : Text} → IsRest false (hash ∷ t) (syntax (hash ∷ t))
  other : {may : Bool} {b : ℕ} {t : Text} → b ≢ line_feed → is_white b ≡ false → b ≢ hash → IsRest may (b ∷ t) (syntax (b ∷ t))

pub data IsFirst : Text → Text → Outcome Text → Type 0 where
  no_line : {start : Text} → IsFirst start [] (Ok [])
  blank_line : {start t : Text} {o : Outcome Text} → IsFirst t t o → IsFirst start (line_feed ∷ t) o
  leading_white : {start : Text} {b : ℕ} {t : Text} {o : Outcome Text} → is_white b ≡ true → IsFirst start t o → IsFirst start (b ∷ t) o
  comment_line : {start t u : Text} {o : Outcome Text} → IsComment t (Ok u) → IsFirst u u o → IsFirst start (hash ∷ t) o
  bad_comment : {start t : Text} {e : Refusal} → IsComment t (Err e) → IsFirst start (hash ∷ t) (Err e)
  the_line : {start : Text} {b : ℕ} {t : Text} → b ≢ line_feed → is_white b ≡ false → b ≢ hash → IsFirst start (b ∷ t) (Ok start)

-- A tab is no indentation (6.1). A line `---` is only where the document begins (9.1.1).
pub data IsNext : Text → Outcome Text → Type 0 where
  bad_lines : {t : Text} {e : Refusal} → IsFirst t t (Err e) → IsNext t (Err e)
  a_tab : {t u : Text} → IsFirst t t (Ok u) → slice_index (past_spaces u) 0 ≡ tab → IsNext t (syntax (past_spaces u))
  second_marker : {t u : Text} → IsFirst t t (Ok u) → is_marker u ≡ true → IsNext t (syntax (past_spaces u))
  next : {t u : Text} → IsFirst t t (Ok u) → slice_index (past_spaces u) 0 ≢ tab → is_marker u ≡ false → IsNext t (Ok u)
