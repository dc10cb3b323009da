-- The grammar of a whole text, as relations. Numbers of sections are those of YAML 1.2.
--     IsStart t o       where the node begins, at the start of its line
--     IsDocument t o    the one node of a text, without its last `...` (9.2)
--     IsTail t o        what stands behind it
--     IsWhole t o       the node of a text whose lines end with a line feed, or the fault with its line
--     IsYaml bytes o    the same of any bytes
--     IsParsed bytes r  r is what these bytes give, or memory ran out
use Rattle.std.specs.Prelude.{◌≡◌, ◌⊎◌, ◌<◌, true, false, [], length, take, drop, Result, Ok, Err}
use Rattle.dvc_base.specs.declared.node.Node.{Node}
use Rattle.dvc_base.specs.declared.node.Node.TheVariants as nd
use Rattle.dvc_base.specs.declared.node.YamlFault.{YamlFault}
use Rattle.dvc_base.specs.declared.node.YamlFault.TheVariants as fault
use Rattle.yaml_text.specs.declared.refusal.Refusal.{Refusal}
use Rattle.yaml_text.specs.Outcome.{Text, Outcome, syntax}
use Rattle.yaml_text.specs.Line.{spaces, past_spaces, is_marker}
use Rattle.yaml_text.specs.Rules.{IsRest, IsFirst, IsNext}
use Rattle.yaml_text.specs.Source.{source, body_len}
use Rattle.yaml_nodes.specs.Grammar.{IsBelow, IsBlock}
use Rattle.yaml_nodes.specs.Document.{max_depth, refusal_line, fault_on_line}

-- The first line that isn't blank may be `---` (9.1.1).
pub data IsStart : Text → Outcome Text → Type 0 where
  bad_comment : {t : Text} {e : Refusal} → IsFirst t t (Err e) → IsStart t (Err e)
  behind_marker : {t u : Text} {o : Outcome Text} → IsFirst t t (Ok u) → is_marker u ≡ true → IsBelow (drop 3 u) o → IsStart t o
  unmarked : {t u : Text} {o : Outcome Text} → IsFirst t t (Ok u) → is_marker u ≡ false → IsNext u o → IsStart t o

-- A text without a node is null (9.1.2). Nothing may follow the node.
pub data IsDocument : Text → Outcome Node → Type 0 where
  bad_start : {t : Text} {e : Refusal} → IsStart t (Err e) → IsDocument t (Err e)
  no_node : {t : Text} → IsStart t (Ok []) → IsDocument t (Ok nd.Null)
  bad_node : {t u : Text} {e : Refusal}
      → IsStart t (Ok u) → 0 < length u → IsBlock max_depth 0 (spaces u) (past_spaces u) (Err e) → IsDocument t (Err e)
  one_node : {t u : Text} {n : Node}
      → IsStart t (Ok u) → 0 < length u → IsBlock max_depth 0 (spaces u) (past_spaces u) (Ok (n, [])) → IsDocument t (Ok n)
  text_behind : {t u : Text} {r : Node × Text}
      → IsStart t (Ok u) → 0 < length u → IsBlock max_depth 0 (spaces u) (past_spaces u) (Ok r) → 0 < length r.1 → IsDocument t (syntax r.1)

-- Behind the document nothing stands, or the line `...` with comments (9.1.2).
pub data IsTail : Text → Outcome Text → Type 0 where
  no_tail : IsTail [] (Ok [])
  bad_marker : {t : Text} {e : Refusal} → 0 < length t → IsRest false (drop 3 t) (Err e) → IsTail t (Err e)
  end_marker : {t u : Text} {o : Outcome Text} → 0 < length t → IsRest false (drop 3 t) (Ok u) → IsFirst u u o → IsTail t o

-- A refusal shows on the line that has the first byte that is left of the document, and where none is left on the text's last line.
pub data IsWhole : Text → Result Node YamlFault → Type 0 where
  bad_document : {t : Text} {e : Refusal}
      → IsDocument (take (body_len t) t) (Err e) → IsWhole t (Err (fault_on_line (refusal_line t (take (body_len t) t)) e))
  bad_tail : {t : Text} {n : Node} {e : Refusal}
      → IsDocument (take (body_len t) t) (Ok n) → IsTail (drop (body_len t) t) (Err e) → IsWhole t (Err (fault_on_line (refusal_line t t) e))
  a_document : {t u : Text} {n : Node} → IsDocument (take (body_len t) t) (Ok n) → IsTail (drop (body_len t) t) (Ok u) → IsWhole t (Ok n)

abbrev pub IsYaml : Text → Result Node YamlFault → Type 0
IsYaml bytes o = IsWhole (source bytes) o

abbrev pub IsParsed : Text → Result Node YamlFault → Type 0
IsParsed bytes (Ok node) = IsYaml bytes (Ok node)
IsParsed bytes (Err e) = (e ≡ fault.NoMemory) ⊎ IsYaml bytes (Err e)
