-- The document (9.2), and the whole text.
--     document t     the one node of a text, without its last `...`
--     read t         the same of the whole text, or the fault with its line
--     IsAnswer r w   r is w, or memory ran out
--     parse bytes    the node of these bytes, or the fault with its line
use Rattle.std.specs.Prelude.{◌≡◌, ◌⊎◌, ℕ, Bool, true, false, if◌then◌else◌, ◌==◌, nat_lt, List, [], ◌∷◌, length, take, drop, Result, Ok, Err}
use Rattle.dvc_base.specs.declared.node.Node.{Node}
use Rattle.dvc_base.specs.declared.node.Node.TheVariants as nd
use Rattle.dvc_base.specs.declared.node.YamlFault.{YamlFault}
use Rattle.dvc_base.specs.declared.node.YamlFault.TheVariants as fault
use Rattle.yaml_text.specs.declared.refusal.Refusal.{Refusal}
use Rattle.yaml_text.specs.declared.refusal.Refusal.TheVariants.{Syntax, Duplicate, TooDeep, TooWide}
use Rattle.yaml_text.specs.Outcome.{Text, Outcome, Step, ◌>>=◌, syntax}
use Rattle.yaml_text.specs.Line.{spaces, past_spaces, rest_of_line, first_line, next_line, is_marker}
use Rattle.yaml_text.specs.Source.{source, body_len, line_of}
use Rattle.yaml_nodes.specs.Block.{block}

abbrev pub max_depth : ℕ
max_depth = 64

-- nothing may follow the node
abbrev pub sole_node : Node × Text → Outcome Node
sole_node r = if length r.1 == 0 then Ok r.0 else syntax r.1

abbrev pub root : Text → Outcome Node
root t = if length t == 0 then Ok nd.Null else (block max_depth 0 (spaces t) (past_spaces t) >>= sole_node)

-- the first line that isn't blank may be `---` (9.1.1)
abbrev pub past_marker : Text → Outcome Text
past_marker t = if is_marker t then rest_of_line false (drop 3 t) >>= next_line else next_line t

unfoldable pub document : Text → Outcome Node
document t = first_line t >>= past_marker >>= root

-- behind the node the line `...` may stand, with a comment, and further comments
unfoldable pub tail : Text → Outcome Text
tail t = if length t == 0 then Ok t else rest_of_line false (drop 3 t) >>= first_line

-- ---- the line on which a refusal shows

-- where `left` bytes are left of the body of t, and for none of them t's last line
abbrev pub refusal_line : Text → Text → ℕ → ℕ
refusal_line t body left = if left == 0 then line_of t 0 else line_of body left

-- the fault of a refusal, by the line of each count of bytes left
abbrev pub fault_on_line : (ℕ → ℕ) → Refusal → YamlFault
fault_on_line line (Syntax left) = fault.Syntax (line left)
fault_on_line line (Duplicate left) = fault.Duplicate (line left)
fault_on_line line (TooDeep left) = fault.TooDeep (line left)
fault_on_line line (TooWide left) = fault.TooWide (line left)

abbrev pub with_tail : Text → Node → Outcome Text → Result Node YamlFault
with_tail t node (Ok rest) = Ok node
with_tail t node (Err why) = Err (fault_on_line (refusal_line t t) why)

abbrev pub with_body : Text → Text → Text → Outcome Node → Result Node YamlFault
with_body t body rest (Ok node) = with_tail t node (tail rest)
with_body t body rest (Err why) = Err (fault_on_line (refusal_line t body) why)

unfoldable pub read : Text → Result Node YamlFault
read t = with_body t (take (body_len t) t) (drop (body_len t) t) (document (take (body_len t) t))

unfoldable pub parse : Text → Result Node YamlFault
parse bytes = read (source bytes)

-- what was answered is what is wanted, unless memory ran out
abbrev pub IsAnswer : Result Node YamlFault → Result Node YamlFault → Type 0
IsAnswer (Ok node) want = want ≡ Ok node
IsAnswer (Err e) want = (e ≡ fault.NoMemory) ⊎ (want ≡ Err e)
