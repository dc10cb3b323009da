-- What a key stands for, and what a text with templates becomes. `vars` are the variables that are seen, of which the first with a
-- name counts.
--     node_at vars key     the node that a key leads to, if there is one
--     first_name key       the name that a key begins with
--     key_node vars key    the same, or NoVariable with the key
--     key_text vars key    the text that a key stands for: a scalar's as it is written, nothing for Null; NoVariable or NotScalar
--     resolved vars text   the text with what its keys stand for, or the first refusal. What is put in isn't read again
--     Puts got old new due    the text that is due is put behind what was there, or its refusal answered
use Rattle.std.specs.Prelude.{ℕ, if◌then◌else◌, List, [], ◌∷◌, ◌++◌, ◌==◌, codes, Option, Some, None, Result, Ok, Err}
use Rattle.std.specs.List.{before_first}
use Rattle.dvc_base.specs.declared.node.Node.{Node, out-Node}
use Rattle.dvc_base.specs.declared.node.Node.TheOpen.{Node-F}
use Rattle.dvc_base.specs.declared.node.Node.TheVariants as nd
use Rattle.dvc_base.specs.declared.node.Pair.{Pair}
use Rattle.yaml_print.specs.ScalarText.{Layer}
use Rattle.params.specs.Lookup.{lookup}
use Rattle.template_vars.specs.declared.fault.TemplateFault.{TemplateFault}
use Rattle.template_vars.specs.declared.fault.TemplateFault.TheVariants.{NoVariable, NotScalar}
use Rattle.template_vars.specs.Answer.{Leaves}
use Rattle.template_vars.specs.Template.{Piece, Byte, Key, pieces}

-- ---- keys

abbrev pub node_at : List Pair → List ℕ → Option Node
node_at vars key = lookup key (nd.Pairs vars)

abbrev pub found : List ℕ → Option Node → Result Node TemplateFault
found key None = Err (NoVariable key)
found key (Some v) = Ok v

abbrev pub key_node : List Pair → List ℕ → Result Node TemplateFault
key_node vars key = found key (node_at vars key)

-- what stands before the first dot and bracket
abbrev pub first_name : List ℕ → List ℕ
first_name key = before_first (λ b. b == 91) (before_first (λ b. b == 46) key)

-- ---- texts of scalars

abbrev pub text_of : Layer → Option (List ℕ)
text_of Node-F.Null = Some []
text_of (Node-F.Bool b) = Some (if b then codes "true" else codes "false")
text_of (Node-F.Whole n t) = Some t
text_of (Node-F.Decimal t) = Some t
text_of (Node-F.Text t) = Some t
text_of (Node-F.Items xs) = None
text_of (Node-F.Pairs ps) = None

abbrev pub scalar : List ℕ → Option (List ℕ) → Result (List ℕ) TemplateFault
scalar key None = Err (NotScalar key)
scalar key (Some t) = Ok t

abbrev pub text_found : List ℕ → Option Node → Result (List ℕ) TemplateFault
text_found key None = Err (NoVariable key)
text_found key (Some v) = scalar key (text_of (out-Node v))

abbrev pub key_text : List Pair → List ℕ → Result (List ℕ) TemplateFault
key_text vars key = text_found key (node_at vars key)

-- nothing, where there is no key
abbrev pub key_text_if : List Pair → Option (List ℕ) → Result (List ℕ) TemplateFault
key_text_if vars None = Ok []
key_text_if vars (Some key) = key_text vars key

-- ---- texts

-- one text before another; the first refusal counts
abbrev pub before : Result (List ℕ) TemplateFault → Result (List ℕ) TemplateFault → Result (List ℕ) TemplateFault
before (Err fault) back = Err fault
before (Ok front) (Err fault) = Err fault
before (Ok front) (Ok back) = Ok (front ++ back)

abbrev pub piece_text : List Pair → Piece → Result (List ℕ) TemplateFault
piece_text vars (Byte b) = Ok (b ∷ [])
piece_text vars (Key key) = key_text vars key

abbrev pub filled : List Pair → List Piece → Result (List ℕ) TemplateFault
filled vars [] = Ok []
filled vars (p ∷ ps) = before (piece_text vars p) (filled vars ps)

abbrev pub resolved : List Pair → List ℕ → Result (List ℕ) TemplateFault
resolved vars text = filled vars (pieces text)

-- the text that is due is put behind what was there
abbrev pub Puts : {A : Type 0} → Result A TemplateFault → List ℕ → List ℕ → Result (List ℕ) TemplateFault → Type 0
Puts got old new due = Leaves got new (before (Ok old) due)
