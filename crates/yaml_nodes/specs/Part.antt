-- What nodes of flow and of block style share.
--     is_quote t                t begins with a quote
--     begins_form t             t begins with `[` or `{`
--     plain_node, quoted_node   a scalar as a node (7.3), and what is left behind it
--     has_key k ps              one of the pairs has this key
--     steps turn s t            what is found after the last turn, and what is left behind it
use Rattle.std.specs.Prelude.{ℕ, zero, suc, ◌-◌, Bool, true, false, not, ◌||◌, if◌then◌else◌, ◌==◌, nat_lt, List, [], ◌∷◌, ◌++◌, length, take, slice_index, bytes_eq, Ok, Err}
use Rattle.std.specs.List.{list_any}
use Rattle.dvc_base.specs.declared.node.Node.{Node}
use Rattle.dvc_base.specs.declared.node.Node.TheVariants as nd
use Rattle.dvc_base.specs.declared.node.Pair.{Pair, out-Pair, roll-Pair}
use Rattle.yaml_text.specs.declared.refusal.Refusal.TheVariants.{TooDeep, Duplicate}
use Rattle.yaml_text.specs.Characters.{line_feed, double_quote, single_quote, open_bracket, open_brace}
use Rattle.yaml_text.specs.Outcome.{Text, Outcome, Step, ◌>>=◌, syntax}
use Rattle.yaml_scalars.specs.Turns.{Turn}
use Rattle.yaml_scalars.specs.Plain.{plain}
use Rattle.yaml_scalars.specs.Quoted.{quoted}
use Rattle.yaml_scalars.specs.Kind.{scalar}

-- Reading in turns, as scalars are read. A turn but the last has to take something of the text.
abbrev pub steps_within : {S : Type 0} → (S → Text → Outcome (Turn S)) → ℕ → S → Text → Step S
steps_within turn zero s t = syntax t
steps_within turn (suc n) s t =
    turn s t >>= λ r.
    if r.0 then Ok r.1 else if nat_lt (length r.1.1) (length t) then steps_within turn n r.1.0 r.1.1 else syntax t

unfoldable pub steps : {S : Type 0} → (S → Text → Outcome (Turn S)) → S → Text → Step S
steps turn s t = steps_within turn (suc (length t)) s t

-- the first byte, which is 0 behind the end
abbrev pub first : Text → ℕ
first t = slice_index t 0

abbrev pub is_quote : Text → Bool
is_quote t = first t == single_quote || first t == double_quote

abbrev pub begins_form : Text → Bool
begins_form t = first t == open_bracket || first t == open_brace

abbrev pub too_deep : {A : Type 0} → Text → Outcome A
too_deep t = Err (TooDeep (length t))

-- no line ends between t and what is left of it
abbrev pub is_on_one_line : Text → Text → Bool
is_on_one_line t rest = not (list_any (λ b. b == line_feed) (take (length t - length rest) t))

unfoldable pub plain_node : Bool → ℕ → Text → Step Node
plain_node flow least t = plain flow least t >>= λ r. scalar (length t) r.0 >>= λ node. Ok (node, r.1)

-- at the opening quote
unfoldable pub quoted_node : Text → Text → Step Node
quoted_node at t = quoted (first at) true t >>= λ r. Ok (nd.Text r.0, r.1)

abbrev pub key_of : Pair → Text
key_of p = (out-Pair p).key

abbrev pub has_key : Text → List Pair → Bool
has_key key pairs = list_any (λ p. bytes_eq (key_of p) key) pairs

abbrev pub with_pair : List Pair → Text → Node → List Pair
with_pair pairs key value = pairs ++ roll-Pair (record { key = key; value = value }) ∷ []
