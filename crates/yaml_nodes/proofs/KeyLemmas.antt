-- The keys of pairs in a set, when a pair is added.
use Rattle.std.proofs.Common.{◌≡◌, ℕ, Bool, true, false, cond, ◌||◌, List, [], ◌∷◌, ◌++◌, refl, ap, sym, ◌∙◌}
use Rattle.std.specs.Str.{bytes_eq}
use Rattle.std.specs.Prelude.{String, string_bytes}
use Rattle.std.specs.String.{string_cmp}
use Rattle.std.specs.BTreeSet.{BTreeSet, Updates, contains_text}
use Rattle.std.specs.declared.alloc.Global.{Global}
use Rattle.std.proofs.lemmas.List.Folds.{list_any-append}
use Rattle.std.proofs.lemmas.Map.Text.{btree_set_updates_text}
use Rattle.dvc_base.specs.declared.node.Node.{Node}
use Rattle.dvc_base.specs.declared.node.Pair.{Pair, roll-Pair}
use Rattle.yaml_text.specs.Outcome.{Text}
use Rattle.yaml_nodes.specs.Part.{key_of, has_key, with_pair}
use Rattle.yaml_nodes.specs.Keyed.{HasKeys}

either : (a b : Bool) → (a || (b || false)) ≡ cond b true a
either true true = refl
either true false = refl
either false true = refl
either false false = refl

has_push : (pairs : List Pair) (key : Text) (value : Node) (q : Text) → has_key q (with_pair pairs key value) ≡ cond (bytes_eq key q) true (has_key q pairs)
has_push pairs key value q =
    list_any-append (λ p. bytes_eq (key_of p) q) pairs (roll-Pair (record { key = key; value = value }) ∷ [])
    ∙ either (has_key q pairs) (bytes_eq key q)

pub keys_push : (keys more : BTreeSet (String Global)) (pairs : List Pair) (copy : String Global) (key : Text) (value : Node)
    → string_bytes copy ≡ key → HasKeys keys pairs → Updates string_cmp keys more copy true → HasKeys more (with_pair pairs key value)
keys_push keys more pairs copy key value same held updates = λ q.
    btree_set_updates_text (string_bytes copy) keys more true updates q
    ∙ ap (λ v. cond (bytes_eq (string_bytes copy) q) true v) (held q)
    ∙ ap (λ k. cond (bytes_eq k q) true (has_key q pairs)) same
    ∙ sym (has_push pairs key value q)
