-- Worked cases: texts beside what they become, mappings beside what they merge to, and items of `vars` beside what they ask for.
use Rattle.std.specs.Prelude.{◌≡◌, ℕ, pos, true, false, List, [], ◌∷◌, codes, Some, None, Ok, Err}
use Rattle.dvc_base.specs.declared.node.Node.{Node}
use Rattle.dvc_base.specs.declared.node.Node.TheVariants as nd
use Rattle.dvc_base.specs.declared.node.Pair.{Pair}
use Rattle.lock_files.specs.Nodes.{pair}
use Rattle.template_vars.specs.declared.fault.TemplateFault.TheVariants.{Schema, NoVariable, NotScalar, NoKey}
use Rattle.template_vars.specs.Merge.{merge_answer}
use Rattle.template_vars.specs.Template.{whole_key, has_template}
use Rattle.template_vars.specs.Resolve.{key_node, resolved}
use Rattle.template_vars.specs.Item.{file_in, keys_in, chosen}

abbrev pub one : Node
one = nd.Whole (pos 1) (codes "1")

abbrev pub two : Node
two = nd.Whole (pos 2) (codes "2")

-- `key: {inner: value}`
abbrev pub nested : List ℕ → List ℕ → Node → List Pair
nested key inner v = pair key (nd.Pairs (pair inner v ∷ [])) ∷ []

-- ---- merges

pub record MergeCases : Type 0 where
  pub first : merge_answer [] (nested (codes "a") (codes "x") one) ≡ Ok (nested (codes "a") (codes "x") one)
  pub inside : merge_answer (nested (codes "a") (codes "x") one) (nested (codes "a") (codes "y") two)
      ≡ Ok (pair (codes "a") (nd.Pairs (pair (codes "x") one ∷ pair (codes "y") two ∷ [])) ∷ [])
  pub twice : merge_answer (pair (codes "a") one ∷ []) (pair (codes "a") two ∷ []) ≡ Err (Schema (codes "a"))
  pub deep : merge_answer (nested (codes "a") (codes "x") one) (nested (codes "a") (codes "x") one) ≡ Err (Schema (codes "x"))
  pub mixed : merge_answer (nested (codes "a") (codes "x") one) (pair (codes "a") nd.Null ∷ []) ≡ Err (Schema (codes "a"))
  pub new_last : merge_answer (pair (codes "b") one ∷ pair (codes "a") one ∷ []) (pair (codes "c") two ∷ [])
      ≡ Ok (pair (codes "b") one ∷ pair (codes "a") one ∷ pair (codes "c") two ∷ [])

-- ---- texts

-- `m: 0.10, n: null, b: true, l: [], t: ${m}`, and behind a name that hides: `item: {m: linear}` over `item: 1`
abbrev pub vars : List Pair
vars =
    pair (codes "item") (nd.Pairs (pair (codes "m") (nd.Text (codes "linear")) ∷ [])) ∷ pair (codes "item") one ∷ pair (codes "m") (nd.Decimal (codes "0.10"))
    ∷ pair (codes "n") nd.Null ∷ pair (codes "b") (nd.Bool true) ∷ pair (codes "l") (nd.Items []) ∷ pair (codes "t") (nd.Text (codes "${m}")) ∷ []

pub record TextCases : Type 0 where
  pub both : resolved vars (codes "printf '\\${HOME} ${item.m}'") ≡ Ok (codes "printf '${HOME} linear'")
  pub merged : resolved (pair (codes "a") (nd.Pairs (pair (codes "x") one ∷ pair (codes "y") two ∷ [])) ∷ []) (codes "${a.x}${a.y}") ≡ Ok (codes "12")
  pub spaces : resolved vars (codes "${ m }") ≡ Ok (codes "0.10")
  pub unclosed : resolved vars (codes "${m} ${m") ≡ Ok (codes "0.10 ${m")
  pub dollars : resolved vars (codes "$${m}$") ≡ Ok (codes "$0.10$")
  pub backslashes : resolved vars (codes "\\\\${m}") ≡ Ok (codes "\\${m}")
  pub null : resolved vars (codes "<${n}>") ≡ Ok (codes "<>")
  pub truth : resolved vars (codes "${b}") ≡ Ok (codes "true")
  pub once : resolved vars (codes "${t}") ≡ Ok (codes "${m}")
  pub empty : resolved vars (codes "${}") ≡ Err (NoVariable [])
  pub missing : resolved vars (codes "a ${m} ${x} ${l}") ≡ Err (NoVariable (codes "x"))
  pub list : resolved vars (codes "${l}") ≡ Err (NotScalar (codes "l"))
  pub hidden : resolved vars (codes "${item}") ≡ Err (NotScalar (codes "item"))
  pub hidden_key : resolved vars (codes "${item.x}") ≡ Err (NoVariable (codes "item.x"))

pub record KeyCases : Type 0 where
  pub whole : whole_key (codes "${ a.b[0] }") ≡ Some (codes "a.b[0]")
  pub behind : whole_key (codes "${a} ") ≡ None
  pub two_keys : whole_key (codes "${a}${b}") ≡ None
  pub escaped : whole_key (codes "\\${a}") ≡ None
  pub unclosed : whole_key (codes "${a") ≡ None
  pub node : key_node vars (codes "l") ≡ Ok (nd.Items [])
  pub none : key_node vars (codes "x") ≡ Err (NoVariable (codes "x"))
  pub template : has_template (codes "a\\${") ≡ true
  pub no_template : has_template (codes "a$ {}") ≡ false

-- ---- items of `vars`

pub record ItemCases : Type 0 where
  pub whole : keys_in (codes "p.yaml") ≡ None
  pub keys : keys_in (codes "p.yaml:a,b:c") ≡ Some (codes "a,b:c")
  pub file : file_in (codes "p.yaml:a,b:c") ≡ codes "p.yaml"
  pub in_order : chosen (codes "m,n,m") vars ≡ Ok (pair (codes "m") (nd.Decimal (codes "0.10")) ∷ pair (codes "n") nd.Null ∷ [])
  pub no_key : chosen (codes "m,x,y") vars ≡ Err (NoKey (codes "x"))
  pub empty : chosen [] vars ≡ Err (NoKey [])
