-- Worked cases: written stages beside what is made of them, and files beside the stages that they say.
use Rattle.std.specs.Prelude.{◌≡◌, ℕ, pos, false, List, [], ◌∷◌, codes, Ok, Err}
use Rattle.dvc_base.specs.declared.node.Node.{Node}
use Rattle.dvc_base.specs.declared.node.Node.TheVariants as nd
use Rattle.dvc_base.specs.declared.node.Pair.{Pair}
use Rattle.lock_files.specs.Nodes.{pair}
use Rattle.stage_schema.specs.declared.fault.ExpandFault.TheVariants.{Schema, TooMany, NoVariable}
use Rattle.stage_schema.specs.declared.stage.Stage.{Stage}
use Rattle.template_expand.specs.declared.made.Made.{Made}
use Rattle.template_expand.specs.declared.vars.Vars.{Vars}
use Rattle.template_expand.specs.Made.{mades}
use Rattle.template_expand.specs.Expansion.{with_written, expansion}

abbrev pub one : Node
one = nd.Whole (pos 1) (codes "1")

abbrev pub two : Node
two = nd.Whole (pos 2) (codes "2")

abbrev pub text : List ℕ → Node
text t = nd.Text t

-- `key: {..}` alone
abbrev pub under : List ℕ → List Pair → List Pair
under key pairs = pair key (nd.Pairs pairs) ∷ []

-- what stands behind the name, and the variables that hide others: `item`, and `key` where there is one
abbrev pub with_item : List ℕ → Node → Made
with_item suffix item = record { suffix = suffix; hiding = pair (codes "item") item ∷ [] }

abbrev pub with_key : List ℕ → Node → List ℕ → Made
with_key suffix item key =
    record { suffix = suffix; hiding = pair (codes "item") item ∷ pair (codes "key") (text key) ∷ [] }

-- ---- what is made

abbrev pub each : Node → List Pair
each items = pair (codes "foreach") items ∷ []

abbrev pub matrix : List Pair → List Pair
matrix axes = under (codes "matrix") axes

-- the item of a choice of `a` and `b`
abbrev pub chosen : Node → Node → Node
chosen a b = nd.Pairs (pair (codes "a") a ∷ pair (codes "b") b ∷ [])

-- `l: [1]`
abbrev pub vars : List Pair
vars = pair (codes "l") (nd.Items (one ∷ [])) ∷ []

-- `a: [1, 2]` and `b: [x, []]`
abbrev pub axes : List Pair
axes = pair (codes "a") (nd.Items (one ∷ two ∷ [])) ∷ pair (codes "b") (nd.Items (text (codes "x") ∷ nd.Items [] ∷ [])) ∷ []

pub record MadeCases : Type 0 where
  pub scalars : mades (codes "s") [] [] (each (nd.Items (two ∷ text (codes "b") ∷ [])))
      ≡ Ok (with_item (codes "@2") two ∷ with_item (codes "@b") (text (codes "b")) ∷ [])
  pub mappings : mades (codes "s") [] [] (each (nd.Items (nd.Pairs vars ∷ nd.Pairs [] ∷ [])))
      ≡ Ok (with_item (codes "@0") (nd.Pairs vars) ∷ with_item (codes "@1") (nd.Pairs []) ∷ [])
  pub mapping : mades (codes "s") [] [] (each (nd.Pairs (pair (codes "x") one ∷ []))) ≡ Ok (with_key (codes "@x") one (codes "x") ∷ [])
  pub no_items : mades (codes "s") [] [] (each (nd.Items [])) ≡ Ok []
  pub by_key : mades (codes "s") vars [] (each (text (codes "${l}"))) ≡ Ok (with_item (codes "@1") one ∷ [])
  pub top_alone : mades (codes "s") [] vars (each (text (codes "${l}"))) ≡ Err (NoVariable (codes "l"))
  pub no_list : mades (codes "s") vars [] (each (text (codes "${l[0]}"))) ≡ Err (Schema (codes "stages.s.foreach"))
  pub product : mades (codes "s") [] [] (matrix axes) ≡ Ok (
      with_key (codes "@1-x") (chosen one (text (codes "x"))) (codes "1-x")
      ∷ with_key (codes "@1-b1") (chosen one (nd.Items [])) (codes "1-b1")
      ∷ with_key (codes "@2-x") (chosen two (text (codes "x"))) (codes "2-x")
      ∷ with_key (codes "@2-b1") (chosen two (nd.Items [])) (codes "2-b1") ∷ [])
  pub own_key : mades (codes "s") [] vars (matrix (pair (codes "a") (text (codes "${l}")) ∷ []))
      ≡ Ok (with_key (codes "@1") (nd.Pairs (pair (codes "a") one ∷ [])) (codes "1") ∷ [])
  pub no_axes : mades (codes "s") [] [] (matrix []) ≡ Ok (with_key (codes "@") (nd.Pairs []) [] ∷ [])
  pub no_choices : mades (codes "s") [] [] (matrix (pair (codes "a") (nd.Items []) ∷ [])) ≡ Ok []

-- ---- whole files

-- a stage with this command, which says nothing else
abbrev pub stage : List ℕ → List ℕ → List ℕ → Stage
stage name group command = record {
  name = name;
  group = group;
  commands = command ∷ [];
  dir = [];
  deps = [];
  params = [];
  outs = [];
  frozen = false;
  always = false;
}

abbrev pub command : List ℕ → Pair
command t = pair (codes "cmd") (text t)

-- `s: {foreach: [..], do: {cmd: ${item}}}`
abbrev pub each_item : List Node → Pair
each_item items =
    pair (codes "s")
    (nd.Pairs (pair (codes "foreach") (nd.Items items) ∷ pair (codes "do") (nd.Pairs (command (codes "${item}") ∷ [])) ∷ []))

-- `vars: [{item: 2}]` over stages
abbrev pub file : List Pair → Node
file stages = nd.Pairs (pair (codes "vars") (nd.Items (nd.Pairs (pair (codes "item") two ∷ []) ∷ [])) ∷ pair (codes "stages") (nd.Pairs stages) ∷ [])

abbrev pub no_vars : Vars
no_vars = record { variables = []; whole = [] }

pub record FileCases : Type 0 where
  pub plain : expansion (file (pair (codes "s") (nd.Pairs (command (codes "${item}") ∷ [])) ∷ [])) []
      ≡ Ok (stage (codes "s") [] (codes "2") ∷ [])
  pub hides : expansion (file (each_item (one ∷ []) ∷ [])) [] ≡ Ok (stage (codes "s@1") (codes "s") (codes "1") ∷ [])
  pub twice : expansion (file (each_item (one ∷ one ∷ []) ∷ [])) [] ≡ Err (Schema (codes "stages.s@1"))
  pub within : with_written 2 [] no_vars [] (each_item (one ∷ two ∷ []))
      ≡ Ok (stage (codes "s@1") (codes "s") (codes "1") ∷ stage (codes "s@2") (codes "s") (codes "2") ∷ [])
  pub too_many : with_written 2 [] no_vars [] (each_item (one ∷ two ∷ nd.Items [] ∷ [])) ≡ Err (TooMany 3)
