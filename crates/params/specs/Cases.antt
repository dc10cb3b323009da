-- Worked cases: numbers and nodes beside their canonical nodes, and what keys lead to.
use Rattle.std.specs.Prelude.{◌≡◌, ◌-◌, ◌^◌, pos, negsuc, [], ◌∷◌, codes, Some, None}
use Rattle.dvc_base.specs.declared.node.Node.{Node}
use Rattle.dvc_base.specs.declared.node.Node.TheVariants as nd
use Rattle.lock_files.specs.Nodes.{pair}
use Rattle.params.specs.Number.{decimal_number, whole_number, number_node}
use Rattle.params.specs.Canonical.{canonical}
use Rattle.params.specs.Lookup.{lookup}

pub record NumberCases : Type 0 where
  pub tenth : number_node (decimal_number (codes "0.10")) ≡ nd.Decimal (codes "1e-1")
  pub no_whole_part : number_node (decimal_number (codes ".1")) ≡ nd.Decimal (codes "1e-1")
  pub power : number_node (decimal_number (codes "1e-1")) ≡ nd.Decimal (codes "1e-1")
  pub one : number_node (whole_number (pos 1)) ≡ nd.Decimal (codes "1e0")
  pub point : number_node (decimal_number (codes "1.0")) ≡ nd.Decimal (codes "1e0")
  pub twenty : number_node (whole_number (pos 20)) ≡ nd.Decimal (codes "2e1")
  pub below : number_node (whole_number (negsuc 19)) ≡ nd.Decimal (codes "-2e1")
  pub zero : number_node (whole_number (pos 0)) ≡ nd.Whole (pos 0) (codes "0")
  pub minus_zero : number_node (decimal_number (codes "-0.0")) ≡ nd.Whole (pos 0) (codes "0")
  pub largest : number_node (whole_number (pos (2 ^ 127 - 1))) ≡ nd.Decimal (codes "170141183460469231731687303715884105727e0")
  -- exponents of 30 digits
  pub up : number_node (decimal_number (codes "+1E+999999999999999999999999999999")) ≡ nd.Decimal (codes "1e999999999999999999999999999999")
  pub down : number_node (decimal_number (codes "10e-999999999999999999999999999999")) ≡ nd.Decimal (codes "1e-999999999999999999999999999998")

-- ---- nodes

abbrev pub tree : Node
tree =
    nd.Pairs (pair (codes "b") (nd.Pairs (pair (codes "d") (nd.Decimal (codes "1.0")) ∷ pair (codes "c") nd.Null ∷ []))
    ∷ pair (codes "a") (nd.Items (nd.Whole (pos 20) (codes "20") ∷ nd.Text (codes "20") ∷ [])) ∷ [])

pub record NodeCases : Type 0 where
  pub nested : canonical 2 tree
      ≡ nd.Pairs (pair (codes "a") (nd.Items (nd.Decimal (codes "2e1") ∷ nd.Text (codes "20") ∷ []))
      ∷ pair (codes "b") (nd.Pairs (pair (codes "c") nd.Null ∷ pair (codes "d") (nd.Decimal (codes "1e0")) ∷ [])) ∷ [])

pub record LookupCases : Type 0 where
  pub name : lookup (codes "b.c") tree ≡ Some nd.Null
  pub item : lookup (codes "a[1]") tree ≡ Some (nd.Text (codes "20"))
  pub zeros : lookup (codes "a[00]") tree ≡ Some (nd.Whole (pos 20) (codes "20"))
  pub past : lookup (codes "a[2]") tree ≡ None
  pub no_list : lookup (codes "b[0]") tree ≡ None
  pub no_name : lookup (codes "b..c") tree ≡ None
  pub empty : lookup [] tree ≡ None
  pub unclosed : lookup (codes "a[1") tree ≡ None
  pub below_none : lookup (codes "a[-1]") tree ≡ None
