-- A mapping without pairs can be printed, and has no key at which it is refused.
use Rattle.std.proofs.Common.{◌≡◌, ℕ, suc, [], None, refl, sym, ap, subst}
use Rattle.dvc_base.specs.declared.node.Node.{Node, out-Node}
use Rattle.dvc_base.specs.declared.node.Node.TheOpen.{Node-F}
use Rattle.dvc_base.specs.declared.node.Node.TheVariants as nd
use Rattle.yaml_print.specs.ScalarText.{Layer}
use Rattle.yaml_print.specs.Sound.{Inside, IsProper, IsSound, IsPrintable}
use Rattle.yaml_print.proofs.NodeCases.{out_pairs}
use Rattle.params.specs.Read.{refused_key, pairs_or_none}
use Rattle.params.proofs.read.params_of.Goals as goal

no_pairs : (d : ℕ) → IsSound (suc d) (nd.Pairs [])
unfolding IsSound
no_pairs d = (subst IsProper (sym (out_pairs [])) refl, subst (Inside (IsSound d)) (sym (out_pairs [])) tt)

printable : (l : Layer) (root : Node) → IsPrintable root → IsPrintable (pairs_or_none l root)
printable Node-F.Null root h = no_pairs 63
printable (Node-F.Bool b) root h = h
printable (Node-F.Whole n t) root h = h
printable (Node-F.Decimal t) root h = h
printable (Node-F.Text t) root h = h
printable (Node-F.Items xs) root h = h
printable (Node-F.Pairs ps) root h = h

pub returns-clause-printable : goal.returns-clause-printable
returns-clause-printable c = subst IsPrintable (sym c.pairs_or_none.ensures.exact) (printable (out-Node c.args.root) c.args.root c.requires)

shallow : (l : Layer) (root : Node) → refused_key (out-Node root) ≡ None → refused_key (out-Node (pairs_or_none l root)) ≡ None
shallow Node-F.Null root h = ap refused_key (out_pairs [])
shallow (Node-F.Bool b) root h = h
shallow (Node-F.Whole n t) root h = h
shallow (Node-F.Decimal t) root h = h
shallow (Node-F.Text t) root h = h
shallow (Node-F.Items xs) root h = h
shallow (Node-F.Pairs ps) root h = h

pub returns-clause-shallow : goal.returns-clause-shallow
returns-clause-shallow c =
    let root = c.args.root in
    subst (λ (v : Node). refused_key (out-Node v) ≡ None) (sym c.pairs_or_none.ensures.exact) (shallow (out-Node root) root c.in_ok-check.ensures.looks)
