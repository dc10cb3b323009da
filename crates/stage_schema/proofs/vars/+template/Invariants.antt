use Rattle.std.proofs.Common.{◌≡◌, ◌+◌, ◌*◌, ◌||◌, drop}
use Rattle.std.specs.List.{list_any}
use Rattle.dvc_base.specs.declared.node.Pair.{out-Pair}
use Rattle.stage_schema.specs.Node.{key_of}
use Rattle.stage_schema.specs.Schema.{is_template, has_template}
use Rattle.stage_schema.proofs.vars.+template.Given as goal

abbrev pub decreases-has_template : goal.decreases-has_template
decreases-has_template l = 3 * l.depth

abbrev pub decreases-has_inside : goal.decreases-has_inside
decreases-has_inside l = 3 * l.depth + 2

abbrev pub decreases-any_item : goal.decreases-any_item
decreases-any_item l = 3 * l.depth + 1

abbrev pub decreases-any_pair : goal.decreases-any_pair
decreases-any_pair l = 3 * l.depth + 1

-- a template stands in one of all where one stands in those that are left
abbrev pub invariant-any_item-loop-item : goal.invariant-any_item-loop-item
invariant-any_item-loop-item l = list_any (has_template l.depth) l.items ≡ list_any (has_template l.depth) (drop l.item-index l.items)

abbrev pub invariant-any_pair-loop-pair : goal.invariant-any_pair-loop-pair
invariant-any_pair-loop-pair l =
    list_any (λ p. is_template (key_of p) || has_template l.depth (out-Pair p).value) l.pairs
    ≡ list_any (λ p. is_template (key_of p) || has_template l.depth (out-Pair p).value) (drop l.pair-index l.pairs)
