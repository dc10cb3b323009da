use Rattle.std.proofs.Common.{◌≡◌, length, option_copied}
use Rattle.template_vars.specs.Item.{keys_of, keys_left, with_keys}
use Rattle.template_vars.proofs.item.put_keys.Given as goal

-- the keys that are left come behind those that were taken
abbrev pub invariant-loop-rest : goal.invariant-loop-rest
invariant-loop-rest l = with_keys l.pairs (keys_left (option_copied l.rest)) l.made ≡ with_keys l.pairs (keys_of l.keys) l.initial.made

abbrev pub decreases-loop-rest : goal.decreases-loop-rest
decreases-loop-rest l = length (keys_left (option_copied l.rest))
