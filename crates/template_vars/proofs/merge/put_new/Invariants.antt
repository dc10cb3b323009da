use Rattle.std.proofs.Common.{◌≡◌, ◌++◌, take}
use Rattle.std.specs.List.{filter}
use Rattle.template_vars.specs.Merge.{is_new}
use Rattle.template_vars.proofs.merge.put_new.Given as goal

-- the new pairs so far
abbrev pub invariant-loop-pair : goal.invariant-loop-pair
invariant-loop-pair l = l.made ≡ l.initial.made ++ filter (is_new l.first) (take l.pair-index l.second)
