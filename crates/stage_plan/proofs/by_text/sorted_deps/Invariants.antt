use Rattle.std.proofs.Common.{◌≡◌, map, take}
use Rattle.stage_plan.proofs.by_text.sorted_deps.Given as goal

-- those so far
abbrev pub invariant-loop-dep : goal.invariant-loop-dep
invariant-loop-dep l = map (λ x. x.now) l.sorted.items ≡ take l.dep-index l.deps
