use Rattle.std.proofs.Common.{◌≡◌, map, take}
use Rattle.stage_plan.proofs.by_text.copied_deps.Given as goal

-- those so far
abbrev pub invariant-loop-dep : goal.invariant-loop-dep
invariant-loop-dep l = l.copies ≡ map (λ x. x.now) (take l.dep-index l.deps)
