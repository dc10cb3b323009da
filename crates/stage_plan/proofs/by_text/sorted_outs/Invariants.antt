use Rattle.std.proofs.Common.{◌≡◌, map, take}
use Rattle.stage_plan.proofs.by_text.sorted_outs.Given as goal

-- those so far
abbrev pub invariant-loop-out : goal.invariant-loop-out
invariant-loop-out l = map (λ x. x.now) l.sorted.items ≡ take l.out-index l.outs
