use Rattle.std.proofs.Common.{◌≡◌, take, Ok}
use Rattle.template_expand.specs.Answer.{folded_by}
use Rattle.template_expand.specs.Expansion.{with_written}
use Rattle.template_expand.proofs.walk.put_all.Given as goal

-- the stages of those that are read
abbrev pub invariant-loop-stage : goal.invariant-loop-stage
invariant-loop-stage l = folded_by (with_written l.walk.limit l.walk.files.now l.walk.top.now) l.initial.stages (take l.stage-index l.written) ≡ Ok l.stages
