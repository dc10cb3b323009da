use Rattle.std.proofs.Common.{◌≡◌, ◌<◌, ◌≤◌, length, take, Ok}
use Rattle.template_expand.specs.Answer.{folded_by}
use Rattle.template_expand.specs.Expansion.{with_made}
use Rattle.template_expand.specs.Source.{made_in}
use Rattle.template_expand.proofs.walk.put_mades.Given as goal

-- the stages so far, of which no more are made than there may be
abbrev pub invariant-loop-place : goal.invariant-loop-place
invariant-loop-place l = record {
  made : folded_by (with_made l.limit l.written.name.now l.written.vars.now l.written.body.now) l.initial.stages (take l.place (made_in l.source)) ≡ Ok l.stages;
  each : l.place ≤ length l.stages;
  few : 0 < l.place → length l.stages ≤ l.limit;
}
