-- The stage, if there is one, is behind the others.
use Rattle.std.proofs.Common.{◌≤◌, length, rules}
use Rattle.std.proofs.lemmas.Option.{slice_get_past}
use Rattle.stage_plan.proofs.PlannedLemmas.{place_none}
use Rattle.stage_plan.proofs.planned.push_at.Goals as goal

pub returns-in-None : goal.returns-in-None
returns-in-None c =
    let past : length c.args.written.now ≤ c.args.number = search rules in
    record { ok = place_none c.args.outs.now c.args.written.now c.args.number c.args.stages.now (slice_get_past c.args.written.now c.args.number past) }
