-- The outputs of the stage, if there is one, are behind the others.
use Rattle.std.proofs.Common.{◌≤◌, length, rules}
use Rattle.std.proofs.lemmas.Option.{slice_get_past}
use Rattle.stage_plan.proofs.PlannedLemmas.{outs_none}
use Rattle.stage_plan.proofs.planned.push_outs_at.Goals as goal

pub returns-in-None : goal.returns-in-None
returns-in-None c =
    let past : length c.args.written.now ≤ c.args.number = search rules in
    record { ok = outs_none c.args.written.now c.args.number c.args.paths.now (slice_get_past c.args.written.now c.args.number past) }
