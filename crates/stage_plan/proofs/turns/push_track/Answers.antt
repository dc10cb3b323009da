-- The track file, if there is one, is behind the others.
use Rattle.std.proofs.Common.{◌≤◌, length, rules}
use Rattle.std.proofs.lemmas.Option.{slice_get_past}
use Rattle.stage_plan.proofs.NumberedLemmas.{track_none}
use Rattle.stage_plan.proofs.turns.push_track.Goals as goal

pub returns-in-None : goal.returns-in-None
returns-in-None c =
    let past : length c.args.tracks.now ≤ c.args.number = search rules in
    record { ok = track_none c.args.tracks.now c.args.number c.args.found.now (slice_get_past c.args.tracks.now c.args.number past) }
