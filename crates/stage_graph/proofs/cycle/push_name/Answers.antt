-- The name of the stage, if there is one, is behind the others.
use Rattle.std.proofs.Common.{◌≡◌, ◌<◌, ◌≤◌, length, get_or, refl, rules}
use Rattle.std.proofs.lemmas.Option.{slice_get_read, slice_get_past}
use Rattle.stage_graph.proofs.CycleLemmas.{name_some, name_none}
use Rattle.stage_graph.proofs.cycle.push_name.Goals as goal

pub returns-in_ok-push-in-Some : goal.returns-in_ok-push-in-Some
returns-in_ok-push-in-Some c =
    let stages = c.args.stages.now in
    let s = c.in-Some.stage.now in
    let inside : c.args.number < length stages = search rules in
    let here : s ≡ get_or stages c.args.number s = search rules in
    record {
      ok = name_some stages c.args.number s c.in_ok-name-in-Some.name c.args.names.now c.push.new.self (slice_get_read stages (length stages) c.args.number s refl inside here)
          c.in_ok-name-in-Some.ensures.same c.in_ok-push-in-Some.ensures.ok;
    }

pub returns-in-None : goal.returns-in-None
returns-in-None c =
    let past : length c.args.stages.now ≤ c.args.number = search rules in
    record { ok = name_none c.args.stages.now c.args.number c.args.names.now (slice_get_past c.args.stages.now c.args.number past) }
