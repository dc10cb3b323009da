-- The stage at the place, if there is one, is in the set.
use Rattle.std.proofs.Common.{◌≡◌, ◌<◌, ◌≤◌, length, get_or, refl, rules}
use Rattle.std.proofs.lemmas.Option.{slice_get_read, slice_get_past}
use Rattle.stage_graph.proofs.EdgeLemmas.{stage_some, stage_none}
use Rattle.stage_graph.proofs.edges.add_stage.Goals as goal

pub returns-in_ok-insert-in-Some : goal.returns-in_ok-insert-in-Some
returns-in_ok-insert-in-Some c =
    let made = c.args.made.now in
    let inside : c.args.place < length made = search rules in
    let here : c.in-Some.output.now ≡ get_or made c.args.place c.in-Some.output.now = search rules in
    let there = slice_get_read made (length made) c.args.place c.in-Some.output.now refl inside here in
    record {
      added = λ n. stage_some made c.args.place n c.in-Some.output.now c.args.found.now.keys c.insert.new.self.keys there c.in_ok-insert-in-Some.ensures.keys;
    }

pub returns-in-None : goal.returns-in-None
returns-in-None c =
    let past : length c.args.made.now ≤ c.args.place = search rules in
    record { added = λ n. stage_none c.args.made.now c.args.place n c.args.found.now.keys (slice_get_past c.args.made.now c.args.place past) }
