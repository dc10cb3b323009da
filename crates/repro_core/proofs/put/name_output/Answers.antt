-- A name that is refused is refused as is due.
use Rattle.std.proofs.Common.{rules, ◌≡◌}
use Rattle.object_cache.specs.Due.{hash_fault}
use Rattle.world_api.specs.Tree.{value_at}
use Rattle.repro_core.specs.Storing.{told_of}
use Rattle.repro_core.proofs.BarredLemmas.{name_answer}
use Rattle.repro_core.proofs.put.name_output.Goals as goal

pub returns-in_ok-told_fault-in-Err-clause-answer : goal.returns-in_ok-told_fault-in-Err-clause-answer
returns-in_ok-told_fault-in-Err-clause-answer g c told =
    let name = c.args.name.now in
    let out = c.args.out.now in
    let fault = c.in_ok-told_fault-in-Err.field-0 in
    let is : fault ≡ told_of name out (hash_fault c.in-Err.why) = search rules in
    name_answer name out (value_at (g.F.Ground.history c.args.files.now).present.tree out.path) c.in-Err.why fault is (c.in-Err.ensures.answer told)
