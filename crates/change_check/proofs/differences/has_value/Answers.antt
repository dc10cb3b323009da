use Rattle.change_check.proofs.ValueLemmas.{value_exact}
use Rattle.change_check.proofs.differences.has_value.Goals as goal

pub returns : goal.returns
returns c =
    let sound = c.requires.sound in
    let own = c.requires.canonical in
    record { exact = value_exact c.args.told.now c.args.found.now c.same_value.result sound own.1 (c.same_value.ensures.same 64 sound own.0) }
