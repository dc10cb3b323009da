-- What is seen is good by its parts.
use Rattle.repro_core.proofs.SeeLemmas.{good_seen}
use Rattle.repro_core.proofs.see.see_with.Goals as goal

pub returns-in_ok-looked_of-in-Ok-clause-good : goal.returns-in_ok-looked_of-in-Ok-clause-good
returns-in_ok-looked_of-in-Ok-clause-good g c =
    let s = c.args.stage.now in
    let looked = c.in_ok-looked_of-in-Ok.field-0 in
    let made = c.in_ok-looked_of-in-Ok.ensures in
    good_seen s c.args.deps c.in-Ok.outs c.args.params looked c.requires.deps c.requires.params c.in-Ok.ensures.count made.deps made.outs made.params made.canonical
