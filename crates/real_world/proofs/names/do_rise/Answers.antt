-- Each name and the next were compared.
use Rattle.std.proofs.Common.{rules}
use Rattle.std.proofs.lemmas.List.Sorted.{answers_always}
use Rattle.real_world.proofs.NamesLemmas.{comes_before, rising-from_answers}
use Rattle.real_world.proofs.names.do_rise.Goals as goal

pub returns : goal.returns
returns c =
    let compared = answers_always _ _ _ (λ f a r next called. search rules) in
    record { rising = rising-from_answers c.args.names.now c.is_sorted_by.result (c.is_sorted_by.ensures.cases comes_before compared) }
