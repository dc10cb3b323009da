-- The next place may be less than those before it.
use Rattle.std.proofs.Common.{get_or, take}
use Rattle.std.proofs.lemmas.List.{take_more}
use Rattle.path_index.proofs.PlaceLemmas.{first_more}
use Rattle.path_index.proofs.least.least.Goals as goal

pub loop-place-preserved : goal.loop-place-preserved
loop-place-preserved c =
    let i = c.loop-place.place-index in
    let places = c.args.places.now in
    rw (take_more places i 0 c.loop-place-test.true)
    (first_more (take i places) (get_or places i 0) c.loop-place.first c.earlier-first.result c.loop-place.invariant c.earlier-first.ensures.first)
