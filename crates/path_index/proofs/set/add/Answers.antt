-- One more place is in the set.
use Rattle.path_index.proofs.PlaceLemmas.{insert_more}
use Rattle.path_index.proofs.set.add.Goals as goal

pub loop-place-preserved : goal.loop-place-preserved
loop-place-preserved c = λ n.
    insert_more c.loop-place.found c.insert.new.self c.args.found.now c.args.places.now c.loop-place.place-index n c.loop-place-test.true c.in_ok-insert.ensures.updates (c.loop-place.invariant n)
