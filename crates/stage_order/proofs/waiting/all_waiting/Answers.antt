-- At first nothing is done, and all stages are pending.
use Rattle.std.proofs.Common.{◌≡◌, [], refl, sym}
use Rattle.stage_order.proofs.SeatLemmas.{seated_first, seated_same}
use Rattle.stage_order.proofs.waiting.all_waiting.Goals as goal

pub returns : goal.returns
returns c = record {
  seated = c.in_ok-seat_all.ensures.seated []
      (seated_same c.args.above.now [] _ _ _ _ _ _ _ _ refl (sym c.in_ok-unmarked.ensures.same) (sym c.new.ensures.empty) (sym c.in_ok-no_waits.ensures.same)
      (seated_first c.args.above.now));
}
