-- A stage that isn't done is ready, or waits for one above it.
use Rattle.std.proofs.Common.{◌≡◌, ℕ, ◌<◌, Bool, true, false, List, [], ◌∷◌, length, get_or, sym, ap, ◌∙◌, subst, rules}
use Rattle.std.specs.List.{list_all}
use Rattle.std.proofs.lemmas.Grind.{common_steps}
use Rattle.std.proofs.lemmas.Result.{on_ok_weaker}
use Rattle.stage_order.specs.Order.{is_in, above_of}
use Rattle.stage_order.specs.Seated.{is_marked, AreSeated}
use Rattle.stage_order.proofs.NumberLemmas.{in_insert}
use Rattle.stage_order.proofs.SeatLemmas.{seat_ready, seat_held}
use Rattle.stage_order.proofs.waiting.Waiting.seat.Goals as goal

pub returns-in-Some-last_left : goal.returns-in-Some-last_left
returns-in-Some-last_left c =
    let above = c.args.above.now in
    let marks = c.args.self.now.done.items in
    let ready = c.args.self.now.ready.keys in
    let waits = c.args.self.now.waits.items in
    let s = c.args.stage in
    let a = c.in-Some-last_left.other in
    let same : c.as_slice.result.now ≡ above_of above s = search rules in
    let met : is_in (above_of above s) a ≡ true = sym (ap (λ (ns : List ℕ). is_in ns a) same) ∙ c.in-Some-last_left.ensures.left.0 in
    let left : is_marked marks a ≡ false = sym (ap (λ (ms : List Bool). is_marked ms a) c.deref-2.ensures.value) ∙ c.in-Some-last_left.ensures.left.1 in
    record {
      seated = on_ok_weaker c.let_wait.result
          (λ e done pending h. subst (AreSeated above done pending marks ready) (sym e) (seat_held above done pending marks ready waits s a met left h))
          c.let_wait.ensures.ok;
    }

pub returns-in_ok-insert-in-None : goal.returns-in_ok-insert-in-None
returns-in_ok-insert-in-None c =
    let above = c.args.above.now in
    let marks = c.args.self.now.done.items in
    let ready = c.args.self.now.ready.keys in
    let s = c.args.stage in
    let same : c.as_slice.result.now ≡ above_of above s = search rules in
    let inside : s < length above = search rules in
    let left : is_marked marks s ≡ false = search rules in
    let all : list_all (is_marked marks) (above_of above s) ≡ true =
    sym (ap (λ (ns : List ℕ). list_all (is_marked marks) ns) same)
    ∙ sym (ap (λ (ms : List Bool). list_all (is_marked ms) c.as_slice.result.now) c.deref-2.ensures.value) ∙ c.in-None.ensures.left in
    record {
      seated = λ done pending h.
          seat_ready above done pending marks ready c.insert.new.self.keys c.args.self.now.waits.items s left inside all
          (λ n. ap (λ (ks : List ℕ). is_in ks n) c.in_ok-insert-in-None.ensures.keys ∙ in_insert ready s n) h;
    }
