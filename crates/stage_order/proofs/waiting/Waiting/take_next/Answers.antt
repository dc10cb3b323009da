-- The next stage is the least that is ready.
use Rattle.std.proofs.Common.{◌≡◌, ℕ, List, [], ◌∷◌, ◌++◌, length, refl, sym, ◌∙◌, subst}
use Rattle.std.proofs.lemmas.Bool.{false≢true}
use Rattle.std.proofs.lemmas.List.{nil_from_length}
use Rattle.stage_order.specs.Seated.{AreSeated, waits_for}
use Rattle.stage_order.proofs.NumberLemmas.{above_all, nothing_from}
use Rattle.stage_order.proofs.SeatLemmas.{none_ready, first_ready, seated_after, seated_same}
use Rattle.stage_order.proofs.waiting.Waiting.take_next.Goals as goal

pub returns-in_default : goal.returns-in_default
returns-in_default c = record {
  next = λ done h.
      let above = c.args.above.now in
      let marks = c.args.self.now.done.items in
      let waits = c.args.self.now.waits.items in
      let none : c.args.self.now.ready.keys ≡ [] = nothing_from _ (λ more. false≢true (c.in_default.ensures.variant.1 more)) in (
        sym (none_ready above done marks waits (subst (λ (ks : List ℕ). AreSeated above done [] marks ks waits) none h)),
        subst (λ (ks : List ℕ). AreSeated above done [] marks ks waits) (sym c.in_default.ensures.unchanged) h,
      );
}

pub returns : goal.returns
returns c = record {
  next = λ done h.
      let above = c.args.above.now in
      let marks = c.args.self.now.done.items in
      let waits = c.args.self.now.waits.items in
      let s = c.in-Some.stage in
      let rest = c.pop_first.new.self.keys in
      let greater = above_all s rest c.in-Some.ensures.all_above in
      let seated = subst (λ (ks : List ℕ). AreSeated above done [] marks ks waits) c.in-Some.ensures.removal h in
      let finished = c.finish-waiting.ensures in (
        sym (first_ready above done marks s rest waits greater seated),
        c.in_ok-seat_each.ensures.seated (done ++ s ∷ [])
            (seated_same above (done ++ s ∷ []) _ _ _ _ _ _ _ _ (sym (c.as_slice.ensures.same ∙ finished.waited)) (sym finished.done) (sym finished.ready) (sym finished.waits)
            (seated_after above done marks s rest waits greater seated)),
      );
}
