-- What is so of the stages that are not done, step by step.
--     seated_first                             nothing is done, and all stages are pending
--     seat_done, seat_far, seat_ready, seat_held   one pending stage is seated
--     first_ready, none_ready                  the next stage is the least that is ready
--     seated_after                             a ready stage is done, and those that waited for it are pending
--     order_step, order_end                    the order goes on at the next stage
use Rattle.std.proofs.Common.{◌≡◌, ℕ, zero, suc, ◌+◌, ◌<◌, ◌≤◌, Bool, true, false, not, ◌&&◌, ◌||◌, ◌==◌, List, [], ◌∷◌, ◌++◌, length, get_or, set, replicate, Option, Some, None, refl, sym, ap, ◌∙◌, subst, arith, ◌⊎◌, inl, inr}
use Rattle.std.specs.List.{list_all, range_with_len}
use Rattle.std.specs.Option.{option_map_or}
use Rattle.std.proofs.lemmas.Bool.{cases_Bool, cases_lt, cases_eq, or_cases, or_left, or_right, or_parts, or_from, and_parts, and_from, eqb-true, eq-eqb, not-true, not_from_false, ne_eqb, false≢true, false_from_ne_true}
use Rattle.std.proofs.lemmas.List.{length-set, length-replicate, get_or-set_same, get_or-set_other, set_past}
use Rattle.stage_order.specs.Order.{is_in, above_of, is_next, next, order_from}
use Rattle.stage_order.specs.Seated.{is_marked, waits_for, IsHeld, IsSeated, AreSeated}
use Rattle.stage_order.proofs.NumberLemmas.{either, in_old, in_new, not_in_push, in_push, all_more, all_at, find_least, find_none, in_range, or_false}

-- ---- a pending stage

more_ready : (above : List (List ℕ)) (done ready ready' : List ℕ) (waits : List (List ℕ)) (b : ℕ) →
    (is_in ready b ≡ true → is_in ready' b ≡ true) → IsSeated above done ready waits b → IsSeated above done ready' waits b
more_ready above done ready ready' waits b more (inl h) = inl h
more_ready above done ready ready' waits b more (inr (inl h)) = inr (inl (more h))
more_ready above done ready ready' waits b more (inr (inr h)) = inr (inr h)

pub seat_done : (above : List (List ℕ)) (done pending : List ℕ) (marks : List Bool) (ready : List ℕ) (waits : List (List ℕ)) (s : ℕ) →
    is_marked marks s ≡ true → AreSeated above done (s ∷ pending) marks ready waits → AreSeated above done pending marks ready waits
seat_done above done pending marks ready waits s met h = record {
  marked = h.marked;
  marks_all = h.marks_all;
  waits_all = h.waits_all;
  free = h.free;
  seated = λ b below out. either (cases_Bool (s == b))
      (λ same. inl (subst (λ (n : ℕ). is_in done n ≡ true) (eqb-true s b same) (sym (h.marked s) ∙ met)))
      (λ other. h.seated b below (or_from (s == b) (is_in pending b) other out));
}

pub seat_far : (above : List (List ℕ)) (done pending : List ℕ) (marks : List Bool) (ready : List ℕ) (waits : List (List ℕ)) (s : ℕ) →
    length above ≤ s → AreSeated above done (s ∷ pending) marks ready waits → AreSeated above done pending marks ready waits
seat_far above done pending marks ready waits s past h = record {
  marked = h.marked;
  marks_all = h.marks_all;
  waits_all = h.waits_all;
  free = h.free;
  seated = λ b below out. either (cases_Bool (s == b))
      (λ same. let here : s ≡ b = eqb-true s b same in absurd (omega arith))
      (λ other. h.seated b below (or_from (s == b) (is_in pending b) other out));
}

pub seat_ready : (above : List (List ℕ)) (done pending : List ℕ) (marks : List Bool) (ready ready' : List ℕ) (waits : List (List ℕ)) (s : ℕ) →
    is_marked marks s ≡ false → s < length above → list_all (is_marked marks) (above_of above s) ≡ true →
    ((n : ℕ) → is_in ready' n ≡ ((s == n) || is_in ready n)) →
    AreSeated above done (s ∷ pending) marks ready waits → AreSeated above done pending marks ready' waits
seat_ready above done pending marks ready ready' waits s left inside all grown h = record {
  marked = h.marked;
  marks_all = h.marks_all;
  waits_all = h.waits_all;
  free = λ b met. either (or_cases (s == b) (is_in ready b) (sym (grown b) ∙ met))
      (λ same. subst (λ (n : ℕ). (n < length above) × (is_next above done n ≡ true)) (eqb-true s b same) (inside, is_free))
      (h.free b);
  seated = λ b below out. either (cases_Bool (s == b))
      (λ same. inr (inl (grown b ∙ or_left (s == b) (is_in ready b) same)))
      (λ other. more_ready above done ready ready' waits b (λ met. grown b ∙ or_right (s == b) (is_in ready b) met)
      (h.seated b below (or_from (s == b) (is_in pending b) other out)));
}
  where
    is_free : is_next above done s ≡ true
    is_free = and_from (not (is_in done s)) (list_all (is_in done) (above_of above s))
        (not_from_false (is_in done s) (sym (h.marked s) ∙ left))
        (all_more (is_marked marks) (is_in done) (λ n met. sym (h.marked n) ∙ met) (above_of above s) all)

-- those that wait for a stage, after one more waits for another
waits_more : (waits : List (List ℕ)) (a s c b : ℕ) → is_in (waits_for waits c) b ≡ true →
    is_in (waits_for (set waits a (waits_for waits a ++ s ∷ [])) c) b ≡ true
waits_more waits a s c b met = either (cases_eq c a)
    (λ same. either (cases_lt a (length waits))
    (λ inside. subst (λ (n : ℕ). is_in (get_or (set waits a (waits_for waits a ++ s ∷ [])) n []) b ≡ true) (sym same)
    (ap (λ (ns : List ℕ). is_in ns b) (get_or-set_same waits a (waits_for waits a ++ s ∷ []) [] inside)
    ∙ in_old (waits_for waits a) s b (subst (λ (n : ℕ). is_in (waits_for waits n) b ≡ true) same met)))
    (λ past. ap (λ (ws : List (List ℕ)). is_in (waits_for ws c) b) (set_past waits a (waits_for waits a ++ s ∷ []) past) ∙ met))
    (λ other. ap (λ (ns : List ℕ). is_in ns b) (get_or-set_other waits a c (waits_for waits a ++ s ∷ []) [] other) ∙ met)

more_waits : (above : List (List ℕ)) (done ready : List ℕ) (waits : List (List ℕ)) (a s b : ℕ) →
    IsSeated above done ready waits b → IsSeated above done ready (set waits a (waits_for waits a ++ s ∷ [])) b
more_waits above done ready waits a s b (inl h) = inl h
more_waits above done ready waits a s b (inr (inl h)) = inr (inl h)
more_waits above done ready waits a s b (inr (inr h)) = inr (inr record {
  by = h.by;
  above_it = h.above_it;
  left = h.left;
  waiting = λ inside. waits_more waits a s h.by b
      (h.waiting (subst (λ (n : ℕ). h.by < n) (length-set waits a (waits_for waits a ++ s ∷ [])) inside));
})

pub seat_held : (above : List (List ℕ)) (done pending : List ℕ) (marks : List Bool) (ready : List ℕ) (waits : List (List ℕ)) (s a : ℕ) →
    is_in (above_of above s) a ≡ true → is_marked marks a ≡ false →
    AreSeated above done (s ∷ pending) marks ready waits → AreSeated above done pending marks ready (set waits a (waits_for waits a ++ s ∷ []))
seat_held above done pending marks ready waits s a met left h = record {
  marked = h.marked;
  marks_all = h.marks_all;
  waits_all = length-set waits a (waits_for waits a ++ s ∷ []) ∙ h.waits_all;
  free = h.free;
  seated = λ b below out. either (cases_Bool (s == b))
      (λ same. inr (inr (subst (IsHeld above done (set waits a (waits_for waits a ++ s ∷ []))) (eqb-true s b same) held)))
      (λ other. more_waits above done ready waits a s b (h.seated b below (or_from (s == b) (is_in pending b) other out)));
}
  where
    held : IsHeld above done (set waits a (waits_for waits a ++ s ∷ [])) s
    held = record {
      by = a;
      above_it = met;
      left = sym (h.marked a) ∙ left;
      waiting = λ inside. ap (λ (ns : List ℕ). is_in ns s)
          (get_or-set_same waits a (waits_for waits a ++ s ∷ []) []
          (subst (λ (n : ℕ). a < n) (length-set waits a (waits_for waits a ++ s ∷ [])) inside))
          ∙ in_new (waits_for waits a) s;
    }

pub seated_first : (above : List (List ℕ)) → AreSeated above [] (range_with_len 0 (length above)) (replicate (length above) false) [] (replicate (length above) [])
seated_first above = record {
  marked = λ b. unmarked (length above) b;
  marks_all = length-replicate (length above) false;
  waits_all = length-replicate (length above) [];
  free = λ b met. absurd (false≢true met);
  seated = λ b below out. absurd (false≢true (sym out ∙ in_range (length above) 0 b (omega arith) (omega (arith, below))));
}
  where
    unmarked : (n b : ℕ) → get_or (replicate n false) b false ≡ false
    unmarked zero b = refl
    unmarked (suc n) zero = refl
    unmarked (suc n) (suc b) = unmarked n b

-- ---- the next stage

-- a stage that is next is ready
next_ready : (above : List (List ℕ)) (done ready : List ℕ) (waits : List (List ℕ)) (b : ℕ) →
    is_next above done b ≡ true → IsSeated above done ready waits b → is_in ready b ≡ true
next_ready above done ready waits b met (inl h) =
    absurd (false≢true (sym (not-true (is_in done b) (and_parts (not (is_in done b)) (list_all (is_in done) (above_of above b)) met).0) ∙ h))
next_ready above done ready waits b met (inr (inl h)) = h
next_ready above done ready waits b met (inr (inr h)) =
    absurd (false≢true (sym h.left ∙ all_at (is_in done) (above_of above b) h.by
    (and_parts (not (is_in done b)) (list_all (is_in done) (above_of above b)) met).1 h.above_it))

pub first_ready : (above : List (List ℕ)) (done : List ℕ) (marks : List Bool) (s : ℕ) (rest : List ℕ) (waits : List (List ℕ)) →
    ((n : ℕ) → is_in rest n ≡ true → s < n) → AreSeated above done [] marks (s ∷ rest) waits → next above done ≡ Some s
first_ready above done marks s rest waits greater h =
    let here = h.free s (or_left (s == s) (is_in rest s) (eq-eqb s s refl)) in
    find_least (is_next above done) (length above) 0 s here.1 (omega arith) (omega (arith, here.0))
    (λ m inside met. least m (next_ready above done (s ∷ rest) waits m met (h.seated m (omega (arith, inside)) refl)))
  where
    least : (m : ℕ) → is_in (s ∷ rest) m ≡ true → s ≤ m
    least m met = either (or_cases (s == m) (is_in rest m) met)
        (λ same. let e : s ≡ m = eqb-true s m same in omega arith)
        (λ later. let g : s < m = greater m later in omega arith)

pub none_ready : (above : List (List ℕ)) (done : List ℕ) (marks : List Bool) (waits : List (List ℕ)) →
    AreSeated above done [] marks [] waits → next above done ≡ None
none_ready above done marks waits h =
    find_none (is_next above done) (length above) 0
    (λ m inside. false_from_ne_true (is_next above done m)
    (λ met. false≢true (next_ready above done [] waits m met (h.seated m (omega (arith, inside)) refl))))

-- ---- after the next stage

pub seated_after : (above : List (List ℕ)) (done : List ℕ) (marks : List Bool) (s : ℕ) (rest : List ℕ) (waits : List (List ℕ)) →
    ((n : ℕ) → is_in rest n ≡ true → s < n) → AreSeated above done [] marks (s ∷ rest) waits →
    AreSeated above (done ++ s ∷ []) (waits_for waits s) (set marks s true) rest (set waits s [])
seated_after above done marks s rest waits greater h = record {
  marked = marked;
  marks_all = length-set marks s true ∙ h.marks_all;
  waits_all = length-set waits s [] ∙ h.waits_all;
  free = free;
  seated = λ b below out. seated b out (h.seated b below refl);
}
  where
    here : (s < length above) × (is_next above done s ≡ true)
    here = h.free s (or_left (s == s) (is_in rest s) (eq-eqb s s refl))

    marked : (b : ℕ) → is_marked (set marks s true) b ≡ is_in (done ++ s ∷ []) b
    marked b = either (cases_eq b s)
        (λ same. subst (λ (n : ℕ). get_or (set marks s true) n false ≡ is_in (done ++ s ∷ []) n) (sym same)
        (get_or-set_same marks s true false (subst (λ (n : ℕ). s < n) (sym h.marks_all) here.0) ∙ sym (in_new done s)))
        (λ other. get_or-set_other marks s b true false other ∙ h.marked b ∙ sym (in_push done s b ∙ unchanged b other))
      where
        unchanged : (b : ℕ) → (b ≡ s → ⊥) → (is_in done b || (s == b)) ≡ is_in done b
        unchanged b other = ap (λ (t : Bool). is_in done b || t) (ne_eqb s b (λ e. other (sym e))) ∙ or_false (is_in done b)

    free : (b : ℕ) → is_in rest b ≡ true → (b < length above) × (is_next above (done ++ s ∷ []) b ≡ true)
    free b met =
        let was = h.free b (or_right (s == b) (is_in rest b) met) in
        let parts = and_parts (not (is_in done b)) (list_all (is_in done) (above_of above b)) was.1 in
        let further : s < b = greater b met in (
          was.0,
          and_from (not (is_in (done ++ s ∷ []) b)) (list_all (is_in (done ++ s ∷ [])) (above_of above b))
              (not_from_false (is_in (done ++ s ∷ []) b) (not_in_push done s b (not-true (is_in done b) parts.0) (λ (e : s ≡ b). omega arith)))
              (all_more (is_in done) (is_in (done ++ s ∷ [])) (λ n. in_old done s n) (above_of above b) parts.1),
        )

    seated : (b : ℕ) → is_in (waits_for waits s) b ≡ false → IsSeated above done (s ∷ rest) waits b → IsSeated above (done ++ s ∷ []) rest (set waits s []) b
    seated b out (inl met) = inl (in_old done s b met)
    seated b out (inr (inl met)) = either (or_cases (s == b) (is_in rest b) met)
        (λ same. inl (subst (λ (n : ℕ). is_in (done ++ s ∷ []) n ≡ true) (eqb-true s b same) (in_new done s)))
        (λ later. inr (inl later))
    seated b out (inr (inr held)) = either (cases_eq held.by s)
        (λ same. absurd (false≢true (sym out ∙ subst (λ (n : ℕ). is_in (waits_for waits n) b ≡ true) same
        (held.waiting (subst (λ (n : ℕ). n < length waits) (sym same) (subst (λ (n : ℕ). s < n) (sym h.waits_all) here.0))))))
        (λ other. inr (inr record {
          by = held.by;
          above_it = held.above_it;
          left = not_in_push done s held.by held.left (λ e. other (sym e));
          waiting = λ inside. ap (λ (ns : List ℕ). is_in ns b) (get_or-set_other waits s held.by [] [] other)
              ∙ held.waiting (subst (λ (n : ℕ). held.by < n) (length-set waits s []) inside);
        }))

-- ---- the order

pub order_step : (n : ℕ) (above : List (List ℕ)) (done : List ℕ) (s : ℕ) → next above done ≡ Some s →
    order_from (suc n) above done ≡ order_from n above (done ++ s ∷ [])
order_step n above done s met = ap (λ (o : Option ℕ). option_map_or (λ t. order_from n above (done ++ t ∷ [])) o done) met

pub order_end : (n : ℕ) (above : List (List ℕ)) (done : List ℕ) → next above done ≡ None → order_from n above done ≡ done
order_end zero above done none = refl
order_end (suc n) above done none = ap (λ (o : Option ℕ). option_map_or (λ t. order_from n above (done ++ t ∷ [])) o done) none

-- ---- equal parts

pub seated_same : (above : List (List ℕ)) (done pending pending' : List ℕ) (marks marks' : List Bool) (ready ready' : List ℕ) (waits waits' : List (List ℕ)) →
    pending ≡ pending' → marks ≡ marks' → ready ≡ ready' → waits ≡ waits' →
    AreSeated above done pending marks ready waits → AreSeated above done pending' marks' ready' waits'
seated_same above done pending pending' marks marks' ready ready' waits waits' e f g i h =
    subst (λ (ws : List (List ℕ)). AreSeated above done pending' marks' ready' ws) i
    (subst (λ (ks : List ℕ). AreSeated above done pending' marks' ks waits) g
    (subst (λ (ms : List Bool). AreSeated above done pending' ms ready waits) f
    (subst (λ (ps : List ℕ). AreSeated above done ps marks ready waits) e h)))
