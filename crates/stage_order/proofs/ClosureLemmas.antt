-- In the order each stage stands behind those above it, and chosen stages bring those above them.
--     behind_order         in the order each stage stands once, and behind all that are above it
--     brought_closure      what chosen stages bring is what they and those above them are
use Rattle.std.proofs.Common.{◌≡◌, ℕ, zero, suc, Bool, true, false, not, ◌&&◌, ◌||◌, ◌==◌, cond, List, [], ◌∷◌, ◌++◌, length, Option, Some, None, refl, sym, ap, ◌∙◌, subst, ◌⊎◌, inl, inr}
use Rattle.std.specs.List.{list_any, list_all, find, range_with_len}
use Rattle.std.specs.Option.{option_map_or}
use Rattle.std.proofs.lemmas.Bool.{cases_Bool, or_cases, or_left, or_right, and_parts, eqb-true, eq-eqb, not-true, false≢true, false_from_ne_true}
use Rattle.stage_order.specs.Order.{is_in, above_of, is_next, next, order_from, order}
use Rattle.stage_order.specs.Brought.{brought, with_wanted, is_wanted}
use Rattle.stage_order.specs.Closure.{StandsBehind, IsClosure}
use Rattle.stage_order.proofs.NumberLemmas.{either, in_push, in_old, not_in_push, all_at}

-- ---- lists of numbers

any_at : (t : ℕ → Bool) (ns : List ℕ) (b : ℕ) → is_in ns b ≡ true → t b ≡ true → list_any t ns ≡ true
any_at t [] b h met = h
any_at t (n ∷ ns) b h met = either (or_cases (n == b) (is_in ns b) h)
    (λ same. or_left (t n) (list_any t ns) (ap t (eqb-true n b same) ∙ met))
    (λ later. or_right (t n) (list_any t ns) (any_at t ns b later met))

-- a number of a list that passes a test
record IsSome (t : ℕ → Bool) (ns : List ℕ) : Type 0 where
  pub at : ℕ
  pub inside : is_in ns at ≡ true
  pub passes : t at ≡ true

some_in : (t : ℕ → Bool) (ns : List ℕ) → list_any t ns ≡ true → IsSome t ns
some_in t [] h = absurd (false≢true h)
some_in t (n ∷ ns) h = either (or_cases (t n) (list_any t ns) h)
    (λ met. record { at = n; inside = or_left (n == n) (is_in ns n) (eq-eqb n n refl); passes = met })
    (λ later. let more = some_in t ns later in
    record { at = more.at; inside = or_right (n == more.at) (is_in ns more.at) more.inside; passes = more.passes })

some_same : (a b : ℕ) → Some a ≡ Some b → a ≡ b
some_same a b e = cc

none_some : (a : ℕ) → None ≡ Some a → ⊥
none_some a e = cc

find_passes : (t : ℕ → Bool) (ns : List ℕ) (s : ℕ) → find t ns ≡ Some s → t s ≡ true
find_passes t [] s e = absurd (none_some s e)
find_passes t (n ∷ ns) s e = either (cases_Bool (t n))
    (λ met. sym (ap t (some_same n s (sym (ap (λ (b : Bool). cond b (Some n) (find t ns)) met) ∙ e))) ∙ met)
    (λ unmet. find_passes t ns s (sym (ap (λ (b : Bool). cond b (Some n) (find t ns)) unmet) ∙ e))

-- ---- the order

-- all above the stages that are done are done
abbrev HasAbove : List (List ℕ) → List ℕ → Type 0
HasAbove above done = (b n : ℕ) → is_in done b ≡ true → is_in (above_of above b) n ≡ true → is_in done n ≡ true

behind_push : (above : List (List ℕ)) (pre : List ℕ) (s : ℕ) → StandsBehind above pre → ((b : ℕ) → is_in pre b ≡ true → is_in (above_of above b) s ≡ false) →
    is_in pre s ≡ false → is_in (above_of above s) s ≡ false → StandsBehind above (pre ++ s ∷ [])
behind_push above [] s h others out alone =
    ((λ n met. not_in_push [] s n refl (λ e. false≢true (sym alone ∙ ap (is_in (above_of above s)) e ∙ met))), refl, tt)
behind_push above (k ∷ pre) s h others out alone = (
  (λ n met. not_in_push (k ∷ pre) s n (h.0 n met)
      (λ e. false≢true (sym (others k (or_left (k == k) (is_in pre k) (eq-eqb k k refl))) ∙ ap (is_in (above_of above k)) e ∙ met))),
  not_in_push pre s k h.1 (λ e. false≢true (sym out ∙ or_left (k == s) (is_in pre s) (eq-eqb k s (sym e)))),
  behind_push above pre s h.2 (λ b inside. others b (or_right (k == b) (is_in pre b) inside)) (apart (k == s) (is_in pre s) out) alone,
)
  where
    apart : (a b : Bool) → (a || b) ≡ false → b ≡ false
    apart true b e = absurd (false≢true (sym e))
    apart false b e = e

above_push : (above : List (List ℕ)) (done : List ℕ) (s : ℕ) → list_all (is_in done) (above_of above s) ≡ true → HasAbove above done → HasAbove above (done ++ s ∷ [])
above_push above done s all h b n inside met = either (or_cases (is_in done b) (s == b) (sym (in_push done s b) ∙ inside))
    (λ old. in_old done s n (h b n old met))
    (λ same. in_old done s n (all_at (is_in done) (above_of above s) n all (ap (λ (k : ℕ). is_in (above_of above k) n) (eqb-true s b same) ∙ met)))

behind_from : (n : ℕ) (above : List (List ℕ)) (done : List ℕ) → StandsBehind above done → HasAbove above done → StandsBehind above (order_from n above done)
behind_from zero above done h has = h
behind_from (suc n) above done h has = go (next above done) refl (λ s behind more. behind_from n above (done ++ s ∷ []) behind more)
  where
    go : (o : Option ℕ) → next above done ≡ o →
        ((s : ℕ) → StandsBehind above (done ++ s ∷ []) → HasAbove above (done ++ s ∷ []) → StandsBehind above (order_from n above (done ++ s ∷ []))) →
        StandsBehind above (option_map_or (λ s. order_from n above (done ++ s ∷ [])) o done)
    go None e later = h
    go (Some s) e later =
        let both = and_parts (not (is_in done s)) (list_all (is_in done) (above_of above s)) (find_passes (is_next above done) (range_with_len 0 (length above)) s e) in
        let out = not-true (is_in done s) both.0 in
        let alone : (b : ℕ) → (is_in (above_of above b) s ≡ true → is_in done s ≡ true) → is_in (above_of above b) s ≡ false =
        λ b leads. false_from_ne_true (is_in (above_of above b) s) (λ met. false≢true (sym out ∙ leads met)) in
        later s
        (behind_push above done s h (λ b inside. alone b (λ met. has b s inside met)) out
        (alone s (λ met. all_at (is_in done) (above_of above s) s both.1 met)))
        (above_push above done s both.1 has)

pub behind_order : (above : List (List ℕ)) → StandsBehind above (order above)
behind_order above = behind_from (length above) above [] tt (λ b n inside met. absurd (false≢true inside))

-- ---- what chosen stages bring

in_with : (above : List (List ℕ)) (chosen old : List ℕ) (k s : ℕ) → is_in old s ≡ true → is_in (with_wanted above chosen old k) s ≡ true
in_with above chosen old k s h = either (cases_Bool (is_wanted above chosen old k))
    (λ met. ap (λ (b : Bool). is_in (cond b (k ∷ old) old) s) met ∙ or_right (k == s) (is_in old s) h)
    (λ unmet. ap (λ (b : Bool). is_in (cond b (k ∷ old) old) s) unmet ∙ h)

new_with : (above : List (List ℕ)) (chosen old : List ℕ) (k s : ℕ) → k ≡ s → is_wanted above chosen old k ≡ true → is_in (with_wanted above chosen old k) s ≡ true
new_with above chosen old k s e met = ap (λ (b : Bool). is_in (cond b (k ∷ old) old) s) met ∙ or_left (k == s) (is_in old s) (eq-eqb k s e)

from_with : (above : List (List ℕ)) (chosen old : List ℕ) (k s : ℕ) → is_in (with_wanted above chosen old k) s ≡ true →
    ((k ≡ s) × (is_wanted above chosen old k ≡ true)) ⊎ (is_in old s ≡ true)
from_with above chosen old k s h = either (cases_Bool (is_wanted above chosen old k))
    (λ met. either (or_cases (k == s) (is_in old s) (sym (ap (λ (b : Bool). is_in (cond b (k ∷ old) old) s) met) ∙ h))
    (λ same. inl (eqb-true k s same, met)) (λ inside. inr inside))
    (λ unmet. inr (sym (ap (λ (b : Bool). is_in (cond b (k ∷ old) old) s) unmet) ∙ h))

brought_within : (above : List (List ℕ)) (chosen order : List ℕ) (s : ℕ) → is_in (brought above chosen order) s ≡ true → is_in order s ≡ true
brought_within above chosen [] s h = h
brought_within above chosen (k ∷ later) s h = either (from_with above chosen (brought above chosen later) k s h)
    (λ here. or_left (k == s) (is_in later s) (eq-eqb k s here.0))
    (λ inside. or_right (k == s) (is_in later s) (brought_within above chosen later s inside))

brought_chosen : (above : List (List ℕ)) (chosen order : List ℕ) (s : ℕ) → is_in order s ≡ true → is_in chosen s ≡ true → is_in (brought above chosen order) s ≡ true
brought_chosen above chosen [] s h met = h
brought_chosen above chosen (k ∷ later) s h met =
    let old = brought above chosen later in
    either (or_cases (k == s) (is_in later s) h)
    (λ same. new_with above chosen old k s (eqb-true k s same)
    (or_left (is_in chosen k) (list_any (λ b. is_in (above_of above b) k) old) (ap (is_in chosen) (eqb-true k s same) ∙ met)))
    (λ inside. in_with above chosen old k s (brought_chosen above chosen later s inside met))

brought_above : (above : List (List ℕ)) (chosen order : List ℕ) → StandsBehind above order → (b s : ℕ) →
    is_in (brought above chosen order) b ≡ true → is_in (above_of above b) s ≡ true → is_in order s ≡ true → is_in (brought above chosen order) s ≡ true
brought_above above chosen [] h b s taken met inside = inside
brought_above above chosen (k ∷ later) h b s taken met inside =
    let old = brought above chosen later in
    either (from_with above chosen old k b taken)
    (λ here. absurd (false≢true (sym (h.0 s (ap (λ (n : ℕ). is_in (above_of above n) s) here.0 ∙ met)) ∙ inside)))
    (λ in_old. either (or_cases (k == s) (is_in later s) inside)
    (λ same. let e = eqb-true k s same in new_with above chosen old k s e
    (or_right (is_in chosen k) (list_any (λ c. is_in (above_of above c) k) old)
    (any_at (λ c. is_in (above_of above c) k) old b in_old (ap (is_in (above_of above b)) e ∙ met))))
    (λ behind. in_with above chosen old k s (brought_above above chosen later h.2 b s in_old met behind)))

brought_least : (above : List (List ℕ)) (chosen order : List ℕ) (t : ℕ → Bool) → ((s : ℕ) → is_in chosen s ≡ true → t s ≡ true) →
    ((b s : ℕ) → t b ≡ true → is_in (above_of above b) s ≡ true → t s ≡ true) → (s : ℕ) → is_in (brought above chosen order) s ≡ true → t s ≡ true
brought_least above chosen [] t first further s h = absurd (false≢true h)
brought_least above chosen (k ∷ later) t first further s h =
    let old = brought above chosen later in
    let rest : (n : ℕ) → is_in old n ≡ true → t n ≡ true = λ n inside. brought_least above chosen later t first further n inside in
    either (from_with above chosen old k s h)
    (λ here. sym (ap t here.0) ∙ either (or_cases (is_in chosen k) (list_any (λ b. is_in (above_of above b) k) old) here.1)
    (λ met. first k met)
    (λ wanted. let one = some_in (λ b. is_in (above_of above b) k) old wanted in further one.at k (rest one.at one.inside) one.passes))
    (λ inside. rest s inside)

pub brought_closure : (above : List (List ℕ)) (chosen order : List ℕ) → StandsBehind above order → IsClosure above chosen order (brought above chosen order)
brought_closure above chosen order h = record {
  within = brought_within above chosen order;
  has_chosen = brought_chosen above chosen order;
  has_above = brought_above above chosen order h;
  no_other = brought_least above chosen order;
}
