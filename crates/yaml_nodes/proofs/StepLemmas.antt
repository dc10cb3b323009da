-- Reading in turns, one turn at a time.
use Rattle.std.proofs.Common.{◌≡◌, ℕ, zero, suc, ◌<◌, ltb, lt-ltb, Bool, true, false, cond, length, Ok, Err, refl, ap, sym, ◌∙◌, arith}
use Rattle.std.proofs.lemmas.Bool.Decides.{nat_tests}
use Rattle.yaml_text.specs.declared.refusal.Refusal.{Refusal}
use Rattle.yaml_text.specs.Outcome.{Text, Outcome, Step, ◌>>=◌, syntax}
use Rattle.yaml_scalars.specs.Turns.{Turn}
use Rattle.yaml_nodes.specs.Part.{steps_within, steps}

-- the turns behind a turn from t, where `short` tells whether that took something
abbrev go : {S : Type 0} → (S → Text → Outcome (Turn S)) → ℕ → Text → Turn S → Bool → Step S
go turn n t r short = cond r.0 (Ok r.1) (cond short (steps_within turn n r.1.0 r.1.1) (syntax t))

lt_of : (a b : ℕ) → ltb a b ≡ true → a < b
lt_of a b h = grind (arith, nat_tests)

go_by : {S : Type 0} (turn : S → Text → Outcome (Turn S)) (n m : ℕ) (t : Text) (r : Turn S) (short : Bool) → ltb (length r.1.1) (length t) ≡ short
    → (length r.1.1 < length t → steps_within turn n r.1.0 r.1.1 ≡ steps_within turn m r.1.0 r.1.1) → go turn n t r short ≡ go turn m t r short
go_by turn n m t (true, r) short is rest = refl
go_by turn n m t (false, r) false is rest = refl
go_by turn n m t (false, r) true is rest = rest (lt_of (length r.1) (length t) is)

enough_by : {S : Type 0} (turn : S → Text → Outcome (Turn S)) (n m : ℕ) (t : Text) → length t < suc n → length t < suc m
    → ((r : S) (u : Text) → length u < n → length u < m → steps_within turn n r u ≡ steps_within turn m r u)
    → (o : Outcome (Turn S))
    → (o >>= λ r. go turn n t r (ltb (length r.1.1) (length t))) ≡ (o >>= λ r. go turn m t r (ltb (length r.1.1) (length t)))
enough_by turn n m t h k rest (Err e) = refl
enough_by turn n m t h k rest (Ok r) =
    go_by turn n m t r (ltb (length r.1.1) (length t)) refl (λ less. rest r.1.0 r.1.1 (omega arith) (omega arith))

enough : {S : Type 0} (turn : S → Text → Outcome (Turn S)) (n m : ℕ) (s : S) (t : Text) → length t < n → length t < m → steps_within turn n s t ≡ steps_within turn m s t
enough turn zero m s t h k = absurd (omega arith)
enough turn (suc n) zero s t h k = absurd (omega arith)
enough turn (suc n) (suc m) s t h k = enough_by turn n m t h k (λ r u. enough turn n m r u) (turn s t)

last_by : {S : Type 0} (turn : S → Text → Outcome (Turn S)) (t : Text) (r : Turn S) (short : Bool) → ltb (length r.1.1) (length t) ≡ short
    → go turn (length t) t r short ≡ cond r.0 (Ok r.1) (cond short (steps turn r.1.0 r.1.1) (syntax t))
unfolding steps
last_by turn t (true, r) short is = refl
last_by turn t (false, r) false is = refl
last_by turn t (false, r) true is =
    let less : length r.1 < length t = lt_of (length r.1) (length t) is in
    enough turn (length t) (suc (length r.1)) r.0 r.1 less (omega arith)

step_by : {S : Type 0} (turn : S → Text → Outcome (Turn S)) (t : Text) (o : Outcome (Turn S))
    → (o >>= λ r. go turn (length t) t r (ltb (length r.1.1) (length t)))
    ≡ (o >>= λ r. cond r.0 (Ok r.1) (cond (ltb (length r.1.1) (length t)) (steps turn r.1.0 r.1.1) (syntax t)))
step_by turn t (Err e) = refl
step_by turn t (Ok r) = last_by turn t r (ltb (length r.1.1) (length t)) refl

-- one turn, and then all that follow it
pub steps_step : {S : Type 0} (turn : S → Text → Outcome (Turn S)) (s : S) (t : Text)
    → (turn s t >>= λ r. cond r.0 (Ok r.1) (cond (ltb (length r.1.1) (length t)) (steps turn r.1.0 r.1.1) (syntax t))) ≡ steps turn s t
unfolding steps
steps_step turn s t = sym (step_by turn t (turn s t))

-- what follows the turn from t
abbrev rest : {S : Type 0} → (S → Text → Outcome (Turn S)) → Text → Turn S → Step S
rest turn t r = cond r.0 (Ok r.1) (cond (ltb (length r.1.1) (length t)) (steps turn r.1.0 r.1.1) (syntax t))

pub steps_err : {S : Type 0} (turn : S → Text → Outcome (Turn S)) (s : S) (t : Text) (e : Refusal) → turn s t ≡ Err e → steps turn s t ≡ Err e
steps_err turn s t e is = sym (steps_step turn s t) ∙ ap (λ o. o >>= rest turn t) is

pub steps_last : {S : Type 0} (turn : S → Text → Outcome (Turn S)) (s : S) (t : Text) (r : S × Text) → turn s t ≡ Ok (true, r) → steps turn s t ≡ Ok r
steps_last turn s t r is = sym (steps_step turn s t) ∙ ap (λ o. o >>= rest turn t) is

pub steps_more : {S : Type 0} (turn : S → Text → Outcome (Turn S)) (s : S) (t : Text) (r : S × Text) → turn s t ≡ Ok (false, r) → length r.1 < length t
    → steps turn s t ≡ steps turn r.0 r.1
steps_more turn s t r is less =
    sym (steps_step turn s t) ∙ ap (λ o. o >>= rest turn t) is ∙ ap (λ b. cond b (steps turn r.0 r.1) (syntax t)) (lt-ltb (length r.1) (length t) less)
