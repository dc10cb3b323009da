-- Reading in turns, one turn at a time.
use Rattle.std.proofs.Common.{◌≡◌, ℕ, zero, suc, ◌<◌, Bool, true, false, cond, length, Ok, Err, refl, ap, sym, ◌∙◌, arith}
use Rattle.yaml_text.specs.Outcome.{Text, Outcome, ◌>>=◌}
use Rattle.yaml_text.specs.declared.refusal.Refusal.{Refusal}
use Rattle.yaml_scalars.specs.Turns.{Turn, turns_within, all_turns}

-- each turn but the last takes something
abbrev pub Shrinks : {S : Type 0} → (S → Text → Outcome (Turn S)) → Type 0
Shrinks {S} turn = (s : S) (t : Text) (r : S × Text) → turn s t ≡ Ok (false, r) → length r.1 < length t

enough_by : {S : Type 0} (turn : S → Text → Outcome (Turn S)) → Shrinks turn → (n m : ℕ) (s : S) (t : Text) → length t < suc n → length t < suc m
    → ((r : S) (u : Text) → length u < n → length u < m → turns_within turn n r u ≡ turns_within turn m r u)
    → (o : Outcome (Turn S)) → turn s t ≡ o
    → (o >>= λ r. cond r.0 (Ok r.1) (turns_within turn n r.1.0 r.1.1)) ≡ (o >>= λ r. cond r.0 (Ok r.1) (turns_within turn m r.1.0 r.1.1))
enough_by turn sh n m s t h k rest (Err e) is = refl
enough_by turn sh n m s t h k rest (Ok (true, r)) is = refl
enough_by turn sh n m s t h k rest (Ok (false, r)) is =
    let less : length r.1 < length t = sh s t r is in rest r.0 r.1 (omega arith) (omega arith)

enough : {S : Type 0} (turn : S → Text → Outcome (Turn S)) → Shrinks turn → (n m : ℕ) (s : S) (t : Text) → length t < n → length t < m → turns_within turn n s t ≡ turns_within turn m s t
enough turn sh zero m s t h k = absurd (omega arith)
enough turn sh (suc n) zero s t h k = absurd (omega arith)
enough turn sh (suc n) (suc m) s t h k = enough_by turn sh n m s t h k (λ r u. enough turn sh n m r u) (turn s t) refl

step_by : {S : Type 0} (turn : S → Text → Outcome (Turn S)) → Shrinks turn → (s : S) (t : Text) → (o : Outcome (Turn S)) → turn s t ≡ o
    → (o >>= λ r. cond r.0 (Ok r.1) (turns_within turn (length t) r.1.0 r.1.1)) ≡ (o >>= λ r. cond r.0 (Ok r.1) (all_turns turn r.1.0 r.1.1))
unfolding all_turns
step_by turn sh s t (Err e) is = refl
step_by turn sh s t (Ok (true, r)) is = refl
step_by turn sh s t (Ok (false, r)) is =
    let less : length r.1 < length t = sh s t r is in enough turn sh (length t) (suc (length r.1)) r.0 r.1 (omega arith) (omega arith)

-- one turn, and then all that follow it
pub turns_step : {S : Type 0} (turn : S → Text → Outcome (Turn S)) → Shrinks turn → (s : S) (t : Text)
    → (turn s t >>= λ r. cond r.0 (Ok r.1) (all_turns turn r.1.0 r.1.1)) ≡ all_turns turn s t
unfolding all_turns
turns_step turn sh s t = sym (step_by turn sh s t (turn s t) refl)

true_false : true ≡ false → ⊥
true_false h = absurd (cc)

-- the last turn is no other one
pub last_only : {S : Type 0} {x y : S × Text} → (let a : Turn S = (true, x) in a) ≡ (false, y) → ⊥
last_only h = true_false (ap (λ p. p.0) h)

pub ok_same : {A : Type 0} {x y : A} → (let a : Outcome A = Ok x in a) ≡ Ok y → x ≡ y
ok_same h = cc

-- ---- turns that take something

-- what is left after an outcome that isn't the last is less than n
abbrev pub Less : {S : Type 0} → ℕ → Outcome (Turn S) → Type 0
Less n (Ok r) = r.0 ≡ false → length r.1.1 < n
Less n (Err e) = Unit {0}

pub cond_less : {S : Type 0} (n : ℕ) (b : Bool) (x y : Outcome (Turn S)) → Less n x → Less n y → Less n (cond b x y)
cond_less n true x y h k = h
cond_less n false x y h k = k

pub less_ok : {S : Type 0} (n : ℕ) (o : Outcome (Turn S)) (r : S × Text) → o ≡ Ok (false, r) → Less n o → length r.1 < n
less_ok n (Ok x) r is h =
    let same = ok_same is in
    let short = h (ap (λ v. v.0) same) in
    omega (arith, short, ap (λ v. length v.1.1) same)
less_ok n (Err e) r is h = absurd (cc)

pub true_is_last : true ≡ false → ⊥
true_is_last h = true_false h

-- ---- a turn whose outcome is known

pub turns_err : {S : Type 0} (turn : S → Text → Outcome (Turn S)) → Shrinks turn → (s : S) (t : Text) (e : Refusal) → turn s t ≡ Err e → all_turns turn s t ≡ Err e
turns_err turn sh s t e is = sym (turns_step turn sh s t) ∙ ap (λ o. o >>= λ r. cond r.0 (Ok r.1) (all_turns turn r.1.0 r.1.1)) is

pub turns_last : {S : Type 0} (turn : S → Text → Outcome (Turn S)) → Shrinks turn → (s : S) (t : Text) (r : S × Text) → turn s t ≡ Ok (true, r) → all_turns turn s t ≡ Ok r
turns_last turn sh s t r is = sym (turns_step turn sh s t) ∙ ap (λ o. o >>= λ r. cond r.0 (Ok r.1) (all_turns turn r.1.0 r.1.1)) is

pub turns_more : {S : Type 0} (turn : S → Text → Outcome (Turn S)) → Shrinks turn → (s : S) (t : Text) (r : S × Text) → turn s t ≡ Ok (false, r)
    → all_turns turn s t ≡ all_turns turn r.0 r.1
turns_more turn sh s t r is = sym (turns_step turn sh s t) ∙ ap (λ o. o >>= λ r. cond r.0 (Ok r.1) (all_turns turn r.1.0 r.1.1)) is
