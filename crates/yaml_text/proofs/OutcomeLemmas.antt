-- What an outcome tells of the steps that it was made of.
use Rattle.std.proofs.Common.{◌≡◌, Bool, true, false, cond, ◌⊎◌, inl, inr, Ok, Err, refl, subst}
use Rattle.std.specs.Result.{IfOk}
use Rattle.yaml_text.specs.declared.refusal.Refusal.{Refusal}
use Rattle.yaml_text.specs.Outcome.{Outcome, ◌>>=◌}

pub chosen : {A : Type 0} (b : Bool) (x y z : A) → cond b x y ≡ z → ((b ≡ true) × (x ≡ z)) ⊎ ((b ≡ false) × (y ≡ z))
chosen true x y z h = inl (refl, h)
chosen false x y z h = inr (refl, h)

pub bind_ok : {A B : Type 0} (o : Outcome A) (f : A → Outcome B) (y : B) → (o >>= f) ≡ Ok y → (x : A) × ((o ≡ Ok x) × (f x ≡ Ok y))
bind_ok (Ok x) f y h = (x, (refl, h))
bind_ok (Err e) f y h = absurd (cc)

-- what holds of a value, however it was come by
pub then_ok : {A B : Type 0} (P : A → Type 0) (Q : B → Type 0) (o : Outcome A) (f : A → Outcome B) → IfOk o P → ((a : A) → P a → IfOk (f a) Q) → IfOk (o >>= f) Q
then_ok P Q (Ok a) f h k = k a h
then_ok P Q (Err e) f h k = tt

pub chosen_ok : {A : Type 0} (P : A → Type 0) (b : Bool) (x y : Outcome A) → IfOk x P → IfOk y P → IfOk (cond b x y) P
chosen_ok P true x y h k = h
chosen_ok P false x y h k = k

pub ok_at : {A : Type 0} (P : A → Type 0) (o : Outcome A) (x : A) → o ≡ Ok x → IfOk o P → P x
ok_at P o x is h = subst (λ v. IfOk v P) is h

-- ---- the cases of a value

pub outcome_is : {A : Type 0} (o : Outcome A) → ((a : A) × (o ≡ Ok a)) ⊎ ((e : Refusal) × (o ≡ Err e))
outcome_is (Ok a) = inl (a, refl)
outcome_is (Err e) = inr (e, refl)

-- some outcome is given
abbrev pub Gives : {A : Type 0} → (Outcome A → Type 0) → Type 0
Gives {A} P = (o : Outcome A) × P o

pub given : {A : Type 0} (P : Outcome A → Type 0) → Gives P → ((a : A) × P (Ok a)) ⊎ ((e : Refusal) × P (Err e))
given P (Ok a, h) = inl (a, h)
given P (Err e, h) = inr (e, h)
