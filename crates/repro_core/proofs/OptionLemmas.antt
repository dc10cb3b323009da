-- What holds where an effect is told.
--     if_some, if_some_at     of each one that may be told, and of the one that is told
--     if_some_on              one such fact by another
use Rattle.std.proofs.Common.{◌≡◌, refl, subst, Option, Some, None, IfSome}

pub if_some : {A : Type 0} (o : Option A) (P : A → Type 0) → ((x : A) → o ≡ Some x → P x) → IfSome o P
if_some None P f = tt
if_some (Some x) P f = f x refl

pub if_some_at : {A : Type 0} (o : Option A) (P : A → Type 0) (x : A) → o ≡ Some x → IfSome o P → P x
if_some_at {A = A} o P x e h = subst (λ (q : Option A). IfSome q P) e h

pub if_some_on : {A : Type 0} (o : Option A) (P Q : A → Type 0) → ((x : A) → o ≡ Some x → P x → Q x) → IfSome o P → IfSome o Q
if_some_on None P Q f h = tt
if_some_on (Some x) P Q f h = f x refl h
