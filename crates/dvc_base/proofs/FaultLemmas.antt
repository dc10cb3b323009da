-- Laws of kinds of faults.
--     may_be-wider      a fault of some kinds is one of more kinds
use Rattle.std.proofs.Common.{◌≡◌, ℕ, true, false, Bool, ◌||◌, ◌⊎◌, inl, inr, List, [], ◌∷◌, Option, Some, None, IsTrue, refl, sym, ap, subst, ◌==◌}
use Rattle.std.specs.List.{list_any, list_all}
use Rattle.std.proofs.lemmas.Bool.{and_parts, or_cases, false≢true, eqb-true}
use Rattle.dvc_base.specs.Fault.{is_one_of, place_of_kind, MayBe, kind_of}
use Rattle.dvc_base.specs.declared.fault.Fault.{Fault}
use Rattle.dvc_base.specs.declared.fault.FaultKind.{FaultKind}

elim_sum : {A B C : Type 0} → A ⊎ B → (A → C) → (B → C) → C
elim_sum (inl a) f g = f a
elim_sum (inr b) f g = g b

-- kinds of one place are one, as far as lists of kinds go
same_place : (b : List FaultKind) (k kind : FaultKind) → place_of_kind k ≡ place_of_kind kind → is_one_of b k ≡ true → is_one_of b kind ≡ true
same_place b k kind e h = subst (λ (n : ℕ). list_any (λ j. place_of_kind j == n) b ≡ true) e h

-- what holds of a kind at the head of a list of kinds, and of the others, holds of each of them
head_or_tail : {P : Type 0} (k kind : FaultKind) (any : Bool) → ((place_of_kind k == place_of_kind kind) || any) ≡ true
    → (place_of_kind k ≡ place_of_kind kind → P) → (any ≡ true → P) → P
head_or_tail k kind any h first other =
    elim_sum (or_cases (place_of_kind k == place_of_kind kind) any h) (λ e. first (eqb-true (place_of_kind k) (place_of_kind kind) e)) other

one_of-wider : (a b : List FaultKind) (kind : FaultKind) → list_all (is_one_of b) a ≡ true → is_one_of a kind ≡ true → is_one_of b kind ≡ true
one_of-wider [] b kind all any = absurd (false≢true any)
one_of-wider (k ∷ a) b kind all any =
    let parts = and_parts (is_one_of b k) (list_all (is_one_of b) a) all in
    head_or_tail k kind (is_one_of a kind) any (λ e. same_place b k kind e parts.0) (λ rest. one_of-wider a b kind parts.1 rest)

pub may_be-wider : (a b : List FaultKind) → IsTrue (list_all (is_one_of b) a) → (got : Option Fault) → MayBe a got → MayBe b got
may_be-wider a b all None h = h
may_be-wider a b all (Some fault) h = one_of-wider a b (kind_of fault) all h
