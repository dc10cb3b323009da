-- Checks one after another, and the first fault of a list.
--     after_none, after_some       the first of two faults
--     or_none, or_same             no second fault, and the first of three
--     step_none, step_some         the fault of what is left of a list, where the next member has none, or one
--     due_same, due_first          the fault that is told, of the same, and of the first of two
--     checks_same, checks_err      an answer to the same fault, and the exit of a step that tells one
use Rattle.std.proofs.Common.{◌≡◌, ℕ, ◌+◌, ◌<◌, List, length, drop, get_or, Option, Some, None, Result, Err, refl, sym, ap, ◌∙◌, subst, ◌⊎◌, inl, inr}
use Rattle.std.specs.Option.{option_or}
use Rattle.std.proofs.lemmas.List.{drop_more}
use Rattle.dvc_base.specs.declared.fault.Fault.{Fault}
use Rattle.dvc_base.specs.declared.fault.Fault.TheVariants as f
use Rattle.stage_graph.specs.Fault.{Checks, first_of}

pub after_none : (a b : Option Fault) → a ≡ None → option_or a b ≡ b
after_none a b e = ap (λ (o : Option Fault). option_or o b) e

pub after_some : (a b : Option Fault) (fault : Fault) → a ≡ Some fault → option_or a b ≡ Some fault
after_some a b fault e = ap (λ (o : Option Fault). option_or o b) e

pub or_none : (a : Option Fault) → option_or a None ≡ a
or_none None = refl
or_none (Some fault) = refl

pub or_same : (a b c : Option Fault) → option_or (option_or a b) c ≡ option_or a (option_or b c)
or_same None b c = refl
or_same (Some fault) b c = refl

-- the fault is for want of memory, or is the one that is due
abbrev pub IsTold : Option Fault → Fault → Type 0
IsTold due fault = (fault ≡ f.NoMemory) ⊎ (due ≡ Some fault)

pub due_same : (a b : Option Fault) (fault : Fault) → b ≡ a → IsTold a fault → IsTold b fault
due_same a b fault e h = subst (λ (due : Option Fault). IsTold due fault) (sym e) h

pub due_first : (a b : Option Fault) (fault : Fault) → IsTold a fault → IsTold (option_or a b) fault
due_first a b fault (inl h) = inl h
due_first a b fault (inr h) = inr (after_some a b fault h)

pub step_none : {A : Type 0} (g : A → Option Fault) (xs : List A) (i : ℕ) (d : A) → i < length xs → g (get_or xs i d) ≡ None →
    first_of g (drop i xs) ≡ first_of g (drop (i + 1) xs)
step_none g xs i d inside none =
    ap (first_of g) (drop_more xs i d inside) ∙ after_none (g (get_or xs i d)) (first_of g (drop (i + 1) xs)) none

pub step_some : {A : Type 0} (g : A → Option Fault) (xs : List A) (i : ℕ) (d : A) (fault : Fault) → i < length xs → g (get_or xs i d) ≡ Some fault →
    first_of g (drop i xs) ≡ Some fault
step_some g xs i d fault inside some =
    ap (first_of g) (drop_more xs i d inside) ∙ after_some (g (get_or xs i d)) (first_of g (drop (i + 1) xs)) fault some

pub checks_same : {T : Type 0} (r : Result T Fault) (a b : Option Fault) → a ≡ b → Checks r a → Checks r b
checks_same r a b e h = subst (λ (due : Option Fault). Checks r due) e h

pub checks_err : {T : Type 0} (r : Result T Fault) (due : Option Fault) (y fault : Fault) → r ≡ Err y → y ≡ fault → IsTold due fault → Checks r due
checks_err {T} r due y fault e same h = subst (λ (o : Result T Fault). Checks o due) (sym e) (subst (IsTold due) (sym same) h)
