-- Answers of a command line, case by case.
--     kind_apart, ends_reading            of what kind a fault isn't; what stops the reading of a workspace
--     refused_first, none_gained          a refusal that comes before any turn
use Rattle.std.proofs.Common.{◌≡◌, ℕ, Bool, true, false, not, ◌||◌, List, [], ◌∷◌, ◌++◌, Option, Some, None, IsTrue, ◌==◌, refl, sym, ap, ◌∙◌, subst, ◌⊎◌, inl, inr}
use Rattle.std.specs.List.{list_any, list_all}
use Rattle.std.proofs.lemmas.Bool.{and_parts, or_cases, false≢true, eqb-true}
use Rattle.std.proofs.lemmas.List.{append-nil}
use Rattle.dvc_base.specs.Fault.{kind_of, place_of_kind, is_one_of, is_free, MayBe}
use Rattle.dvc_base.specs.Answer.{IsAnswer, GainsAs, Gains}
use Rattle.dvc_base.specs.declared.fault.Fault.{Fault}
use Rattle.dvc_base.specs.declared.fault.FaultKind.{FaultKind}
use Rattle.dvc_base.specs.declared.fault.FaultKind.TheVariants as k
use Rattle.repro_laws.specs.Refusals.{first_fault}
use Rattle.repro_core.proofs.GainLemmas.{front_none}
use Rattle.dvc_cli.specs.Workspace.{read_kinds}
use Rattle.dvc_cli.specs.Command.{halt_kinds}

-- ---- kinds

pub kind_apart : (kinds : List FaultKind) (fault : Fault) → is_one_of kinds (kind_of fault) ≡ false → (got : Option Fault) → MayBe kinds got → got ≡ Some fault → ⊥
kind_apart kinds fault out got h e = false≢true (sym out ∙ subst (MayBe kinds) e h)

same_place : (kinds : List FaultKind) (j kind : FaultKind) → place_of_kind j ≡ place_of_kind kind → is_one_of kinds j ≡ true → is_one_of kinds kind ≡ true
same_place kinds j kind e h = subst (λ (n : ℕ). list_any (λ i. place_of_kind i == n) kinds ≡ true) e h

elim_sum : {A B C : Type 0} → A ⊎ B → (A → C) → (B → C) → C
elim_sum (inl a) f g = f a
elim_sum (inr b) f g = g b

implied : (b c : Bool) → (not b || c) ≡ true → b ≡ true → c ≡ true
implied true c h e = h
implied false c h e = absurd (false≢true e)

-- of two lists of kinds, where what the first shares with the second is in the third
one_of-both : (a b c : List FaultKind) (kind : FaultKind) → list_all (λ j. not (is_one_of b j) || is_one_of c j) a ≡ true
    → is_one_of a kind ≡ true → is_one_of b kind ≡ true → is_one_of c kind ≡ true
one_of-both [] b c kind h p q = absurd (false≢true p)
one_of-both (j ∷ a) b c kind h p q =
    let parts = and_parts (not (is_one_of b j) || is_one_of c j) (list_all (λ j. not (is_one_of b j) || is_one_of c j) a) h in
    elim_sum (or_cases (place_of_kind j == place_of_kind kind) (is_one_of a kind) p)
    (λ e. let same = eqb-true (place_of_kind j) (place_of_kind kind) e in
    same_place c j kind same (implied (is_one_of b j) (is_one_of c j) parts.0 (same_place b kind j (sym same) q)))
    (λ rest. one_of-both a b c kind parts.1 rest q)

fault_is_none : (fault : Fault) → None ≡ Some fault → ⊥
fault_is_none fault e = cc

free_of : (fault : Fault) → IsAnswer (Some fault) None → is_free fault ≡ true
free_of fault (inl free) = free
free_of fault (inr e) = absurd (fault_is_none fault e)

-- where nothing is due to be refused, only want of memory and the world stop the reading
pub ends_reading : (fault : Fault) → MayBe read_kinds (Some fault) → IsAnswer (Some fault) None → MayBe halt_kinds (Some fault)
ends_reading fault read a =
    one_of-both (k.NoMemory ∷ k.WorldFault ∷ k.OutFault ∷ []) read_kinds halt_kinds (kind_of fault) refl (free_of fault a) read

-- ---- a refusal before any turn

-- an answer to the first refusal is one to the first of two
pub refused_first : (fault : Fault) (due later : Option Fault) → IsAnswer (Some fault) due → IsAnswer (Some fault) (first_fault due later)
refused_first fault due later (inl free) = inl free
refused_first fault due later (inr e) = inr (ap (λ d. first_fault d later) e)

gained_none : {A : Type 0} (free : Bool) (old whole : List A) → IsTrue free ⊎ (whole ≡ []) → GainsAs free old whole old
gained_none true old whole h = front_none old whole
gained_none false old whole (inl free) = absurd (false≢true free)
gained_none false old whole (inr e) = sym (append-nil old) ∙ ap (λ w. old ++ w) (sym e)

none_due : {A : Type 0} (fault : Fault) (due : Option Fault) (whole : List A) → IsAnswer (Some fault) due → (due ≡ Some fault → whole ≡ [])
    → IsTrue (is_free fault) ⊎ (whole ≡ [])
none_due fault due whole (inl free) none = inl free
none_due fault due whole (inr e) none = inr (none e)

-- nothing is due where the refusal is, so nothing was gained
pub none_gained : {A : Type 0} (fault : Fault) (due : Option Fault) (old whole : List A) → IsAnswer (Some fault) due
    → (due ≡ Some fault → whole ≡ []) → Gains (Some fault) old whole old
none_gained fault due old whole a none = gained_none (is_free fault) old whole (none_due fault due whole a none)
