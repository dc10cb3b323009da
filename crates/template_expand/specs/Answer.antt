-- Answers that may be refused, one after another.
--     then_by next got         what follows an Ok; a refusal counts at once
--     all_by f xs              what f gives of each, or the first refusal
--     folded_by step made xs   what the steps make one after another, or the first refusal
--     IsAnswer got due         the answer is the one that is due, unless memory ran out
--     Leaves got new due       after Ok a call leaves what is due; its refusal is the one that is due, unless memory ran out
--     fault_of file why        a refusal of variables, which came from this file
use Rattle.std.specs.Prelude.{◌≡◌, List, [], ◌∷◌, Result, Ok, Err}
use Rattle.dvc_base.specs.Path.{Path}
use Rattle.template_vars.specs.declared.fault.TemplateFault.{TemplateFault}
use Rattle.template_vars.specs.declared.fault.TemplateFault.TheVariants as t
use Rattle.stage_schema.specs.declared.fault.ExpandFault.{ExpandFault}
use Rattle.stage_schema.specs.declared.fault.ExpandFault.TheVariants as e

abbrev pub Answer : Type 0 → Type 0
Answer A = Result A ExpandFault

abbrev pub then_by : {A B : Type 0} → (A → Answer B) → Answer A → Answer B
then_by next (Ok x) = next x
then_by next (Err fault) = Err fault

abbrev pub all_by : {A B : Type 0} → (A → Answer B) → List A → Answer (List B)
all_by f [] = Ok []
all_by f (x ∷ xs) = then_by (λ y. then_by (λ ys. Ok (y ∷ ys)) (all_by f xs)) (f x)

abbrev pub folded_by : {A B : Type 0} → (B → A → Answer B) → B → List A → Answer B
folded_by step made [] = Ok made
folded_by step made (x ∷ xs) = then_by (λ next. folded_by step next xs) (step made x)

abbrev pub Ends : {A : Type 0} → ExpandFault → Answer A → Type 0
Ends e.NoMemory due = Unit {0}
Ends fault due = due ≡ Err fault

abbrev pub IsAnswer : {A : Type 0} → Answer A → Answer A → Type 0
IsAnswer (Ok x) due = due ≡ Ok x
IsAnswer (Err fault) due = Ends fault due

abbrev pub Leaves : {A B : Type 0} → Result A ExpandFault → B → Answer B → Type 0
Leaves (Ok done) new due = due ≡ Ok new
Leaves (Err fault) new due = Ends fault due

-- the variables that stand in `dvc.yaml` itself have no file, and no key of a file is asked of them
abbrev pub fault_of : Path → TemplateFault → ExpandFault
fault_of file (t.Schema key) = e.Schema key
fault_of file (t.NoVariable key) = e.NoVariable key
fault_of file (t.NotScalar key) = e.NotScalar key
fault_of file (t.NoKey key) = e.NoKey file key
fault_of file t.NoMemory = e.NoMemory

abbrev pub told_of : {A : Type 0} → Path → Result A TemplateFault → Answer A
told_of file (Ok x) = Ok x
told_of file (Err why) = Err (fault_of file why)
