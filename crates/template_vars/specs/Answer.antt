-- What an answer has to do with what is due.
--     IsAnswer got due      the answer is the one that is due, unless memory ran out
--     Leaves got new due    after Ok a call leaves what is due; its refusal is the one that is due, unless memory ran out
use Rattle.std.specs.Prelude.{◌≡◌, Result, Ok, Err}
use Rattle.template_vars.specs.declared.fault.TemplateFault.{TemplateFault}
use Rattle.template_vars.specs.declared.fault.TemplateFault.TheVariants.{NoMemory}

abbrev pub Ends : {A : Type 0} → TemplateFault → Result A TemplateFault → Type 0
Ends NoMemory due = Unit {0}
Ends fault due = due ≡ Err fault

abbrev pub IsAnswer : {A : Type 0} → Result A TemplateFault → Result A TemplateFault → Type 0
IsAnswer (Ok value) due = due ≡ Ok value
IsAnswer (Err fault) due = Ends fault due

abbrev pub Leaves : {A B : Type 0} → Result A TemplateFault → B → Result B TemplateFault → Type 0
Leaves (Ok done) new due = due ≡ Ok new
Leaves (Err fault) new due = Ends fault due
