-- What a reader answers.
--     ends_of                        the refusal of a node is that of its value
--     answer_by, ends_by             the same of an answer that is known to be another
--     value_free                     the value of a node of which nothing is refused
use Rattle.std.proofs.Common.{◌≡◌, None, Result, Ok, sym, ap, subst, ◌∙◌}
use Rattle.lock_files.specs.declared.fault.LockFault.{LockFault}
use Rattle.lock_files.specs.declared.fault.LockFault.TheVariants.{Yaml, Schema, Unsupported, Legacy, NoMemory}
use Rattle.lock_files.specs.Refused.{Refusal}
use Rattle.lock_files.specs.Read.{Refuses, Ends, IsAnswer, value_unless}

pub ends_of : {A : Type 0} (fault : LockFault) (due : Refusal) (value : A) → Refuses fault due → Ends fault (value_unless due value)
ends_of NoMemory due value h = tt
ends_of (Yaml why) due value h = ap (λ d. value_unless d value) h
ends_of (Schema key) due value h = ap (λ d. value_unless d value) h
ends_of (Unsupported key) due value h = ap (λ d. value_unless d value) h
ends_of Legacy due value h = ap (λ d. value_unless d value) h

pub ends_by : {A : Type 0} (fault : LockFault) (due whole : Result A LockFault) → due ≡ whole → Ends fault due → Ends fault whole
ends_by fault due whole e h = subst (Ends fault) e h

pub answer_by : {A : Type 0} (got due whole : Result A LockFault) → due ≡ whole → IsAnswer got due → IsAnswer got whole
answer_by got due whole e h = subst (IsAnswer got) e h

pub value_free : {A : Type 0} (due : Refusal) (value found : A) → due ≡ None → found ≡ value → value_unless due value ≡ Ok found
value_free due value found free is = ap (λ d. value_unless d value) free ∙ ap Ok (sym is)
