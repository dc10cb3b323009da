-- What reading the text that is left gives: a value, or why there is none.
--     Outcome A            a value, or the first refusal
--     IsRefused e          reading halted at what the text has
--     Reads view r read    a function returned r, which seen by `view` is `read`, unless memory ran out
use Rattle.std.specs.Prelude.{◌≡◌, ℕ, List, length, Result, Ok, Err}
use Rattle.yaml_text.specs.declared.refusal.Refusal.{Refusal}
use Rattle.yaml_text.specs.declared.refusal.Refusal.TheVariants.{Syntax}
use Rattle.yaml_text.specs.declared.refusal.Halt.{Halt}
use Rattle.yaml_text.specs.declared.refusal.Halt.TheVariants.{NoMemory, Refused}

abbrev pub Text : Type 0
Text = List ℕ

abbrev pub Outcome : Type 0 → Type 0
Outcome A = Result A Refusal

-- a value, and the text that is left behind what it was read from
abbrev pub Step : Type 0 → Type 0
Step A = Outcome (A × Text)

infixl 10 ◌>>=◌
abbrev pub ◌>>=◌ : {A B : Type 0} → Outcome A → (A → Outcome B) → Outcome B
(Ok a) >>= f = f a
(Err e) >>= f = Err e

-- no rule reads the text that is left
abbrev pub syntax : {A : Type 0} → Text → Outcome A
syntax t = Err (Syntax (length t))

-- reading halted at what the text has, and not for want of memory
abbrev pub IsRefused : Halt → Type 0
IsRefused NoMemory = ⊥
IsRefused (Refused why) = Unit {0}

-- for want of memory, or as the text is read
abbrev pub Halts : {Y : Type 0} → Halt → Outcome Y → Type 0
Halts NoMemory read = Unit {0}
Halts (Refused why) read = read ≡ Err why

abbrev pub Reads : {X Y : Type 0} → (X → Y) → Result X Halt → Outcome Y → Type 0
Reads view (Ok x) read = read ≡ Ok (view x)
Reads view (Err e) read = Halts e read
