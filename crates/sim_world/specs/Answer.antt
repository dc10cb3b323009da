-- What a rule makes of a stage's commands.
--     answered e given cs made      the last step, or the first with a code that isn't 0
--     effect_of e                   the effect that the world tells
use Rattle.std.specs.Prelude.{ℕ, pos, List, [], ◌∷◌, map, bytes_eq, if◌then◌else◌}
use Rattle.std.specs.Ordering.{int_eq}
use Rattle.world_api.specs.Tree.{Value as Told, nothing, content, members}
use Rattle.world_api.specs.Effect.{Invocation, Effect, Outcome, fails, gives}
use Rattle.sim_world.specs.declared.value.Value.{Value}
use Rattle.sim_world.specs.declared.value.Value.TheVariants.{Nothing, File, Files}
use Rattle.sim_world.specs.declared.value.PathValue.{PathValue}
use Rattle.sim_world.specs.declared.rule.Given.{Given}
use Rattle.sim_world.specs.declared.rule.Made.{Made}
use Rattle.sim_world.specs.Step.{Step}

-- a value as the world tells it
abbrev pub told : Value → Told
told Nothing = nothing
told (File bytes) = content bytes
told (Files m) = members m

-- a value as a command is given it
abbrev pub plain_value : Told → Value
plain_value nothing = Nothing
plain_value (content bytes) = File bytes
plain_value (members m) = Files m

abbrev pub plain_values : List (List ℕ × Told) → List PathValue
plain_values ds = map (λ d. record { path = d.0; value = plain_value d.1 }) ds

-- the first value that stands under the path's text; Nothing where there is none
abbrev pub found : List PathValue → List ℕ → Value
found [] path = Nothing
found (e ∷ es) path = if bytes_eq e.path path then e.value else found es path

-- nothing made yet
abbrev pub unmade : List (List ℕ) → List PathValue
unmade outs = map (λ out. record { path = out; value = Nothing }) outs

-- what a job's commands are given; each command's text comes later
abbrev pub given_by : Invocation → Given
given_by call = record { command = []; deps = plain_values call.deps; params = call.params; outs = call.outs }

abbrev pub answered : (Given → Made → Step) → Given → List (List ℕ) → Made → Step
answered effect given [] made = record { code = pos 0; made = made }
answered effect given (c ∷ cs) made =
    let step = effect (record given { command = c }) made in
    if int_eq step.code (pos 0) then answered effect given cs step.made else step

abbrev pub found_all : List (List ℕ) → Made → List Value
found_all outs made = map (found made.outs) outs

abbrev pub outcome_of : List (List ℕ) → Step → Outcome
outcome_of outs step =
    if int_eq step.code (pos 0) then gives (map told (found_all outs step.made)) else fails step.code

abbrev pub effect_of : (Given → Made → Step) → Effect
effect_of effect call = outcome_of call.outs (answered effect (given_by call) call.commands (record { outs = unmade call.outs }))
