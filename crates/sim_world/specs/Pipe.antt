-- The commands that the test rule knows, answered as `sh` does.
--     cat P              the bytes of the dependency P, at each output
--     cat P > Q          the bytes of P, a dependency or an output made before, at the output Q
--     copy P > Q         the value of the dependency P, a file or a folder, at the output Q
--     printf %s X > Q    the bytes of X at the output Q
--     exit N             the code N, in decimal digits, below 2^31
-- Any other text ends with 127; a P that is no file (in `copy`, no file and no folder), and a Q that is no output, end with 1.
use Rattle.std.specs.Prelude.{◌≡◌, ℕ, ℤ, pos, ◌+◌, ◌-◌, ◌*◌, ◌^◌, Bool, ◌&&◌, ◌||◌, not, List, [], ◌∷◌, length, map, ◌==◌, nat_le, nat_lt, bytes_eq, codes, Option, Some, None, Result, IfOk, if◌then◌else◌}
use Rattle.std.specs.List.{list_any, list_all, slice_split}
use Rattle.dvc_base.specs.declared.memory.NoMemory.{NoMemory}
use Rattle.world_api.specs.declared.job.Exit.{Exit}
use Rattle.sim_world.specs.Answer.{found}
use Rattle.sim_world.specs.Step.{Step}
use Rattle.sim_world.specs.declared.value.Value.{Value}
use Rattle.sim_world.specs.declared.value.Value.TheVariants.{Nothing, File, Files}
use Rattle.sim_world.specs.declared.rule.Given.{Given}
use Rattle.sim_world.specs.declared.rule.Made.{Made}

-- ---- words

abbrev pub is_between : ℕ → ℕ → ℕ → Bool
is_between low high b = nat_le low b && nat_le b high

abbrev pub is_digit : ℕ → Bool
is_digit b = is_between 48 57 b

-- a letter, a digit, or one of _ . / -
abbrev pub is_word_byte : ℕ → Bool
is_word_byte b = is_between 97 122 b || is_between 65 90 b || is_digit b || (b == 95) || (b == 46) || (b == 47) || (b == 45)

abbrev pub is_word : List ℕ → Bool
is_word w = not (length w == 0) && list_all is_word_byte w

-- digits read from the left, after those that made n
abbrev pub number_from : ℕ → List ℕ → Option ℕ
number_from n [] = Some n
number_from n (d ∷ ds) =
    if is_digit d && nat_lt (10 * n + (d - 48)) (2 ^ 31) then number_from (10 * n + (d - 48)) ds else None

-- no number is empty, and only 0 begins with a zero
abbrev pub number_of : List ℕ → Option ℕ
number_of [] = None
number_of (d ∷ []) = number_from 0 (d ∷ [])
number_of (d ∷ e ∷ ds) = if d == 48 then None else number_from 0 (d ∷ e ∷ ds)

-- ---- how a command ends

abbrev pub ends : ℕ → Made → Step
ends code made = record { code = pos code; made = made }

-- the value at an output, in place of the one made before
abbrev pub with_value : List ℕ → Value → Made → Made
with_value out value made = record { outs = record { path = out; value = value } ∷ made.outs }

abbrev pub is_out : Given → List ℕ → Bool
is_out given path = list_any (λ out. bytes_eq out path) given.outs

abbrev pub or_else : Value → Value → Value
or_else Nothing value = value
or_else (File bytes) value = File bytes
or_else (Files m) value = Files m

-- what was made at the path, or else the dependency
abbrev pub source : Given → Made → List ℕ → Value
source given made path = or_else (found made.outs path) (found given.deps path)

-- ---- the commands

-- cat P
abbrev pub fill : Given → Value → Made → Step
fill given Nothing made = ends 1 made
fill given (Files m) made = ends 1 made
fill given (File bytes) made = ends 0 (record { outs = map (λ out. record { path = out; value = File bytes }) given.outs })

abbrev pub copied : List ℕ → Value → Made → Step
copied to Nothing made = ends 1 made
copied to (File bytes) made = ends 0 (with_value to (File bytes) made)
copied to (Files m) made = ends 1 made

-- cat P > Q: the output is emptied before P is read
abbrev pub copy : List ℕ → List ℕ → Given → Made → Step
copy from to given made =
    if is_out given to then copied to (source given (with_value to (File []) made) from) (with_value to (File []) made) else ends 1 made

-- copy P > Q
abbrev pub copied_whole : List ℕ → Value → Made → Step
copied_whole to Nothing made = ends 1 made
copied_whole to (File bytes) made = ends 0 (with_value to (File bytes) made)
copied_whole to (Files m) made = ends 0 (with_value to (Files m) made)

abbrev pub copy_whole : List ℕ → List ℕ → Given → Made → Step
copy_whole from to given made = if is_out given to then copied_whole to (found given.deps from) made else ends 1 made

-- printf %s X > Q
abbrev pub print : List ℕ → List ℕ → Given → Made → Step
print text to given made = if is_out given to then ends 0 (with_value to (File text) made) else ends 1 made

-- exit N
abbrev pub leave_code : Option ℕ → ℤ
leave_code None = pos 127
leave_code (Some code) = pos code

abbrev pub leave : Option ℕ → Made → Step
leave number made = record { code = leave_code number; made = made }

-- ---- a text, by its words

abbrev pub is_fill : List ℕ → List ℕ → Bool
is_fill name arg = bytes_eq name (codes "cat") && is_word arg

abbrev pub of_two : List ℕ → List ℕ → Given → Made → Step
of_two name arg given made =
    if is_fill name arg then fill given (found given.deps arg) made
    else if bytes_eq name (codes "exit") then leave (number_of arg) made
    else ends 127 made

-- a command's name, and two words with an arrow between them
abbrev pub is_copy : List ℕ → List ℕ → List ℕ → List ℕ → List ℕ → Bool
is_copy verb name from arrow to = bytes_eq name verb && bytes_eq arrow (codes ">") && is_word from && is_word to

abbrev pub of_four : List ℕ → List ℕ → List ℕ → List ℕ → Given → Made → Step
of_four name from arrow to given made =
    if is_copy (codes "cat") name from arrow to then copy from to given made
    else if is_copy (codes "copy") name from arrow to then copy_whole from to given made
    else ends 127 made

abbrev pub is_print : List ℕ → List ℕ → List ℕ → List ℕ → List ℕ → Bool
is_print name format text arrow to =
    bytes_eq name (codes "printf") && bytes_eq format (codes "%s") && bytes_eq arrow (codes ">") && is_word text && is_word to

abbrev pub of_five : List ℕ → List ℕ → List ℕ → List ℕ → List ℕ → Given → Made → Step
of_five name format text arrow to given made =
    if is_print name format text arrow to then print text to given made else ends 127 made

abbrev pub of_words : List (List ℕ) → Given → Made → Step
of_words (name ∷ arg ∷ []) given made = of_two name arg given made
of_words (name ∷ from ∷ arrow ∷ to ∷ []) given made = of_four name from arrow to given made
of_words (name ∷ format ∷ text ∷ arrow ∷ to ∷ []) given made = of_five name format text arrow to given made
of_words _ given made = ends 127 made

abbrev pub pipe : Given → Made → Step
pipe given made = of_words (slice_split (λ byte. byte == 32) given.command) given made

-- an answer that is this step
abbrev pub IsStep : Step → Result Exit NoMemory → Made → Type 0
IsStep step answer made = IfOk answer (λ exit. step ≡ record { code = exit.code; made = made })
