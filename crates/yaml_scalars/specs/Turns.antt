-- Reading in turns: each turn takes some of the text that is left and changes what was found so far, until one is the last.
--     Turn S               whether it was the last, what is found, and the text that is left
--     all_turns turn s t   what is found after the last turn, and the text left behind it
use Rattle.std.specs.Prelude.{◌≡◌, ℕ, zero, suc, ◌<◌, Bool, true, false, length, Ok, if◌then◌else◌}
use Rattle.yaml_text.specs.Outcome.{Text, Outcome, Step, ◌>>=◌, syntax}

abbrev pub Turn : Type 0 → Type 0
Turn S = Bool × (S × Text)

abbrev pub turns_within : {S : Type 0} → (S → Text → Outcome (Turn S)) → ℕ → S → Text → Step S
turns_within turn zero s t = syntax t
turns_within turn (suc n) s t = turn s t >>= λ r. if r.0 then Ok r.1 else turns_within turn n r.1.0 r.1.1

-- Each turn but the last takes a byte at least, so the count of bytes is enough.
unfoldable pub all_turns : {S : Type 0} → (S → Text → Outcome (Turn S)) → S → Text → Step S
all_turns turn s t = turns_within turn (suc (length t)) s t
