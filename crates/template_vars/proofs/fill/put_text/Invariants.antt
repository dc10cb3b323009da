use Rattle.std.proofs.Common.{◌≡◌, length, Ok}
use Rattle.std.specs.Prelude.{string_bytes}
use denote.Text.{Utf8}
use denote.Shadow.{shadow}
use Rattle.template_vars.specs.Turn.{IsOpen}
use Rattle.template_vars.specs.Resolve.{before, resolved}
use Rattle.template_vars.proofs.fill.put_text.Given as goal

-- what was made comes before what is left
abbrev pub invariant-loop-turn : goal.invariant-loop-turn
invariant-loop-turn l =
    shadow (Utf8 l.rest) × (IsOpen l.rest l.closes
    × (before (Ok (string_bytes l.made)) (resolved l.scope l.rest) ≡ before (Ok (string_bytes l.initial.made)) (resolved l.scope l.text)))

abbrev pub decreases-loop-turn : goal.decreases-loop-turn
decreases-loop-turn l = length l.rest
