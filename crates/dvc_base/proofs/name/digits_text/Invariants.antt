use Rattle.std.proofs.Common.{◌≡◌, take, string_bytes}
use Rattle.dvc_base.proofs.name.digits_text.Given as goal

-- the digits so far are written
abbrev pub invariant-loop-digit : goal.invariant-loop-digit
invariant-loop-digit l = string_bytes l.text ≡ take l.digit-index l.digits
