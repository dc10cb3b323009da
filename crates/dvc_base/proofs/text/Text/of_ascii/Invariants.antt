use Rattle.std.proofs.Common.{◌≡◌, take, string_bytes}
use Rattle.dvc_base.proofs.text.Text.of_ascii.Given as goal

-- the bytes so far are written
abbrev pub invariant-loop-byte : goal.invariant-loop-byte
invariant-loop-byte l = string_bytes l.text ≡ take l.byte-index l.bytes
