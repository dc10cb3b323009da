use Rattle.std.proofs.Common.{◌≡◌, ◌==◌, take, string_bytes}
use Rattle.dvc_base.specs.Path.{joined}
use Rattle.dvc_base.proofs.path.joined_text.Given as goal

abbrev pub invariant-loop-part : goal.invariant-loop-part
invariant-loop-part l =
    (l.first ≡ (l.part-index == 0)) × (string_bytes l.text ≡ joined (take l.part-index l.parts))
