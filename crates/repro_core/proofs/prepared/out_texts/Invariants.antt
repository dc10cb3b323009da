use Rattle.std.proofs.Common.{◌≡◌, map, take}
use Rattle.repro_laws.specs.Stage.{out_text}
use Rattle.repro_core.proofs.prepared.out_texts.Given as goal

abbrev pub invariant-loop-out : goal.invariant-loop-out
invariant-loop-out l = l.texts ≡ map out_text (take l.out-index l.outs)
