use Rattle.std.proofs.Common.{◌≡◌, map, take}
use Rattle.repro_laws.specs.Stage.{dep_text}
use Rattle.repro_core.proofs.prepared.dep_texts.Given as goal

abbrev pub invariant-loop-dep : goal.invariant-loop-dep
invariant-loop-dep l = l.texts ≡ map dep_text (take l.dep-index l.deps)
