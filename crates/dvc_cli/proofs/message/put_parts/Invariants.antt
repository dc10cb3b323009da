use Rattle.std.proofs.Common.{◌++◌, IsTrue, ◌≡◌, take}
use Rattle.world_api.specs.History.{IsCaused}
use Rattle.dvc_base.specs.FaultParts.{text_in}
use Rattle.dvc_cli.proofs.message.put_parts.Given as goal

-- the parts so far are put
abbrev pub invariant-loop-part : goal.invariant-loop-part
invariant-loop-part g l = record {
  taken : IsTrue g.K.Sink.tells → g.K.Sink.taken l.to ≡ g.K.Sink.taken l.fn.to ++ text_in (take l.part-index l.parts);
  counted : IsCaused (g.K.Sink.faults l.fn.to) (g.K.Sink.faults l.to) ⊥;
}
