use Rattle.std.proofs.Common.{◌++◌, IsTrue, ◌≡◌, take}
use Rattle.std.specs.List.{flat_map}
use Rattle.world_api.specs.History.{IsCaused}
use Rattle.dvc_cli.specs.Tell.{next_text}
use Rattle.dvc_cli.proofs.message.put_others.Given as goal

-- the names so far are put
abbrev pub invariant-loop-name : goal.invariant-loop-name
invariant-loop-name g l = record {
  taken : IsTrue g.K.Sink.tells → g.K.Sink.taken l.to ≡ g.K.Sink.taken l.fn.to ++ flat_map next_text (take l.name-index l.names);
  counted : IsCaused (g.K.Sink.faults l.fn.to) (g.K.Sink.faults l.to) ⊥;
}
