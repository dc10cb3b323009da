use Rattle.std.proofs.Common.{◌≡◌, drop, IsTrue}
use Rattle.world_api.specs.Tree.{value_at}
use Rattle.world_api.specs.History.{IsCaused}
use Rattle.world_api.specs.Outside.{tree_of}
use Rattle.repro_laws.specs.Refusals.{first_of, refused_out}
use Rattle.repro_core.proofs.job.look_at_made.Given as goal

-- nothing has changed, and the refusal that is due is that of the outputs that are left
abbrev pub invariant-loop-out : goal.invariant-loop-out
invariant-loop-out g l = record {
  same : IsTrue g.F.Ground.tells → g.F.Ground.history l.files ≡ g.F.Ground.history l.fn.files;
  left : IsTrue g.F.Ground.tells → first_of (λ o. refused_out l.stage.name o (value_at (tree_of (g.F.Ground.history l.fn.files)) o.path)) l.stage.outs ≡ first_of (λ o. refused_out l.stage.name o (value_at (tree_of (g.F.Ground.history l.fn.files)) o.path)) (drop l.out-index l.out-items);
  counted : IsCaused (g.F.Ground.faults l.fn.files) (g.F.Ground.faults l.files) ⊥;
}
