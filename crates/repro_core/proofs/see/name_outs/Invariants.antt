use Rattle.std.proofs.Common.{◌≡◌, take, drop, map, length, IsTrue}
use Rattle.world_api.specs.History.{IsCaused}
use Rattle.world_api.specs.Outside.{tree_of, IsUntouched}
use Rattle.world_api.specs.Tree.{value_at}
use Rattle.repro_laws.specs.Limits.{limit_fault}
use Rattle.repro_laws.specs.Entries.{seen_out}
use Rattle.repro_laws.specs.Refusals.{first_of}
use Rattle.repro_core.proofs.see.name_outs.Given as goal

-- nothing has changed, each output so far is seen, and the refusal that is due is that of the others
abbrev pub invariant-loop-out : goal.invariant-loop-out
invariant-loop-out g l = record {
  same : IsUntouched g.F.Ground.tells (g.F.Ground.history l.fn.files) (g.F.Ground.history l.files);
  seen : IsTrue g.F.Ground.tells → l.seen ≡ map (seen_out (tree_of (g.F.Ground.history l.fn.files))) (take l.out-index l.outs);
  left : IsTrue g.F.Ground.tells → first_of (λ o. limit_fault (value_at (tree_of (g.F.Ground.history l.fn.files)) o.path)) l.outs
      ≡ first_of (λ o. limit_fault (value_at (tree_of (g.F.Ground.history l.fn.files)) o.path)) (drop l.out-index l.outs);
  count : length l.seen ≡ l.out-index;
  counted : IsCaused (g.F.Ground.faults l.fn.files) (g.F.Ground.faults l.files) ⊥;
}
