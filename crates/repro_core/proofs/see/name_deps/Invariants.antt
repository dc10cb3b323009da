use Rattle.std.proofs.Common.{◌≡◌, take, drop, map, IsTrue}
use Rattle.world_api.specs.History.{IsCaused}
use Rattle.world_api.specs.Outside.{tree_of, IsUntouched}
use Rattle.repro_laws.specs.Stage.{dep_text, dep_value}
use Rattle.repro_laws.specs.Entries.{seen_dep}
use Rattle.repro_laws.specs.Refusals.{first_of, refused_dep}
use Rattle.repro_core.specs.Looks.{AreSeen}
use Rattle.repro_core.proofs.see.name_deps.Given as goal

-- nothing has changed, each dependency so far is seen with a name in form, and the refusal that is due is that of the others
abbrev pub invariant-loop-dep : goal.invariant-loop-dep
invariant-loop-dep g l = record {
  same : IsUntouched g.F.Ground.tells (g.F.Ground.history l.fn.files) (g.F.Ground.history l.files);
  seen : IsTrue g.F.Ground.tells → l.seen ≡ map (seen_dep (tree_of (g.F.Ground.history l.fn.files))) (take l.dep-index l.deps);
  left : IsTrue g.F.Ground.tells → first_of (λ d. refused_dep l.fn.stage.name d (dep_value (tree_of (g.F.Ground.history l.fn.files)) d)) l.deps
      ≡ first_of (λ d. refused_dep l.fn.stage.name d (dep_value (tree_of (g.F.Ground.history l.fn.files)) d)) (drop l.dep-index l.deps);
  good : AreSeen (map dep_text (take l.dep-index l.deps)) l.seen;
  counted : IsCaused (g.F.Ground.faults l.fn.files) (g.F.Ground.faults l.files) ⊥;
}
