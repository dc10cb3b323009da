use Rattle.std.proofs.Common.{◌≡◌, [], map, take, drop}
use Rattle.template_expand.specs.Expansion.{second_name}
use Rattle.template_expand.proofs.expansion.second_name.Given as goal

-- the names so far stand once, and what is left is to be looked at behind them
abbrev pub invariant-loop-stage : goal.invariant-loop-stage
invariant-loop-stage l = record {
  names : map (λ name. name.now) l.names.keys ≡ map (λ stage. stage.name) (take l.stage-index l.stages);
  left : second_name [] l.stages ≡ second_name (take l.stage-index l.stages) (drop l.stage-index l.stages);
}
