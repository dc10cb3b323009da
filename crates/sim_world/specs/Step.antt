-- What one command of a stage leaves.
use Rattle.std.specs.Prelude.{ℤ}
use Rattle.sim_world.specs.declared.rule.Made.{Made}

pub record Step : Type 0 where
  pub code : ℤ
  pub made : Made
