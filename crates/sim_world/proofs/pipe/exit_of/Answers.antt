use Rattle.std.proofs.Common.{arith, ap, ◌∙◌}
use Rattle.std.proofs.lemmas.Int.{ints, to_z_pos}
use mir.Syntax.{w32}
use Rattle.sim_world.specs.Pipe.{leave_code, number_of}
use Rattle.sim_world.proofs.pipe.exit_of.Goals as goal

pub overflow_cast-result : goal.overflow_cast-result
overflow_cast-result c = omega (arith, ints, c.in-Some.ensures.small)

pub returns-in-Some : goal.returns-in-Some
returns-in-Some c =
    record {
      code = to_z_pos w32 c.in-Some.code (omega (arith, c.in-Some.ensures.small)) ∙ ap leave_code (c.in-Some.ensures.value ∙ ap number_of c.as_bytes.ensures.value);
    }
