-- What is found at the folder is found on the way, and so is what is found further on.
use Rattle.std.proofs.Common.{◌≡◌, ◌∷◌, Some, subst, rules}
use Rattle.std.proofs.lemmas.List.Elements.{All-tail}
use Rattle.std.proofs.lemmas.Result.{err_from_is_err_and}
use Rattle.dvc_base.specs.Normal.{IsName, IsNormal}
use Rattle.repro_core.proofs.RoadsLemmas.{tells_here}
use Rattle.repro_core.proofs.road.+look_from.Goals as goal

pub returns-in_err-look_at-clause-told : goal.returns-in_err-look_at-clause-told
returns-in_err-look_at-clause-told g t c =
    let exit = err_from_is_err_and c.from_residual.result c.from_residual.ensures.1 in
    rw (exit.1, exit.2) (tells_here c.args.here.now c.args.parts.now (Some c.in_err-look_at.field-0.0) c.in_err-look_at.ensures.told)

pub look_from-requires : goal.look_from-requires
look_from-requires g t c κs within =
    let e : c.args.parts.now ≡ c.in-Some.part.now ∷ c.in-Some.rest.now = search rules in
    (search rules, (within, All-tail IsName c.in-Some.part.now c.in-Some.rest.now (subst IsNormal e c.requires)))
