-- A file that is found stands on the way.
use Rattle.std.proofs.Common.{◌≡◌, ◌∷◌, subst, rules}
use Rattle.std.proofs.lemmas.List.Elements.{All-tail}
use Rattle.dvc_base.specs.Normal.{IsName, IsNormal}
use Rattle.object_cache.proofs.RoadLemmas.{way_there}
use Rattle.object_cache.proofs.road.+first_file.Goals as goal

pub returns-then-branch-clause-way : goal.returns-then-branch-clause-way
returns-then-branch-clause-way g t c =
    let rest = c.in-Some.rest.now in
    let e : c.args.parts.now ≡ c.in-Some.part.now ∷ rest = search rules in
    way_there c.args.here.now c.args.parts.now rest c.in_ok-next.next c.in-Some.part.now c.as_str.result.now c.in_ok-next.ensures.exact c.as_str.ensures.same e

pub first_file-requires : goal.first_file-requires
first_file-requires g t c κs within =
    let e : c.args.parts.now ≡ c.in-Some.part.now ∷ c.in-Some.rest.now = search rules in
    (search rules, (within, All-tail IsName c.in-Some.part.now c.in-Some.rest.now (subst IsNormal e c.requires)))
