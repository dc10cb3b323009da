-- No file stands at the path, nor at or above the folder above it.
use Rattle.std.proofs.Common.{◌≡◌, true, IsTrue, rules}
use Rattle.world_suite.proofs.PlaceLemmas.{road_on}
use Rattle.world_suite.proofs.folders.+has_road.Goals as goal

pub returns-clause-road : goal.returns-clause-road
returns-clause-road g t c =
    let none : c.in_ok-is_no_file.field-0 ≡ true = search rules in
    let just_below : c.is_just_below.result ≡ true = search rules in
    road_on c.has_road.result (IsTrue g.W.Ground.tells) c.args.at.now c.in_ok-above.above (g.W.Ground.history c.is_no_file.new.world) (g.W.Ground.history c.has_road.new.world) (c.is_just_below.ensures.parent just_below) (c.in_ok-is_no_file.ensures.none none) c.has_road.ensures.unchanged c.has_road.ensures.road
