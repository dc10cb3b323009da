-- The text is put where no file is in the way.
use Rattle.std.proofs.Common.{Some, ap, ◌∙◌}
use Rattle.world_api.specs.Calls.{parent}
use Rattle.world_api.specs.History.{History}
use Rattle.object_cache.specs.Due.{not_folder}
use Rattle.object_cache.proofs.GiveLemmas.{passes_still, passes_give}
use Rattle.object_cache.proofs.RoadLemmas.{road_of}
use Rattle.object_cache.proofs.text.put_text.Goals as goal

pub returns-in-Err-clause-moments : goal.returns-in-Err-clause-moments
returns-in-Err-clause-moments g c told =
    passes_still c.args.at.now (Some c.args.text.now) (g.F.Ground.history c.args.files.now) (g.F.Ground.history c.find_road.new.files) (c.find_road.ensures.unchanged told)

pub replace_at-requires-clause-road : goal.replace_at-requires-clause-road
replace_at-requires-clause-road g c told =
    let b = g.F.Ground.history c.find_road.new.files in
    let up = parent c.args.at.now in
    road_of b.present.tree up (ap (λ (h : History). not_folder h.present.tree up) (c.find_road.ensures.unchanged told) ∙ c.in-Ok.ensures.answer told)

pub returns-in-Ok-clause-moments : goal.returns-in-Ok-clause-moments
returns-in-Ok-clause-moments g c told =
    let a = g.F.Ground.history c.args.files.now in
    let b = g.F.Ground.history c.find_road.new.files in
    passes_give c.args.at.now (Some c.args.text.now) a b (g.F.Ground.history c.replace_at.new.files)
    (passes_still c.args.at.now (Some c.args.text.now) a b (c.find_road.ensures.unchanged told)) (c.replace_at.ensures.moments told)
