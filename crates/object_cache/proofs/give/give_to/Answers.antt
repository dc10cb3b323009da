-- The object is copied into the lane, and put at its path where no file is in the way.
use Rattle.std.proofs.Common.{sym, ap, subst, ◌∙◌, Option, Some, None, List, ℕ}
use Rattle.world_api.specs.History.{History, Passes}
use Rattle.world_api.specs.Calls.{parent}
use Rattle.object_cache.specs.declared.fault.CacheFault.{CacheFault}
use Rattle.object_cache.specs.Objects.{object_at}
use Rattle.object_cache.specs.Giving.{InGive}
use Rattle.object_cache.specs.Copying.{IsInLane}
use Rattle.object_cache.specs.Due.{IsDue, object_fault, not_folder}
use Rattle.object_cache.proofs.GiveLemmas.{passes_scratch, passes_give, give_of_scratch}
use Rattle.object_cache.proofs.RoadLemmas.{road_of, give_same_road, apart_no_scratch, apart_not_root}
use Rattle.object_cache.proofs.DueLemmas.{due_second, due_last, both_none}
use Rattle.object_cache.proofs.give.give_to.Goals as goal

pub returns-in_err-copy_object-clause-moments : goal.returns-in_err-copy_object-clause-moments
returns-in_err-copy_object-clause-moments g c told =
    let a = g.F.Ground.history c.args.files.now in
    let at = c.args.at.now in
    passes_scratch at (object_at a.present.tree c.args.name.now) a (g.F.Ground.history c.copy_object.new.files) (apart_no_scratch at c.requires.apart) (apart_not_root at c.requires.apart) (c.copy_object.ensures.moments told)

pub returns-in-Err-clause-answer : goal.returns-in-Err-clause-answer
returns-in-Err-clause-answer g c told =
    let a = g.F.Ground.history c.args.files.now in
    let b = g.F.Ground.history c.copy_object.new.files in
    let at = c.args.at.now in
    let out = apart_no_scratch at c.requires.apart in
    let root = apart_not_root at c.requires.apart in
    let same = give_same_road at None a.present b.present root (give_of_scratch at None a.present b.present out root (c.copy_object.ensures.moments told).now) in
    due_second (Some c.in-Err.fault) (object_fault a.present.tree c.args.name.now) (not_folder a.present.tree (parent at)) (c.in_ok-copy_object.ensures.answer told)
    (subst (λ (o : Option CacheFault). IsDue (Some c.in-Err.fault) o) same (c.in-Err.ensures.answer told))

pub returns-in-Err-clause-moments : goal.returns-in-Err-clause-moments
returns-in-Err-clause-moments g c told =
    let a = g.F.Ground.history c.args.files.now in
    let b = g.F.Ground.history c.copy_object.new.files in
    let at = c.args.at.now in
    let given = object_at a.present.tree c.args.name.now in
    subst (λ (h : History). Passes (InGive at given a.present) a h) (sym (c.find_road.ensures.unchanged told))
    (passes_scratch at given a b (apart_no_scratch at c.requires.apart) (apart_not_root at c.requires.apart) (c.copy_object.ensures.moments told))

pub publish_at-requires-clause-apart : goal.publish_at-requires-clause-apart
publish_at-requires-clause-apart g c = apart_no_scratch c.args.at.now c.requires.apart

pub publish_at-requires-clause-below_root : goal.publish_at-requires-clause-below_root
publish_at-requires-clause-below_root g c = apart_not_root c.args.at.now c.requires.apart

pub publish_at-requires-clause-road : goal.publish_at-requires-clause-road
publish_at-requires-clause-road g c told =
    let b = g.F.Ground.history c.copy_object.new.files in
    let d = g.F.Ground.history c.find_road.new.files in
    let up = parent c.args.at.now in
    road_of d.present.tree up (ap (λ (h : History). not_folder h.present.tree up) (c.find_road.ensures.unchanged told) ∙ c.in-Ok.ensures.answer told)

pub returns-in-Ok-clause-answer : goal.returns-in-Ok-clause-answer
returns-in-Ok-clause-answer g c told =
    let a = g.F.Ground.history c.args.files.now in
    let b = g.F.Ground.history c.copy_object.new.files in
    let at = c.args.at.now in
    let out = apart_no_scratch at c.requires.apart in
    let root = apart_not_root at c.requires.apart in
    let same = give_same_road at None a.present b.present root (give_of_scratch at None a.present b.present out root (c.copy_object.ensures.moments told).now) in
    due_last c.publish_at.result _ c.publish_at.ensures.free (both_none (object_fault a.present.tree c.args.name.now) (not_folder a.present.tree (parent at)) (c.in_ok-copy_object.ensures.answer told) (sym same ∙ c.in-Ok.ensures.answer told))

pub returns-in-Ok-clause-moments : goal.returns-in-Ok-clause-moments
returns-in-Ok-clause-moments g c told =
    let a = g.F.Ground.history c.args.files.now in
    let b = g.F.Ground.history c.copy_object.new.files in
    let d = g.F.Ground.history c.find_road.new.files in
    let e = g.F.Ground.history c.publish_at.new.files in
    let at = c.args.at.now in
    let h = c.in_ok-copy_object.ensures.copied told in
    let first = subst (λ (x : History). Passes (InGive at (Some h.bytes) a.present) a x) (sym (c.find_road.ensures.unchanged told))
    (passes_scratch at (Some h.bytes) a b (apart_no_scratch at c.requires.apart) (apart_not_root at c.requires.apart) (c.copy_object.ensures.moments told)) in
    let lane = subst (λ (x : History). IsInLane h.bytes x.present) (sym (c.find_road.ensures.unchanged told)) h.lane in
    subst (λ (o : Option (List ℕ)). Passes (InGive at o a.present) a e) (sym h.whole)
    (passes_give at (Some h.bytes) a d e first (c.publish_at.ensures.moments told h.bytes lane))
