-- A begun lane takes the text, and is put on the disk.
use Rattle.std.proofs.Common.{◌∙◌, []}
use Rattle.world_api.specs.Writes.{IsSettled}
use Rattle.world_api.proofs.WriteLemmas.{passes_begin, passes_append, passes_settle, lane_grown}
use Rattle.object_cache.specs.Copying.{IsInLane}
use Rattle.object_cache.proofs.PutLemmas.{on_ok}
use Rattle.object_cache.proofs.put.fill_text.Goals as goal

pub returns-in_err-begin-clause-moments : goal.returns-in_err-begin-clause-moments
returns-in_err-begin-clause-moments g c told =
    passes_begin 0 (g.F.Ground.history c.args.files.now) (g.F.Ground.history c.begin.new.self) (c.begin.ensures.moments told)

pub returns-in_err-append-clause-moments : goal.returns-in_err-append-clause-moments
returns-in_err-append-clause-moments g c told =
    let a = g.F.Ground.history c.args.files.now in
    let b = g.F.Ground.history c.begin.new.self in
    passes_append 0 a b (g.F.Ground.history c.append.new.self) (passes_begin 0 a b (c.begin.ensures.moments told)) (c.append.ensures.moments told)

pub settle-requires : goal.settle-requires
settle-requires g c told =
    let b = (g.F.Ground.history c.begin.new.self).present in
    let d = (g.F.Ground.history c.append.new.self).present in
    (c.args.text.now, lane_grown 0 [] c.args.text.now b d (c.in_ok-begin.ensures.begun told).empty (c.in_ok-append.ensures.appended told))

pub returns-clause-moments : goal.returns-clause-moments
returns-clause-moments g c told =
    let a = g.F.Ground.history c.args.files.now in
    let b = g.F.Ground.history c.begin.new.self in
    let d = g.F.Ground.history c.append.new.self in
    passes_settle 0 a d (g.F.Ground.history c.settle.new.self) (passes_append 0 a b d (passes_begin 0 a b (c.begin.ensures.moments told)) (c.append.ensures.moments told)) (c.settle.ensures.moments told)

pub returns-clause-filled : goal.returns-clause-filled
returns-clause-filled g c told =
    let b = (g.F.Ground.history c.begin.new.self).present in
    let d = (g.F.Ground.history c.append.new.self).present in
    let e = (g.F.Ground.history c.settle.new.self).present in
    let text = c.args.text.now in
    on_ok c.settle.result (IsSettled 0 d e) (IsInLane text e) (λ s. record { stands = s.same ∙ lane_grown 0 [] text b d (c.in_ok-begin.ensures.begun told).empty (c.in_ok-append.ensures.appended told); firm = s.firm }) (c.settle.ensures.settled told)
