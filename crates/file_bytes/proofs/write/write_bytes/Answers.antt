-- Nothing is published before the last call, and that one leaves the path old or new.
use Rattle.std.proofs.Common.{◌≡◌, ◌∙◌, Some, []}
use Rattle.world_api.specs.Tree.{file, item_at}
use Rattle.world_api.specs.Layout.{lane_path}
use Rattle.world_api.proofs.LaneLemmas.{lane_apart}
use Rattle.world_api.proofs.WriteLemmas.{passes_begin, passes_append, passes_settle, passes_unpublished, passes_publish, lane_grown, lane_firm, scratch_room, published_file}
use Rattle.file_bytes.proofs.write.write_bytes.Goals as goal

pub returns-in_err-begin-clause-moments : goal.returns-in_err-begin-clause-moments
returns-in_err-begin-clause-moments g c told =
    let start = g.F.Ground.history c.args.files.now in
    let begun = g.F.Ground.history c.begin.new.self in
    passes_unpublished c.args.at.now c.args.bytes.now start begun c.requires.apart (c.requires.place told).room (passes_begin 0 start begun (c.begin.ensures.moments told))

pub returns-in_err-append-clause-moments : goal.returns-in_err-append-clause-moments
returns-in_err-append-clause-moments g c told =
    let start = g.F.Ground.history c.args.files.now in
    let begun = g.F.Ground.history c.begin.new.self in
    let filled = g.F.Ground.history c.append.new.self in
    passes_unpublished c.args.at.now c.args.bytes.now start filled c.requires.apart (c.requires.place told).room
    (passes_append 0 start begun filled (passes_begin 0 start begun (c.begin.ensures.moments told)) (c.append.ensures.moments told))

pub settle-requires : goal.settle-requires
settle-requires g c told =
    let begun = (g.F.Ground.history c.begin.new.self).present in
    let filled = (g.F.Ground.history c.append.new.self).present in
    (c.args.bytes.now, lane_grown 0 [] c.args.bytes.now begun filled (c.in_ok-begin.ensures.begun told).empty (c.in_ok-append.ensures.appended told))

pub returns-in_err-settle-clause-moments : goal.returns-in_err-settle-clause-moments
returns-in_err-settle-clause-moments g c told =
    let start = g.F.Ground.history c.args.files.now in
    let begun = g.F.Ground.history c.begin.new.self in
    let filled = g.F.Ground.history c.append.new.self in
    let settled = g.F.Ground.history c.settle.new.self in
    let so_far = passes_append 0 start begun filled (passes_begin 0 start begun (c.begin.ensures.moments told)) (c.append.ensures.moments told) in
    passes_unpublished c.args.at.now c.args.bytes.now start settled c.requires.apart (c.requires.place told).room
    (passes_settle 0 start filled settled so_far (c.settle.ensures.moments told))

pub publish-requires-clause-apart : goal.publish-requires-clause-apart
publish-requires-clause-apart g c = lane_apart 0 c.args.at.now c.requires.apart

pub publish-requires-clause-settled : goal.publish-requires-clause-settled
publish-requires-clause-settled g c told =
    let begun = (g.F.Ground.history c.begin.new.self).present in
    let filled = (g.F.Ground.history c.append.new.self).present in
    let settled = (g.F.Ground.history c.settle.new.self).present in
    lane_firm 0 c.args.bytes.now filled settled (lane_grown 0 [] c.args.bytes.now begun filled (c.in_ok-begin.ensures.begun told).empty (c.in_ok-append.ensures.appended told)) (c.in_ok-settle.ensures.settled told)

pub publish-requires-clause-room : goal.publish-requires-clause-room
publish-requires-clause-room g c told =
    let start = g.F.Ground.history c.args.files.now in
    let begun = g.F.Ground.history c.begin.new.self in
    let filled = g.F.Ground.history c.append.new.self in
    let settled = g.F.Ground.history c.settle.new.self in
    let so_far = passes_append 0 start begun filled (passes_begin 0 start begun (c.begin.ensures.moments told)) (c.append.ensures.moments told) in
    scratch_room c.args.at.now start.present settled.present (passes_settle 0 start filled settled so_far (c.settle.ensures.moments told)).now c.requires.apart (c.requires.place told).room

pub returns-clause-written : goal.returns-clause-written
returns-clause-written g c told =
    let begun = (g.F.Ground.history c.begin.new.self).present in
    let filled = (g.F.Ground.history c.append.new.self).present in
    let settled = (g.F.Ground.history c.settle.new.self).present in
    let published = (g.F.Ground.history c.publish.new.self).present in
    let stands : item_at settled.tree (lane_path 0) ≡ Some (file c.args.bytes.now) =
    (c.in_ok-settle.ensures.settled told).same ∙ lane_grown 0 [] c.args.bytes.now begun filled (c.in_ok-begin.ensures.begun told).empty (c.in_ok-append.ensures.appended told) in
    published_file c.publish.result 0 c.args.at.now c.args.bytes.now settled published stands (c.publish.ensures.published told)

pub returns-clause-moments : goal.returns-clause-moments
returns-clause-moments g c told =
    let start = g.F.Ground.history c.args.files.now in
    let begun = g.F.Ground.history c.begin.new.self in
    let filled = g.F.Ground.history c.append.new.self in
    let settled = g.F.Ground.history c.settle.new.self in
    let published = g.F.Ground.history c.publish.new.self in
    let so_far = passes_append 0 start begun filled (passes_begin 0 start begun (c.begin.ensures.moments told)) (c.append.ensures.moments told) in
    let stands : item_at settled.present.tree (lane_path 0) ≡ Some (file c.args.bytes.now) =
    (c.in_ok-settle.ensures.settled told).same ∙ lane_grown 0 [] c.args.bytes.now begun.present filled.present (c.in_ok-begin.ensures.begun told).empty (c.in_ok-append.ensures.appended told) in
    passes_publish 0 c.args.at.now c.args.bytes.now start settled published c.requires.apart (c.requires.place told).room (passes_settle 0 start filled settled so_far (c.settle.ensures.moments told)) stands (c.publish.ensures.moments told)
