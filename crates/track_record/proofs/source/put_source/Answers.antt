-- What is put is the value at the out, apart from the tool's own.
use Rattle.std.proofs.Common.{rules, ◌≡◌}
use Rattle.world_api.specs.Tree.{value_at}
use Rattle.repro_core.proofs.BarredLemmas.{put_outside}
use Rattle.repro_core.proofs.StoredLemmas.{passes_value, stay_stored}
use Rattle.track_record.specs.Sources.{source_told}
use Rattle.track_record.proofs.SourceLemmas.{source_answer, told_source}
use Rattle.track_record.proofs.source.put_source.Goals as goal

pub put_from-requires : goal.put_from-requires
put_from-requires g c = record { outside = put_outside c.args.at.now c.requires.apart }

pub returns-in_err-told-in-Err-clause-moments : goal.returns-in_err-told-in-Err-clause-moments
returns-in_err-told-in-Err-clause-moments g c told =
    let old = g.F.Ground.history c.args.files.now in
    passes_value (value_at old.present.tree c.args.at.now) old (g.F.Ground.history c.put_from.new.files) (c.put_from.ensures.moments told)

pub returns-in-Ok-clause-moments : goal.returns-in-Ok-clause-moments
returns-in-Ok-clause-moments g c told =
    let old = g.F.Ground.history c.args.files.now in
    passes_value (value_at old.present.tree c.args.at.now) old (g.F.Ground.history c.put_from.new.files) (c.put_from.ensures.moments told)

pub returns-in_ok-told-in-Err-clause-answer : goal.returns-in_ok-told-in-Err-clause-answer
returns-in_ok-told-in-Err-clause-answer g c told =
    let at = c.args.at.now in
    let old = g.F.Ground.history c.args.files.now in
    let new = g.F.Ground.history c.put_from.new.files in
    let fault = c.in_ok-told-in-Err.field-0 in
    let is : fault ≡ source_told at c.in-Err.why = search rules in
    let moments = passes_value (value_at old.present.tree at) old new (c.put_from.ensures.moments told) in
    let same = stay_stored old.present new.present at c.requires.apart moments.now in
    source_answer at g.F.Ground.tells old.present.tree new.present.tree c.in-Err.why fault is same (c.in-Err.ensures.refused told) c.in-Err.ensures.told

pub returns-in_ok-told-in-Err-clause-moments : goal.returns-in_ok-told-in-Err-clause-moments
returns-in_ok-told-in-Err-clause-moments g c told =
    let old = g.F.Ground.history c.args.files.now in
    passes_value (value_at old.present.tree c.args.at.now) old (g.F.Ground.history c.put_from.new.files) (c.put_from.ensures.moments told)

pub returns-in_ok-told-in-Err-clause-told : goal.returns-in_ok-told-in-Err-clause-told
returns-in_ok-told-in-Err-clause-told g c =
    let at = c.args.at.now in
    let fault = c.in_ok-told-in-Err.field-0 in
    let is : fault ≡ source_told at c.in-Err.why = search rules in
    told_source at g.F.Ground.tells c.in-Err.why fault is c.in-Err.ensures.told
