-- Each piece lengthens what was copied, and none ends it.
use Rattle.std.proofs.Common.{◌≡◌, ℕ, rules, arith, refl, subst}
use Rattle.std.proofs.lemmas.Grind.{common_steps}
use Rattle.world_api.specs.Tree.{item_at}
use Rattle.file_bytes.specs.Reading.{HoldsFront}
use Rattle.file_bytes.proofs.ReadLemmas.{front_none, front_more, front_end}
use Rattle.object_cache.specs.Copying.{IsCopy}
use Rattle.object_cache.proofs.CopyLemmas.{read_moments, more_moments, item_kept, file_kept}
use Rattle.object_cache.proofs.copy.copy_pieces.Goals as goal

pub loop-count-init : goal.loop-count-init
loop-count-init g c =
    let h = g.F.Ground.history c.args.files.now in
    let item = item_at h.present.tree c.args.from.now in
    record { within = omega arith; buffer = refl; front = front_none g.F.Ground.tells item (IsCopy (g.W.WatchesPieces.holds c.args.watcher.now) g.F.Ground.tells h) c.requires.empty; moments = λ told. read_moments h h refl; origin = refl; later = omega arith }

pub copy_piece-requires-clause-file : goal.copy_piece-requires-clause-file
copy_piece-requires-clause-file g c told =
    let a = g.F.Ground.history c.args.files.now in
    let b = g.F.Ground.history c.loop-count.files in
    file_kept c.args.from.now a.present b.present c.requires.apart (c.loop-count.invariant.moments told).now (c.requires.no_dvc told)

pub copy_piece-requires-clause-lane : goal.copy_piece-requires-clause-lane
copy_piece-requires-clause-lane g c told =
    let h = c.loop-count.invariant in
    (h.front.bytes, h.front.held.1 told)

pub loop-count-preserved : goal.loop-count-preserved
loop-count-preserved g c =
    let h = c.loop-count.invariant in
    let a = g.F.Ground.history c.args.files.now in
    let b = g.F.Ground.history c.loop-count.files in
    let d = g.F.Ground.history c.copy_piece.new.files in
    let item = item_at a.present.tree c.args.from.now in
    let here = item_at b.present.tree c.args.from.now in
    let added = c.in_ok-more.ensures.added h.front.bytes h.front.held in
    let front = front_more g.F.Ground.tells item here c.loop-count.count _ c.in_ok-more.more _ (IsCopy (g.W.WatchesPieces.holds c.loop-count.watcher) g.F.Ground.tells b) (IsCopy (g.W.WatchesPieces.holds c.copy_piece.new.watcher) g.F.Ground.tells d) (λ told. item_kept c.args.from.now a.present b.present c.requires.apart (h.moments told).now) refl h.front added in
    record {
      within = grind (arith, common_steps);
      buffer = grind (arith, common_steps);
      front = front;
      moments = λ told. more_moments a b d (h.moments told) (c.copy_piece.ensures.moments told);
      origin = search rules;
      later = search rules;
    }

pub returns-in_err-more-clause-moments : goal.returns-in_err-more-clause-moments
returns-in_err-more-clause-moments g c told =
    more_moments (g.F.Ground.history c.args.files.now) (g.F.Ground.history c.loop-count.files) (g.F.Ground.history c.copy_piece.new.files) (c.loop-count.invariant.moments told) (c.copy_piece.ensures.moments told)

pub returns-then-more-eq0-clause-moments : goal.returns-then-more-eq0-clause-moments
returns-then-more-eq0-clause-moments g c told =
    more_moments (g.F.Ground.history c.args.files.now) (g.F.Ground.history c.loop-count.files) (g.F.Ground.history c.copy_piece.new.files) (c.loop-count.invariant.moments told) (c.copy_piece.ensures.moments told)

pub returns-then-more-eq0-clause-copied : goal.returns-then-more-eq0-clause-copied
returns-then-more-eq0-clause-copied g c =
    let h = c.loop-count.invariant in
    let a = g.F.Ground.history c.args.files.now in
    let b = g.F.Ground.history c.loop-count.files in
    let d = g.F.Ground.history c.copy_piece.new.files in
    let item = item_at a.present.tree c.args.from.now in
    let here = item_at b.present.tree c.args.from.now in
    let added = c.in_ok-more.ensures.added h.front.bytes h.front.held in
    front_end g.F.Ground.tells item here c.loop-count.count c.args.most _ c.in_ok-more.more (IsCopy (g.W.WatchesPieces.holds c.loop-count.watcher) g.F.Ground.tells b) (IsCopy (g.W.WatchesPieces.holds c.copy_piece.new.watcher) g.F.Ground.tells d) (λ told. item_kept c.args.from.now a.present b.present c.requires.apart (h.moments told).now) h.within (grind (arith, common_steps)) c.if-more-eq0.true h.front added

pub returns-after-loop-count-clause-copied : goal.returns-after-loop-count-clause-copied
returns-after-loop-count-clause-copied g c =
    let h = c.loop-count.invariant in
    let all : c.loop-count.count ≡ c.args.most = omega (arith, h.within, c.loop-count-test.false) in
    let item = item_at (g.F.Ground.history c.args.files.now).present.tree c.args.from.now in
    let H = IsCopy (g.W.WatchesPieces.holds c.loop-count.watcher) g.F.Ground.tells (g.F.Ground.history c.loop-count.files) in
    subst (λ (n : ℕ). HoldsFront g.F.Ground.tells item n H c.loop-count.count) all h.front
