-- A begun lane is filled with the file's bytes and put on the disk, or the file has changed.
use Rattle.std.proofs.Common.{ℕ, ◌≤◌, arith, sym, subst, ◌∙◌}
use Rattle.std.proofs.lemmas.Grind.{common_steps}
use Rattle.world_api.specs.Tree.{item_at}
use Rattle.file_bytes.specs.Reading.{HoldsFront}
use Rattle.file_bytes.proofs.ReadLemmas.{file_of_front, size_of_front}
use Rattle.world_api.proofs.WriteLemmas.{passes_begin, passes_settle}
use Rattle.object_cache.specs.Copying.{IsCopy}
use Rattle.object_cache.proofs.CopyLemmas.{more_moments, item_kept, file_kept, told_kept}
use Rattle.object_cache.proofs.copy.copy_file.Goals as goal

pub returns-in_err-begin-clause-moments : goal.returns-in_err-begin-clause-moments
returns-in_err-begin-clause-moments g c told =
    passes_begin 0 (g.F.Ground.history c.args.files.now) (g.F.Ground.history c.begin.new.self) (c.begin.ensures.moments told)

pub copy_pieces-requires-clause-no_dvc : goal.copy_pieces-requires-clause-no_dvc
copy_pieces-requires-clause-no_dvc g c told =
    let a = g.F.Ground.history c.args.files.now in
    let b = g.F.Ground.history c.begin.new.self in
    let t = c.requires.told told in
    file_kept c.args.from.now a.present b.present c.requires.apart (passes_begin 0 a b (c.begin.ensures.moments told)).now (t.0, t.1.0)

pub returns-in_err-found-clause-moments : goal.returns-in_err-found-clause-moments
returns-in_err-found-clause-moments g c told =
    let a = g.F.Ground.history c.args.files.now in
    let b = g.F.Ground.history c.begin.new.self in
    more_moments a b (g.F.Ground.history c.copy_pieces.new.files) (passes_begin 0 a b (c.begin.ensures.moments told)) (c.copy_pieces.ensures.moments told)

pub returns-in_err-copy-clause-moments : goal.returns-in_err-copy-clause-moments
returns-in_err-copy-clause-moments g c told =
    let a = g.F.Ground.history c.args.files.now in
    let b = g.F.Ground.history c.begin.new.self in
    more_moments a b (g.F.Ground.history c.copy_pieces.new.files) (passes_begin 0 a b (c.begin.ensures.moments told)) (c.copy_pieces.ensures.moments told)

pub returns-then-found-size-clause-moments : goal.returns-then-found-size-clause-moments
returns-then-found-size-clause-moments g c told =
    let a = g.F.Ground.history c.args.files.now in
    let b = g.F.Ground.history c.begin.new.self in
    more_moments a b (g.F.Ground.history c.copy_pieces.new.files) (passes_begin 0 a b (c.begin.ensures.moments told)) (c.copy_pieces.ensures.moments told)

pub returns-then-found-size-clause-free : goal.returns-then-found-size-clause-free
returns-then-found-size-clause-free g c told =
    let a = g.F.Ground.history c.args.files.now in
    let b = g.F.Ground.history c.begin.new.self in
    let H = IsCopy (g.W.WatchesPieces.holds c.copy_pieces.new.watcher) g.F.Ground.tells (g.F.Ground.history c.copy_pieces.new.files) in
    let most = c.saturating_add.result in
    let more : c.args.size ≤ most = grind (arith, common_steps) in
    let known = told_kept c.args.from.now c.args.size a.present b.present c.requires.apart (passes_begin 0 a b (c.begin.ensures.moments told)).now (c.requires.told told) in
    absurd (c.if-found-size.true (size_of_front g.F.Ground.tells (item_at b.present.tree c.args.from.now) c.args.size most c.in_ok-found.found H more told known c.in_ok-found.ensures.copied))

pub returns-then-found-size-clause-honest : goal.returns-then-found-size-clause-honest
returns-then-found-size-clause-honest g c = (
  λ e. c.if-found-size.true (sym e),
  λ told.
      let a = g.F.Ground.history c.args.files.now in
      let b = g.F.Ground.history c.begin.new.self in
      let H = IsCopy (g.W.WatchesPieces.holds c.copy_pieces.new.watcher) g.F.Ground.tells (g.F.Ground.history c.copy_pieces.new.files) in
      let most = c.saturating_add.result in
      let more : c.args.size ≤ most = grind (arith, common_steps) in
      let known = told_kept c.args.from.now c.args.size a.present b.present c.requires.apart (passes_begin 0 a b (c.begin.ensures.moments told)).now (c.requires.told told) in
      c.if-found-size.true (size_of_front g.F.Ground.tells (item_at b.present.tree c.args.from.now) c.args.size most c.in_ok-found.found H more told known c.in_ok-found.ensures.copied),
)

pub returns-in_err-settle-clause-moments : goal.returns-in_err-settle-clause-moments
returns-in_err-settle-clause-moments g c told =
    let a = g.F.Ground.history c.args.files.now in
    let b = g.F.Ground.history c.begin.new.self in
    let d = g.F.Ground.history c.copy_pieces.new.files in
    passes_settle 0 a d (g.F.Ground.history c.settle.new.self) (more_moments a b d (passes_begin 0 a b (c.begin.ensures.moments told)) (c.copy_pieces.ensures.moments told)) (c.settle.ensures.moments told)

pub returns-clause-moments : goal.returns-clause-moments
returns-clause-moments g c told =
    let a = g.F.Ground.history c.args.files.now in
    let b = g.F.Ground.history c.begin.new.self in
    let d = g.F.Ground.history c.copy_pieces.new.files in
    passes_settle 0 a d (g.F.Ground.history c.settle.new.self) (more_moments a b d (passes_begin 0 a b (c.begin.ensures.moments told)) (c.copy_pieces.ensures.moments told)) (c.settle.ensures.moments told)

pub returns-clause-copied : goal.returns-clause-copied
returns-clause-copied g c told =
    let a = g.F.Ground.history c.args.files.now in
    let b = g.F.Ground.history c.begin.new.self in
    let H = IsCopy (g.W.WatchesPieces.holds c.copy_pieces.new.watcher) g.F.Ground.tells (g.F.Ground.history c.copy_pieces.new.files) in
    let most = c.saturating_add.result in
    let more : c.args.size ≤ most = grind (arith, common_steps) in
    let item = item_at b.present.tree c.args.from.now in
    let begun = (passes_begin 0 a b (c.begin.ensures.moments told)).now in
    let known = told_kept c.args.from.now c.args.size a.present b.present c.requires.apart begun (c.requires.told told) in
    let h = file_of_front g.F.Ground.tells item c.args.size most H more told known (subst (λ (n : ℕ). HoldsFront g.F.Ground.tells item most H n) c.if-found-size.false c.in_ok-found.ensures.copied) in
    let settled = c.in_ok-settle.ensures.settled told in
    record {
      bytes = h.bytes;
      there = sym (item_kept c.args.from.now a.present b.present c.requires.apart begun) ∙ h.whole;
      lane = record { stands = settled.same ∙ h.held.1 told; firm = settled.firm };
      held = h.held.0;
    }
