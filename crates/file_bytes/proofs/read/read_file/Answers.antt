-- As many bytes as were told are the file, and another number is never found where a tree is told.
use Rattle.std.proofs.Common.{ℕ, ◌≤◌, arith, refl, sym, subst, ◌∙◌}
use Rattle.std.proofs.lemmas.Grind.{common_steps}
use Rattle.world_api.specs.Tree.{item_at}
use Rattle.file_bytes.specs.Reading.{HoldsFront}
use Rattle.file_bytes.proofs.ReadLemmas.{file_of_front, size_of_front}
use Rattle.file_bytes.proofs.read.read_file.Goals as goal

pub returns-clause-read : goal.returns-clause-read
returns-clause-read g c = λ told.
    let item = item_at (g.F.Ground.history c.args.files.now).present.tree c.args.at.now in
    let H = g.T.TakesPieces.holds c.read_pieces.new.taker in
    let most = c.saturating_add.result in
    let more : c.args.size ≤ most = grind (arith, common_steps) in
    file_of_front g.F.Ground.tells item c.args.size most H more told (c.requires.told told) (subst (λ (n : ℕ). HoldsFront g.F.Ground.tells item most H n) c.if-found-size.false c.in_ok-found.ensures.read)

pub returns-clause-taken : goal.returns-clause-taken
returns-clause-taken g c =
    let h = c.in_ok-found.ensures.read in
    record { bytes = h.bytes; held = h.held; size = h.size ∙ c.if-found-size.false }

pub returns-then-found-size-clause-changed : goal.returns-then-found-size-clause-changed
returns-then-found-size-clause-changed g c =
    let item = item_at (g.F.Ground.history c.args.files.now).present.tree c.args.at.now in
    let H = g.T.TakesPieces.holds c.read_pieces.new.taker in
    let most = c.saturating_add.result in
    let more : c.args.size ≤ most = grind (arith, common_steps) in
    let h = c.in_ok-found.ensures.read in (
      refl,
      (
        λ e. c.if-found-size.true (sym e),
        λ told. c.if-found-size.true (size_of_front g.F.Ground.tells item c.args.size most c.in_ok-found.found H more told (c.requires.told told) h),
      ),
      record { bytes = h.bytes; held = h.held; size = h.size },
    )
