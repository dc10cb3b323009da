-- Each piece lengthens what was taken, and none ends it.
use Rattle.std.proofs.Common.{◌≡◌, ℕ, rules, arith, refl, ap, subst}
use Rattle.std.proofs.lemmas.Grind.{common_steps}
use Rattle.world_api.specs.Tree.{item_at}
use Rattle.world_api.specs.History.{History}
use Rattle.file_bytes.specs.Reading.{HoldsFront}
use Rattle.file_bytes.proofs.ReadLemmas.{front_none, front_more, front_end}
use Rattle.file_bytes.proofs.read.read_pieces.Goals as goal

pub loop-count-init : goal.loop-count-init
loop-count-init g c =
    let item = item_at (g.F.Ground.history c.args.files.now).present.tree c.args.at.now in
    record { within = omega arith; buffer = refl; same = λ told. refl; front = front_none g.F.Ground.tells item (g.T.TakesPieces.holds c.args.taker.now) c.requires.empty; origin = refl; later = omega arith }

pub loop-count-preserved : goal.loop-count-preserved
loop-count-preserved g c =
    let h = c.loop-count.invariant in
    let tree : History → _ = λ x. item_at x.present.tree c.args.at.now in
    let item = tree (g.F.Ground.history c.args.files.now) in
    let here = tree (g.F.Ground.history c.loop-count.files) in
    let added = c.in_ok-more.ensures.added h.front.bytes h.front.held in
    let front = front_more g.F.Ground.tells item here c.loop-count.count _ c.in_ok-more.more _ (g.T.TakesPieces.holds c.loop-count.taker) (g.T.TakesPieces.holds c.read_piece.new.taker) (λ told. ap tree (h.same told)) refl h.front added in
    record {
      within = grind (arith, common_steps);
      buffer = grind (arith, common_steps);
      same = search rules;
      front = front;
      origin = search rules;
      later = search rules;
    }

pub returns-then-more-eq0-clause-read : goal.returns-then-more-eq0-clause-read
returns-then-more-eq0-clause-read g c =
    let h = c.loop-count.invariant in
    let tree : History → _ = λ x. item_at x.present.tree c.args.at.now in
    let item = tree (g.F.Ground.history c.args.files.now) in
    let here = tree (g.F.Ground.history c.loop-count.files) in
    let added = c.in_ok-more.ensures.added h.front.bytes h.front.held in
    front_end g.F.Ground.tells item here c.loop-count.count c.args.most _ c.in_ok-more.more (g.T.TakesPieces.holds c.loop-count.taker) (g.T.TakesPieces.holds c.read_piece.new.taker) (λ told. ap tree (h.same told)) h.within (grind (arith, common_steps)) c.if-more-eq0.true h.front added

pub returns-after-loop-count-clause-read : goal.returns-after-loop-count-clause-read
returns-after-loop-count-clause-read g c =
    let h = c.loop-count.invariant in
    let all : c.loop-count.count ≡ c.args.most = omega (arith, h.within, c.loop-count-test.false) in
    let item = item_at (g.F.Ground.history c.args.files.now).present.tree c.args.at.now in
    let H = g.T.TakesPieces.holds c.loop-count.taker in
    subst (λ (n : ℕ). HoldsFront g.F.Ground.tells item n H c.loop-count.count) all h.front
