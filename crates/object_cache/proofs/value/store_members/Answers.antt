-- One member more is stored.
use Rattle.std.proofs.Common.{[], ◌∷◌, ◌++◌, ◌∙◌, map, refl, arith}
use Rattle.world_api.specs.Outside.{tree_of}
use Rattle.world_api.specs.Tree.{item_at}
use Rattle.object_cache.specs.Objects.{member_name}
use Rattle.object_cache.specs.Copying.{HasNamed}
use Rattle.object_cache.proofs.StoreLemmas.{passes_stored_none, passes_stored_then, passes_stored_more}
use Rattle.object_cache.proofs.PutLemmas.{known_kept}
use Rattle.object_cache.proofs.MemberLemmas.{member_at, among_at, whole_next, places_next}
use Rattle.object_cache.proofs.value.store_members.Goals as goal

pub loop-member-init : goal.loop-member-init
loop-member-init g c = record {
  stored = λ told. refl;
  others = λ told. refl;
  kept = λ told name. refl;
  moments = λ told. passes_stored_none (map member_name c.args.members.now) (g.F.Ground.history c.args.files.now) (g.F.Ground.history c.args.files.now) refl;
  origin = refl;
  later = omega arith;
}

pub store_member-requires-clause-known : goal.store_member-requires-clause-known
store_member-requires-clause-known g c told =
    let a = g.F.Ground.history c.args.files.now in
    let b = g.F.Ground.history c.loop-member.files in
    let at = c.args.at.now in
    let ms = c.args.members.now in
    member_at (λ m. HasNamed m.name (item_at (tree_of b) (at ++ m.path))) ms c.loop-member.member-index c.member-item.result c.loop-member-test.true c.member-item.is
    (known_kept at a.present b.present ms c.requires.outside (c.loop-member.invariant.moments told).now (c.requires.known told))

pub returns-in_err-store_member-clause-moments : goal.returns-in_err-store_member-clause-moments
returns-in_err-store_member-clause-moments g c told =
    let a = g.F.Ground.history c.args.files.now in
    let b = g.F.Ground.history c.loop-member.files in
    let d = g.F.Ground.history c.store_member.new.files in
    let ms = c.args.members.now in
    let x = c.member-item.result in
    passes_stored_then a b d (c.loop-member.invariant.moments told)
    (passes_stored_more (x.name ∷ []) (map member_name ms) b d (among_at ms c.loop-member.member-index x c.loop-member-test.true c.member-item.is) (c.store_member.ensures.moments told))

pub loop-member-preserved : goal.loop-member-preserved
loop-member-preserved g c =
    let a = g.F.Ground.history c.args.files.now in
    let b = g.F.Ground.history c.loop-member.files in
    let d = g.F.Ground.history c.store_member.new.files in
    let ms = c.args.members.now in
    let i = c.loop-member.member-index in
    let x = c.member-item.result in
    let inv = c.loop-member.invariant in
    let ok = c.in_ok-store_member.ensures in
    record {
      stored = λ told. whole_next b.present d.present ms i x c.loop-member-test.true c.member-item.is (ok.moments told).now (inv.stored told) (ok.stored told);
      others = λ told. inv.others told ∙ places_next (tree_of a) (tree_of b) ms i x c.loop-member-test.true c.member-item.is (inv.kept told) (ok.answer told);
      kept = λ told name. ok.kept told name ∙ inv.kept told name;
      moments = λ told. passes_stored_then a b d (inv.moments told) (passes_stored_more (x.name ∷ []) (map member_name ms) b d (among_at ms i x c.loop-member-test.true c.member-item.is) (ok.moments told));
      origin = ok.cause.same ∙ inv.origin;
      later = omega (arith, inv.later, ok.cause.later);
    }
