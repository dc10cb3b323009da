-- One member more.
use Rattle.std.proofs.Common.{◌∙◌, ap, subst, arith}
use Rattle.world_api.specs.History.{History}
use Rattle.world_api.specs.Outside.{tree_of}
use Rattle.file_hash.specs.Walk.{IsNamed}
use Rattle.file_hash.proofs.MemberLemmas.{told_at, named_push, made_push}
use Rattle.file_hash.proofs.members.named_members.Goals as goal

pub named_member-requires : goal.named_member-requires
named_member-requires g c = record {
  told = λ told.
      told_at (tree_of (g.F.Ground.history c.args.files.now)) (tree_of (g.F.Ground.history c.loop-file.files)) c.args.at.now c.args.found.now c.loop-file.file-index c.file-item.result c.loop-file-test.true c.file-item.is (ap tree_of (c.loop-file.invariant.same told)) (c.requires.told told);
}

pub loop-file-preserved : goal.loop-file-preserved
loop-file-preserved g c =
    let inv = c.loop-file.invariant in
    let ok = c.in_ok-member.ensures in
    let found = c.args.found.now in
    let i = c.loop-file.file-index in
    let at = c.args.at.now in
    let tree = tree_of (g.F.Ground.history c.args.files.now) in
    record {
      same = λ told. ok.unchanged told ∙ inv.same told;
      named = λ told. named_push tree at found i c.file-item.result c.in_ok-member.member c.loop-file.members.items c.add.new.members.items c.loop-file-test.true c.file-item.is (inv.named told) (subst (λ (x : History). IsNamed (tree_of x) at c.file-item.result c.in_ok-member.member) (inv.same told) (ok.named told)) c.in_ok-add.ensures.added;
      made = made_push found i c.file-item.result c.in_ok-member.member c.loop-file.members.items c.add.new.members.items c.loop-file-test.true c.file-item.is inv.made ok.made c.in_ok-add.ensures.added;
      origin = ok.cause.same ∙ inv.origin;
      later = omega (arith, inv.later, ok.cause.later);
    }
