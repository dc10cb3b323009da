use Rattle.std.proofs.Common.{◌∙◌, sym}
use Rattle.std.proofs.lemmas.Bool.{both_ways}
use Rattle.sim_world.proofs.SortedLemmas.{found_here, found_later}
use Rattle.sim_world.proofs.sorted.find.Goals as goal

pub returns-then-is_same : goal.returns-then-is_same
returns-then-is_same g c = record {
  first =
      sym (found_here c.args.at.now c.args.members.now c.loop-member.member-index c.member-item.result c.loop-member-test.true c.member-item.is (c.is_same.ensures.equal.0 c.if-is_same.true))
      ∙ c.loop-member.invariant;
}

pub loop-member-preserved : goal.loop-member-preserved
loop-member-preserved g c =
    sym (found_later c.args.at.now c.args.members.now c.loop-member.member-index c.member-item.result c.loop-member-test.true c.member-item.is (λ s. both_ways c.is_same.result c.if-is_same.false (c.is_same.ensures.equal.1 s)))
    ∙ c.loop-member.invariant
