-- Each member behind the first has a comma before it.
use Rattle.file_hash.proofs.TextLemmas.{more_step}
use Rattle.file_hash.proofs.ReadBackLemmas.{sound_more}
use Rattle.file_hash.proofs.print.put_members.Goals as goal

pub loop-member-preserved : goal.loop-member-preserved
loop-member-preserved c =
    let rest = c.in-Some.rest.now in
    let i = c.loop-member.member-index in
    record {
      written = more_step c.put_member.new.out c.loop-member.out c.put-in-loop-member.new.self c.put_member-in-loop-member.new.out rest i c.member-item.result c.member-item.is c.loop-member-test.true c.loop-member.invariant.written c.in_ok-put-2.ensures.ok c.in_ok-put_member-2.ensures.exact;
      sound = sound_more rest i c.member-item.result c.member-item.is c.loop-member-test.true c.loop-member.invariant.sound c.in_ok-put_member-2.ensures.sound;
    }
