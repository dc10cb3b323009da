use Rattle.std.proofs.Common.{◌∙◌}
use Rattle.sim_world.proofs.PlaceLemmas.{no_root}
use Rattle.sim_world.proofs.PutLemmas.{not_at_root, files_step, fit_step}
use Rattle.sim_world.proofs.tree.put_files.Goals as goal

pub put_member-requires : goal.put_member-requires
put_member-requires c =
    not_at_root c.members-member-items.result.now c.loop-member.member-index c.member-item.result c.loop-member-test.true c.member-item.is
    (rw c.members-member-items.ensures.all (no_root c.args.map.now c.check.ensures.files))

pub loop-member-preserved : goal.loop-member-preserved
loop-member-preserved c =
    let ms = c.members-member-items.result.now in
    record {
      rest = c.loop-member.invariant.rest ∙ files_step c.args.at.now ms c.loop-member.member-index c.member-item.result _ _ c.loop-member-test.true c.member-item.is c.in_ok-put_member.ensures.ok;
      fits = fit_step c.args.at.now ms c.loop-member.member-index c.member-item.result c.loop-member-test.true c.member-item.is c.loop-member.invariant.fits c.in_ok-put_member.ensures.fits;
    }
