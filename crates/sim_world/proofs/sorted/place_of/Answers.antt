use Rattle.std.proofs.Common.{◌≡◌, ◌∙◌, sym, ap, arith}
use Rattle.std.specs.declared.cmp.Ordering.TheVariants.{Greater}
use Rattle.world_api.specs.Tree.{path_cmp}
use Rattle.sim_world.specs.declared.sorted.Member.{Member}
use Rattle.sim_world.proofs.ListLemmas.{all_more}
use Rattle.sim_world.proofs.SortedLemmas.{paths_of, length_paths, is_greater, not_greater_from, path_at, next_at}
use Rattle.sim_world.proofs.sorted.place_of.Goals as goal

pub loop-place-preserved : goal.loop-place-preserved
loop-place-preserved g c =
    let here = c.index-members-place.result in
    let greater : path_cmp c.args.at.now here.path ≡ Greater =
    ap (λ (m : Member _). path_cmp c.args.at.now m.path) c.index-members-place.is ∙ sym c.compare.ensures.by_parts ∙ is_greater c.compare.result (sym c.eq.ensures ∙ c.if-eq.true) in
    record {
      within = omega (arith, c.loop-place-test.true);
      before =
          all_more (λ p. path_cmp c.args.at.now p ≡ Greater) (paths_of c.args.members.now) c.loop-place.place here.path (omega (arith, length_paths c.args.members.now, c.loop-place-test.true))
          (sym (path_at c.args.members.now c.loop-place.place here c.loop-place-test.true c.index-members-place.is)) c.loop-place.invariant.before greater;
    }

pub returns-else-eq : goal.returns-else-eq
returns-else-eq g c =
    let here = c.index-members-place.result in
    record {
      place = record {
        within = omega (arith, length_paths c.args.members.now, c.loop-place.invariant.within);
        before = c.loop-place.invariant.before;
        next = next_at c.args.at.now c.args.members.now c.loop-place.place here c.loop-place-test.true c.index-members-place.is (λ e. not_greater_from c.compare.result (sym c.eq.ensures ∙ c.if-eq.false) (c.compare.ensures.by_parts ∙ sym (ap (λ (m : Member _). path_cmp c.args.at.now m.path) c.index-members-place.is) ∙ e));
      };
    }
