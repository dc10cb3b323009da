use Rattle.std.proofs.Common.{◌≢◌, [], sym, subst}
use Rattle.std.specs.List.{AllByRecursion}
use Rattle.repro_laws.specs.declared.stage.Out.{Out}
use Rattle.repro_core.proofs.RoadsLemmas.{all_at, outs_not_root}
use Rattle.repro_core.proofs.prepared.roads_of.Goals as goal

pub above-requires : goal.above-requires
above-requires c =
    let s = c.args.stage.now in
    let outs = c.as_slice-out-items.result.now in
    all_at (λ (o : Out). o.path ≢ []) outs c.loop-out.out-index c.out-item.result c.loop-out-test.true c.out-item.is
    (subst (AllByRecursion (λ (o : Out). o.path ≢ [])) (sym c.as_slice-out-items.ensures.same) (outs_not_root s c.requires))
