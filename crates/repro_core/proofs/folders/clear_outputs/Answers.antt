-- The outputs are cleared one after another: what is gone stays gone.
use Rattle.std.proofs.Common.{map, rules}
use Rattle.world_api.specs.Effect.{is_in_any}
use Rattle.world_api.specs.History.{Keeps}
use Rattle.world_api.specs.Calls.{InClear}
use Rattle.world_api.proofs.HistoryLemmas.{passes_on}
use Rattle.repro_laws.specs.Stage.{out_path}
use Rattle.repro_core.proofs.FoldersLemmas.{clear_root, clear_keeps_then, clear_gone_at}
use Rattle.repro_core.proofs.folders.clear_outputs.Goals as goal

pub clear-requires : goal.clear-requires
clear-requires g c =
    clear_root c.args.outs.now c.loop-out.out-index c.out-item.result c.loop-out-test.true c.out-item.is c.requires

pub returns-in_err-clear-clause-moments : goal.returns-in_err-clear-clause-moments
returns-in_err-clear-clause-moments g c told =
    let outs = c.args.outs.now in
    let out = c.out-item.result in
    let start = g.F.Ground.history c.args.files.now in
    let before = g.F.Ground.history c.loop-out.files in
    let after = g.F.Ground.history c.clear.new.self in
    let so_far = c.loop-out.invariant.passes told in
    passes_on (Keeps (is_in_any (map out_path outs)) start.present) (InClear out.path before.present) start before after so_far
    (λ m h. clear_keeps_then outs c.loop-out.out-index out start.present before.present m c.loop-out-test.true c.out-item.is so_far.now h) (c.clear.ensures.moments told)

pub loop-out-preserved : goal.loop-out-preserved
loop-out-preserved g c =
    let outs = c.args.outs.now in
    let i = c.loop-out.out-index in
    let out = c.out-item.result in
    let start = g.F.Ground.history c.args.files.now in
    let before = g.F.Ground.history c.loop-out.files in
    let after = g.F.Ground.history c.clear.new.self in
    record {
      gone =
          λ told. clear_gone_at outs i out before.present after.present c.loop-out-test.true c.out-item.is (c.loop-out.invariant.gone told) (c.in_ok-clear.ensures.cleared told) (c.clear.ensures.moments told).now;
      passes =
          λ told. let so_far = c.loop-out.invariant.passes told in passes_on (Keeps (is_in_any (map out_path outs)) start.present) (InClear out.path before.present) start before after so_far (λ m h. clear_keeps_then outs i out start.present before.present m c.loop-out-test.true c.out-item.is so_far.now h) (c.clear.ensures.moments told);
      counted = search rules;
    }
