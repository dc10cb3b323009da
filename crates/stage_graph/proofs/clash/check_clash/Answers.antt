-- Owner by owner, with those before it.
use Rattle.std.proofs.Common.{List, take, drop, get_or, sym, ap, ◌∙◌}
use Rattle.std.proofs.lemmas.List.{drop_all}
use Rattle.std.proofs.lemmas.Result.{err_from_is_err_and}
use Rattle.stage_graph.specs.Clash.{clash_fault, clash_with, clash_after}
use Rattle.stage_graph.specs.declared.owner.Owner.{Owner}
use Rattle.stage_graph.proofs.ClashLemmas.{clash_none, clash_told}
use Rattle.stage_graph.proofs.FaultLemmas.{due_same, checks_err}
use Rattle.stage_graph.proofs.clash.check_clash.Goals as goal

pub loop-place-preserved : goal.loop-place-preserved
loop-place-preserved c =
    let os = c.args.owners.now in
    let i = c.loop-place.place in
    let o = c.index-owners-place.result in
    c.loop-place.invariant
    ∙ clash_none os i o c.loop-place-test.true (ap (λ (x : Owner). clash_with (take i os) x) (sym c.index-owners-place.is) ∙ c.in_ok-check_owner.ensures.checked)

pub returns-in_err-check_owner : goal.returns-in_err-check_owner
returns-in_err-check_owner c =
    let os = c.args.owners.now in
    let i = c.loop-place.place in
    let o = c.index-owners-place.result in
    let fault = c.in_err-check_owner.field-0.0 in
    let exit = err_from_is_err_and c.from_residual.result c.from_residual.ensures.1 in
    record {
      checked = checks_err c.from_residual.result (clash_fault os) exit.0 fault exit.1 exit.2
          (due_same (clash_after (take i os) (drop i os)) (clash_fault os) fault c.loop-place.invariant
          (clash_told os i o fault c.loop-place-test.true
          (due_same (clash_with (take i os) o) (clash_with (take i os) (get_or os i o)) fault
          (ap (λ (x : Owner). clash_with (take i os) x) (sym c.index-owners-place.is)) c.in_err-check_owner.ensures.checked)));
    }

pub returns : goal.returns
returns c =
    let os = c.args.owners.now in
    let i = c.loop-place.place in
    record {
      checked = c.loop-place.invariant ∙ ap (λ (later : List Owner). clash_after (take i os) later) (drop_all i os c.loop-place-test.false);
    }
