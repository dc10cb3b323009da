-- One more output is seen, or what refuses it is the stage's own.
use Rattle.std.proofs.Common.{◌≡◌, ◌∙◌, ◌++◌, ◌∷◌, ◌+◌, ℕ, [], length, List, map, take, sym, ap, rules, Some}
use Rattle.std.proofs.lemmas.Result.{err_from_is_err_and}
use Rattle.std.proofs.lemmas.List.{length-append}
use Rattle.world_api.specs.Tree.{value_at}
use Rattle.world_api.specs.History.{History}
use Rattle.world_api.specs.Outside.{tree_of}
use Rattle.change_check.specs.declared.seen.SeenPath.{SeenPath}
use Rattle.repro_laws.specs.Limits.{limit_fault}
use Rattle.repro_laws.specs.Stage.{stage_outs}
use Rattle.repro_laws.specs.Entries.{seen_out}
use Rattle.repro_core.specs.Telling.{IsOneOf}
use Rattle.repro_core.proofs.OwnLemmas.{own_at, out_own}
use Rattle.repro_core.proofs.SeeLemmas.{map_more, first_rest}
use Rattle.repro_core.proofs.see.name_outs.Goals as goal

pub returns-in_err-name_out-clause-told : goal.returns-in_err-name_out-clause-told
returns-in_err-name_out-clause-told g c =
    let s = c.args.stage.now in
    let out = c.out-item.result in
    let fault = c.in_err-name_out.field-0.0 in
    let exit = err_from_is_err_and c.from_residual.result c.from_residual.ensures.1 in
    let own = own_at (λ o. IsOneOf (stage_outs s) o.path) c.args.outs.now c.loop-out.out-index out c.loop-out-test.true c.out-item.is c.requires.own in
    rw (exit.1, exit.2) (out_own s out.path (Some fault) own c.in_err-name_out.ensures.kinds c.in_err-name_out.ensures.told)

pub loop-out-preserved : goal.loop-out-preserved
loop-out-preserved g c =
    let outs = c.args.outs.now in
    let i = c.loop-out.out-index in
    let out = c.out-item.result in
    let path = c.in_ok-name_out.field-0 in
    let before = c.loop-out-test.true in
    let here = c.out-item.is in
    let tree = tree_of (g.F.Ground.history c.args.files.now) in
    let pushed : c.push.new.self ≡ c.loop-out.seen ++ path ∷ [] = c.in_ok-push.ensures.ok in
    let so_far = c.loop-out.invariant in
    record {
      same = λ told. c.name_out.ensures.unchanged told ∙ so_far.same told;
      seen = λ told.
          let seen = c.in_ok-name_out.ensures.seen told ∙ ap (λ (h : History). seen_out (tree_of h) out) (so_far.same told) in
          pushed ∙ ap (λ (ps : List SeenPath). ps ++ path ∷ []) (so_far.seen told)
          ∙ ap (λ (p : SeenPath). map (seen_out tree) (take i outs) ++ p ∷ []) seen
          ∙ sym (map_more outs i out before here (seen_out tree));
      left = λ told.
          let fine = ap (λ (h : History). limit_fault (value_at (tree_of h) out.path)) (sym (so_far.same told)) ∙ c.in_ok-name_out.ensures.answer told in
          first_rest outs i out before here (λ o. limit_fault (value_at tree o.path)) (so_far.left told) fine;
      count =
          ap length pushed ∙ length-append c.loop-out.seen (path ∷ []) ∙ ap (λ (n : ℕ). n + 1) so_far.count;
      counted = search rules;
    }
