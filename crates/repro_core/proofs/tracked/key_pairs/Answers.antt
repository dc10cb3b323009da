-- A key more, or the first that is refused.
use Rattle.std.proofs.Common.{◌≡◌, ◌∙◌, ◌++◌, ◌∷◌, [], List, inl, inr, refl, sym, ap, Ok}
use Rattle.std.proofs.lemmas.List.{take_all}
use Rattle.std.proofs.lemmas.Result.{err_from_is_err_and}
use Rattle.dvc_base.specs.declared.node.Pair.{Pair}
use Rattle.repro_laws.specs.Params.{key_value, key_values}
use Rattle.repro_core.proofs.TrackedLemmas.{all_more, fault_here}
use Rattle.repro_core.proofs.tracked.key_pairs.Goals as goal

pub loop-key-preserved : goal.loop-key-preserved
loop-key-preserved c =
    let file = c.args.file.now in
    let root = c.args.root.now in
    let pair = c.in_ok-key_pair.field-0 in
    let pushed : c.push.new.self ≡ c.loop-key.pairs ++ pair ∷ [] = c.in_ok-push.ensures.ok in
    all_more (key_value file root) (key_values file root) refl (λ x xs. refl) c.args.keys.now c.loop-key.key-index c.key-item.result c.loop-key-test.true c.key-item.is c.loop-key.pairs c.loop-key.invariant pair c.in_ok-key_pair.ensures.exact
    ∙ ap (λ (ps : List Pair). Ok ps) (sym pushed)

pub returns-in_err-key_pair : goal.returns-in_err-key_pair
returns-in_err-key_pair c =
    let file = c.args.file.now in
    let root = c.args.root.now in
    let fault = c.in_err-key_pair.field-0.0 in
    let exit = err_from_is_err_and c.from_residual.result c.from_residual.ensures.1 in
    let here = fault_here (key_value file root) (key_values file root) refl (λ x xs. refl) c.args.keys.now c.loop-key.key-index c.key-item.result c.loop-key-test.true c.key-item.is c.loop-key.pairs c.loop-key.invariant fault in
    record {
      exact = rw (exit.1, exit.2) (elim c.in_err-key_pair.ensures.exact [ inl none ↦ inl none | inr e ↦ inr (here e) ]);
    }

pub returns : goal.returns
returns c =
    let keys = c.args.keys.now in
    record { exact = ap (key_values c.args.file.now c.args.root.now) (sym (take_all c.loop-key.key-index keys c.loop-key-test.false)) ∙ c.loop-key.invariant }
