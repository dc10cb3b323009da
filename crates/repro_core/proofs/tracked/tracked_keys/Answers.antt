-- All keys, or the chosen ones.
use Rattle.std.proofs.Common.{◌∙◌, sym, ap, inl, inr}
use Rattle.std.proofs.lemmas.Result.{err_from_is_err_and}
use Rattle.yaml_nodes.specs.Part.{key_of}
use Rattle.lock_files.specs.Order.{in_order}
use Rattle.repro_laws.specs.Params.{key_values}
use Rattle.repro_core.proofs.TrackedLemmas.{whole_keys, chosen_keys, refused_keys}
use Rattle.repro_core.proofs.tracked.tracked_keys.Goals as goal

pub returns-then-tracked : goal.returns-then-tracked
returns-then-tracked c =
    let w = c.args.tracked.now in
    let root = c.args.root.now in
    let sorted = c.in_ok-pairs_by_key in
    record { exact = whole_keys w root sorted.field-0 c.if-tracked.true (sorted.ensures.exact ∙ ap (in_order key_of) c.pairs_of.ensures.exact) }

pub returns-in_err-pairs : goal.returns-in_err-pairs
returns-in_err-pairs c =
    let w = c.args.tracked.now in
    let root = c.args.root.now in
    let fault = c.in_err-pairs.field-0.0 in
    let exit = err_from_is_err_and c.from_residual-in_err-pairs.result c.from_residual-in_err-pairs.ensures.1 in
    record {
      exact = rw (exit.1, exit.2) (elim c.in_err-pairs.ensures.exact [
        | inl none ↦ inl none
        | inr e ↦ inr (refused_keys w root fault c.if-tracked.false (ap (key_values w.path root) (sym c.as_slice.ensures.same) ∙ e))
      ]);
    }

pub returns : goal.returns
returns c =
    let w = c.args.tracked.now in
    let root = c.args.root.now in
    let sorted = c.in_ok-pairs_by_key-2 in
    record {
      exact =
          chosen_keys w root c.in_ok-pairs.pairs sorted.field-0 c.if-tracked.false
          (ap (key_values w.path root) (sym c.as_slice.ensures.same) ∙ c.in_ok-pairs.ensures.exact)
          (sorted.ensures.exact ∙ ap (in_order key_of) c.as_slice-2.ensures.same);
    }
