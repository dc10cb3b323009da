use Rattle.std.proofs.Common.{◌≡◌, ◌∙◌, Bool, true, ◌&&◌, List, ℕ, bytes_eq, sym, ap}
use Rattle.std.specs.Cmp.Lexicographic.{pointwise}
use Rattle.std.proofs.lemmas.Bool.{false≢true}
use Rattle.dvc_base.specs.declared.data.ParamFile.{ParamFile}
use Rattle.lock_files.specs.declared.entry.PathEntry.{PathEntry}
use Rattle.change_check.specs.Same.{canonical_file, canonical_files, same_path, same_file}
use Rattle.change_check.proofs.ValueLemmas.{files_exact}
use Rattle.change_check.proofs.same.same_inputs.Goals.{then-same_texts, else-same_texts}
use Rattle.change_check.proofs.same.same_inputs.Goals as goal

-- where commands and dependencies are the same, the parameters decide
pub returns-then-same_paths : goal.returns-then-same_paths
returns-then-same_paths c =
    let e = c.args.entry.now in
    let s = c.args.seen.now in
    let commands = pointwise bytes_eq e.commands s.commands in
    let deps = pointwise same_path e.deps s.deps in
    let params = pointwise same_file (canonical_files e.params) s.params in
    let by_value = pointwise (λ f g. same_file (canonical_file f) g) in
    let texts : commands ≡ c.same_texts.result =
    ap (λ (t : List (List ℕ)). pointwise bytes_eq t s.commands) (sym c.as_slice.ensures.same) ∙ ap (pointwise bytes_eq c.as_slice.result.now) (sym c.as_slice-2.ensures.same) ∙ sym c.same_texts.ensures.exact in
    let both : (commands ≡ true) × (deps ≡ true) = elim c.if-same_texts.branch [
      | then-same_texts w ↦ (
        texts ∙ w.if-same_texts.true,
        ap (λ (t : List PathEntry). pointwise same_path t s.deps) (sym w.as_slice-then-same_texts.ensures.same)
            ∙ ap (pointwise same_path w.as_slice-then-same_texts.result.now) (sym w.as_slice-then-same_texts-2.ensures.same) ∙ sym w.same_paths.ensures.exact ∙ sym w.value-is ∙ c.if-same_paths.true,
      )
      | else-same_texts w ↦ absurd (false≢true (sym w.if-same_texts.false ∙ sym w.value-is ∙ c.if-same_paths.true))
    ] in
    record {
      exact = c.same_files.ensures.exact ∙ ap (λ (fs : List ParamFile). by_value fs c.as_slice-then-same_paths-2.result.now) c.as_slice-then-same_paths.ensures.same
          ∙ ap (by_value e.params) c.as_slice-then-same_paths-2.ensures.same ∙ files_exact e.params s.params
          ∙ sym (ap (λ (r : Bool). r && params) both.1) ∙ sym (ap (λ (r : Bool). r && (deps && params)) both.0);
    }
