-- No dependency is at fault, so that of a parameter file is due.
use Rattle.std.proofs.Common.{◌≡◌, ℕ, List, None, sym, ap, ◌∙◌}
use Rattle.stage_schema.specs.declared.stage.ParamWant.{ParamWant}
use Rattle.stage_graph.specs.Fault.{first_of}
use Rattle.stage_graph.specs.Texts.{text_fault}
use Rattle.stage_graph.proofs.FaultLemmas.{after_none, checks_same}
use Rattle.stage_graph.proofs.text.check_needs.Goals as goal

pub returns : goal.returns
returns c =
    let s = c.args.stage.now in
    let none : first_of (text_fault s.dir) s.deps ≡ None =
    ap (λ (deps : List (List ℕ)). first_of (text_fault s.dir) deps) (sym c.as_slice.ensures.same) ∙ c.in_ok-check_deps.ensures.checked in
    record {
      checked = checks_same c.check_files.result _ _
          (ap (λ (wants : List ParamWant). first_of (λ want. text_fault s.dir want.file) wants) c.as_slice-2.ensures.same
          ∙ sym (after_none (first_of (text_fault s.dir) s.deps) (first_of (λ want. text_fault s.dir want.file) s.params) none))
          c.check_files.ensures.checked;
    }
