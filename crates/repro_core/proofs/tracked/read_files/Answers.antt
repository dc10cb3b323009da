-- One more file is read, or the first that is refused.
use Rattle.std.proofs.Common.{◌≡◌, ◌∙◌, ◌++◌, ◌∷◌, ℕ, [], List, map, take, refl, sym, ap, subst, rules, Some, Ok, IsTrue}
use Rattle.std.specs.List.{AllByRecursion}
use Rattle.std.proofs.lemmas.List.{take_all, map-append}
use Rattle.std.proofs.lemmas.Result.{err_from_is_err_and}
use Rattle.dvc_base.specs.Answer.{fault_in, IsAnswer}
use Rattle.dvc_base.specs.declared.data.ParamFile.{ParamFile}
use Rattle.yaml_print.specs.Sound.{Each}
use Rattle.lock_files.specs.Form.{IsKeyed, are_distinct, file_at}
use Rattle.world_api.specs.History.{History}
use Rattle.world_api.specs.Outside.{tree_of}
use Rattle.repro_laws.specs.Params.{tracked_at}
use Rattle.repro_laws.specs.Stage.{tracked_path, tracked_text}
use Rattle.repro_laws.specs.declared.stage.Tracked.{Tracked}
use Rattle.repro_core.specs.Telling.{IsOneOf}
use Rattle.repro_core.proofs.OwnLemmas.{own_at, own_ordered}
use Rattle.repro_core.proofs.SeeLemmas.{map_more}
use Rattle.repro_core.proofs.TrackedLemmas.{file_made, all_more, answer_here, each_push}
use Rattle.repro_core.proofs.tracked.read_files.Goals as goal

pub read_file-requires : goal.read_file-requires
read_file-requires g c = record {
  keys = own_at (λ w. IsTrue (are_distinct [] w.keys)) c.args.written.now c.loop-tracked.tracked-index c.tracked-item.result c.loop-tracked-test.true c.tracked-item.is c.requires.keys;
}

pub returns-in_err-read_file-clause-answer : goal.returns-in_err-read_file-clause-answer
returns-in_err-read_file-clause-answer g c told =
    let tree = tree_of (g.F.Ground.history c.args.files.now) in
    let w = c.tracked-item.result in
    let so_far = c.loop-tracked.invariant in
    let fault = c.in_err-read_file.field-0.0 in
    let exit = err_from_is_err_and c.from_residual.result c.from_residual.ensures.1 in
    let here = subst (λ (h : History). IsAnswer (Some fault) (fault_in (file_made (tree_of h) w))) (so_far.same told) (c.in_err-read_file.ensures.answer told) in
    rw (exit.1, exit.2)
    (answer_here (file_made tree) (tracked_at tree) refl (λ x xs. refl) c.args.written.now c.loop-tracked.tracked-index w c.loop-tracked-test.true c.tracked-item.is c.loop-tracked.made (so_far.read told) fault here)

pub returns-in_err-read_file-clause-told : goal.returns-in_err-read_file-clause-told
returns-in_err-read_file-clause-told g c s is =
    let written = c.args.written.now in
    let w = c.tracked-item.result in
    let exit = err_from_is_err_and c.from_residual.result c.from_residual.ensures.1 in
    let all : AllByRecursion (λ x. IsOneOf (map tracked_path s.params) (tracked_path x)) written =
    subst (AllByRecursion (λ (x : Tracked). IsOneOf (map tracked_path s.params) (tracked_path x))) is (own_ordered tracked_path s.params) in
    let own = own_at (λ x. IsOneOf (map tracked_path s.params) (tracked_path x)) written c.loop-tracked.tracked-index w c.loop-tracked-test.true c.tracked-item.is all in
    rw (exit.1, exit.2) (c.in_err-read_file.ensures.told s own)

pub loop-tracked-preserved : goal.loop-tracked-preserved
loop-tracked-preserved g c =
    let tree = tree_of (g.F.Ground.history c.args.files.now) in
    let written = c.args.written.now in
    let i = c.loop-tracked.tracked-index in
    let w = c.tracked-item.result in
    let before = c.loop-tracked-test.true in
    let here = c.tracked-item.is in
    let so_far = c.loop-tracked.invariant in
    let made = c.loop-tracked.made in
    let file = c.in_ok-read_file.field-0 in
    let pushed : c.push.new.self ≡ made ++ file ∷ [] = c.in_ok-push.ensures.ok in
    record {
      same = λ told. c.read_file.ensures.unchanged told ∙ so_far.same told;
      read = λ told.
          let read = ap (λ (h : History). file_made (tree_of h) w) (sym (so_far.same told)) ∙ c.in_ok-read_file.ensures.read told in
          all_more (file_made tree) (tracked_at tree) refl (λ x xs. refl) written i w before here made (so_far.read told) file read
          ∙ ap (λ (fs : List ParamFile). Ok fs) (sym pushed);
      texts =
          ap (map file_at) pushed ∙ map-append file_at made (file ∷ []) ∙ ap (λ (ts : List (List ℕ)). ts ++ file.file ∷ []) so_far.texts
          ∙ ap (λ (t : List ℕ). map tracked_text (take i written) ++ t ∷ []) c.in_ok-read_file.ensures.text
          ∙ sym (map_more written i w before here tracked_text);
      keys = subst (Each (λ f. IsKeyed f.keys)) (sym pushed) (each_push (λ f. IsKeyed f.keys) made file so_far.keys c.in_ok-read_file.ensures.keys);
      counted = search rules;
    }

pub returns-clause-read : goal.returns-clause-read
returns-clause-read g c told =
    let tree = tree_of (g.F.Ground.history c.args.files.now) in
    ap (tracked_at tree) (sym (take_all c.loop-tracked.tracked-index c.args.written.now c.loop-tracked-test.false)) ∙ c.loop-tracked.invariant.read told
