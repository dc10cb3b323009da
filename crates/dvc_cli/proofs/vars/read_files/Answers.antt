-- One more file is read, or what refuses it refuses all of them.
use Rattle.std.proofs.Common.{◌≡◌, ◌∙◌, ◌++◌, ◌∷◌, [], List, sym, ap, subst, rules, Ok, Err}
use Rattle.std.proofs.lemmas.Result.{err_from_is_err_and}
use Rattle.world_api.specs.Tree.{item_at}
use Rattle.world_api.specs.History.{History}
use Rattle.world_api.specs.Outside.{tree_of}
use Rattle.template_expand.specs.declared.files.VarFile.{VarFile}
use Rattle.workspace_files.specs.Read.{IsRead}
use Rattle.dvc_cli.specs.Vars.{var_at}
use Rattle.dvc_cli.proofs.VarLemmas.{files_stop, files_more}
use Rattle.dvc_cli.proofs.vars.read_files.Goals as goal

pub returns-in_err-read_file-clause-read : goal.returns-in_err-read_file-clause-read
returns-in_err-read_file-clause-read g c told =
    let tree = tree_of (g.F.Ground.history c.args.files.now) in
    let path = c.path-item.result in
    let fault = c.in_err-read_file.field-0.0 in
    let exit = err_from_is_err_and c.from_residual.result c.from_residual.ensures.1 in
    let so_far = c.loop-path.invariant in
    let here = subst (λ (h : History). IsRead {A = VarFile} (Err fault) (var_at path (item_at (tree_of h) path))) (so_far.same told) (c.in_err-read_file.ensures.read told) in
    rw (exit.1, exit.2) (files_stop tree c.args.paths.now c.loop-path.path-index path c.loop-path-test.true c.path-item.is c.loop-path.made (so_far.read told) fault here)

pub loop-path-preserved : goal.loop-path-preserved
loop-path-preserved g c =
    let tree = tree_of (g.F.Ground.history c.args.files.now) in
    let path = c.path-item.result in
    let file = c.in_ok-read_file.field-0 in
    let so_far = c.loop-path.invariant in
    let pushed : c.push.new.self ≡ c.loop-path.made ++ file ∷ [] = c.in_ok-push.ensures.ok in
    record {
      same = λ told. c.read_file.ensures.unchanged told ∙ so_far.same told;
      read = λ told.
          let here = sym (ap (λ (h : History). var_at path (item_at (tree_of h) path)) (so_far.same told)) ∙ c.in_ok-read_file.ensures.read told in
          files_more tree c.args.paths.now c.loop-path.path-index path c.loop-path-test.true c.path-item.is c.loop-path.made (so_far.read told) file here
          ∙ ap (λ (fs : List VarFile). Ok fs) (sym pushed);
      counted = search rules;
    }
