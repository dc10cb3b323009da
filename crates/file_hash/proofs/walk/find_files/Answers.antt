-- The walk began with nothing, at the folder itself.
use Rattle.std.proofs.Common.{◌≡◌, ◌++◌, List, sym, subst, rules, Err}
use Rattle.std.specs.Prelude.{IfErr}
use Rattle.std.specs.FinMap.{entries}
use Rattle.std.proofs.lemmas.List.{append-nil}
use Rattle.dvc_base.specs.Path.{Path}
use Rattle.world_api.specs.Outside.{tree_of}
use Rattle.file_hash.specs.Walk.{below, nothing_met, IsRefusal}
use Rattle.file_hash.specs.declared.walk.Found.{Found}
use Rattle.file_hash.proofs.walk.find_files.Goals as goal

pub returns-in_err-walk-clause-refused : goal.returns-in_err-walk-clause-refused
returns-in_err-walk-clause-refused g c = λ told.
    let tree = tree_of (g.F.Ground.history c.args.files.now) in
    let at = c.args.at.now in
    let why = c.in_err-walk.field-0.0 in
    let e : c.from_residual.result ≡ Err why = search rules in
    let first = subst (λ (fs : List Found). IsRefusal (record { found = fs; size = 0 }) (below (at ++ c.root.result) (entries tree)) why) c.new.ensures.empty (c.in_err-walk.ensures.refused told) in
    let second = subst (λ (q : Path). IsRefusal nothing_met (below (at ++ q) (entries tree)) why) c.root.ensures.root first in
    let third = subst (λ (q : Path). IsRefusal nothing_met (below q (entries tree)) why) (append-nil at) second in
    subst (λ r. IfErr r (IsRefusal nothing_met (below at (entries tree)))) (sym e) third
