-- The path is one name further down, and what stands there is what the outside tells.
use Rattle.std.proofs.Common.{◌≡◌, ◌∷◌, [], ◌++◌, rules, sym, subst, Err, length, ◌≤◌, arith}
use Rattle.std.specs.Prelude.{IfErr, IsErrOf}
use Rattle.world_api.specs.History.{IsCaused}
use Rattle.dvc_base.specs.Path.{Path}
use Rattle.file_hash.specs.Walk.{IsLook}
use Rattle.file_hash.specs.declared.fault.HashFault.TheVariants.{Failed}
use Rattle.file_hash.proofs.PathsLemmas.{one_name, parts_short}
use Rattle.file_hash.proofs.FaultLemmas.{look_of_long, long_up, long_cause}
use Rattle.file_hash.proofs.walk.look.Goals as goal

pub returns-in_err-path-clause-kinds : goal.returns-in_err-path-clause-kinds
returns-in_err-path-clause-kinds g c =
    let why = c.in_err-path.field-0.0 in
    let name = c.args.name.now in
    let inner = c.args.inner.now ++ name ∷ [] in
    let e : c.from_residual.result ≡ Err why = search rules in
    let long = c.in_err-path.ensures.exact (name ∷ []) (one_name name c.requires.name) c.as_str.ensures.same in
    subst (λ r. IfErr r (IsLook (c.args.at.now ++ inner))) (sym e) (look_of_long (c.args.at.now ++ inner) why (long_up c.args.at.now inner why long))

pub returns-in_err-path-clause-cause : goal.returns-in_err-path-clause-cause
returns-in_err-path-clause-cause g c =
    let why = c.in_err-path.field-0.0 in
    let name = c.args.name.now in
    let faults = g.F.Ground.faults c.args.files.now in
    let e : c.from_residual.result ≡ Err why = search rules in
    subst (λ r. IsCaused faults faults (IsErrOf r Failed)) (sym e) (long_cause (c.args.inner.now ++ name ∷ []) why faults (c.in_err-path.ensures.exact (name ∷ []) (one_name name c.requires.name) c.as_str.ensures.same))

pub returns-in-Ok-Folder-clause-seen : goal.returns-in-Ok-Folder-clause-seen
returns-in-Ok-Folder-clause-seen g c =
    let name = c.args.name.now in
    let path = c.in_ok-path.ensures.exact (name ∷ []) (one_name name c.requires.name) c.as_str.ensures.same in
    let few = parts_short c.in_ok-path.path c.parts.ensures.normal in
    (path, subst (λ (p : Path). length p ≤ 1024) path (omega (arith, few, c.parts.ensures.short)))
