-- The folder is the one at the path that the text leads to.
use Rattle.std.proofs.Common.{◌≡◌, ◌++◌, rules, sym, ap, subst, ◌∙◌, Err}
use Rattle.std.specs.Prelude.{IfErr, IsErrOf}
use Rattle.world_api.specs.Tree.{names_in}
use Rattle.world_api.specs.Writes.{IsFolderAt}
use Rattle.world_api.specs.Outside.{tree_of}
use Rattle.world_api.specs.History.{IsCaused}
use Rattle.file_hash.specs.Walk.{IsLook}
use Rattle.file_hash.specs.declared.fault.HashFault.TheVariants.{Failed}
use Rattle.file_hash.proofs.FaultLemmas.{look_of_long, long_cause}
use Rattle.file_hash.proofs.walk.names_at.Goals as goal

pub returns-in_err-here-clause-kinds : goal.returns-in_err-here-clause-kinds
returns-in_err-here-clause-kinds g c =
    let why = c.in_err-here.field-0.0 in
    let path = c.args.at.now ++ c.args.inner.now in
    let e : c.from_residual.result ≡ Err why = search rules in
    subst (λ r. IfErr r (IsLook path)) (sym e) (look_of_long path why (c.in_err-here.ensures.exact c.args.inner.now c.parts.ensures.normal c.text.ensures.by_parts))

pub returns-in_err-here-clause-cause : goal.returns-in_err-here-clause-cause
returns-in_err-here-clause-cause g c =
    let why = c.in_err-here.field-0.0 in
    let path = c.args.at.now ++ c.args.inner.now in
    let faults = g.F.Ground.faults c.args.files.now in
    let e : c.from_residual.result ≡ Err why = search rules in
    subst (λ r. IsCaused faults faults (IsErrOf r Failed)) (sym e) (long_cause path why faults (c.in_err-here.ensures.exact c.args.inner.now c.parts.ensures.normal c.text.ensures.by_parts))

pub list-requires : goal.list-requires
list-requires g c = λ told.
    let tree = tree_of (g.F.Ground.history c.args.files.now) in
    let here = c.in_ok-here.ensures.exact c.args.inner.now c.parts.ensures.normal c.text.ensures.by_parts in
    subst (IsFolderAt tree) (sym here) (c.requires.folder told)

pub returns-in-Ok-clause-told : goal.returns-in-Ok-clause-told
returns-in-Ok-clause-told g c = λ told.
    let tree = tree_of (g.F.Ground.history c.args.files.now) in
    let here = c.in_ok-here.ensures.exact c.args.inner.now c.parts.ensures.normal c.text.ensures.by_parts in
    c.in-Ok.ensures.told told ∙ ap (names_in tree) here
