use Rattle.std.proofs.Common.{◌≡◌, ap, ◌∙◌, rules}
use Rattle.dvc_base.specs.Path.{under}
use Rattle.dvc_base.proofs.PathLemmas.{under-refl}
use Rattle.object_cache.proofs.value.name_single.Goals as goal

pub returns-in_ok-copy-in-Err-Changed-clause-told : goal.returns-in_ok-copy-in-Err-Changed-clause-told
returns-in_ok-copy-in-Err-Changed-clause-told g c =
    let at = c.args.at.now in
    let e : c.in_ok-copy-in-Err-Changed.field-0 ≡ at = search rules in
    ap (under at) e ∙ under-refl at
