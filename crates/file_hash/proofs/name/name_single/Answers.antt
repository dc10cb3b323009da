-- A change of the file is told at its own path.
use Rattle.std.proofs.Common.{ap, subst, ◌∙◌}
use Rattle.dvc_base.specs.Path.{under}
use Rattle.dvc_base.proofs.PathLemmas.{under-refl}
use Rattle.file_hash.specs.Naming.{IsFileChange}
use Rattle.file_hash.proofs.FolderLemmas.{honest_at}
use Rattle.file_hash.proofs.name.name_single.Goals as goal

pub returns-in_ok-copy-in-Err-Changed-clause-changed : goal.returns-in_ok-copy-in-Err-Changed-clause-changed
returns-in_ok-copy-in-Err-Changed-clause-changed g c =
    let at = c.args.at.now in
    let change = subst (IsFileChange g.F.Ground.tells) c.in-Err-Changed.field-0-is c.in-Err-Changed.ensures.changed in (
      ap (under at) c.in_ok-copy-in-Err-Changed.ensures.same ∙ under-refl at,
      honest_at g.F.Ground.tells _ _ c.in-Err-Changed.told c.in-Err-Changed.found c.in-Err-Changed.told-is c.in-Err-Changed.found-is change,
    )
