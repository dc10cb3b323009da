-- The file was read at its own path, which lies below the folder's.
use Rattle.std.proofs.Common.{◌≡◌, true, sym, subst}
use Rattle.dvc_base.specs.Path.{Path, under}
use Rattle.dvc_base.proofs.PathLemmas.{under-append}
use Rattle.file_bytes.specs.Reading.{IsChange}
use Rattle.file_hash.proofs.FolderLemmas.{honest_at}
use Rattle.file_hash.proofs.members.named_member.Goals as goal

pub returns-in-Err-Changed-clause-kinds : goal.returns-in-Err-Changed-clause-kinds
returns-in-Err-Changed-clause-kinds g c =
    let at = c.args.at.now in
    let here = c.in_ok-whole.ensures.exact c.args.file.now.path c.parts.ensures.normal c.text.ensures.by_parts in
    let change = subst (IsChange g.F.Ground.tells c.args.file.now.size) c.in-Err-Changed.field-0-is c.in-Err-Changed.ensures.changed in (
      subst (λ (p : Path). under at p ≡ true) (sym here) (under-append at c.args.file.now.path),
      honest_at g.F.Ground.tells _ _ c.in-Err-Changed.told c.in-Err-Changed.found c.in-Err-Changed.told-is c.in-Err-Changed.found-is change.1,
    )
