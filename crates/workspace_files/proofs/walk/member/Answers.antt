-- The text of a name leads to the path below.
use Rattle.std.proofs.Common.{[], ◌∷◌}
use Rattle.workspace_files.proofs.PathsLemmas.{one_name, follow_ok, follow_long, only_long}
use Rattle.workspace_files.proofs.walk.member.Goals as goal

pub returns-in-Ok : goal.returns-in-Ok
returns-in-Ok c =
    let name = c.args.name.now in
    record { exact = follow_ok c.args.at.now (name ∷ []) c.in-Ok.path c.as_str.result.now (one_name name c.requires.name) c.as_str.ensures.same c.in-Ok.ensures.read }

pub returns-in-Err-TooLong : goal.returns-in-Err-TooLong
returns-in-Err-TooLong c =
    let name = c.args.name.now in
    record { exact = follow_long c.args.at.now (name ∷ []) c.as_str.result.now (one_name name c.requires.name) c.as_str.ensures.same (only_long c.args.at.now c.as_str.result.now c.in-Err-TooLong.field-0 c.in-Err-TooLong.field-0-is c.in-Err-TooLong.ensures.read) }
