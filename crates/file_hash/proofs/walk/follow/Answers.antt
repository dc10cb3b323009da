-- A text of a path leads down to it.
use Rattle.std.proofs.Common.{inr, ap}
use Rattle.dvc_base.specs.declared.limits.What.TheVariants.{Path}
use Rattle.file_hash.specs.declared.fault.HashFault.TheVariants.{TooLarge}
use Rattle.file_hash.proofs.PathsLemmas.{follow_ok, follow_long, only_long}
use Rattle.file_hash.proofs.walk.follow.Goals as goal

pub returns-in-Ok : goal.returns-in-Ok
returns-in-Ok c =
    record { exact = λ q n is. follow_ok c.args.from.now q c.in-Ok.path c.args.text.now n is c.in-Ok.ensures.read }

pub returns-in-Err-TooLong : goal.returns-in-Err-TooLong
returns-in-Err-TooLong c =
    record { exact = λ q n is. inr (ap (TooLarge Path) c.limit.ensures.exact, follow_long c.args.from.now q c.args.text.now n is (only_long c.args.from.now c.args.text.now c.in-Err-TooLong.field-0 c.in-Err-TooLong.field-0-is c.in-Err-TooLong.ensures.read)) }
