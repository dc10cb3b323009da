use Rattle.std.proofs.Common.{◌≡◌, drop}
use Rattle.lock_files.specs.Refused.{is_among}
use Rattle.change_check.proofs.differences.is_among.Given as goal

-- it is left to look at what follows
abbrev pub invariant-loop-other : goal.invariant-loop-other
invariant-loop-other l = is_among l.path l.paths ≡ is_among l.path (drop l.other-index l.paths)
