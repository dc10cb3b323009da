use Rattle.std.proofs.Common.{◌≡◌, take, Some}
use Rattle.repro_laws.specs.Entries.{all_named}
use Rattle.repro_core.proofs.record.path_entries.Given as goal

-- each path so far has its entry
abbrev pub invariant-loop-at : goal.invariant-loop-at
invariant-loop-at l = record {
  named : all_named (take l.at l.fn.seen) ≡ Some l.entries;
}
