-- Texts are taken apart, nodes are opened, and the rest computes.
use Rattle.std.proofs.Common.{refl}
use Rattle.std.specs.Fmt.{digits}
use Rattle.yaml_scalars.specs.Number.{parts_of}
use Rattle.lock_files.proofs.Opened.{opened}
use Rattle.params.specs.Canonical.{canonical}
use Rattle.params.proofs.cases.worked_cases.Goals as goal

pub returns-clause-number : goal.returns-clause-number
unfolding parts_of digits
returns-clause-number c = record {
  tenth = refl;
  no_whole_part = refl;
  power = refl;
  one = refl;
  point = refl;
  twenty = refl;
  below = refl;
  zero = refl;
  minus_zero = refl;
  largest = refl;
  up = refl;
  down = refl;
}

pub returns-clause-node : goal.returns-clause-node
unfolding parts_of digits canonical
returns-clause-node c = record { nested = simp opened }

pub returns-clause-lookup : goal.returns-clause-lookup
returns-clause-lookup c = record {
  name = simp opened;
  item = simp opened;
  zeros = simp opened;
  past = simp opened;
  no_list = simp opened;
  no_name = simp opened;
  empty = refl;
  unclosed = simp opened;
  below_none = simp opened;
}
