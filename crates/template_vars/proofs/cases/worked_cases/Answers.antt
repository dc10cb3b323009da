-- Nodes are opened, and the rest computes.
use Rattle.std.proofs.Common.{refl}
use Rattle.lock_files.proofs.Opened.{opened}
use Rattle.template_vars.specs.Merge.{clash_inside, merged_inside}
use Rattle.template_vars.proofs.cases.worked_cases.Goals as goal

pub returns-clause-merge : goal.returns-clause-merge
unfolding clash_inside merged_inside
returns-clause-merge c = record {
  first = refl;
  inside = simp opened;
  twice = simp opened;
  deep = simp opened;
  mixed = simp opened;
  new_last = refl;
}

pub returns-clause-text : goal.returns-clause-text
returns-clause-text c = record {
  both = simp opened;
  merged = simp opened;
  spaces = simp opened;
  unclosed = simp opened;
  dollars = simp opened;
  backslashes = refl;
  null = simp opened;
  truth = simp opened;
  once = simp opened;
  empty = refl;
  missing = simp opened;
  list = simp opened;
  hidden = simp opened;
  hidden_key = simp opened;
}

pub returns-clause-key : goal.returns-clause-key
returns-clause-key c = record {
  whole = refl;
  behind = refl;
  two_keys = refl;
  escaped = refl;
  unclosed = refl;
  node = simp opened;
  none = simp opened;
  template = refl;
  no_template = refl;
}
