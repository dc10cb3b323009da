-- Nodes are opened, numbers are written out, and the rest computes.
use Rattle.std.proofs.Common.{◌≡◌, ◌∷◌, [], arith}
use Rattle.std.specs.Fmt.{decimal}
use Rattle.std.proofs.lemmas.Fmt.{decimal_digit}
use Rattle.lock_files.proofs.Opened.{opened}
use Rattle.stage_schema.specs.Schema.{has_template}
use Rattle.template_vars.specs.Merge.{clash_inside, merged_inside}
use Rattle.template_expand.proofs.cases.worked_cases.Goals as goal

decimal_0 : decimal 0 ≡ 48 ∷ []
decimal_0 = decimal_digit 0 (omega arith)

decimal_1 : decimal 1 ≡ 49 ∷ []
decimal_1 = decimal_digit 1 (omega arith)

pub returns-clause-made : goal.returns-clause-made
returns-clause-made c = record {
  scalars = simp opened;
  mappings = simp (opened, decimal_0, decimal_1);
  mapping = simp opened;
  no_items = simp opened;
  by_key = simp opened;
  top_alone = simp opened;
  no_list = simp opened;
  product = simp (opened, decimal_1);
  own_key = simp opened;
  no_axes = simp opened;
  no_choices = simp opened;
}

pub returns-clause-file : goal.returns-clause-file
unfolding has_template clash_inside merged_inside
returns-clause-file c = record {
  plain = simp opened;
  hides = simp opened;
  twice = simp opened;
  within = simp opened;
  too_many = simp opened;
}
