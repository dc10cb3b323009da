use Rattle.template_vars.specs.Merge.{max_depth, clash_inside}
use Rattle.template_vars.proofs.LawLemmas.{nothing_clashes, all_new, no_template}
use Rattle.template_vars.proofs.ResolveLemmas.{plain_filled}
use Rattle.template_vars.proofs.ScopeLemmas.{node_hidden}
use Rattle.template_vars.proofs.laws.variable_laws.Goals as goal

pub returns : goal.returns
returns c = record {
  first_clash = λ b. nothing_clashes (clash_inside max_depth) b;
  first_merge = all_new;
  plain = λ vars t none. plain_filled vars t (no_template t none);
  hides = node_hidden;
}
