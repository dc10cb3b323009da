use Rattle.std.proofs.Common.{◌≡◌, take, Ok}
use Rattle.template_expand.specs.Answer.{all_by}
use Rattle.template_expand.specs.Fill.{filled_path}
use Rattle.template_expand.proofs.fill.fill_paths.Given as goal

-- what was made of the paths so far
abbrev pub invariant-loop-path : goal.invariant-loop-path
invariant-loop-path l = all_by (filled_path l.scope) (take l.path-index l.paths) ≡ Ok l.made
