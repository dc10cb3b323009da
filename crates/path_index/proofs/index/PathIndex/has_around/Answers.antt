-- A first path around it is one around it.
use Rattle.std.proofs.Common.{◌∙◌}
use Rattle.dvc_base.specs.Path.{is_within}
use Rattle.path_index.proofs.FirstLemmas.{first_any}
use Rattle.path_index.proofs.index.PathIndex.has_around.Goals as goal

pub returns : goal.returns
returns c =
    record { exact = c.is_some.ensures ∙ first_any (is_within c.args.path.now) c.args.self.now c.first_around.result c.first_around.ensures.first }
