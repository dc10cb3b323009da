use Rattle.std.proofs.Common.{arith}
use Rattle.std.proofs.lemmas.Str.Pattern.{split_once_first}
use Rattle.dvc_config.proofs.LineLemmas.{parted_is}
use Rattle.dvc_config.proofs.line.parted.Goals as goal

pub returns : goal.returns
returns c = record {
  exact =
      parted_is c.args.text.now c.split_once.result
      (split_once_first 61 c.args.text.now c.split_once.result c.split_once.ensures.cases (omega arith));
}
