use Rattle.std.proofs.Common.{◌≡◌, arith}
use Rattle.std.proofs.lemmas.Grind.{common_steps}
use Rattle.std.specs.Prelude.{option_copied}
use Rattle.change_check.specs.Compare as spec
use Rattle.change_check.proofs.NothingLemmas.{nothing_changed}
use Rattle.change_check.proofs.differences.compare.Goals as goal

pub returns-clause-nothing : goal.returns-clause-nothing
returns-clause-nothing c =
    let exact : c.add_outs.new.diffs ≡ spec.compare (option_copied c.args.entry) c.args.seen.now c.args.gaps.now = grind (arith, common_steps) in
    nothing_changed (option_copied c.args.entry) c.args.seen.now c.args.gaps.now c.add_outs.new.diffs exact
