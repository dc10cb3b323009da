use Rattle.std.proofs.Common.{◌≡◌, ◌++◌, take}
use Rattle.dvc_cli.specs.Words.{targets_in}
use Rattle.dvc_cli.proofs.words.push_targets.Given as goal

-- the targets so far
abbrev pub invariant-loop-word : goal.invariant-loop-word
invariant-loop-word l = l.targets ≡ l.initial.targets ++ targets_in (take l.word-index l.words)
