use Rattle.std.proofs.Common.{◌≡◌, ◌++◌, take}
use Rattle.dvc_cli.proofs.words.push_all.Given as goal

-- the words so far
abbrev pub invariant-loop-word : goal.invariant-loop-word
invariant-loop-word l = l.targets ≡ l.initial.targets ++ take l.word-index l.words
