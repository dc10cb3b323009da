use Rattle.std.proofs.Common.{◌≡◌, take, map}
use Rattle.template_expand.specs.Wanted.{each_once, AreTexts}
use Rattle.template_expand.proofs.wanted.push_each_once.Given as goal

-- the paths so far, each once, with their texts
abbrev pub invariant-loop-path : goal.invariant-loop-path
invariant-loop-path l = record {
  texts : AreTexts (map (λ text. text.now) l.texts.keys) l.once;
  once : l.once ≡ each_once (take l.path-index l.paths);
}
