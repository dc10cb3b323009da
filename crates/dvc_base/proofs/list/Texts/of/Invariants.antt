use Rattle.std.proofs.Common.{◌≡◌, map, take}
use Rattle.dvc_base.proofs.list.Texts.of.Given as goal

-- the texts so far are copied
abbrev pub invariant-loop-text : goal.invariant-loop-text
invariant-loop-text l = l.own ≡ map (λ text. text.now) (take l.text-index l.texts)
