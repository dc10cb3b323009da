use Rattle.std.proofs.Common.{◌≡◌, take, map, fold}
use Rattle.stage_schema.specs.Params.{with_text, texts_of}
use Rattle.stage_schema.proofs.wants.add_texts.Given as goal

-- the texts with those of the items so far
abbrev pub invariant-loop-item : goal.invariant-loop-item
invariant-loop-item l = map (λ text. text.now) l.texts.keys ≡ fold with_text (map (λ text. text.now) l.initial.texts.keys) (texts_of (take l.item-index l.items))
