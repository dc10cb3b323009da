use Rattle.std.proofs.Common.{◌≡◌, take}
use Rattle.stage_schema.specs.Params.{texts_of}
use Rattle.stage_schema.proofs.build.texts_of.Given as goal

-- the texts so far
abbrev pub invariant-loop-item : goal.invariant-loop-item
invariant-loop-item l = l.texts ≡ texts_of (take l.item-index l.items)
