use Rattle.std.proofs.Common.{Bool, drop}
use Rattle.params.proofs.SameLemmas.{TellsItems, TellsPairs}
use Rattle.params.proofs.same.+same.Given as goal

-- what says it of the items that are left says it of all
abbrev pub invariant-are_same-loop-item : goal.invariant-are_same-loop-item
invariant-are_same-loop-item l = (r : Bool) → TellsItems r (drop l.item-index l.items) l.rest → TellsItems r l.items l.others

abbrev pub invariant-stand_in-loop-pair : goal.invariant-stand_in-loop-pair
invariant-stand_in-loop-pair l = (r : Bool) → TellsPairs r (drop l.pair-index l.pairs) l.others → TellsPairs r l.pairs l.others
