use Rattle.std.proofs.Common.{◌≡◌, take, map}
use Rattle.lock_files.specs.Nodes.{pair}
use Rattle.template_expand.specs.Source.{choice_of}
use Rattle.template_expand.proofs.matrix.choice_node.Given as goal

-- the pairs of what is chosen so far
abbrev pub invariant-loop-picked : goal.invariant-loop-picked
invariant-loop-picked l = l.pairs ≡ map (λ pick. pair pick.name pick.value) (choice_of (take l.picked-index l.choice))
