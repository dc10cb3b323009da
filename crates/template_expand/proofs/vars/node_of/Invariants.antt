use Rattle.std.proofs.Common.{◌≡◌, length}
use Rattle.template_expand.specs.Vars.{node_of}
use Rattle.template_expand.proofs.vars.node_of.Given as goal

-- the file is the first among those that are left
abbrev pub invariant-loop-rest : goal.invariant-loop-rest
invariant-loop-rest l = node_of l.rest l.path ≡ node_of l.files l.path

abbrev pub decreases-loop-rest : goal.decreases-loop-rest
decreases-loop-rest l = length l.rest
