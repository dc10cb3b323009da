use Rattle.std.proofs.Common.{◌≡◌, length}
use Rattle.std.specs.List.{list_all}
use Rattle.yaml_nodes.specs.Part.{key_of}
use Rattle.lock_files.specs.Mapping.{has}
use Rattle.params.proofs.same.have_keys.Given as goal

-- it is so of all where it is so of those that are left
abbrev pub invariant-loop-rest : goal.invariant-loop-rest
invariant-loop-rest l = list_all (λ p. has (key_of p) l.others) l.rest ≡ list_all (λ p. has (key_of p) l.others) l.pairs

abbrev pub decreases-loop-rest : goal.decreases-loop-rest
decreases-loop-rest l = length l.rest
