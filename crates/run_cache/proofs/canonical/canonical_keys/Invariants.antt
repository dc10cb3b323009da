use Rattle.std.proofs.Common.{◌≡◌, map, take}
use Rattle.yaml_print.specs.Print.{value_of}
use Rattle.yaml_print.specs.Sound.{Each, IsSound}
use Rattle.run_cache.specs.Records.{canonical_pair}
use Rattle.run_cache.proofs.canonical.canonical_keys.Given as goal

-- the pairs so far
abbrev pub invariant-loop-pair : goal.invariant-loop-pair
invariant-loop-pair l = Each (λ p. IsSound 59 (value_of p)) l.keys → l.made ≡ map canonical_pair (take l.pair-index l.keys)
