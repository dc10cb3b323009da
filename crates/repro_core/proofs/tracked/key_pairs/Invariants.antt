use Rattle.std.proofs.Common.{◌≡◌, take, Ok}
use Rattle.repro_laws.specs.Params.{key_values}
use Rattle.repro_core.proofs.tracked.key_pairs.Given as goal

-- the keys so far have led to these
abbrev pub invariant-loop-key : goal.invariant-loop-key
invariant-loop-key l = key_values l.file l.root (take l.key-index l.keys) ≡ Ok l.pairs
