use Rattle.std.proofs.Common.{◌≡◌, ◌++◌, map, take, codes, string_bytes}
use Rattle.std.specs.List.{flat_map}
use Rattle.stage_schema.proofs.fault.push_others.Given as goal

-- the keys so far
abbrev pub invariant-loop-key : goal.invariant-loop-key
invariant-loop-key l = string_bytes l.text ≡ string_bytes l.initial.text ++ flat_map (λ further. codes "." ++ further) (map (λ key. key.now) (take l.key-index l.keys))
