use Rattle.std.proofs.Common.{◌≡◌, ◌++◌, ◌∷◌, take}
use Rattle.std.specs.Prelude.{string_bytes}
use Rattle.std.specs.List.{flat_map}
use Rattle.template_expand.specs.Source.{pick_of}
use Rattle.template_expand.proofs.matrix.put_parts.Given as goal

-- the parts of what is chosen so far
abbrev pub invariant-loop-picked : goal.invariant-loop-picked
invariant-loop-picked l = string_bytes l.text ≡ string_bytes l.initial.text ++ flat_map (λ picked. 45 ∷ (pick_of picked).part) (take l.picked-index l.others)
