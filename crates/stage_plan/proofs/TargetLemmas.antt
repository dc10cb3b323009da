-- Targets, one after another.
--     named_more     the stages that they name, with one target more
--     other_more     where they lead, with one target more
use Rattle.std.proofs.Common.{◌≡◌, ℕ, ◌+◌, ◌<◌, List, [], ◌∷◌, ◌++◌, length, map, take, get_or, sym, ap, ◌∙◌, append-nil}
use Rattle.std.specs.List.{filter, flat_map}
use Rattle.std.proofs.lemmas.List.{take_more, map-append}
use Rattle.std.proofs.lemmas.List.Elements.{filter-append}
use Rattle.std.proofs.lemmas.Grind.{flat_map-append}
use Rattle.world_api.specs.Effect.{path_from}
use Rattle.stage_schema.specs.declared.stage.Stage.{Stage}
use Rattle.stage_plan.specs.Targets.{named, is_other, other_paths}

pub named_more : (written : List Stage) (targets : List (List ℕ)) (i : ℕ) (target : List ℕ) → i < length targets → target ≡ get_or targets i target →
    flat_map (named written) (take (i + 1) targets) ≡ flat_map (named written) (take i targets) ++ named written target
named_more written targets i target inside here =
    ap (flat_map (named written)) (take_more targets i target inside)
    ∙ flat_map-append (named written) (take i targets) (get_or targets i target ∷ [])
    ∙ ap (λ (ns : List ℕ). flat_map (named written) (take i targets) ++ ns) (append-nil (named written (get_or targets i target)))
    ∙ ap (λ (t : List ℕ). flat_map (named written) (take i targets) ++ named written t) (sym here)

pub other_more : (written : List Stage) (targets : List (List ℕ)) (i : ℕ) (target : List ℕ) → i < length targets → target ≡ get_or targets i target →
    other_paths written (take (i + 1) targets) ≡ other_paths written (take i targets) ++ other_paths written (target ∷ [])
other_more written targets i target inside here =
    let before = filter (is_other written) (take i targets) in
    let next : List (List ℕ) = get_or targets i target ∷ [] in
    ap (other_paths written) (take_more targets i target inside)
    ∙ ap (map (path_from [])) (filter-append (is_other written) (take i targets) next)
    ∙ map-append (path_from []) before (filter (is_other written) next)
    ∙ ap (λ (t : List ℕ). other_paths written (take i targets) ++ other_paths written (t ∷ [])) (sym here)
