-- The names of numbered stages.
--     name_some, name_none     the name at a number
--     names_more               the names at one more number
use Rattle.std.proofs.Common.{◌≡◌, ℕ, ◌+◌, ◌<◌, List, [], ◌∷◌, ◌++◌, length, take, get_or, Option, Some, None, sym, ap, ◌∙◌, slice_get, append-nil}
use Rattle.std.specs.Option.{option_map}
use Rattle.std.specs.List.{cons_option}
use Rattle.std.proofs.lemmas.List.{take_more}
use Rattle.std.proofs.lemmas.List.Elements.{filter_map-append}
use Rattle.stage_schema.specs.declared.stage.Stage.{Stage}
use Rattle.stage_graph.specs.Cycle.{names_of}

pub name_some : (stages : List Stage) (n : ℕ) (s : Stage) (name : List ℕ) (old now : List (List ℕ)) → slice_get stages n ≡ Some s → name ≡ s.name →
    now ≡ old ++ name ∷ [] → now ≡ old ++ names_of stages (n ∷ [])
name_some stages n s name old now there same pushed =
    pushed ∙ ap (λ (text : List ℕ). old ++ text ∷ []) same
    ∙ ap (λ (o : Option Stage). old ++ cons_option (option_map (λ (x : Stage). x.name) o) []) (sym there)

pub name_none : (stages : List Stage) (n : ℕ) (old : List (List ℕ)) → slice_get stages n ≡ None → old ≡ old ++ names_of stages (n ∷ [])
name_none stages n old missing =
    sym (append-nil old) ∙ ap (λ (o : Option Stage). old ++ cons_option (option_map (λ (x : Stage). x.name) o) []) (sym missing)

pub names_more : (stages : List Stage) (ns : List ℕ) (i : ℕ) → i < length ns →
    names_of stages (take (i + 1) ns) ≡ names_of stages (take i ns) ++ names_of stages (get_or ns i 0 ∷ [])
names_more stages ns i inside =
    ap (λ (ms : List ℕ). names_of stages ms) (take_more ns i 0 inside)
    ∙ filter_map-append (λ (n : ℕ). option_map (λ (x : Stage). x.name) (slice_get stages n)) (take i ns) (get_or ns i 0 ∷ [])
