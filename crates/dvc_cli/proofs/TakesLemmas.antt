-- What an output took, over several puts.
--     pieces-split, pieces-at     the pieces up to one, that one, and those behind it
--     walk-text                   a walk is its first name, and the others one after another
use Rattle.std.proofs.Common.{◌≡◌, ℕ, ◌+◌, ◌<◌, List, [], ◌∷◌, ◌++◌, sym, ap, ◌∙◌, take, drop, get_or, length, add-one, codes, append_assoc}
use Rattle.std.proofs.lemmas.List.{append-nil, take-append-drop}
use Rattle.std.proofs.lemmas.Grind.{flat_map-append}
use Rattle.std.proofs.Math.Seq.{drop-cons}
use Rattle.std.specs.List.{flat_map}
use Rattle.dvc_base.specs.FaultParts.{walk_text}
use Rattle.dvc_cli.specs.Tell.{next_text}

pub pieces-split : {X : Type 0} (f : X → List ℕ) (xs : List X) (i : ℕ) (d : X) → i < length xs →
    flat_map f xs ≡ flat_map f (take i xs) ++ (f (get_or xs i d) ++ flat_map f (drop (i + 1) xs))
pieces-split f xs i d h =
    ap (flat_map f) (sym (take-append-drop i xs)) ∙ (flat_map-append f (take i xs) (drop i xs)
    ∙ ap (λ rest. flat_map f (take i xs) ++ flat_map f rest) (drop-cons xs i d h ∙ ap (λ n. get_or xs i d ∷ drop n xs) (sym (add-one i))))

-- the same of a piece that is the one at its place
pub pieces-at : {X : Type 0} (f : X → List ℕ) (xs : List X) (i : ℕ) (x : X) → i < length xs → x ≡ get_or xs i x →
    flat_map f xs ≡ flat_map f (take i xs) ++ (f x ++ flat_map f (drop (i + 1) xs))
pieces-at f xs i x h e =
    pieces-split f xs i x h ∙ ap (λ y. flat_map f (take i xs) ++ (f y ++ flat_map f (drop (i + 1) xs))) (sym e)

pub walk-text : (name : List ℕ) (names : List (List ℕ)) → walk_text (name ∷ names) ≡ name ++ flat_map next_text names
walk-text name [] = sym (append-nil name)
walk-text name (next ∷ names) =
    ap (λ (rest : List ℕ). name ++ (codes " <- " ++ rest)) (walk-text next names)
    ∙ ap (λ (rest : List ℕ). name ++ rest) (sym (append_assoc (codes " <- ") next (flat_map next_text names)))
