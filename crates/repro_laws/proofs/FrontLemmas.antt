-- What holds of stages in a line holds of a front of them.
--     order_front, apart_front, names_front
use Rattle.std.proofs.Common.{◌≡◌, ℕ, Bool, true, false, not, List, [], ◌∷◌, ◌++◌, map, refl, sym, ap, ◌∙◌, bytes_eq}
use Rattle.std.specs.List.{list_any, flat_map}
use Rattle.std.proofs.lemmas.Bool.{and_parts, and_from, or_parts, or_from, not-true, not_from_false}
use Rattle.std.proofs.lemmas.Grind.{flat_map-append}
use Rattle.std.proofs.lemmas.List.{map-append}
use Rattle.dvc_base.specs.Path.{Path, overlap}
use Rattle.world_api.specs.Calls.{is_apart, are_apart}
use Rattle.repro_laws.specs.Stage.{read_paths, stage_outs}
use Rattle.repro_laws.specs.Lock.{is_among}
use Rattle.repro_laws.specs.Headline.{is_ordered, have_names}
use Rattle.repro_laws.specs.declared.stage.Stage.{Stage}
use Rattle.repro_laws.proofs.ListLemmas.{any_parts}

-- ---- the order

first_reads : (xs ys ps : List Path) → list_any (λ p. list_any (overlap p) (xs ++ ys)) ps ≡ false → list_any (λ p. list_any (overlap p) xs) ps ≡ false
first_reads xs ys [] h = refl
first_reads xs ys (p ∷ ps) h =
    let parts = or_parts (list_any (overlap p) (xs ++ ys)) (list_any (λ q. list_any (overlap q) (xs ++ ys)) ps) h in
    or_from (list_any (overlap p) xs) (list_any (λ q. list_any (overlap q) xs) ps) (any_parts (overlap p) xs ys parts.0).0 (first_reads xs ys ps parts.1)

abbrev meets : List Stage → List Path → Bool
meets ss ps = list_any (λ p. list_any (overlap p) (flat_map stage_outs ss)) ps

meets_front : (ss others : List Stage) (ps : List Path) → meets (ss ++ others) ps ≡ false → meets ss ps ≡ false
meets_front ss others ps h =
    first_reads (flat_map stage_outs ss) (flat_map stage_outs others) ps (ap (λ (outs : List Path). list_any (λ p. list_any (overlap p) outs) ps) (sym (flat_map-append stage_outs ss others)) ∙ h)

pub order_front : (ss others : List Stage) → is_ordered (ss ++ others) ≡ true → is_ordered ss ≡ true
order_front [] others h = refl
order_front (s ∷ ss) others h =
    let parts = and_parts (not (meets (s ∷ ss ++ others) (read_paths s))) (is_ordered (ss ++ others)) h in
    let none = meets_front (s ∷ ss) others (read_paths s) (not-true (meets (s ∷ ss ++ others) (read_paths s)) parts.0) in
    and_from (not (meets (s ∷ ss) (read_paths s))) (is_ordered ss) (not_from_false (meets (s ∷ ss) (read_paths s)) none) (order_front ss others parts.1)

pub order_later : (s : Stage) (ss : List Stage) → is_ordered (s ∷ ss) ≡ true → is_ordered ss ≡ true
order_later s ss h = (and_parts (not (meets (s ∷ ss) (read_paths s))) (is_ordered ss) h).1

-- ---- outputs that are apart

apart_end : (p : Path) (qs : List Path) → is_apart p qs ≡ true → is_apart p [] ≡ true
apart_end p [] h = h
apart_end p (q ∷ qs) h = apart_end p qs (and_parts (not (overlap p q)) (is_apart p qs) h).1

is_apart_front : (p : Path) (xs ys : List Path) → is_apart p (xs ++ ys) ≡ true → is_apart p xs ≡ true
is_apart_front p [] ys h = apart_end p ys h
is_apart_front p (x ∷ xs) ys h =
    let parts = and_parts (not (overlap p x)) (is_apart p (xs ++ ys)) h in
    and_from (not (overlap p x)) (is_apart p xs) parts.0 (is_apart_front p xs ys parts.1)

paths_front : (xs ys : List Path) → are_apart (xs ++ ys) ≡ true → are_apart xs ≡ true
paths_front [] ys h = refl
paths_front (x ∷ xs) ys h =
    let parts = and_parts (is_apart x (xs ++ ys)) (are_apart (xs ++ ys)) h in
    and_from (is_apart x xs) (are_apart xs) (is_apart_front x xs ys parts.0) (paths_front xs ys parts.1)

pub apart_front : (ss others : List Stage) → are_apart (flat_map stage_outs (ss ++ others)) ≡ true → are_apart (flat_map stage_outs ss) ≡ true
apart_front ss others h =
    paths_front (flat_map stage_outs ss) (flat_map stage_outs others) (ap are_apart (sym (flat_map-append stage_outs ss others)) ∙ h)

-- ---- names

abbrev names_of : List Stage → List (List ℕ)
names_of ss = map (λ s. s.name) ss

among_front : (ss others : List Stage) (name : List ℕ) → is_among (names_of (ss ++ others)) name ≡ false → is_among (names_of ss) name ≡ false
among_front ss others name h =
    (any_parts (λ n. bytes_eq n name) (names_of ss) (names_of others) (ap (λ (ns : List (List ℕ)). is_among ns name) (sym (map-append (λ (s : Stage). s.name) ss others)) ∙ h)).0

pub names_front : (ss others : List Stage) → have_names (ss ++ others) ≡ true → have_names ss ≡ true
names_front [] others h = refl
names_front (s ∷ ss) others h =
    let parts = and_parts (not (is_among (names_of (ss ++ others)) s.name)) (have_names (ss ++ others)) h in
    let none = among_front ss others s.name (not-true (is_among (names_of (ss ++ others)) s.name) parts.0) in
    and_from (not (is_among (names_of ss) s.name)) (have_names ss) (not_from_false (is_among (names_of ss) s.name) none) (names_front ss others parts.1)

-- the first name is none of the later ones, and these differ
pub name_parts : (s : Stage) (ss : List Stage) → have_names (s ∷ ss) ≡ true → (is_among (map (λ x. x.name) ss) s.name ≡ false) × (have_names ss ≡ true)
name_parts s ss h =
    let parts = and_parts (not (is_among (names_of ss) s.name)) (have_names ss) h in
    (not-true (is_among (names_of ss) s.name) parts.0, parts.1)
