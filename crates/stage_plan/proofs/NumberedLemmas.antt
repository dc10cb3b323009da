-- The numbers of what is chosen lead to it.
--     range_more     one number more
--     all_kept       all numbers lead to all members
--     some_kept      the places of those that pass a test lead to them
--     tracks_more, track_none    the track files at one more place; a place at which there is none adds none
--     turns_same     the turns of a choice are those of what was chosen
use Rattle.std.proofs.Common.{◌≡◌, ℕ, zero, suc, ◌+◌, ◌<◌, Bool, true, false, cond, List, [], ◌∷◌, ◌++◌, length, take, get_or, Option, Some, None, refl, sym, ap, subst, ◌∙◌, arith, slice_get, append_assoc, append-nil}
use Rattle.std.specs.List.{cons_option, filter, filter_map, range_with_len}
use Rattle.std.proofs.lemmas.List.{take_more, length-append}
use Rattle.std.proofs.lemmas.List.Elements.{filter_map-append}
use Rattle.path_index.specs.Overlap.{places, places_from}
use Rattle.lock_files.specs.Book.{Lock}
use Rattle.stage_schema.specs.declared.stage.Stage.{Stage as Written}
use Rattle.stage_graph.specs.declared.track.TrackFile.{TrackFile}
use Rattle.stage_plan.specs.declared.turns.Turns.{Turns}
use Rattle.stage_plan.specs.Targets.{other_paths, chosen}
use Rattle.stage_plan.specs.Plan.{planned, reads_at, is_track_for, chosen_by, chosen_in, plan_with, turns_at}

range_suc : (a n : ℕ) → range_with_len a (suc n) ≡ range_with_len a n ++ (a + n) ∷ []
range_suc a zero = let same : a ≡ a + 0 = omega arith in ap (λ (k : ℕ). k ∷ []) same
range_suc a (suc n) =
    let same : a + 1 + n ≡ a + suc n = omega arith in
    ap (λ (ns : List ℕ). a ∷ ns) (range_suc (a + 1) n ∙ ap (λ (k : ℕ). range_with_len (a + 1) n ++ k ∷ []) same)

pub range_more : (a n : ℕ) → range_with_len a (n + 1) ≡ range_with_len a n ++ (a + n) ∷ []
range_more a n = let same : n + 1 ≡ suc n = omega arith in ap (range_with_len a) same ∙ range_suc a n

-- ---- members by their numbers

at_front : {A : Type 0} (front rest : List A) (x : A) → slice_get (front ++ x ∷ rest) (length front) ≡ Some x
at_front [] rest x = refl
at_front (y ∷ front) rest x = at_front front rest x

front_more : {A : Type 0} (front : List A) (x : A) → length (front ++ x ∷ []) ≡ length front + 1
front_more front x = length-append front (x ∷ [])

all_from : {A : Type 0} (xs front rest : List A) → xs ≡ front ++ rest → filter_map (slice_get xs) (range_with_len (length front) (length rest)) ≡ rest
all_from xs front [] e = refl
all_from xs front (x ∷ rest) e =
    let next = subst (λ (n : ℕ). filter_map (slice_get xs) (range_with_len n (length rest)) ≡ rest) (front_more front x)
    (all_from xs (front ++ x ∷ []) rest (e ∙ sym (append_assoc front (x ∷ []) rest))) in
    ap (λ (o : Option _). cons_option o (filter_map (slice_get xs) (range_with_len (length front + 1) (length rest)))) (ap (λ (l : List _). slice_get l (length front)) e ∙ at_front front rest x)
    ∙ ap (λ (l : List _). x ∷ l) next

pub all_kept : {A : Type 0} (xs : List A) → filter_map (slice_get xs) (range_with_len 0 (length xs)) ≡ xs
all_kept xs = all_from xs [] xs refl

some_from : {A : Type 0} (t : A → Bool) (xs front rest : List A) → xs ≡ front ++ rest → filter_map (slice_get xs) (places_from t (length front) rest) ≡ filter t rest
some_from t xs front [] e = refl
some_from t xs front (x ∷ rest) e =
    let k = length front in
    let more : List ℕ = places_from t (suc k) rest in
    let same : length (front ++ x ∷ []) ≡ suc k = omega (front_more front x, arith) in
    let next = subst (λ (n : ℕ). filter_map (slice_get xs) (places_from t n rest) ≡ filter t rest) same
    (some_from t xs (front ++ x ∷ []) rest (e ∙ sym (append_assoc front (x ∷ []) rest))) in
    elim (t x) as (λ b. filter_map (slice_get xs) (cond b (k ∷ more) more) ≡ cond b (x ∷ filter t rest) (filter t rest)) [
      | true ↦ ap (λ (o : Option _). cons_option o (filter_map (slice_get xs) more)) (ap (λ (l : List _). slice_get l k) e ∙ at_front front rest x) ∙ ap (λ (l : List _). x ∷ l) next
      | false ↦ next
    ]

pub some_kept : {A : Type 0} (t : A → Bool) (xs : List A) → filter_map (slice_get xs) (places t xs) ≡ filter t xs
some_kept t xs = some_from t xs [] xs refl

-- ---- track files by their numbers

pub tracks_more : (tracks : List TrackFile) (ns : List ℕ) (i : ℕ) → i < length ns →
    filter_map (slice_get tracks) (take (i + 1) ns) ≡ filter_map (slice_get tracks) (take i ns) ++ filter_map (slice_get tracks) (get_or ns i 0 ∷ [])
tracks_more tracks ns i inside =
    ap (filter_map (slice_get tracks)) (take_more ns i 0 inside) ∙ filter_map-append (slice_get tracks) (take i ns) (get_or ns i 0 ∷ [])

pub track_none : (tracks : List TrackFile) (n : ℕ) (old : List TrackFile) → slice_get tracks n ≡ None → old ≡ old ++ filter_map (slice_get tracks) (n ∷ [])
track_none tracks n old missing =
    sym (append-nil old) ∙ ap (λ (o : Option TrackFile). old ++ cons_option o []) (sym missing)

-- ---- a choice

abbrev turns_with : List (List ℕ) → List Written → List TrackFile → Turns
turns_with targets ss l = record { stages = planned targets ss; tracks = l }

pub turns_same : (targets : List (List ℕ)) (ss : List Written) (tracks : List TrackFile) (lock : Lock) →
    turns_at (plan_with ss tracks lock) (chosen_by false targets ss tracks) ≡ chosen_in targets ss tracks
turns_same [] ss tracks lock = ap (λ (l : List TrackFile). turns_with [] ss l) (all_kept tracks)
turns_same (target ∷ more) ss tracks lock =
    ap (λ (l : List TrackFile). turns_with (target ∷ more) ss l)
    (some_kept (is_track_for (other_paths ss (target ∷ more)) (reads_at ss (chosen (target ∷ more) ss))) tracks)
