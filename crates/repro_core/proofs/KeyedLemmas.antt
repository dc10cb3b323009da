-- Values that a key leads to in a file of parameters, and the form of tracked keys.
--     follow_sound       steps lead to a value that can be printed no deeper than the one that they begin at
--     lookup_sound       so a key leads to a value that has room in `dvc.lock`: it begins with a name, and no value of the root is deeper
--     file_keyed         the tracked keys of a file are in form
--     with_keys          a file with keys
--     first_parts        a list that was made begins with its first item
--     ok_same            one answer has one value
use Rattle.std.proofs.Common.{◌≡◌, ℕ, zero, suc, eqb, Bool, true, cond, List, [], ◌∷◌, ◌++◌, length, map, inl, inr, refl, sym, ap, subst, ◌∙◌, Option, Some, None, option_and_then, Result, Ok, Err, IsTrue}
use Rattle.std.specs.List.{slice_get, slice_split, onto_first, flat_map}
use Rattle.std.proofs.lemmas.Bool.{cases_Bool, cond-true, cond-false}
use Rattle.std.proofs.lemmas.List.Splits.{slice_split-cons_yes, slice_split-cons_no}
use Rattle.std.proofs.lemmas.Option.{same_Some}
use Rattle.dvc_base.specs.Path.{Path}
use Rattle.dvc_base.specs.declared.data.ParamFile.{ParamFile}
use Rattle.dvc_base.specs.declared.fault.Fault.{Fault}
use Rattle.dvc_base.specs.declared.node.Node.{Node, out-Node}
use Rattle.dvc_base.specs.declared.node.Node.TheOpen.{Node-F}
use Rattle.dvc_base.specs.declared.node.Pair.{Pair, roll-Pair}
use Rattle.yaml_nodes.specs.Part.{key_of}
use Rattle.yaml_print.specs.ScalarText.{Layer}
use Rattle.yaml_print.specs.Print.{value_of}
use Rattle.yaml_print.specs.Sound.{Each, Inside, IsProper, IsSound, IsPrintable}
use Rattle.yaml_print.proofs.SoundLemmas.{sound_more}
use Rattle.lock_files.specs.Mapping.{pairs_of, items_of, pairs_in, is_within, value_at}
use Rattle.lock_files.specs.Order.{in_order}
use Rattle.lock_files.specs.Form.{IsKeyed, are_distinct}
use Rattle.lock_files.proofs.OrderLemmas.{each_in_order, rising_of_distinct}
use Rattle.lock_files.proofs.WithinLemmas.{sound_within_depth}
use Rattle.params.specs.Lookup.{Step, Name, Bracket, steps_of_pieces, steps_of_part, steps, named, place_in, item_at, step, follow, lookup}
use Rattle.params.specs.Read.{deep_key, refused_key}
use Rattle.params.proofs.CanonLemmas.{proper, inside}
use Rattle.params.proofs.PairLemmas.{value_sound, distinct_keys}
use Rattle.repro_laws.specs.Params.{found_value, key_value, key_values, with_first, pairs_or_none, file_with, file_keys}
use Rattle.repro_laws.specs.declared.stage.Tracked.{Tracked}

abbrev pub with_keys : List ℕ → List Pair → ParamFile
with_keys text keys = record { file = text; keys = keys }

pub ok_same : {T : Type 0} (x y : T) (r : Result T Fault) → r ≡ Ok x → r ≡ Ok y → x ≡ y
ok_same x y r h k = cc

pub first_parts : {B : Type 0} (r : Result B Fault) (rest : Result (List B) Fault) (ys : List B) → with_first r rest ≡ Ok ys → (x : B) × ((xs : List B) × ((r ≡ Ok x) × ((rest ≡ Ok xs) × (x ∷ xs ≡ ys))))
first_parts (Err fault) rest ys h = absurd (cc)
first_parts (Ok x) (Err fault) ys h = absurd (cc)
first_parts (Ok x) (Ok xs) ys h = (x, (xs, (refl, (refl, cc))))

-- ---- steps

then_parts : {A B : Type 0} (f : A → Option B) (o : Option A) (b : B) → option_and_then f o ≡ Some b → (a : A) × ((o ≡ Some a) × (f a ≡ Some b))
then_parts f None b h = absurd (cc)
then_parts f (Some a) b h = (a, (refl, h))

get_each : (P : Node → Type 0) (xs : List Node) (n : ℕ) (w : Node) → Each P xs → slice_get xs n ≡ Some w → P w
get_each P [] n w all h = absurd (cc)
get_each P (x ∷ xs) zero w all h = subst P (same_Some x w h) all.0
get_each P (x ∷ xs) (suc n) w all h = get_each P xs n w all.1 h

-- what stands under a name, and at a place
name_inside : (P : Node → Type 0) (name : List ℕ) (l : Layer) (w : Node) → Inside P l → option_and_then (value_at name) (pairs_of l) ≡ Some w → P w
name_inside P name (Node-F.Pairs ps) w h e = value_sound P name w ps h e
name_inside P name (Node-F.Items xs) w h e = absurd (cc)
name_inside P name Node-F.Null w h e = absurd (cc)
name_inside P name (Node-F.Bool b) w h e = absurd (cc)
name_inside P name (Node-F.Whole n t) w h e = absurd (cc)
name_inside P name (Node-F.Decimal t) w h e = absurd (cc)
name_inside P name (Node-F.Text t) w h e = absurd (cc)

place_inside : (P : Node → Type 0) (n : ℕ) (l : Layer) (w : Node) → Inside P l → option_and_then (λ xs. slice_get xs n) (items_of l) ≡ Some w → P w
place_inside P n (Node-F.Items xs) w h e = get_each P xs n w h e
place_inside P n (Node-F.Pairs ps) w h e = absurd (cc)
place_inside P n Node-F.Null w h e = absurd (cc)
place_inside P n (Node-F.Bool b) w h e = absurd (cc)
place_inside P n (Node-F.Whole m t) w h e = absurd (cc)
place_inside P n (Node-F.Decimal t) w h e = absurd (cc)
place_inside P n (Node-F.Text t) w h e = absurd (cc)

named_inside : (P : Node → Type 0) (name : List ℕ) (v w : Node) → Inside P (out-Node v) → named name v ≡ Some w → P w
named_inside P name v w h e =
    let found = option_and_then (value_at name) (pairs_in v) in
    elim (cases_Bool (eqb (length name) 0)) [
      | inl empty ↦ let none : None ≡ Some w = sym (cond-true (eqb (length name) 0) None found empty) ∙ e in absurd (cc)
      | inr some ↦ name_inside P name (out-Node v) w h (sym (cond-false (eqb (length name) 0) None found some) ∙ e)
    ]

item_inside : (P : Node → Type 0) (bracket : List ℕ) (v w : Node) → Inside P (out-Node v) → item_at bracket v ≡ Some w → P w
item_inside P bracket v w h e =
    let place = then_parts (λ (n : ℕ). option_and_then (λ xs. slice_get xs n) (items_of (out-Node v))) (place_in bracket) w e in
    place_inside P place.0 (out-Node v) w h place.1.1

same_inside : (d : ℕ) (v : Node) → IsSound d v → Inside (IsSound d) (out-Node v)
same_inside d v h = inside d v (sound_more d v h)

step_sound : (d : ℕ) (s : Step) (v w : Node) → IsSound d v → step s v ≡ Some w → IsSound d w
step_sound d (Name name) v w h e = named_inside (IsSound d) name v w (same_inside d v h) e
step_sound d (Bracket bracket) v w h e = item_inside (IsSound d) bracket v w (same_inside d v h) e

pub follow_sound : (d : ℕ) (ss : List Step) (v w : Node) → IsSound d v → follow ss v ≡ Some w → IsSound d w
follow_sound d [] v w h e = subst (IsSound d) (same_Some v w e) h
follow_sound d (s ∷ ss) v w h e =
    let parts = then_parts (follow ss) (step s v) w e in
    follow_sound d ss parts.0 w (step_sound d s v parts.0 h parts.1.0) parts.1.1

-- ---- a key begins with a name

split_first : (p : ℕ → Bool) (xs : List ℕ) → (part : List ℕ) × ((parts : List (List ℕ)) × (slice_split p xs ≡ part ∷ parts))
split_first p [] = ([], ([], refl))
split_first p (x ∷ xs) =
    elim (cases_Bool (p x)) [
      | inl cut ↦ ([], (slice_split p xs, slice_split-cons_yes p x xs cut))
      | inr on ↦
          let rest = split_first p xs in
          (x ∷ rest.0, (rest.1.0, slice_split-cons_no p x xs on ∙ ap (onto_first x) rest.1.1))
    ]

name_first : (key : List ℕ) → (name : List ℕ) × ((more : List Step) × (steps key ≡ Name name ∷ more))
name_first key =
    let part = split_first (λ b. eqb b 46) key in
    let name = split_first (λ b. eqb b 91) part.0 in (
      name.0,
      (
        map Bracket name.1.0 ++ flat_map steps_of_part part.1.0,
        ap (flat_map steps_of_part) part.1.1
            ∙ ap (λ (pieces : List (List ℕ)). steps_of_pieces pieces ++ flat_map steps_of_part part.1.0) name.1.1,
      ),
    )

-- ---- no value of the root is deeper than there is room for

each_shallow : (ps : List Pair) → Each (λ p. IsSound 63 (value_of p)) ps → deep_key ps ≡ None → Each (λ p. IsSound 59 (value_of p)) ps
each_shallow [] h k = tt
each_shallow (p ∷ ps) h k =
    let fits = is_within 59 (value_of p) in
    elim (cases_Bool fits) [
      | inl flat ↦ (sound_within_depth 63 59 (value_of p) h.0 flat, each_shallow ps h.1 (sym (cond-true fits (deep_key ps) (Some (key_of p)) flat) ∙ k))
      | inr deep ↦ let none : Some (key_of p) ≡ None = sym (cond-false fits (deep_key ps) (Some (key_of p)) deep) ∙ k in absurd (cc)
    ]

shallow : (l : Layer) → Inside (IsSound 63) l → refused_key l ≡ None → Inside (IsSound 59) l
shallow Node-F.Null h k = tt
shallow (Node-F.Pairs ps) h k = each_shallow ps h k
shallow (Node-F.Items xs) h k = absurd (cc)
shallow (Node-F.Bool b) h k = absurd (cc)
shallow (Node-F.Whole n t) h k = absurd (cc)
shallow (Node-F.Decimal t) h k = absurd (cc)
shallow (Node-F.Text t) h k = absurd (cc)

-- ---- the root of a file of parameters

module _ (root : Node) (printable : IsPrintable root) (fits : refused_key (out-Node root) ≡ None) where
  values : Inside (IsSound 59) (out-Node root)
  values = shallow (out-Node root) (inside 63 root printable) fits

  pub lookup_sound : (key : List ℕ) (v : Node) → lookup key root ≡ Some v → IsSound 59 v
  lookup_sound key v e =
      let first = name_first key in
      let parts = then_parts (follow first.1.0) (named first.0 root) v (sym (ap (λ (ss : List Step). follow ss root) first.1.1) ∙ e) in
      follow_sound 59 first.1.0 parts.0 v (named_inside (IsSound 59) first.0 root parts.0 values parts.1.0) parts.1.1

  -- ---- chosen keys

  found_parts : (file : Path) (key : List ℕ) (o : Option Node) (p : Pair) → found_value file key o ≡ Ok p → (key_of p ≡ key) × (o ≡ Some (value_of p))
  found_parts file key None p h = absurd (cc)
  found_parts file key (Some v) p h =
      let same : roll-Pair (record { key = key; value = v }) ≡ p = cc in
      (ap key_of (sym same), ap (λ (q : Pair). Some (value_of q)) same)

  all_parts : (file : Path) (keys : List (List ℕ)) (ps : List Pair) → key_values file root keys ≡ Ok ps → (map key_of ps ≡ keys) × Each (λ p. IsSound 59 (value_of p)) ps
  all_parts file [] ps h = let none : [] ≡ ps = cc in subst (λ (qs : List Pair). (map key_of qs ≡ []) × Each (λ p. IsSound 59 (value_of p)) qs) none (refl, tt)
  all_parts file (key ∷ keys) ps h =
      let parts = first_parts (key_value file root key) (key_values file root keys) ps h in
      let found = found_parts file key (lookup key root) parts.0 parts.1.1.0 in
      let rest = all_parts file keys parts.1.0 parts.1.1.1.0 in
      subst (λ (qs : List Pair). (map key_of qs ≡ key ∷ keys) × Each (λ p. IsSound 59 (value_of p)) qs) parts.1.1.1.1 (
        ap (λ (k : List ℕ). k ∷ map key_of parts.1.0) found.0 ∙ ap (λ (ks : List (List ℕ)). key ∷ ks) rest.0,
        (lookup_sound key (value_of parts.0) found.1, rest.1),
      )

  keyed : (ps : List Pair) → are_distinct [] (map key_of ps) ≡ true → Each (λ p. IsSound 59 (value_of p)) ps → IsKeyed (in_order key_of ps)
  keyed ps distinct sound = record {
    rising = rising_of_distinct key_of ps distinct;
    sound = each_in_order key_of (λ p. IsSound 59 (value_of p)) ps sound;
  }

  chosen_keyed : (file : Path) (keys : List (List ℕ)) (ps : List Pair) → IsTrue (are_distinct [] keys) → key_values file root keys ≡ Ok ps → IsKeyed (in_order key_of ps)
  chosen_keyed file keys ps distinct h =
      let parts = all_parts file keys ps h in
      keyed ps (ap (are_distinct []) parts.0 ∙ distinct) parts.1

  -- ---- all keys

  layer_keyed : (l : Layer) → IsProper l → Inside (IsSound 59) l → IsKeyed (in_order key_of (pairs_or_none (pairs_of l)))
  layer_keyed (Node-F.Pairs ps) p h = keyed ps (distinct_keys ps p) h
  layer_keyed (Node-F.Items xs) p h = keyed [] refl tt
  layer_keyed Node-F.Null p h = keyed [] refl tt
  layer_keyed (Node-F.Bool b) p h = keyed [] refl tt
  layer_keyed (Node-F.Whole n t) p h = keyed [] refl tt
  layer_keyed (Node-F.Decimal t) p h = keyed [] refl tt
  layer_keyed (Node-F.Text t) p h = keyed [] refl tt

  whole_keyed : IsKeyed (in_order key_of (pairs_or_none (pairs_in root)))
  whole_keyed = layer_keyed (out-Node root) (proper 64 root printable) values

  -- ---- a file

  abbrev HasForm : List ℕ → ParamFile → Type 0
  HasForm text file = (file.file ≡ text) × IsKeyed file.keys

  form_with : (text : List ℕ) (r : Result (List Pair) Fault) (file : ParamFile) → ((ps : List Pair) → r ≡ Ok ps → IsKeyed (in_order key_of ps)) → file_with text r ≡ Ok file → HasForm text file
  form_with text (Err fault) file good h = absurd (cc)
  form_with text (Ok ps) file good h =
      let same : with_keys text (in_order key_of ps) ≡ file = cc in
      subst (HasForm text) same (refl, good ps refl)

  pub file_keyed : (w : Tracked) (file : ParamFile) → IsTrue (are_distinct [] w.keys) → file_keys w root ≡ Ok file → (file.file ≡ w.text) × IsKeyed file.keys
  file_keyed w file distinct h =
      let all : Result (List Pair) Fault = Ok (pairs_or_none (pairs_in root)) in
      let chosen = key_values w.path root w.keys in
      form_with w.text (cond w.all all chosen) file
      (λ ps e. elim (cases_Bool w.all) [
        | inl whole ↦
            let same = ok_same (pairs_or_none (pairs_in root)) ps (cond w.all all chosen) (cond-true w.all all chosen whole) e in
            subst (λ (qs : List Pair). IsKeyed (in_order key_of qs)) same whole_keyed
        | inr some ↦ chosen_keyed w.path w.keys ps distinct (sym (cond-false w.all all chosen some) ∙ e)
      ]) h
