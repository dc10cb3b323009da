-- What a file of parameters holds can be printed where `dvc.lock` has it.
--     IsRoot root      a mapping with distinct keys, and at most 59 collections in one another under each
--     root_read        what is read is one
--     found_sound      and no more stand in what a key leads to
use Rattle.std.proofs.Common.{◌≡◌, ℕ, zero, suc, Bool, true, List, [], ◌∷◌, ◌++◌, length, map, eqb, Option, Some, None, option_and_then, Result, Ok, Err, inl, inr, refl, sym, ap, subst, ◌∙◌}
use Rattle.std.specs.Prelude.{nat_lt}
use Rattle.std.specs.List.{flat_map, slice_get, slice_split, onto_first}
use Rattle.std.proofs.lemmas.Bool.{cases_Bool, cond-true, cond-false}
use Rattle.std.proofs.lemmas.List.Splits.{slice_split-cons_no}
use Rattle.dvc_base.specs.Limits.{limit_of}
use Rattle.dvc_base.specs.declared.limits.What.TheVariants.{YamlText}
use Rattle.dvc_base.specs.declared.node.Node.{Node, out-Node}
use Rattle.dvc_base.specs.declared.node.Node.TheOpen.{Node-F}
use Rattle.dvc_base.specs.declared.node.Pair.{Pair}
use Rattle.dvc_base.specs.declared.node.YamlFault.{YamlFault}
use Rattle.world_api.specs.Tree.{Item, folder, file}
use Rattle.yaml_nodes.specs.Document.{parse}
use Rattle.yaml_nodes.specs.Part.{key_of}
use Rattle.yaml_print.specs.ScalarText.{Layer}
use Rattle.yaml_print.specs.Print.{value_of}
use Rattle.yaml_print.specs.Sound.{Each, are_new, IsSound, IsPrintable}
use Rattle.yaml_print.proofs.NodeCases.{out_pairs}
use Rattle.yaml_print.proofs.ReadSound.{read_printable}
use Rattle.yaml_print.proofs.SoundLemmas.{sound_more}
use Rattle.lock_files.specs.Mapping.{is_within, pairs_of, items_of, pairs_in, items_in, value_at}
use Rattle.lock_files.proofs.WithinLemmas.{sound_within_depth}
use Rattle.params.specs.Lookup.{Step, Name, Bracket, steps_of_pieces, steps_of_part, steps, named, place_in, step, follow, lookup}
use Rattle.params.specs.Read.{deep_key, refused_key, pairs_or_none, params_by, params_of, params_or, params_in, params_at}
use Rattle.params.specs.declared.fault.ParamsFault.TheVariants as f
use Rattle.params.proofs.CanonLemmas.{proper_at, inside_at}
use Rattle.params.proofs.PairLemmas.{value_sound}

pub record IsRoot (root : Node) : Type 0 where
  pub pairs : List Pair
  pub layer : out-Node root ≡ Node-F.Pairs pairs
  pub new : are_new [] pairs ≡ true
  pub sound : Each (λ p. IsSound 59 (value_of p)) pairs

some_none : {A : Type 0} (x : A) → Some x ≡ None → ⊥
some_none x h = absurd (cc)

none_some : {A : Type 0} (x : A) → None ≡ Some x → ⊥
none_some x h = absurd (cc)

some_same : {A : Type 0} (x y : A) → Some x ≡ Some y → x ≡ y
some_same x y h = cc

refused : {A E : Type 0} (e : E) (x : A) → ◌≡◌ {A = Result A E} (Err e) (Ok x) → ⊥
refused e x h = absurd (cc)

ok_same : {A E : Type 0} (x y : A) → ◌≡◌ {A = Result A E} (Ok x) (Ok y) → x ≡ y
ok_same x y h = cc

-- ---- what is read

shallow : (ps : List Pair) → deep_key ps ≡ None → Each (λ p. IsSound 63 (value_of p)) ps → Each (λ p. IsSound 59 (value_of p)) ps
shallow [] e all = tt
shallow (p ∷ ps) e all =
    elim (cases_Bool (is_within 59 (value_of p))) [
      | inl h ↦
          (sound_within_depth 63 59 (value_of p) all.0 h, shallow ps (sym (cond-true (is_within 59 (value_of p)) (deep_key ps) (Some (key_of p)) h) ∙ e) all.1)
      | inr h ↦
          absurd (some_none (key_of p) (sym (cond-false (is_within 59 (value_of p)) (deep_key ps) (Some (key_of p)) h) ∙ e))
    ]

root_by : (l : Layer) (root : Node) → out-Node root ≡ l → IsPrintable root → refused_key l ≡ None → IsRoot (pairs_or_none l root)
root_by Node-F.Null root is h e = record { pairs = []; layer = out_pairs []; new = refl; sound = tt }
root_by (Node-F.Pairs ps) root is h e =
    record {
      pairs = ps;
      layer = is;
      new = proper_at 64 root (Node-F.Pairs ps) is h;
      sound = shallow ps e (inside_at 63 root (Node-F.Pairs ps) is h);
    }
root_by (Node-F.Bool b) root is h e = absurd (some_none [] e)
root_by (Node-F.Whole n t) root is h e = absurd (some_none [] e)
root_by (Node-F.Decimal t) root is h e = absurd (some_none [] e)
root_by (Node-F.Text t) root is h e = absurd (some_none [] e)
root_by (Node-F.Items xs) root is h e = absurd (some_none [] e)

not_refused : (o : Option (List ℕ)) (root made : Node) → params_by o root ≡ Ok made → (o ≡ None) × (pairs_or_none (out-Node root) root ≡ made)
not_refused None root made e = (refl, ok_same (pairs_or_none (out-Node root) root) made e)
not_refused (Some key) root made e = absurd (refused (f.Schema key) made e)

root_of : (root made : Node) → IsPrintable root → params_of root ≡ Ok made → IsRoot made
root_of root made h e =
    let parts = not_refused (refused_key (out-Node root)) root made e in
    subst IsRoot parts.1 (root_by (out-Node root) root refl h parts.0)

text_read : (text : List ℕ) (made : Node) → params_in text ≡ Ok made → IsRoot made
text_read text made e = by (parse text) refl e
  where
    by : (o : Result Node YamlFault) → parse text ≡ o → params_or o ≡ Ok made → IsRoot made
    by (Ok root) is e = root_of root made (read_printable text root is) e
    by (Err fault) is e = absurd (refused (f.Yaml fault) made e)

pub root_read : (o : Option Item) (made : Node) → params_at o ≡ Ok made → IsRoot made
root_read None made e = absurd (refused f.NoFile made e)
root_read (Some folder) made e = absurd (refused f.NoFile made e)
root_read (Some (file text)) made e =
    elim (cases_Bool (nat_lt (limit_of YamlText) (length text))) [
      | inl h ↦ absurd (refused f.TooLarge made (sym (cond-true (nat_lt (limit_of YamlText) (length text)) (Err f.TooLarge) (params_in text) h) ∙ e))
      | inr h ↦ text_read text made (sym (cond-false (nat_lt (limit_of YamlText) (length text)) (Err f.TooLarge) (params_in text) h) ∙ e)
    ]

-- ---- where a step leads

then_parts : {A : Type 0} (g : A → Option Node) (o : Option A) (w : Node) → option_and_then g o ≡ Some w → (x : A) × (o ≡ Some x) × (g x ≡ Some w)
then_parts g None w e = absurd (none_some w e)
then_parts g (Some x) w e = (x, refl, e)

pairs_layer : (l : Layer) (ps : List Pair) → pairs_of l ≡ Some ps → l ≡ Node-F.Pairs ps
pairs_layer (Node-F.Pairs qs) ps e = ap (λ (x : List Pair). Node-F.Pairs x) (some_same qs ps e)
pairs_layer Node-F.Null ps e = absurd (none_some ps e)
pairs_layer (Node-F.Bool b) ps e = absurd (none_some ps e)
pairs_layer (Node-F.Whole n t) ps e = absurd (none_some ps e)
pairs_layer (Node-F.Decimal t) ps e = absurd (none_some ps e)
pairs_layer (Node-F.Text t) ps e = absurd (none_some ps e)
pairs_layer (Node-F.Items xs) ps e = absurd (none_some ps e)

items_layer : (l : Layer) (xs : List Node) → items_of l ≡ Some xs → l ≡ Node-F.Items xs
items_layer (Node-F.Items ys) xs e = ap (λ (x : List Node). Node-F.Items x) (some_same ys xs e)
items_layer Node-F.Null xs e = absurd (none_some xs e)
items_layer (Node-F.Bool b) xs e = absurd (none_some xs e)
items_layer (Node-F.Whole n t) xs e = absurd (none_some xs e)
items_layer (Node-F.Decimal t) xs e = absurd (none_some xs e)
items_layer (Node-F.Text t) xs e = absurd (none_some xs e)
items_layer (Node-F.Pairs ps) xs e = absurd (none_some xs e)

name_parts : (name : List ℕ) (v w : Node) → named name v ≡ Some w → (ps : List Pair) × (out-Node v ≡ Node-F.Pairs ps) × (value_at name ps ≡ Some w)
name_parts name v w e =
    elim (cases_Bool (eqb (length name) 0)) [
      | inl h ↦ absurd (none_some w (sym (cond-true (eqb (length name) 0) None (option_and_then (value_at name) (pairs_in v)) h) ∙ e))
      | inr h ↦
          let found = then_parts (value_at name) (pairs_in v) w (sym (cond-false (eqb (length name) 0) None (option_and_then (value_at name) (pairs_in v)) h) ∙ e) in
          (found.0, pairs_layer (out-Node v) found.0 found.1, found.2)
    ]

item_sound : (P : Node → Type 0) (xs : List Node) (n : ℕ) (w : Node) → Each P xs → slice_get xs n ≡ Some w → P w
item_sound P [] n w all e = absurd (none_some w e)
item_sound P (x ∷ xs) zero w all e = subst P (some_same x w e) all.0
item_sound P (x ∷ xs) (suc n) w all e = item_sound P xs n w all.1 e

step_sound : (d : ℕ) (s : Step) (v w : Node) → IsSound d v → step s v ≡ Some w → IsSound d w
step_sound d (Name name) v w h e =
    let found = name_parts name v w e in
    value_sound (IsSound d) name w found.0 (inside_at d v (Node-F.Pairs found.0) found.1 (sound_more d v h)) found.2
step_sound d (Bracket bracket) v w h e =
    let place = then_parts (λ n. option_and_then (λ items. slice_get items n) (items_in v)) (place_in bracket) w e in
    let found = then_parts (λ items. slice_get items place.0) (items_in v) w place.2 in
    item_sound (IsSound d) found.0 place.0 w (inside_at d v (Node-F.Items found.0) (items_layer (out-Node v) found.0 found.1) (sound_more d v h)) found.2

follow_sound : (d : ℕ) (ss : List Step) (v w : Node) → IsSound d v → follow ss v ≡ Some w → IsSound d w
follow_sound d [] v w h e = subst (IsSound d) (some_same v w e) h
follow_sound d (s ∷ ss) v w h e =
    let found = then_parts (follow ss) (step s v) w e in
    follow_sound d ss found.0 w (step_sound d s v found.0 h found.1) found.2

-- ---- the first step is a name

first_piece : (p : ℕ → Bool) (t : List ℕ) → (piece : List ℕ) × (pieces : List (List ℕ)) × (slice_split p t ≡ piece ∷ pieces)
first_piece p [] = ([], [], refl)
first_piece p (c ∷ t) =
    let more = first_piece p t in
    elim (cases_Bool (p c)) [
      | inl h ↦ ([], slice_split p t, cond-true (p c) ([] ∷ slice_split p t) (onto_first c (slice_split p t)) h)
      | inr h ↦ (c ∷ more.0, more.1, slice_split-cons_no p c t h ∙ ap (onto_first c) more.2)
    ]

first_step : (key : List ℕ) → (name : List ℕ) × (ss : List Step) × (steps key ≡ Name name ∷ ss)
first_step key =
    let part = first_piece (λ b. eqb b 46) key in
    let name = first_piece (λ b. eqb b 91) part.0 in (
      name.0,
      map Bracket name.1 ++ flat_map steps_of_part part.1,
      ap (flat_map steps_of_part) part.2 ∙ ap (λ ss. ss ++ flat_map steps_of_part part.1) (ap steps_of_pieces name.2),
    )

pairs_same : (ps qs : List Pair) → ◌≡◌ {A = Layer} (Node-F.Pairs ps) (Node-F.Pairs qs) → ps ≡ qs
pairs_same ps qs e = cc

pub found_sound : (key : List ℕ) (root v : Node) → IsRoot root → lookup key root ≡ Some v → IsSound 59 v
found_sound key root v is e =
    let first = first_step key in
    let all : follow (Name first.0 ∷ first.1) root ≡ Some v = ap (λ (ss : List Step). follow ss root) (sym first.2) ∙ e in
    let here = then_parts (follow first.1) (named first.0 root) v all in
    let found = name_parts first.0 root here.0 here.1 in
    let same : found.0 ≡ is.pairs = pairs_same found.0 is.pairs (sym found.1 ∙ is.layer) in
    let sound : IsSound 59 here.0 = value_sound (IsSound 59) first.0 here.0 is.pairs is.sound (ap (value_at first.0) (sym same) ∙ found.2) in
    follow_sound 59 first.1 here.0 v sound here.2
