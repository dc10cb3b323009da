-- Where nothing differs.
--     empty_append      a list that is made of two is empty where both are
--     empty_pairs       what is listed of two lists side by side is nothing where they are the same item by item
--     empty_deps, empty_outs, empty_params
--     nothing_changed   the differences are none exactly where an entry tells just what is seen, and nothing is lost or absent
use Rattle.std.proofs.Common.{◌≡◌, ℕ, Bool, true, false, not, ◌&&◌, List, [], ◌∷◌, ◌++◌, map, filter, inl, inr, refl, sym, ap, subst, ◌∙◌, bytes_eq}
use Rattle.std.specs.Prelude.{Option, Some, None, IsTrue, ◌↔◌, if◌then◌else◌}
use Rattle.std.specs.List.{flat_map, list_all}
use Rattle.std.specs.declared.cmp.Ordering.{Ordering}
use Rattle.std.specs.declared.cmp.Ordering.TheVariants.{Less, Equal, Greater}
use Rattle.std.specs.Ordering.{nat_cmp, is_eq, ordering_then}
use Rattle.std.specs.Cmp.Lexicographic.{slice_cmp, pointwise}
use Rattle.std.proofs.lemmas.Bool.{and_parts, and_from, cases_Bool, cond-true, cond-false, false≢true, false_from_ne_true}
use Rattle.std.specs.Cmp.{IsStrictWeakOrder}
use Rattle.std.proofs.lemmas.Cmp.{nat_list_cmp_total}
use Rattle.std.proofs.lemmas.List.MinMax.{ranks_by}
use Rattle.std.proofs.lemmas.Map.Text.{is_eq-slice_cmp}
use Rattle.std.proofs.lemmas.Slice.Eq.{bytes_eq-Decides}
use Rattle.dvc_base.specs.declared.data.ParamFile.{ParamFile}
use Rattle.dvc_base.specs.declared.node.Node.{Node}
use Rattle.dvc_base.specs.declared.node.Pair.{Pair}
use Rattle.yaml_nodes.specs.Part.{key_of}
use Rattle.yaml_print.specs.Print.{value_of}
use Rattle.yaml_print.specs.Sound.{Each}
use Rattle.file_hash.specs.declared.named.Named.{Named}
use Rattle.lock_files.specs.declared.entry.Entry.{Entry}
use Rattle.lock_files.specs.declared.entry.PathEntry.{PathEntry}
use Rattle.lock_files.specs.Form.{file_at}
use Rattle.lock_files.specs.Order.{is_less, is_rising}
use Rattle.lock_files.specs.Refused.{is_among}
use Rattle.lock_files.proofs.PathsBack.{less_chain}
use Rattle.change_check.proofs.ValueLemmas.{each_by}
use Rattle.change_check.specs.Same.{told_of, same_named, is_named, same_path, same_pair, same_file, canonical_pair, canonical_file}
use Rattle.change_check.specs.Sides.{by_order, pairs_from, pairs}
use Rattle.change_check.specs.Compare as spec
use Rattle.change_check.specs.Compare.{Tracked, how_of, listed, or_absent, path_order, key_order, dep_diff, out_diff, param_diff, present_key, present_in, present, lost_key, last_of, tracked, same_value, is_empty, has_keys, are_whole, is_unchanged, AreInOrder}
use Rattle.change_check.specs.declared.diff.Diff.{Diff}
use Rattle.change_check.specs.declared.diff.Diff.TheVariants as d
use Rattle.change_check.specs.declared.diff.How.{How}
use Rattle.change_check.specs.declared.diff.How.TheVariants.{Modified}
use Rattle.change_check.specs.declared.diff.Gaps.{Gaps}
use Rattle.change_check.specs.declared.diff.LostKey.{LostKey}
use Rattle.change_check.specs.declared.seen.Seen.{Seen}
use Rattle.change_check.specs.declared.seen.SeenPath.{SeenPath}

-- ---- tests

and_assoc : (a b c : Bool) → (a && (b && c)) ≡ ((a && b) && c)
and_assoc true b c = refl
and_assoc false b c = refl

and_none : (a : Bool) → (a && false) ≡ false
and_none true = refl
and_none false = refl

crossed : (a b c e : Bool) → ((a && b) && (c && e)) ≡ ((a && c) && (b && e))
crossed true true c e = refl
crossed true false true e = refl
crossed true false false e = refl
crossed false b c e = refl

-- ---- empty lists

empty_append : {A : Type 0} (xs ys : List A) → is_empty (xs ++ ys) ≡ (is_empty xs && is_empty ys)
empty_append [] ys = refl
empty_append (x ∷ xs) ys = refl

from_empty : {A : Type 0} (xs : List A) → is_empty xs ≡ true → xs ≡ []
from_empty [] h = refl
from_empty (x ∷ xs) h = absurd (false≢true h)

-- what differs is listed
abbrev alike : {A B : Type 0} → (A → B → Bool) → Option A → Option B → Bool
alike same None found = false
alike same (Some told) None = false
alike same (Some told) (Some found) = same told found

if_listed : (diff : How → Diff) (same : Bool) → is_empty (listed diff (if same then None else Some Modified)) ≡ same
if_listed diff true = refl
if_listed diff false = refl

empty_listed : {A B : Type 0} (diff : How → Diff) (same : A → B → Bool) (told : Option A) (found : Option B) → is_empty (listed diff (how_of same told found)) ≡ alike same told found
empty_listed diff same None None = refl
empty_listed diff same None (Some found) = refl
empty_listed diff same (Some told) None = refl
empty_listed diff same (Some told) (Some found) = if_listed diff (same told found)

-- ---- lists side by side

module _ {A B C : Type 0} (order : A → B → Ordering) (f : Option A × Option B → List C) (same : A → B → Bool) where
  abbrev tie : A → B → Bool
  tie x y = is_eq (order x y) && same x y

  module _ (left : (x : A) → is_empty (f (Some x, None)) ≡ false) (right : (y : B) → is_empty (f (None, Some y)) ≡ false) (ties : (x : A) (y : B) → is_empty (f (Some x, Some y)) ≡ same x y) where
    first : (p : Option A × Option B) (ps : List (Option A × Option B)) (r : Bool) → is_empty (f p) ≡ r → is_empty (flat_map f (p ∷ ps)) ≡ (r && is_empty (flat_map f ps))
    first p ps r e = empty_append (f p) (flat_map f ps) ∙ ap (λ (b : Bool). b && is_empty (flat_map f ps)) e

    alone : (ys : List B) → is_empty (flat_map f (map (λ y. (None, Some y)) ys)) ≡ pointwise tie [] ys
    alone [] = refl
    alone (y ∷ ys) = first (None, Some y) (map (λ z. (None, Some z)) ys) false (right y)

    by_first : (r : Ordering) (a b c : List (Option A × Option B)) → is_empty (flat_map f a) ≡ false → is_empty (flat_map f c) ≡ false → is_empty (flat_map f (by_order r a b c)) ≡ (is_eq r && is_empty (flat_map f b))
    by_first Less a b c h k = h
    by_first Equal a b c h k = refl
    by_first Greater a b c h k = k

    beside : (x : A) (xs : List A) (after : List B → List (Option A × Option B)) → ((ys : List B) → is_empty (flat_map f (after ys)) ≡ pointwise tie xs ys) → (ys : List B) → is_empty (flat_map f (pairs_from order x after ys)) ≡ pointwise tie (x ∷ xs) ys
    beside x xs after rest [] = first (Some x, None) (after []) false (left x)
    beside x xs after rest (y ∷ ys) =
        by_first (order x y) ((Some x, None) ∷ after (y ∷ ys)) ((Some x, Some y) ∷ after ys) ((None, Some y) ∷ pairs_from order x after ys)
        (first (Some x, None) (after (y ∷ ys)) false (left x)) (first (None, Some y) (pairs_from order x after ys) false (right y))
        ∙ ap (λ (b : Bool). is_eq (order x y) && b) (first (Some x, Some y) (after ys) (same x y) (ties x y) ∙ ap (λ (b : Bool). same x y && b) (rest ys))
        ∙ and_assoc (is_eq (order x y)) (same x y) (pointwise tie xs ys)

    pub empty_pairs : (xs : List A) (ys : List B) → is_empty (flat_map f (pairs order xs ys)) ≡ pointwise tie xs ys
    empty_pairs [] ys = alone ys
    empty_pairs (x ∷ xs) ys = beside x xs (pairs order xs) (empty_pairs xs) ys

pointwise_like : {A B : Type 0} (E F : A → B → Bool) → ((x : A) (y : B) → E x y ≡ F x y) → (xs : List A) (ys : List B) → pointwise E xs ys ≡ pointwise F xs ys
pointwise_like E F like [] [] = refl
pointwise_like E F like [] (y ∷ ys) = refl
pointwise_like E F like (x ∷ xs) [] = refl
pointwise_like E F like (x ∷ xs) (y ∷ ys) = λ i. like x y i && pointwise_like E F like xs ys i

pointwise_and : {A B : Type 0} (E : A → B → Bool) (p : B → Bool) (xs : List A) (ys : List B) → pointwise (λ x y. E x y && p y) xs ys ≡ (pointwise E xs ys && list_all p ys)
pointwise_and E p [] [] = refl
pointwise_and E p [] (y ∷ ys) = refl
pointwise_and E p (x ∷ xs) [] = refl
pointwise_and E p (x ∷ xs) (y ∷ ys) =
    ap (λ (b : Bool). (E x y && p y) && b) (pointwise_and E p xs ys) ∙ crossed (E x y) (p y) (pointwise E xs ys) (list_all p ys)

-- ---- paths

alike_named : (a : PathEntry) (found : Option Named) → alike (λ p n. same_named (told_of p) n) (Some a) found ≡ is_named (told_of a) found
alike_named a None = refl
alike_named a (Some n) = refl

same_place : (a : PathEntry) (b : SeenPath) → is_eq (path_order a b) ≡ bytes_eq a.path b.path
same_place a b = is_eq-slice_cmp a.path b.path

pub empty_deps : (told : List PathEntry) (seen : List SeenPath) → is_empty (spec.dep_diffs told seen) ≡ pointwise same_path told seen
empty_deps told seen =
    empty_pairs path_order dep_diff (λ a b. is_named (told_of a) b.named) (λ a. refl)
    (λ b. empty_listed (d.Dep b.path) (λ p n. same_named (told_of p) n) None b.named)
    (λ a b. empty_listed (d.Dep a.path) (λ p n. same_named (told_of p) n) (Some a) b.named ∙ alike_named a b.named) told seen
    ∙ pointwise_like (λ a b. is_eq (path_order a b) && is_named (told_of a) b.named) same_path (λ a b. ap (λ (r : Bool). r && is_named (told_of a) b.named) (same_place a b)) told seen

absent_listed : (diff : How → Diff) (absent same : Bool) → is_empty (listed diff (or_absent absent (if same then None else Some Modified))) ≡ (same && not absent)
absent_listed diff true true = refl
absent_listed diff false true = refl
absent_listed diff absent false = refl

empty_out : {A B : Type 0} (diff : How → Diff) (absent : Bool) (same : A → B → Bool) (told : Option A) (found : Option B) → is_empty (listed diff (or_absent absent (how_of same told found))) ≡ (alike same told found && not absent)
empty_out diff absent same None None = refl
empty_out diff absent same None (Some found) = refl
empty_out diff absent same (Some told) None = refl
empty_out diff absent same (Some told) (Some found) = absent_listed diff absent (same told found)

-- where the paths are the same, either is looked for
either_path : (absent : List (List ℕ)) (a b : List ℕ) (r : Bool) → (bytes_eq a b && (r && not (is_among a absent))) ≡ ((bytes_eq a b && r) && not (is_among b absent))
either_path absent a b r =
    elim (cases_Bool (bytes_eq a b)) [
      | inl h ↦
          and_assoc (bytes_eq a b) r (not (is_among a absent))
          ∙ ap (λ (t : List ℕ). (bytes_eq a b && r) && not (is_among t absent)) ((bytes_eq-Decides a b).0 h)
      | inr h ↦
          ap (λ (e : Bool). e && (r && not (is_among a absent))) h ∙ sym (ap (λ (e : Bool). (e && r) && not (is_among b absent)) h)
    ]

pub empty_outs : (absent : List (List ℕ)) (told : List PathEntry) (seen : List SeenPath) → is_empty (spec.out_diffs absent told seen) ≡ (pointwise same_path told seen && are_whole absent seen)
empty_outs absent told seen =
    empty_pairs path_order (out_diff absent) (λ a b. is_named (told_of a) b.named && not (is_among a.path absent)) (λ a. refl)
    (λ b. empty_out (d.Out b.path) (is_among b.path absent) (λ p n. same_named (told_of p) n) None b.named)
    (λ a b. empty_out (d.Out a.path) (is_among a.path absent) (λ p n. same_named (told_of p) n) (Some a) b.named ∙ ap (λ (r : Bool). r && not (is_among a.path absent)) (alike_named a b.named)) told seen
    ∙ pointwise_like (λ a b. is_eq (path_order a b) && (is_named (told_of a) b.named && not (is_among a.path absent))) (λ a b. same_path a b && not (is_among b.path absent))
    (λ a b. ap (λ (r : Bool). r && (is_named (told_of a) b.named && not (is_among a.path absent))) (same_place a b) ∙ either_path absent a.path b.path (is_named (told_of a) b.named)) told seen
    ∙ pointwise_and same_path (λ b. not (is_among b.path absent)) told seen

-- ---- tracked keys

abbrev same_key : Tracked → Tracked → Bool
same_key k l = is_eq (key_order k l) && alike same_value k.value l.value

pub empty_keys : (told seen : List Tracked) → is_empty (spec.param_diffs told seen) ≡ pointwise same_key told seen
empty_keys =
    empty_pairs key_order param_diff (λ k l. alike same_value k.value l.value) (λ k. refl)
    (λ l. empty_listed (d.Param l.file l.key) same_value None l.value)
    (λ k l. empty_listed (d.Param k.file k.key) same_value k.value l.value)

-- a key that is lost is told
abbrev has_value : Tracked → Bool
has_value k = alike (λ v w. true) k.value k.value

alike_value : (told found : Option Node) → alike same_value told found ≡ true → alike (λ v w. true) found found ≡ true
alike_value None found h = absurd (false≢true h)
alike_value (Some v) None h = h
alike_value (Some v) (Some w) h = refl

same_have : (xs ys : List Tracked) → pointwise same_key xs ys ≡ true → list_all has_value ys ≡ true
same_have [] [] h = refl
same_have [] (y ∷ ys) h = absurd (false≢true h)
same_have (x ∷ xs) [] h = refl
same_have (x ∷ xs) (y ∷ ys) h =
    let parts = and_parts (same_key x y) (pointwise same_key xs ys) h in
    let here = and_parts (is_eq (key_order x y)) (alike same_value x.value y.value) parts.0 in
    and_from (has_value y) (list_all has_value ys) (alike_value x.value y.value here.1) (same_have xs ys parts.1)

lost_first : (r : Ordering) (x l : Tracked) (a b c : List (Option Tracked × Option Tracked)) → has_value l ≡ false → list_all has_value (flat_map last_of a) ≡ false → list_all has_value (flat_map last_of (by_order r ((Some x, None) ∷ a) ((Some x, Some l) ∷ b) ((None, Some l) ∷ c))) ≡ false
lost_first Less x l a b c h k = ap (λ (b : Bool). has_value x && b) k ∙ and_none (has_value x)
lost_first Equal x l a b c h k = ap (λ (e : Bool). e && list_all has_value (flat_map last_of b)) h
lost_first Greater x l a b c h k = ap (λ (e : Bool). e && list_all has_value (flat_map last_of c)) h

some_lost : (xs : List Tracked) (l : Tracked) (ls : List Tracked) → has_value l ≡ false → list_all has_value (flat_map last_of (pairs key_order xs (l ∷ ls))) ≡ false
some_lost [] l ls h = ap (λ (e : Bool). e && list_all has_value (flat_map last_of (map (λ y. (None, Some y)) ls))) h
some_lost (x ∷ xs) l ls h =
    lost_first (key_order x l) x l (pairs key_order xs (l ∷ ls)) (pairs key_order xs ls) (pairs_from key_order x (pairs key_order xs) ls) h (some_lost xs l ls h)

none_lost : (xs : List Tracked) → flat_map last_of (pairs key_order xs []) ≡ xs
none_lost [] = refl
none_lost (x ∷ xs) = ap (λ (ks : List Tracked). x ∷ ks) (none_lost xs)

-- ---- keys of one file

then_eq : (a b : Ordering) → is_eq (ordering_then a b) ≡ (is_eq a && is_eq b)
then_eq Less b = refl
then_eq Equal b = refl
then_eq Greater b = refl

key_same : (k l : Tracked) → is_eq (key_order k l) ≡ (bytes_eq k.file l.file && bytes_eq k.key l.key)
key_same k l =
    then_eq (slice_cmp nat_cmp k.file l.file) (slice_cmp nat_cmp k.key l.key)
    ∙ (λ i. is_eq-slice_cmp k.file l.file i && is_eq-slice_cmp k.key l.key i)

other_file : (k l : Tracked) → (k.file ≡ l.file → ⊥) → same_key k l ≡ false
other_file k l h =
    let e : bytes_eq k.file l.file ≡ false =
    false_from_ne_true (bytes_eq k.file l.file) (λ t. h ((bytes_eq-Decides k.file l.file).0 t)) in
    ap (λ (b : Bool). b && alike same_value k.value l.value) (key_same k l ∙ ap (λ (b : Bool). b && bytes_eq k.key l.key) e)

present_same : (f g : List ℕ) → f ≡ g → (p q : Pair) → same_key (present_key f p) (present_key g q) ≡ same_pair (canonical_pair p) q
present_same f g e p q =
    ap (λ (b : Bool). b && same_value (value_of p) (value_of q)) (key_same (present_key f p) (present_key g q))
    ∙ ap (λ (b : Bool). (b && bytes_eq (key_of p) (key_of q)) && same_value (value_of p) (value_of q)) ((bytes_eq-Decides f g).1 e)

-- no key of this file is first
abbrev Other : List ℕ → List Tracked → Type 0
Other file [] = Unit {0}
Other file (k ∷ ks) = k.file ≡ file → ⊥

in_same_file : (f g : List ℕ) → f ≡ g → (ps qs : List Pair) (xs ys : List Tracked) → Other f xs → Other f ys → pointwise same_key (map (present_key f) ps ++ xs) (map (present_key g) qs ++ ys) ≡ (pointwise same_pair (map canonical_pair ps) qs && pointwise same_key xs ys)
in_same_file f g e [] [] xs ys h k = refl
in_same_file f g e [] (q ∷ qs) [] ys h k = refl
in_same_file f g e [] (q ∷ qs) (x ∷ xs) ys h k =
    ap (λ (b : Bool). b && pointwise same_key xs (map (present_key g) qs ++ ys)) (other_file x (present_key g q) (λ t. h (t ∙ sym e)))
in_same_file f g e (p ∷ ps) [] xs [] h k = refl
in_same_file f g e (p ∷ ps) [] xs (y ∷ ys) h k =
    ap (λ (b : Bool). b && pointwise same_key (map (present_key f) ps ++ xs) ys) (other_file (present_key f p) y (λ t. k (sym t)))
in_same_file f g e (p ∷ ps) (q ∷ qs) xs ys h k =
    (λ i. present_same f g e p q i && in_same_file f g e ps qs xs ys h k i)
    ∙ and_assoc (same_pair (canonical_pair p) q) (pointwise same_pair (map canonical_pair ps) qs) (pointwise same_key xs ys)

-- ---- files in order

-- a file of this name is none of them
abbrev Apart : List ℕ → List ParamFile → Type 0
Apart file files = Each (λ f. f.file ≡ file → ⊥) files

abbrev AreApart : List ParamFile → Type 0
AreApart [] = Unit {0}
AreApart (f ∷ files) = Apart f.file files × AreApart files

each_kept : {A : Type 0} (P : A → Type 0) (p : A → Bool) (xs : List A) → Each P xs → Each P (filter p xs)
each_kept P p [] all = tt
each_kept P p (x ∷ xs) all =
    elim (cases_Bool (p x)) [
      | inl h ↦ subst (Each P) (sym (cond-true (p x) (x ∷ filter p xs) (filter p xs) h)) (all.0, each_kept P p xs all.1)
      | inr h ↦ subst (Each P) (sym (cond-false (p x) (x ∷ filter p xs) (filter p xs) h)) (each_kept P p xs all.1)
    ]

apart_kept : (files : List ParamFile) → AreApart files → AreApart (filter has_keys files)
apart_kept [] all = tt
apart_kept (f ∷ files) all =
    let rest = filter has_keys files in
    elim (cases_Bool (has_keys f)) [
      | inl h ↦ subst AreApart (sym (cond-true (has_keys f) (f ∷ rest) rest h)) (each_kept (λ g. g.file ≡ f.file → ⊥) has_keys files all.0, apart_kept files all.1)
      | inr h ↦ subst AreApart (sym (cond-false (has_keys f) (f ∷ rest) rest h)) (apart_kept files all.1)
    ]

filled : (files : List ParamFile) → Each (λ f. has_keys f ≡ true) (filter has_keys files)
filled [] = tt
filled (f ∷ files) =
    let rest = filter has_keys files in
    elim (cases_Bool (has_keys f)) [
      | inl h ↦ subst (Each (λ g. has_keys g ≡ true)) (sym (cond-true (has_keys f) (f ∷ rest) rest h)) (h, filled files)
      | inr h ↦ subst (Each (λ g. has_keys g ≡ true)) (sym (cond-false (has_keys f) (f ∷ rest) rest h)) (filled files)
    ]

no_pairs : (file : List ℕ) (ps : List Pair) (ks : List Tracked) → not (is_empty ps) ≡ false → map (present_key file) ps ++ ks ≡ ks
no_pairs file [] ks h = refl
no_pairs file (p ∷ ps) ks h = absurd (false≢true (sym h))

present_kept : (files : List ParamFile) → present files ≡ present (filter has_keys files)
present_kept [] = refl
present_kept (f ∷ files) =
    let rest = filter has_keys files in
    let later = ap (λ (ks : List Tracked). present_in f ++ ks) (present_kept files) in
    elim (cases_Bool (has_keys f)) [
      | inl h ↦ later ∙ sym (ap present (cond-true (has_keys f) (f ∷ rest) rest h))
      | inr h ↦ later ∙ no_pairs f.file f.keys (present rest) h ∙ sym (ap present (cond-false (has_keys f) (f ∷ rest) rest h))
    ]

other_pairs : (file name : List ℕ) (ps : List Pair) (ks : List Tracked) → (name ≡ file → ⊥) → Other file ks → Other file (map (present_key name) ps ++ ks)
other_pairs file name [] ks h k = k
other_pairs file name (p ∷ ps) ks h k = h

other_present : (file : List ℕ) (files : List ParamFile) → Apart file files → Other file (present files)
other_present file [] all = tt
other_present file (f ∷ files) all = other_pairs file f.file f.keys (present files) all.0 (other_present file files all.1)

none_left : (file : List ℕ) (ps : List Pair) (ks : List Tracked) → not (is_empty ps) ≡ true → pointwise same_key (map (present_key file) ps ++ ks) [] ≡ false
none_left file [] ks h = absurd (false≢true h)
none_left file (p ∷ ps) ks h = refl

none_right : (file : List ℕ) (ps : List Pair) (ks : List Tracked) → not (is_empty ps) ≡ true → pointwise same_key [] (map (present_key file) ps ++ ks) ≡ false
none_right file [] ks h = absurd (false≢true h)
none_right file (p ∷ ps) ks h = refl

in_other_file : (f g : List ℕ) → (f ≡ g → ⊥) → (ps qs : List Pair) (xs ys : List Tracked) → not (is_empty ps) ≡ true → not (is_empty qs) ≡ true → pointwise same_key (map (present_key f) ps ++ xs) (map (present_key g) qs ++ ys) ≡ false
in_other_file f g e [] qs xs ys h k = absurd (false≢true h)
in_other_file f g e (p ∷ ps) [] xs ys h k = absurd (false≢true k)
in_other_file f g e (p ∷ ps) (q ∷ qs) xs ys h k =
    ap (λ (b : Bool). b && pointwise same_key (map (present_key f) ps ++ xs) (map (present_key g) qs ++ ys)) (other_file (present_key f p) (present_key g q) e)

apart_at : (f g : List ℕ) (files : List ParamFile) → f ≡ g → Apart g files → Apart f files
apart_at f g files e all = subst (λ (t : List ℕ). Apart t files) (sym e) all

same_present : (fs gs : List ParamFile) → AreApart fs → AreApart gs → Each (λ f. has_keys f ≡ true) fs → Each (λ g. has_keys g ≡ true) gs → pointwise same_key (present fs) (present gs) ≡ pointwise same_file (map canonical_file fs) gs
same_present [] [] a b h k = refl
same_present [] (g ∷ gs) a b h k = none_right g.file g.keys (present gs) k.0
same_present (f ∷ fs) [] a b h k = none_left f.file f.keys (present fs) h.0
same_present (f ∷ fs) (g ∷ gs) a b h k =
    let names = bytes_eq-Decides f.file g.file in
    let keys = pointwise same_pair (map canonical_pair f.keys) g.keys in
    let later = pointwise same_file (map canonical_file fs) gs in
    elim (cases_Bool (bytes_eq f.file g.file)) [
      | inl e ↦
          in_same_file f.file g.file (names.0 e) f.keys g.keys (present fs) (present gs) (other_present f.file fs a.0) (other_present f.file gs (apart_at f.file g.file gs (names.0 e) b.0))
          ∙ ap (λ (r : Bool). keys && r) (same_present fs gs a.1 b.1 h.1 k.1)
          ∙ sym (ap (λ (r : Bool). (r && keys) && later) e)
      | inr e ↦
          in_other_file f.file g.file (λ t. false≢true (sym e ∙ names.1 t)) f.keys g.keys (present fs) (present gs) h.0 k.0
          ∙ sym (ap (λ (r : Bool). (r && keys) && later) e)
    ]

-- ---- names that rise

above : (file : List ℕ) (files : List ParamFile) → is_rising (file ∷ map file_at files) ≡ true → Each (λ f. is_less file f.file ≡ true) files
above file [] h = tt
above file (f ∷ files) h =
    let parts = and_parts (is_less file f.file) (is_rising (f.file ∷ map file_at files)) h in
    (parts.0, each_by (λ g. is_less f.file g.file ≡ true) (λ g. is_less file g.file ≡ true) (λ g k. less_chain file f.file g.file parts.0 k) files (above f.file files parts.1))

rising_rest : (file : List ℕ) (files : List ParamFile) → is_rising (file ∷ map file_at files) ≡ true → is_rising (map file_at files) ≡ true
rising_rest file [] h = refl
rising_rest file (f ∷ files) h = (and_parts (is_less file f.file) (is_rising (f.file ∷ map file_at files)) h).1

not_itself : (t : List ℕ) → is_less t t ≡ true → ⊥
not_itself t h = false≢true (sym (order.one_way t t h) ∙ h)
  where
    order : IsStrictWeakOrder is_less
    order = ranks_by nat_list_cmp_total (λ (u : List ℕ). u)

pub are_apart : (files : List ParamFile) → is_rising (map file_at files) ≡ true → AreApart files
are_apart [] h = tt
are_apart (f ∷ files) h = (
  each_by (λ g. is_less f.file g.file ≡ true) (λ g. g.file ≡ f.file → ⊥)
      (λ g k e. not_itself f.file (subst (λ (t : List ℕ). is_less f.file t ≡ true) e k)) files (above f.file files h),
  are_apart files (rising_rest f.file files h),
)

-- ---- all of it

empty_params : (told seen : List ParamFile) (lost : List LostKey) → is_rising (map file_at told) ≡ true → is_rising (map file_at seen) ≡ true → is_empty (spec.param_diffs (present told) (tracked seen lost)) ≡ (is_empty lost && pointwise same_file (map canonical_file (filter has_keys told)) (filter has_keys seen))
empty_params told seen [] h k =
    empty_keys (present told) (tracked seen []) ∙ ap (pointwise same_key (present told)) (none_lost (present seen))
    ∙ (λ i. pointwise same_key (present_kept told i) (present_kept seen i))
    ∙ same_present (filter has_keys told) (filter has_keys seen) (apart_kept told (are_apart told h)) (apart_kept seen (are_apart seen k)) (filled told) (filled seen)
empty_params told seen (l ∷ lost) h k =
    empty_keys (present told) (tracked seen (l ∷ lost))
    ∙ false_from_ne_true (pointwise same_key (present told) (tracked seen (l ∷ lost)))
    (λ e. false≢true (sym (some_lost (present seen) (lost_key l) (map lost_key lost) refl) ∙ same_have (present told) (tracked seen (l ∷ lost)) e))

empty_command : (same : Bool) → is_empty (if same then [] else d.Command ∷ []) ≡ same
empty_command true = refl
empty_command false = refl

regrouped : (c e f l o w : Bool) → (c && (e && ((l && f) && (o && w)))) ≡ (((c && (e && f)) && o) && (l && w))
regrouped false e f l o w = refl
regrouped true false f l o w = refl
regrouped true true f l o w = crossed_twice f l o w
  where
    crossed_twice : (f l o w : Bool) → ((l && f) && (o && w)) ≡ ((f && o) && (l && w))
    crossed_twice false false o w = refl
    crossed_twice false true o w = refl
    crossed_twice true false o w = sym (and_none o)
    crossed_twice true true o w = refl

empty_compare : (e : Option Entry) (s : Seen) (g : Gaps) → AreInOrder e s → is_empty (spec.compare e s g) ≡ is_unchanged e s g
empty_compare None s g order = refl
empty_compare (Some e) s g order =
    let commands = spec.command_diffs (Some e) s in
    let deps = spec.dep_diffs e.deps s.deps in
    let params = spec.param_diffs (present e.params) (tracked s.params g.lost) in
    let outs = spec.out_diffs g.absent e.outs s.outs in
    let same = pointwise bytes_eq e.commands s.commands in
    empty_append commands (deps ++ (params ++ outs)) ∙ (λ i. empty_command same i && empty_append deps (params ++ outs) i)
    ∙ ap (λ (r : Bool). same && (is_empty deps && r)) (empty_append params outs)
    ∙ (λ i. same && (empty_deps e.deps s.deps i && (empty_params e.params s.params g.lost order.0 order.1 i && empty_outs g.absent e.outs s.outs i)))
    ∙ regrouped same (pointwise same_path e.deps s.deps) (pointwise same_file (map canonical_file (filter has_keys e.params)) (filter has_keys s.params))
    (is_empty g.lost) (pointwise same_path e.outs s.outs) (are_whole g.absent s.outs)

pub nothing_changed : (e : Option Entry) (s : Seen) (g : Gaps) (diffs : List Diff) → diffs ≡ spec.compare e s g → AreInOrder e s → IsTrue (is_unchanged e s g) ↔ (diffs ≡ [])
nothing_changed e s g diffs exact order =
    let empty : is_empty diffs ≡ is_unchanged e s g = ap is_empty exact ∙ empty_compare e s g order in
    (λ h. from_empty diffs (empty ∙ h), λ h. sym empty ∙ ap is_empty h)
