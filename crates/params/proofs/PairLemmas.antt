-- Mappings as what stands under their keys.
--     order_again        a list in order is in order already, where its keys differ
--     value_in_order     what stands under a key stays there in order
--     same_rising        two mappings whose keys rise are one where the same stands under each key
--     value_among        where a value stands under a key, one of the pairs is the two
--     values_there       under each pair's key stands its value, where the keys differ
use Rattle.std.proofs.Common.{◌≡◌, ℕ, true, false, cond, not, ◌||◌, List, [], ◌∷◌, ◌++◌, map, bytes_eq, Option, Some, None, inl, inr, refl, sym, ap, subst, ◌∙◌}
use Rattle.std.specs.Prelude.{option_map}
use Rattle.std.specs.Cmp.Lexicographic.{slice_cmp}
use Rattle.std.specs.FinMap.{nat_cmp-IsAntisymmetric, slice_cmp-IsAntisymmetric}
use Rattle.std.specs.Ordering.{nat_cmp, is_lt, ordering_reverse}
use Rattle.std.specs.declared.cmp.Ordering.{Ordering}
use Rattle.std.specs.declared.cmp.Ordering.TheVariants.{Less, Equal, Greater}
use Rattle.std.proofs.lemmas.Bool.{cases_Bool, cond-true, cond-false, and_parts, false≢true}
use Rattle.std.proofs.lemmas.Cmp.{nat_list_cmp_total}
use Rattle.std.proofs.lemmas.List.Folds.{list_any-append}
use Rattle.std.proofs.lemmas.Slice.Eq.{bytes_eq-Decides}
use Rattle.yaml_print.proofs.BoolLemmas.{not_true, neither_left, neither_right}
use Rattle.dvc_base.specs.declared.node.Node.{Node}
use Rattle.dvc_base.specs.declared.node.Pair.{Pair, roll-Pair}
use Rattle.dvc_base.specs.declared.node.Node.TheViews.{roll-out-Pair}
use Rattle.yaml_nodes.specs.Part.{key_of}
use Rattle.yaml_print.specs.Print.{value_of}
use Rattle.yaml_print.specs.Sound.{Each, are_new}
use Rattle.lock_files.specs.Mapping.{value_at}
use Rattle.lock_files.specs.Order.{is_less, put_in, in_order, is_rising}
use Rattle.lock_files.specs.Refused.{is_among}
use Rattle.lock_files.specs.Form.{are_distinct}
use Rattle.lock_files.proofs.OrderLemmas.{rising_of_distinct}
use Rattle.lock_files.proofs.PathsBack.{less_chain}
use Rattle.lock_files.proofs.PrintableLemmas.{new_keys}
use Rattle.lock_files.proofs.SortLemmas.{weak, rising_in_order}
use Rattle.params.specs.Canonical.{with_value}

pub order_again : (ps : List Pair) → are_distinct [] (map key_of ps) ≡ true → in_order key_of (in_order key_of ps) ≡ in_order key_of ps
order_again ps h = rising_in_order key_of (in_order key_of ps) (rising_of_distinct key_of ps h)

-- ---- texts

one_self : (t : List ℕ) → bytes_eq t t ≡ true
one_self t = (bytes_eq-Decides t t).1 refl

one_same : (a b : List ℕ) → bytes_eq a b ≡ true → a ≡ b
one_same a b h = (bytes_eq-Decides a b).0 h

not_one : (a b : List ℕ) → (a ≡ b → ⊥) → bytes_eq a b ≡ false
not_one a b h =
    elim (cases_Bool (bytes_eq a b)) [
      | inl e ↦ absurd (h (one_same a b e))
      | inr e ↦ e
    ]

less_self : (t : List ℕ) → is_less t t ≡ true → ⊥
less_self t h = false≢true (sym ((weak (λ (s : List ℕ). s)).one_way t t h) ∙ h)

less_apart : (a b : List ℕ) → is_less a b ≡ true → a ≡ b → ⊥
less_apart a b h e = less_self b (subst (λ (t : List ℕ). is_less t b ≡ true) e h)

tie : (r q : Ordering) → q ≡ ordering_reverse r → is_lt r ≡ false → is_lt q ≡ false → r ≡ Equal
tie Less q e h k = absurd (false≢true (sym h))
tie Equal q e h k = refl
tie Greater q e h k = absurd (false≢true (sym k ∙ ap is_lt e))

one_of : (a b : List ℕ) → is_less a b ≡ false → is_less b a ≡ false → b ≡ a
one_of a b h k = slice_cmp-IsAntisymmetric nat_cmp-IsAntisymmetric b a (tie (slice_cmp nat_cmp b a) (slice_cmp nat_cmp a b) (nat_list_cmp_total.antisymm a b) k h)

-- ---- what stands under a key

value_here : (q : List ℕ) (p : Pair) (ps : List Pair) → bytes_eq (key_of p) q ≡ true → value_at q (p ∷ ps) ≡ Some (value_of p)
value_here q p ps h = cond-true (bytes_eq (key_of p) q) (Some (value_of p)) (value_at q ps) h

value_later : (q : List ℕ) (p : Pair) (ps : List Pair) → bytes_eq (key_of p) q ≡ false → value_at q (p ∷ ps) ≡ value_at q ps
value_later q p ps h = cond-false (bytes_eq (key_of p) q) (Some (value_of p)) (value_at q ps) h

value_own : (p : Pair) (ps : List Pair) → value_at (key_of p) (p ∷ ps) ≡ Some (value_of p)
value_own p ps = value_here (key_of p) p ps (one_self (key_of p))

-- two pairs with different keys may change places
value_changed : (q : List ℕ) (a b : Pair) (ps : List Pair) → (key_of b ≡ key_of a → ⊥) → value_at q (b ∷ a ∷ ps) ≡ value_at q (a ∷ b ∷ ps)
value_changed q a b ps apart =
    elim (cases_Bool (bytes_eq (key_of b) q)) [
      | inl h ↦
          let other : bytes_eq (key_of a) q ≡ false = not_one (key_of a) q (λ e. apart (one_same (key_of b) q h ∙ sym e)) in
          value_here q b (a ∷ ps) h ∙ sym (value_later q a (b ∷ ps) other ∙ value_here q b ps h)
      | inr h ↦
          value_later q b (a ∷ ps) h
          ∙ ap (λ (o : Option Node). cond (bytes_eq (key_of a) q) (Some (value_of a)) o) (sym (value_later q b ps h))
    ]

value_more : (q : List ℕ) (p : Pair) (xs ys : List Pair) → value_at q xs ≡ value_at q ys → value_at q (p ∷ xs) ≡ value_at q (p ∷ ys)
value_more q p xs ys h = ap (λ (o : Option Node). cond (bytes_eq (key_of p) q) (Some (value_of p)) o) h

value_put : (q : List ℕ) (a : Pair) (bs : List Pair) → value_at q (put_in key_of a bs) ≡ value_at q (a ∷ bs)
value_put q a [] = refl
value_put q a (b ∷ bs) =
    elim (cases_Bool (is_less (key_of b) (key_of a))) [
      | inl h ↦
          ap (value_at q) (cond-true (is_less (key_of b) (key_of a)) (b ∷ put_in key_of a bs) (a ∷ b ∷ bs) h)
          ∙ value_more q b (put_in key_of a bs) (a ∷ bs) (value_put q a bs) ∙ value_changed q a b bs (less_apart (key_of b) (key_of a) h)
      | inr h ↦ ap (value_at q) (cond-false (is_less (key_of b) (key_of a)) (b ∷ put_in key_of a bs) (a ∷ b ∷ bs) h)
    ]

pub value_in_order : (q : List ℕ) (ps : List Pair) → value_at q (in_order key_of ps) ≡ value_at q ps
value_in_order q [] = refl
value_in_order q (p ∷ ps) = value_put q p (in_order key_of ps) ∙ value_more q p (in_order key_of ps) ps (value_in_order q ps)

-- ---- keys that rise

rising_parts : (p r : Pair) (ps : List Pair) → is_rising (map key_of (p ∷ r ∷ ps)) ≡ true → (is_less (key_of p) (key_of r) ≡ true) × (is_rising (map key_of (r ∷ ps)) ≡ true)
rising_parts p r ps h = and_parts (is_less (key_of p) (key_of r)) (is_rising (map key_of (r ∷ ps))) h

rising_rest : (p : Pair) (ps : List Pair) → is_rising (map key_of (p ∷ ps)) ≡ true → is_rising (map key_of ps) ≡ true
rising_rest p [] h = refl
rising_rest p (r ∷ ps) h = (rising_parts p r ps h).1

-- nothing stands under a key below all
value_below : (q : List ℕ) (p : Pair) (ps : List Pair) → is_less q (key_of p) ≡ true → is_rising (map key_of (p ∷ ps)) ≡ true → value_at q (p ∷ ps) ≡ None
value_below q p [] h up = value_later q p [] (not_one (key_of p) q (λ e. less_apart q (key_of p) h (sym e)))
value_below q p (r ∷ ps) h up =
    let parts = rising_parts p r ps up in
    value_later q p (r ∷ ps) (not_one (key_of p) q (λ e. less_apart q (key_of p) h (sym e))) ∙ value_below q r ps (less_chain q (key_of p) (key_of r) h parts.0) parts.1

value_behind : (p : Pair) (ps : List Pair) → is_rising (map key_of (p ∷ ps)) ≡ true → value_at (key_of p) ps ≡ None
value_behind p [] up = refl
value_behind p (r ∷ ps) up =
    let parts = rising_parts p r ps up in
    value_below (key_of p) r ps parts.0 parts.1

some_none : {A : Type 0} (x : A) → Some x ≡ None → ⊥
some_none x h = absurd (cc)

some_same : {A : Type 0} (x y : A) → Some x ≡ Some y → x ≡ y
some_same x y h = cc

abbrev Alike : List Pair → List Pair → Type 0
Alike xs ys = (q : List ℕ) → value_at q xs ≡ value_at q ys

first_not_below : (x y : Pair) (xs ys : List Pair) → is_rising (map key_of (y ∷ ys)) ≡ true → Alike (x ∷ xs) (y ∷ ys) → is_less (key_of x) (key_of y) ≡ false
first_not_below x y xs ys up same =
    elim (cases_Bool (is_less (key_of x) (key_of y))) [
      | inl h ↦ absurd (some_none (value_of x) (sym (value_own x xs) ∙ same (key_of x) ∙ value_below (key_of x) y ys h up))
      | inr h ↦ h
    ]

rest_alike : (x y : Pair) (xs ys : List Pair) → key_of x ≡ key_of y → is_rising (map key_of (x ∷ xs)) ≡ true → is_rising (map key_of (y ∷ ys)) ≡ true → Alike (x ∷ xs) (y ∷ ys) → Alike xs ys
rest_alike x y xs ys e up other same q =
    elim (cases_Bool (bytes_eq (key_of x) q)) [
      | inl h ↦
          let is : q ≡ key_of x = sym (one_same (key_of x) q h) in
          ap (λ (k : List ℕ). value_at k xs) is ∙ value_behind x xs up ∙ sym (ap (λ (k : List ℕ). value_at k ys) (is ∙ e) ∙ value_behind y ys other)
      | inr h ↦
          let apart : bytes_eq (key_of y) q ≡ false = ap (λ (k : List ℕ). bytes_eq k q) (sym e) ∙ h in
          sym (value_later q x xs h) ∙ same q ∙ value_later q y ys apart
    ]

pub same_pair : (x y : Pair) → key_of x ≡ key_of y → value_of x ≡ value_of y → x ≡ y
same_pair x y k v =
    sym (roll-out-Pair x) ∙ ap (λ (t : List ℕ). roll-Pair (record { key = t; value = value_of x })) k
    ∙ ap (λ (w : Node). roll-Pair (record { key = key_of y; value = w })) v ∙ roll-out-Pair y

pub same_rising : (xs ys : List Pair) → is_rising (map key_of xs) ≡ true → is_rising (map key_of ys) ≡ true → Alike xs ys → xs ≡ ys
same_rising [] [] up other same = refl
same_rising [] (y ∷ ys) up other same = absurd (some_none (value_of y) (sym (value_own y ys) ∙ sym (same (key_of y))))
same_rising (x ∷ xs) [] up other same = absurd (some_none (value_of x) (sym (value_own x xs) ∙ same (key_of x)))
same_rising (x ∷ xs) (y ∷ ys) up other same =
    let one : is_less (key_of x) (key_of y) ≡ false = first_not_below x y xs ys other same in
    let two : is_less (key_of y) (key_of x) ≡ false = first_not_below y x ys xs up (λ q. sym (same q)) in
    let keys : key_of x ≡ key_of y = one_of (key_of y) (key_of x) two one in
    let own : value_at (key_of x) (y ∷ ys) ≡ Some (value_of y) = value_here (key_of x) y ys (ap (λ (k : List ℕ). bytes_eq k (key_of x)) (sym keys) ∙ one_self (key_of x)) in
    let values : value_of x ≡ value_of y = some_same (value_of x) (value_of y) (sym (value_own x xs) ∙ same (key_of x) ∙ own) in
    ap (λ (p : Pair). p ∷ xs) (same_pair x y keys values)
    ∙ ap (λ (ps : List Pair). y ∷ ps) (same_rising xs ys (rising_rest x xs up) (rising_rest y ys other) (rest_alike x y xs ys keys up other same))

-- ---- pairs and what stands under their keys

pub value_among : (R : Pair → Type 0) (q : List ℕ) (v : Node) (ps : List Pair) → Each R ps → value_at q ps ≡ Some v → (p : Pair) × R p × (key_of p ≡ q) × (value_of p ≡ v)
value_among R q v [] all h = absurd (cc)
value_among R q v (p ∷ ps) all h =
    elim (cases_Bool (bytes_eq (key_of p) q)) [
      | inl e ↦ (p, all.0, one_same (key_of p) q e, some_same (value_of p) v (sym (value_here q p ps e) ∙ h))
      | inr e ↦ value_among R q v ps all.1 (sym (value_later q p ps e) ∙ h)
    ]

pub value_sound : (P : Node → Type 0) (q : List ℕ) (v : Node) (ps : List Pair) → Each (λ p. P (value_of p)) ps → value_at q ps ≡ Some v → P v
value_sound P q v ps all h =
    let r = value_among (λ p. P (value_of p)) q v ps all h in
    subst P r.3 r.1

-- values made anew, under the same keys
pub value_made : (f : Node → Node) (q : List ℕ) (ps : List Pair) → value_at q (map (with_value f) ps) ≡ option_map f (value_at q ps)
value_made f q [] = refl
value_made f q (p ∷ ps) =
    elim (cases_Bool (bytes_eq (key_of p) q)) [
      | inl h ↦ value_here q (with_value f p) (map (with_value f) ps) h ∙ sym (ap (option_map f) (value_here q p ps h))
      | inr h ↦ value_later q (with_value f p) (map (with_value f) ps) h ∙ value_made f q ps ∙ sym (ap (option_map f) (value_later q p ps h))
    ]

pub keys_made : (f : Node → Node) (ps : List Pair) → map key_of (map (with_value f) ps) ≡ map key_of ps
keys_made f [] = refl
keys_made f (p ∷ ps) = ap (λ ks. key_of p ∷ ks) (keys_made f ps)

pub distinct_keys : (ps : List Pair) → are_new [] ps ≡ true → are_distinct [] (map key_of ps) ≡ true
distinct_keys ps h = sym (new_keys [] ps) ∙ h

pub made_distinct : (f : Node → Node) (ps : List Pair) → are_new [] ps ≡ true → are_distinct [] (map key_of (map (with_value f) ps)) ≡ true
made_distinct f ps h = ap (are_distinct []) (keys_made f ps) ∙ distinct_keys ps h

pub made_rising : (f : Node → Node) (ps : List Pair) → are_new [] ps ≡ true → is_rising (map key_of (in_order key_of (map (with_value f) ps))) ≡ true
made_rising f ps h = rising_of_distinct key_of (map (with_value f) ps) (made_distinct f ps h)

-- ---- under each pair's key stands its value

each_more : {A : Type 0} (P Q : A → Type 0) (xs : List A) → ((x : A) → P x → Q x) → Each P xs → Each Q xs
each_more P Q [] f h = tt
each_more P Q (x ∷ xs) f h = (f x h.0, each_more P Q xs f h.1)

each_both : {A : Type 0} (P Q R : A → Type 0) (xs : List A) → ((x : A) → P x → Q x → R x) → Each P xs → Each Q xs → Each R xs
each_both P Q R [] f h k = tt
each_both P Q R (x ∷ xs) f h k = (f x h.0 k.0, each_both P Q R xs f h.1 k.1)

among_parts : (q t : List ℕ) (before : List (List ℕ)) → is_among q (before ++ t ∷ []) ≡ false → (is_among q before ≡ false) × (bytes_eq t q ≡ false)
among_parts q t before h =
    let whole : (is_among q before || (bytes_eq t q || false)) ≡ false = sym (list_any-append (λ p. bytes_eq p q) before (t ∷ [])) ∙ h in
    (neither_left (is_among q before) (bytes_eq t q || false) whole, neither_left (bytes_eq t q) false (neither_right (is_among q before) (bytes_eq t q || false) whole))

apart_keys : (before : List (List ℕ)) (ps : List Pair) → are_distinct before (map key_of ps) ≡ true → Each (λ p. is_among (key_of p) before ≡ false) ps
apart_keys before [] h = tt
apart_keys before (p ∷ ps) h =
    let both = and_parts (not (is_among (key_of p) before)) (are_distinct (before ++ key_of p ∷ []) (map key_of ps)) h in (
      not_true (is_among (key_of p) before) both.0,
      each_more (λ r. is_among (key_of r) (before ++ key_of p ∷ []) ≡ false) (λ r. is_among (key_of r) before ≡ false) ps
          (λ r k. (among_parts (key_of r) (key_of p) before k).0) (apart_keys (before ++ key_of p ∷ []) ps both.1),
    )

values_by : (before : List (List ℕ)) (ps : List Pair) → are_distinct before (map key_of ps) ≡ true → Each (λ p. value_at (key_of p) ps ≡ Some (value_of p)) ps
values_by before [] h = tt
values_by before (p ∷ ps) h =
    let both = and_parts (not (is_among (key_of p) before)) (are_distinct (before ++ key_of p ∷ []) (map key_of ps)) h in (
      value_own p ps,
      each_both (λ r. is_among (key_of r) (before ++ key_of p ∷ []) ≡ false) (λ r. value_at (key_of r) ps ≡ Some (value_of r)) (λ r. value_at (key_of r) (p ∷ ps) ≡ Some (value_of r)) ps
          (λ r k e. value_later (key_of r) p ps (among_parts (key_of r) (key_of p) before k).1 ∙ e)
          (apart_keys (before ++ key_of p ∷ []) ps both.1) (values_by (before ++ key_of p ∷ []) ps both.1),
    )

pub values_there : (ps : List Pair) → are_new [] ps ≡ true → Each (λ p. value_at (key_of p) ps ≡ Some (value_of p)) ps
values_there ps h = values_by [] ps (distinct_keys ps h)
