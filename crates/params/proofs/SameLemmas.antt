-- When canonical nodes are equal.
--     null_same, bool_same, text_same, number_same    for a scalar beside any layer
--     items_same, pairs_same                          for a list and a mapping beside another
--     other_items, other_pairs                        beside a layer of another kind
--     tells, tells_items, tells_pairs                 for nodes at any depth
--     items_at_.., pairs_at_..                        for lists and mappings, from where a loop stands
use Rattle.std.proofs.Common.{◌≡◌, ℕ, zero, suc, ◌+◌, ◌<◌, ◌≤◌, eqb, Bool, true, false, cond, ◌&&◌, List, [], ◌∷◌, length, map, drop, get_or, Option, Some, None, inl, inr, refl, sym, ap, subst, ◌∙◌, arith}
use Rattle.std.specs.Prelude.{pos, codes, option_map, is_some}
use Rattle.std.specs.Bool.{Decides}
use Rattle.std.specs.List.{list_all}
use Rattle.std.proofs.lemmas.Bool.{cases_Bool, and_parts, and_from, false≢true}
use Rattle.std.proofs.lemmas.Bool.Decides.{nat_tests}
use Rattle.std.proofs.lemmas.List.{drop_more}
use Rattle.std.proofs.lemmas.Slice.Eq.{bytes_eq-Decides}
use Rattle.dvc_base.specs.declared.node.Node.{Node, out-Node}
use Rattle.dvc_base.specs.declared.node.Node.TheOpen.{Node-F}
use Rattle.dvc_base.specs.declared.node.Node.TheVariants as nd
use Rattle.dvc_base.specs.declared.node.Pair.{Pair}
use Rattle.yaml_nodes.specs.Part.{key_of}
use Rattle.yaml_print.specs.ScalarText.{Layer}
use Rattle.yaml_print.specs.Print.{value_of}
use Rattle.yaml_print.specs.Sound.{Each, IsProper, IsSound, are_new}
use Rattle.yaml_print.proofs.NodeCases.{out_null, out_bool, out_whole, out_decimal, out_text, out_items, out_pairs}
use Rattle.lock_files.specs.Order.{in_order}
use Rattle.lock_files.specs.Mapping.{is_same, is_null_of, is_bool_of, is_text, text_of, items_of, pairs_of, value_at, has}
use Rattle.params.specs.declared.number.Number.{Number}
use Rattle.params.specs.Number.{is_one, whole_number, decimal_number, number_text, number_node}
use Rattle.params.specs.Canonical.{with_value, canonical_layer, canonical, is_number, number_in, StandsIn}
use Rattle.params.proofs.NumberLemmas.{read_back}
use Rattle.params.proofs.AgainLemmas.{Stands, zero_node, other_node, whole_stands, decimal_stands}
use Rattle.params.proofs.CanonLemmas.{canonical_none, canonical_deep, proper_at, inside_at, flat_at}
use Rattle.params.proofs.PairLemmas.{value_in_order, same_rising, value_among, value_sound, value_made, made_rising, values_there}

some_is : {A : Type 0} (x y : A) → Some x ≡ Some y → x ≡ y
some_is x y h = cc

longer : (n : ℕ) → eqb (suc n) 0 ≡ false
longer n = grind (arith, nat_tests)

-- ---- kinds

abbrev kind : Layer → ℕ
kind Node-F.Null = 0
kind (Node-F.Bool b) = 1
kind (Node-F.Whole n t) = 2
kind (Node-F.Decimal t) = 2
kind (Node-F.Text t) = 3
kind (Node-F.Items xs) = 4
kind (Node-F.Pairs ps) = 5

number_kind : (n : Number) → kind (out-Node (number_node n)) ≡ 2
number_kind n =
    elim (cases_Bool (eqb n.digits 0)) [
      | inl none ↦ ap (λ (v : Node). kind (out-Node v)) (zero_node n none) ∙ ap kind (out_whole (pos 0) (codes "0"))
      | inr some ↦ ap (λ (v : Node). kind (out-Node v)) (other_node n some) ∙ ap kind (out_decimal (number_text n))
    ]

kind_kept : (f : Node → Node) (l : Layer) → kind (out-Node (canonical_layer f l)) ≡ kind l
kind_kept f Node-F.Null = ap kind out_null
kind_kept f (Node-F.Bool b) = ap kind (out_bool b)
kind_kept f (Node-F.Whole n t) = number_kind (whole_number n)
kind_kept f (Node-F.Decimal t) = number_kind (decimal_number t)
kind_kept f (Node-F.Text t) = ap kind (out_text t)
kind_kept f (Node-F.Items xs) = ap kind (out_items (map f xs))
kind_kept f (Node-F.Pairs ps) = ap kind (out_pairs (in_order key_of (map (with_value f) ps)))

-- nodes of two kinds
apart : (f : Node → Node) (k l : Layer) → (kind k ≡ kind l → ⊥) → Decides false (canonical_layer f k ≡ canonical_layer f l)
apart f k l other = (
  λ h. absurd (false≢true h),
  λ e. absurd (other (sym (kind_kept f k) ∙ ap (λ (v : Node). kind (out-Node v)) e ∙ kind_kept f l)),
)

equal : (v w : Node) → v ≡ w → Decides true (v ≡ w)
equal v w e = (λ h. e, λ h. refl)

-- ---- scalars

pub null_same : (f : Node → Node) (l : Layer) → Decides (is_null_of l) (canonical_layer f Node-F.Null ≡ canonical_layer f l)
null_same f Node-F.Null = equal nd.Null nd.Null refl
null_same f (Node-F.Bool c) = apart f Node-F.Null (Node-F.Bool c) (λ e. absurd (omega arith))
null_same f (Node-F.Whole n t) = apart f Node-F.Null (Node-F.Whole n t) (λ e. absurd (omega arith))
null_same f (Node-F.Decimal t) = apart f Node-F.Null (Node-F.Decimal t) (λ e. absurd (omega arith))
null_same f (Node-F.Text u) = apart f Node-F.Null (Node-F.Text u) (λ e. absurd (omega arith))
null_same f (Node-F.Items ys) = apart f Node-F.Null (Node-F.Items ys) (λ e. absurd (omega arith))
null_same f (Node-F.Pairs qs) = apart f Node-F.Null (Node-F.Pairs qs) (λ e. absurd (omega arith))

bool_apart : (b c : Bool) → nd.Bool b ≡ nd.Bool c → b ≡ c
bool_apart b c e =
    let layers : Node-F.Bool b ≡ Node-F.Bool c = sym (out_bool b) ∙ ap out-Node e ∙ out_bool c in
    cc

bool_is : (b c : Bool) → Decides (is_same b c) (nd.Bool b ≡ nd.Bool c)
bool_is true true = (λ h. refl, λ e. refl)
bool_is true false = (λ h. absurd (false≢true h), λ e. sym (bool_apart true false e))
bool_is false true = (λ h. absurd (false≢true h), λ e. bool_apart false true e)
bool_is false false = (λ h. refl, λ e. refl)

pub bool_same : (f : Node → Node) (b : Bool) (l : Layer) → Decides (is_bool_of b l) (canonical_layer f (Node-F.Bool b) ≡ canonical_layer f l)
bool_same f b (Node-F.Bool c) = bool_is b c
bool_same f b Node-F.Null = apart f (Node-F.Bool b) Node-F.Null (λ e. absurd (omega arith))
bool_same f b (Node-F.Whole n t) = apart f (Node-F.Bool b) (Node-F.Whole n t) (λ e. absurd (omega arith))
bool_same f b (Node-F.Decimal t) = apart f (Node-F.Bool b) (Node-F.Decimal t) (λ e. absurd (omega arith))
bool_same f b (Node-F.Text u) = apart f (Node-F.Bool b) (Node-F.Text u) (λ e. absurd (omega arith))
bool_same f b (Node-F.Items ys) = apart f (Node-F.Bool b) (Node-F.Items ys) (λ e. absurd (omega arith))
bool_same f b (Node-F.Pairs qs) = apart f (Node-F.Bool b) (Node-F.Pairs qs) (λ e. absurd (omega arith))

text_apart : (t u : List ℕ) → nd.Text t ≡ nd.Text u → u ≡ t
text_apart t u e =
    let layers : Node-F.Text t ≡ Node-F.Text u = sym (out_text t) ∙ ap out-Node e ∙ out_text u in
    cc

pub text_same : (f : Node → Node) (t : List ℕ) (l : Layer) → Decides (is_text t (text_of l)) (canonical_layer f (Node-F.Text t) ≡ canonical_layer f l)
text_same f t (Node-F.Text u) =
    let both = bytes_eq-Decides u t in
    (λ h. ap nd.Text (sym (both.0 h)), λ e. both.1 (text_apart t u e))
text_same f t Node-F.Null = apart f (Node-F.Text t) Node-F.Null (λ e. absurd (omega arith))
text_same f t (Node-F.Bool c) = apart f (Node-F.Text t) (Node-F.Bool c) (λ e. absurd (omega arith))
text_same f t (Node-F.Whole n w) = apart f (Node-F.Text t) (Node-F.Whole n w) (λ e. absurd (omega arith))
text_same f t (Node-F.Decimal w) = apart f (Node-F.Text t) (Node-F.Decimal w) (λ e. absurd (omega arith))
text_same f t (Node-F.Items ys) = apart f (Node-F.Text t) (Node-F.Items ys) (λ e. absurd (omega arith))
text_same f t (Node-F.Pairs qs) = apart f (Node-F.Text t) (Node-F.Pairs qs) (λ e. absurd (omega arith))

-- ---- numbers

abbrev fields : Number → Number → Bool
fields m n = eqb m.digits n.digits && (is_same m.below n.below && (is_same m.down n.down && eqb m.exponent n.exponent))

same_bool : (b c : Bool) → is_same b c ≡ true → b ≡ c
same_bool true c h = sym h
same_bool false true h = absurd (false≢true h)
same_bool false false h = refl

own_bool : (b : Bool) → is_same b b ≡ true
own_bool true = refl
own_bool false = refl

same_size : (a b : ℕ) → eqb a b ≡ true → a ≡ b
same_size a b h = grind (arith, nat_tests)

own_size : (a : ℕ) → eqb a a ≡ true
own_size a = grind (arith, nat_tests)

fields_same : (m n : Number) → fields m n ≡ true → m ≡ n
fields_same m n h =
    let a = and_parts (eqb m.digits n.digits) (is_same m.below n.below && (is_same m.down n.down && eqb m.exponent n.exponent)) h in
    let b = and_parts (is_same m.below n.below) (is_same m.down n.down && eqb m.exponent n.exponent) a.1 in
    let c = and_parts (is_same m.down n.down) (eqb m.exponent n.exponent) b.1 in
    ap (λ (x : ℕ). record { below = m.below; digits = x; down = m.down; exponent = m.exponent }) (same_size m.digits n.digits a.0)
    ∙ ap (λ (x : Bool). record { below = x; digits = n.digits; down = m.down; exponent = m.exponent }) (same_bool m.below n.below b.0)
    ∙ ap (λ (x : Bool). record { below = n.below; digits = n.digits; down = x; exponent = m.exponent }) (same_bool m.down n.down c.0)
    ∙ ap (λ (x : ℕ). record { below = n.below; digits = n.digits; down = n.down; exponent = x }) (same_size m.exponent n.exponent c.1)

fields_own : (m : Number) → fields m m ≡ true
fields_own m =
    and_from (eqb m.digits m.digits) (is_same m.below m.below && (is_same m.down m.down && eqb m.exponent m.exponent)) (own_size m.digits)
    (and_from (is_same m.below m.below) (is_same m.down m.down && eqb m.exponent m.exponent) (own_bool m.below)
    (and_from (is_same m.down m.down) (eqb m.exponent m.exponent) (own_bool m.down) (own_size m.exponent)))

zero_apart : (t : List ℕ) → nd.Whole (pos 0) (codes "0") ≡ nd.Decimal t → ⊥
zero_apart t e =
    let layers : Node-F.Whole (pos 0) (codes "0") ≡ Node-F.Decimal t = sym (out_whole (pos 0) (codes "0")) ∙ ap out-Node e ∙ out_decimal t in
    absurd (cc)

texts_same : (t u : List ℕ) → nd.Decimal t ≡ nd.Decimal u → t ≡ u
texts_same t u e =
    let layers : Node-F.Decimal t ≡ Node-F.Decimal u = sym (out_decimal t) ∙ ap out-Node e ∙ out_decimal u in
    cc

not_fields : (m n : Number) → eqb m.digits 0 ≡ false → eqb n.digits 0 ≡ true → fields m n ≡ true → ⊥
not_fields m n some none h =
    let same : m.digits ≡ n.digits = ap (λ (x : Number). x.digits) (fields_same m n h) in
    false≢true (sym some ∙ ap (λ (d : ℕ). eqb d 0) same ∙ none)

one_by : (m n : Number) (a b : Bool) → eqb m.digits 0 ≡ a → eqb n.digits 0 ≡ b → Stands m → Stands n → Decides (cond a b (fields m n)) (number_node m ≡ number_node n)
one_by m n true true h k s t = (λ e. zero_node m h ∙ sym (zero_node n k), λ e. refl)
one_by m n true false h k s t = (
  λ e. absurd (false≢true e),
  λ e. absurd (zero_apart (number_text n) (sym (zero_node m h) ∙ e ∙ other_node n k)),
)
one_by m n false true h k s t = (
  λ e. absurd (not_fields m n h k e),
  λ e. absurd (zero_apart (number_text m) (sym (zero_node n k) ∙ sym e ∙ other_node m h)),
)
one_by m n false false h k s t = (
  λ e. ap number_node (fields_same m n e),
  λ e.
      let texts = texts_same (number_text m) (number_text n) (sym (other_node m h) ∙ e ∙ other_node n k) in
      let same : m ≡ n = sym (read_back m (s h)) ∙ ap decimal_number texts ∙ read_back n (t k) in
      subst (λ (x : Number). fields m x ≡ true) same (fields_own m),
)

pub one_same : (m n : Number) → Stands m → Stands n → Decides (is_one m n) (number_node m ≡ number_node n)
one_same m n s t = one_by m n (eqb m.digits 0) (eqb n.digits 0) refl refl s t

number_apart : (f : Node → Node) (m : Number) (l : Layer) → (2 ≡ kind l → ⊥) → Decides false (number_node m ≡ canonical_layer f l)
number_apart f m l other = (
  λ h. absurd (false≢true h),
  λ e. absurd (other (sym (number_kind m) ∙ ap (λ (v : Node). kind (out-Node v)) e ∙ kind_kept f l)),
)

pub number_same : (f : Node → Node) (m : Number) (l : Layer) → Stands m → IsProper l → Decides (is_number m (number_in l)) (number_node m ≡ canonical_layer f l)
number_same f m (Node-F.Whole n t) s h = one_same m (whole_number n) s (whole_stands n t h)
number_same f m (Node-F.Decimal t) s h = one_same m (decimal_number t) s (decimal_stands t h)
number_same f m Node-F.Null s h = number_apart f m Node-F.Null (λ e. absurd (omega arith))
number_same f m (Node-F.Bool c) s h = number_apart f m (Node-F.Bool c) (λ e. absurd (omega arith))
number_same f m (Node-F.Text u) s h = number_apart f m (Node-F.Text u) (λ e. absurd (omega arith))
number_same f m (Node-F.Items ys) s h = number_apart f m (Node-F.Items ys) (λ e. absurd (omega arith))
number_same f m (Node-F.Pairs qs) s h = number_apart f m (Node-F.Pairs qs) (λ e. absurd (omega arith))

-- ---- lists

items_apart : (xs ys : List Node) → nd.Items xs ≡ nd.Items ys → xs ≡ ys
items_apart xs ys e =
    let layers : Node-F.Items xs ≡ Node-F.Items ys = sym (out_items xs) ∙ ap out-Node e ∙ out_items ys in
    cc

pub items_same : (f : Node → Node) (xs ys : List Node) (r : Bool) → Decides r (map f xs ≡ map f ys) → Decides r (canonical_layer f (Node-F.Items xs) ≡ canonical_layer f (Node-F.Items ys))
items_same f xs ys r h = (λ e. ap nd.Items (h.0 e), λ e. h.1 (items_apart (map f xs) (map f ys) e))

pub other_items : (f : Node → Node) (xs : List Node) (l : Layer) → items_of l ≡ None → Decides false (canonical_layer f (Node-F.Items xs) ≡ canonical_layer f l)
other_items f xs Node-F.Null h = apart f (Node-F.Items xs) Node-F.Null (λ e. absurd (omega arith))
other_items f xs (Node-F.Bool c) h = apart f (Node-F.Items xs) (Node-F.Bool c) (λ e. absurd (omega arith))
other_items f xs (Node-F.Whole n t) h = apart f (Node-F.Items xs) (Node-F.Whole n t) (λ e. absurd (omega arith))
other_items f xs (Node-F.Decimal t) h = apart f (Node-F.Items xs) (Node-F.Decimal t) (λ e. absurd (omega arith))
other_items f xs (Node-F.Text u) h = apart f (Node-F.Items xs) (Node-F.Text u) (λ e. absurd (omega arith))
other_items f xs (Node-F.Items ys) h = absurd (cc)
other_items f xs (Node-F.Pairs qs) h = apart f (Node-F.Items xs) (Node-F.Pairs qs) (λ e. absurd (omega arith))

-- ---- mappings

pairs_apart : (ps qs : List Pair) → nd.Pairs ps ≡ nd.Pairs qs → ps ≡ qs
pairs_apart ps qs e =
    let layers : Node-F.Pairs ps ≡ Node-F.Pairs qs = sym (out_pairs ps) ∙ ap out-Node e ∙ out_pairs qs in
    cc

pub other_pairs : (f : Node → Node) (ps : List Pair) (l : Layer) → pairs_of l ≡ None → Decides false (canonical_layer f (Node-F.Pairs ps) ≡ canonical_layer f l)
other_pairs f ps Node-F.Null h = apart f (Node-F.Pairs ps) Node-F.Null (λ e. absurd (omega arith))
other_pairs f ps (Node-F.Bool c) h = apart f (Node-F.Pairs ps) (Node-F.Bool c) (λ e. absurd (omega arith))
other_pairs f ps (Node-F.Whole n t) h = apart f (Node-F.Pairs ps) (Node-F.Whole n t) (λ e. absurd (omega arith))
other_pairs f ps (Node-F.Decimal t) h = apart f (Node-F.Pairs ps) (Node-F.Decimal t) (λ e. absurd (omega arith))
other_pairs f ps (Node-F.Text u) h = apart f (Node-F.Pairs ps) (Node-F.Text u) (λ e. absurd (omega arith))
other_pairs f ps (Node-F.Items ys) h = apart f (Node-F.Pairs ps) (Node-F.Items ys) (λ e. absurd (omega arith))
other_pairs f ps (Node-F.Pairs qs) h = absurd (cc)

-- what stands in the canonical mapping
value_canonical : (f : Node → Node) (q : List ℕ) (ps : List Pair) → value_at q (in_order key_of (map (with_value f) ps)) ≡ option_map f (value_at q ps)
value_canonical f q ps = value_in_order q (map (with_value f) ps) ∙ value_made f q ps

some_map : {A B : Type 0} (f : A → B) (o : Option A) (x : B) → option_map f o ≡ Some x → is_some o ≡ true
some_map f None x h = absurd (cc)
some_map f (Some y) x h = refl

none_map : {A B : Type 0} (f : A → B) (o : Option A) → o ≡ None → option_map f o ≡ None
none_map f o h = ap (option_map f) h

not_some : {A : Type 0} (o : Option A) → is_some o ≡ false → o ≡ None
not_some None h = refl
not_some (Some x) h = absurd (false≢true (sym h))

each_has : (test : Pair → Bool) (ps : List Pair) → list_all test ps ≡ true → Each (λ p. test p ≡ true) ps
each_has test [] h = tt
each_has test (p ∷ ps) h = let both = and_parts (test p) (list_all test ps) h in (both.0, each_has test ps both.1)

has_each : (test : Pair → Bool) (ps : List Pair) → Each (λ p. test p ≡ true) ps → list_all test ps ≡ true
has_each test [] h = refl
has_each test (p ∷ ps) h = and_from (test p) (list_all test ps) h.0 (has_each test ps h.1)

-- under each key stands the same
alike_by : (f : Node → Node) (ps qs : List Pair) (q : List ℕ) (o u : Option Node) → value_at q ps ≡ o → value_at q qs ≡ u → Each (StandsIn f qs) ps → Each (λ p. has (key_of p) ps ≡ true) qs → option_map f o ≡ option_map f u
alike_by f ps qs q None None h k a b = refl
alike_by f ps qs q None (Some w) h k a b =
    let r = value_among (λ p. has (key_of p) ps ≡ true) q w qs b k in
    absurd (false≢true (ap is_some (sym h) ∙ ap (λ (t : List ℕ). has t ps) (sym r.2) ∙ r.1))
alike_by f ps qs q (Some v) u h k a b =
    let r = value_among (StandsIn f qs) q v ps a h in
    sym (ap (option_map f) (sym k) ∙ ap (λ (t : List ℕ). option_map f (value_at t qs)) (sym r.2) ∙ r.1 ∙ ap (λ (w : Node). Some (f w)) r.3)

alike : (f : Node → Node) (ps qs : List Pair) → Each (StandsIn f qs) ps → Each (λ p. has (key_of p) ps ≡ true) qs → (q : List ℕ) → option_map f (value_at q ps) ≡ option_map f (value_at q qs)
alike f ps qs a b q = alike_by f ps qs q (value_at q ps) (value_at q qs) refl refl a b

each_own : (P : Pair → Type 0) (all ps : List Pair) → ((p : Pair) → value_at (key_of p) all ≡ Some (value_of p) → P p) → Each (λ p. value_at (key_of p) all ≡ Some (value_of p)) ps → Each P ps
each_own P all [] f h = tt
each_own P all (p ∷ ps) f h = (f p h.0, each_own P all ps f h.1)

pub pairs_same : (f : Node → Node) (ps qs : List Pair) (r s : Bool) → are_new [] ps ≡ true → are_new [] qs ≡ true → Decides r (Each (StandsIn f qs) ps) → s ≡ list_all (λ p. has (key_of p) ps) qs
    → Decides (r && s) (canonical_layer f (Node-F.Pairs ps) ≡ canonical_layer f (Node-F.Pairs qs))
pairs_same f ps qs r s new other stand keys = (
  λ h.
      let both = and_parts r s h in
      let same = alike f ps qs (stand.0 both.0) (each_has (λ p. has (key_of p) ps) qs (sym keys ∙ both.1)) in
      ap nd.Pairs (same_rising (in_order key_of (map (with_value f) ps)) (in_order key_of (map (with_value f) qs)) (made_rising f ps new) (made_rising f qs other)
      (λ q. value_canonical f q ps ∙ same q ∙ sym (value_canonical f q qs))),
  λ e.
      let lists = pairs_apart (in_order key_of (map (with_value f) ps)) (in_order key_of (map (with_value f) qs)) e in
      let same : (q : List ℕ) → option_map f (value_at q ps) ≡ option_map f (value_at q qs) =
      λ q. sym (value_canonical f q ps) ∙ ap (value_at q) lists ∙ value_canonical f q qs in
      let first : Each (StandsIn f qs) ps = each_own (StandsIn f qs) ps ps (λ p h. sym (same (key_of p)) ∙ ap (option_map f) h) (values_there ps new) in
      let second : Each (λ p. has (key_of p) ps ≡ true) qs =
      each_own (λ p. has (key_of p) ps ≡ true) qs qs (λ p h. some_map f (value_at (key_of p) ps) (f (value_of p)) (same (key_of p) ∙ ap (option_map f) h)) (values_there qs other) in
      and_from r s (stand.1 first) (keys ∙ has_each (λ p. has (key_of p) ps) qs second),
)

-- ---- nodes

items_layer : (l : Layer) (ys : List Node) → items_of l ≡ Some ys → l ≡ Node-F.Items ys
items_layer (Node-F.Items xs) ys h = ap (λ (zs : List Node). Node-F.Items zs) (some_is xs ys h)
items_layer Node-F.Null ys h = absurd (cc)
items_layer (Node-F.Bool b) ys h = absurd (cc)
items_layer (Node-F.Whole n t) ys h = absurd (cc)
items_layer (Node-F.Decimal t) ys h = absurd (cc)
items_layer (Node-F.Text t) ys h = absurd (cc)
items_layer (Node-F.Pairs ps) ys h = absurd (cc)

pairs_layer : (l : Layer) (qs : List Pair) → pairs_of l ≡ Some qs → l ≡ Node-F.Pairs qs
pairs_layer (Node-F.Pairs ps) qs h = ap (λ (zs : List Pair). Node-F.Pairs zs) (some_is ps qs h)
pairs_layer Node-F.Null qs h = absurd (cc)
pairs_layer (Node-F.Bool b) qs h = absurd (cc)
pairs_layer (Node-F.Whole n t) qs h = absurd (cc)
pairs_layer (Node-F.Decimal t) qs h = absurd (cc)
pairs_layer (Node-F.Text t) qs h = absurd (cc)
pairs_layer (Node-F.Items xs) qs h = absurd (cc)

tells_deep : (a b : Node) (k l : Layer) (r : Bool) → out-Node a ≡ k → out-Node b ≡ l → (d : ℕ) → Decides r (canonical_layer (canonical d) k ≡ canonical_layer (canonical d) l) → Decides r (canonical (suc d) a ≡ canonical (suc d) b)
tells_deep a b k l r is on d h =
    let one = canonical_deep d a ∙ ap (canonical_layer (canonical d)) is in
    let two = canonical_deep d b ∙ ap (canonical_layer (canonical d)) on in
    (λ t. one ∙ h.0 t ∙ sym two, λ e. h.1 (sym one ∙ e ∙ two))

-- what says whether canonical nodes are equal, whatever the depth
pub tells : (a b : Node) (k l : Layer) (r : Bool) → out-Node a ≡ k → out-Node b ≡ l → ((f : Node → Node) → Decides r (canonical_layer f k ≡ canonical_layer f l)) → (d : ℕ) → Decides r (canonical d a ≡ canonical d b)
tells a b k l r is on h zero =
    let one = canonical_none a ∙ ap (canonical_layer (λ x. x)) is in
    let two = canonical_none b ∙ ap (canonical_layer (λ x. x)) on in
    (λ t. one ∙ (h (λ x. x)).0 t ∙ sym two, λ e. (h (λ x. x)).1 (sym one ∙ e ∙ two))
tells a b k l r is on h (suc d) = tells_deep a b k l r is on d (h (canonical d))

pub tells_items : (a b : Node) (xs ys : List Node) (r : Bool) → a ≡ nd.Items xs → items_of (out-Node b) ≡ Some ys
    → ((d : ℕ) → Each (IsSound d) xs → Each (IsSound d) ys → Decides r (map (canonical d) xs ≡ map (canonical d) ys))
    → (d : ℕ) → IsSound d a → IsSound d b → Decides r (canonical d a ≡ canonical d b)
tells_items a b xs ys r is on h zero sa sb = absurd (flat_at a (Node-F.Items xs) (ap out-Node is ∙ out_items xs) sa)
tells_items a b xs ys r is on h (suc d) sa sb =
    let first : out-Node a ≡ Node-F.Items xs = ap out-Node is ∙ out_items xs in
    let second : out-Node b ≡ Node-F.Items ys = items_layer (out-Node b) ys on in
    tells_deep a b (Node-F.Items xs) (Node-F.Items ys) r first second d
    (items_same (canonical d) xs ys r (h d (inside_at d a (Node-F.Items xs) first sa) (inside_at d b (Node-F.Items ys) second sb)))

pub tells_pairs : (a b : Node) (ps qs : List Pair) (r s : Bool) → a ≡ nd.Pairs ps → pairs_of (out-Node b) ≡ Some qs
    → ((d : ℕ) → Each (λ p. IsSound d (value_of p)) ps → Each (λ p. IsSound d (value_of p)) qs → Decides r (Each (StandsIn (canonical d) qs) ps))
    → s ≡ list_all (λ p. has (key_of p) ps) qs
    → (d : ℕ) → IsSound d a → IsSound d b → Decides (r && s) (canonical d a ≡ canonical d b)
tells_pairs a b ps qs r s is on h keys zero sa sb = absurd (flat_at a (Node-F.Pairs ps) (ap out-Node is ∙ out_pairs ps) sa)
tells_pairs a b ps qs r s is on h keys (suc d) sa sb =
    let first : out-Node a ≡ Node-F.Pairs ps = ap out-Node is ∙ out_pairs ps in
    let second : out-Node b ≡ Node-F.Pairs qs = pairs_layer (out-Node b) qs on in
    tells_deep a b (Node-F.Pairs ps) (Node-F.Pairs qs) (r && s) first second d
    (pairs_same (canonical d) ps qs r s (proper_at (suc d) a (Node-F.Pairs ps) first sa) (proper_at (suc d) b (Node-F.Pairs qs) second sb)
    (h d (inside_at d a (Node-F.Pairs ps) first sa) (inside_at d b (Node-F.Pairs qs) second sb)) keys)

-- ---- lists, an item at a time

abbrev pub TellsOf : Bool → Node → Node → Type 0
TellsOf r a b = (d : ℕ) → IsSound d a → IsSound d b → Decides r (canonical d a ≡ canonical d b)

abbrev pub TellsItems : Bool → List Node → List Node → Type 0
TellsItems r xs ys = (d : ℕ) → Each (IsSound d) xs → Each (IsSound d) ys → Decides r (map (canonical d) xs ≡ map (canonical d) ys)

first_same : {A : Type 0} (x y : A) (xs ys : List A) → x ∷ xs ≡ y ∷ ys → x ≡ y
first_same x y xs ys h = cc

rest_same : {A : Type 0} (x y : A) (xs ys : List A) → x ∷ xs ≡ y ∷ ys → xs ≡ ys
rest_same x y xs ys h = cc

none_some : {A : Type 0} (x : A) (xs : List A) → x ∷ xs ≡ [] → ⊥
none_some x xs h = absurd (cc)

items_more : (r : Bool) (x y : Node) (xs ys : List Node) → TellsOf true x y → TellsItems r xs ys → TellsItems r (x ∷ xs) (y ∷ ys)
items_more r x y xs ys here rest d sx sy =
    let first = (here d sx.0 sy.0).0 refl in
    let more = rest d sx.1 sy.1 in (
      λ h. ap (λ v. v ∷ map (canonical d) xs) first ∙ ap (λ vs. canonical d y ∷ vs) (more.0 h),
      λ e. more.1 (rest_same (canonical d x) (canonical d y) (map (canonical d) xs) (map (canonical d) ys) e),
    )

items_stop : (x y : Node) (xs ys : List Node) → TellsOf false x y → TellsItems false (x ∷ xs) (y ∷ ys)
items_stop x y xs ys here d sx sy = (
  λ h. absurd (false≢true h),
  λ e. (here d sx.0 sy.0).1 (first_same (canonical d x) (canonical d y) (map (canonical d) xs) (map (canonical d) ys) e),
)

items_short : (x : Node) (xs : List Node) → TellsItems false (x ∷ xs) []
items_short x xs d sx sy = (λ h. absurd (false≢true h), λ e. absurd (none_some (canonical d x) (map (canonical d) xs) e))

items_end : (ys : List Node) (r : Bool) → r ≡ eqb (length ys) 0 → TellsItems r [] ys
items_end [] r is d sx sy = (λ h. refl, λ e. is)
items_end (y ∷ ys) r is d sx sy = (
  λ h. absurd (false≢true (sym (is ∙ longer (length ys)) ∙ h)),
  λ e. absurd (none_some (canonical d y) (map (canonical d) ys) (sym e)),
)

-- ---- mappings, a pair at a time

abbrev pub TellsPairs : Bool → List Pair → List Pair → Type 0
TellsPairs r ps qs = (d : ℕ) → Each (λ p. IsSound d (value_of p)) ps → Each (λ p. IsSound d (value_of p)) qs → Decides r (Each (StandsIn (canonical d) qs) ps)

none_other : {A : Type 0} (x : A) → None ≡ Some x → ⊥
none_other x h = absurd (cc)

pairs_more : (r : Bool) (p : Pair) (w : Node) (ps qs : List Pair) → value_at (key_of p) qs ≡ Some w → TellsOf true (value_of p) w → TellsPairs r ps qs → TellsPairs r (p ∷ ps) qs
pairs_more r p w ps qs is here rest d sp sq =
    let same = (here d sp.0 (value_sound (IsSound d) (key_of p) w qs sq is)).0 refl in
    let more = rest d sp.1 sq in (
      λ h. (ap (option_map (canonical d)) is ∙ ap (λ (v : Node). Some v) (sym same), more.0 h),
      λ e. more.1 e.1,
    )

pairs_stop : (p : Pair) (w : Node) (ps qs : List Pair) → value_at (key_of p) qs ≡ Some w → TellsOf false (value_of p) w → TellsPairs false (p ∷ ps) qs
pairs_stop p w ps qs is here d sp sq = (
  λ h. absurd (false≢true h),
  λ e. (here d sp.0 (value_sound (IsSound d) (key_of p) w qs sq is)).1 (sym (some_is (canonical d w) (canonical d (value_of p)) (sym (ap (option_map (canonical d)) is) ∙ e.0))),
)

pairs_none : (p : Pair) (ps qs : List Pair) → value_at (key_of p) qs ≡ None → TellsPairs false (p ∷ ps) qs
pairs_none p ps qs is d sp sq = (
  λ h. absurd (false≢true h),
  λ e. absurd (none_other (canonical d (value_of p)) (sym (ap (option_map (canonical d)) is) ∙ e.0)),
)

pairs_end : (qs : List Pair) → TellsPairs true [] qs
pairs_end qs d sp sq = (λ h. tt, λ e. refl)

-- ---- from where a loop stands

drop_end : {A : Type 0} (xs : List A) (i : ℕ) → length xs ≤ i → drop i xs ≡ []
drop_end [] zero l = refl
drop_end [] (suc i) l = refl
drop_end (x ∷ xs) zero l = absurd (omega arith)
drop_end (x ∷ xs) (suc i) l = drop_end xs i (omega arith)

drop_here : {A : Type 0} (xs : List A) (i : ℕ) (x : A) → i < length xs → x ≡ get_or xs i x → x ∷ drop (i + 1) xs ≡ drop i xs
drop_here xs i x l e = sym (drop_more xs i x l ∙ ap (λ y. y ∷ drop (i + 1) xs) (sym e))

pub items_at_more : (r : Bool) (xs ys more : List Node) (i : ℕ) (x y : Node) → i < length xs → x ≡ get_or xs i x → ys ≡ y ∷ more → TellsOf true x y → TellsItems r (drop (i + 1) xs) more → TellsItems r (drop i xs) ys
items_at_more r xs ys more i x y l e is here rest =
    subst (λ (zs : List Node). TellsItems r zs ys) (drop_here xs i x l e)
    (subst (λ (zs : List Node). TellsItems r (x ∷ drop (i + 1) xs) zs) (sym is) (items_more r x y (drop (i + 1) xs) more here rest))

pub items_at_stop : (xs ys more : List Node) (i : ℕ) (x y : Node) → i < length xs → x ≡ get_or xs i x → ys ≡ y ∷ more → TellsOf false x y → TellsItems false (drop i xs) ys
items_at_stop xs ys more i x y l e is here =
    subst (λ (zs : List Node). TellsItems false zs ys) (drop_here xs i x l e)
    (subst (λ (zs : List Node). TellsItems false (x ∷ drop (i + 1) xs) zs) (sym is) (items_stop x y (drop (i + 1) xs) more here))

pub items_at_short : (xs ys : List Node) (i : ℕ) (x : Node) → i < length xs → x ≡ get_or xs i x → length ys ≡ 0 → TellsItems false (drop i xs) ys
items_at_short xs [] i x l e none = subst (λ (zs : List Node). TellsItems false zs []) (drop_here xs i x l e) (items_short x (drop (i + 1) xs))
items_at_short xs (y ∷ ys) i x l e none = absurd (omega arith)

pub items_at_end : (xs ys : List Node) (i : ℕ) (r : Bool) → length xs ≤ i → r ≡ eqb (length ys) 0 → TellsItems r (drop i xs) ys
items_at_end xs ys i r l is = subst (λ (zs : List Node). TellsItems r zs ys) (sym (drop_end xs i l)) (items_end ys r is)

pub pairs_at_more : (r : Bool) (ps qs : List Pair) (i : ℕ) (p : Pair) (w : Node) → i < length ps → p ≡ get_or ps i p → value_at (key_of p) qs ≡ Some w → TellsOf true (value_of p) w → TellsPairs r (drop (i + 1) ps) qs → TellsPairs r (drop i ps) qs
pairs_at_more r ps qs i p w l e is here rest = subst (λ (zs : List Pair). TellsPairs r zs qs) (drop_here ps i p l e) (pairs_more r p w (drop (i + 1) ps) qs is here rest)

pub pairs_at_stop : (ps qs : List Pair) (i : ℕ) (p : Pair) (w : Node) → i < length ps → p ≡ get_or ps i p → value_at (key_of p) qs ≡ Some w → TellsOf false (value_of p) w → TellsPairs false (drop i ps) qs
pairs_at_stop ps qs i p w l e is here = subst (λ (zs : List Pair). TellsPairs false zs qs) (drop_here ps i p l e) (pairs_stop p w (drop (i + 1) ps) qs is here)

pub pairs_at_none : (ps qs : List Pair) (i : ℕ) (p : Pair) → i < length ps → p ≡ get_or ps i p → value_at (key_of p) qs ≡ None → TellsPairs false (drop i ps) qs
pairs_at_none ps qs i p l e is = subst (λ (zs : List Pair). TellsPairs false zs qs) (drop_here ps i p l e) (pairs_none p (drop (i + 1) ps) qs is)

pub pairs_at_end : (ps qs : List Pair) (i : ℕ) → length ps ≤ i → TellsPairs true (drop i ps) qs
pairs_at_end ps qs i l = subst (λ (zs : List Pair). TellsPairs true zs qs) (sym (drop_end ps i l)) (pairs_end qs)

-- ---- the same lists

pub list_tells : (r : Bool) (xs zs ys : List Node) → xs ≡ zs → TellsItems r xs ys → TellsItems r zs ys
list_tells r xs zs ys is h = subst (λ (ws : List Node). TellsItems r ws ys) is h

pub pairs_tell : (r : Bool) (ps zs qs : List Pair) → ps ≡ zs → TellsPairs r ps qs → TellsPairs r zs qs
pairs_tell r ps zs qs is h = subst (λ (ws : List Pair). TellsPairs r ws qs) is h
