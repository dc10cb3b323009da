-- How many collections stand in one another, by the number that may.
--     within_none, within_deep     where none may, and where one or more may
--     within_sound                 what may be printed at a depth is within it
--     sound_within_depth           what may be printed at any depth may be printed at the one that it is within
use Rattle.std.proofs.Common.{◌≡◌, ℕ, zero, suc, ◌-◌, ◌<◌, Bool, true, List, [], ◌∷◌, refl, ap, sym, ◌∙◌, arith}
use Rattle.std.specs.List.{list_all}
use Rattle.std.proofs.lemmas.Bool.{and_parts, and_from, false≢true}
use Rattle.dvc_base.specs.declared.node.Node.{Node, out-Node}
use Rattle.dvc_base.specs.declared.node.Node.TheOpen.{Node-F}
use Rattle.yaml_print.specs.ScalarText.{Layer}
use Rattle.yaml_print.specs.Print.{value_of}
use Rattle.yaml_print.specs.Sound.{Each, Inside, IsScalar, IsProper, IsSound}
use Rattle.lock_files.specs.Mapping.{is_scalar_of, all_inside, is_within}

before : (depth : ℕ) → 0 < depth → depth ≡ suc (depth - 1)
before depth some = omega arith

none : (v : Node) → is_within 0 v ≡ is_scalar_of (out-Node v)
unfolding is_within
none v = refl

deep : (depth : ℕ) (v : Node) → is_within (suc depth) v ≡ all_inside (is_within depth) (out-Node v)
unfolding is_within
deep depth v = refl

pub within_none : (depth : ℕ) (v : Node) → depth ≡ 0 → is_within depth v ≡ is_scalar_of (out-Node v)
within_none depth v e = ap (λ d. is_within d v) e ∙ none v

pub within_deep : (depth : ℕ) (v : Node) → 0 < depth → is_within depth v ≡ all_inside (is_within (depth - 1)) (out-Node v)
within_deep depth v some = ap (λ d. is_within d v) (before depth some) ∙ deep (depth - 1) v

-- ---- soundness at the depth that a node is within

scalar_from : (l : Layer) → is_scalar_of l ≡ true → IsScalar l
scalar_from (Node-F.Items xs) h = false≢true h
scalar_from (Node-F.Pairs ps) h = false≢true h
scalar_from Node-F.Null h = tt
scalar_from (Node-F.Bool b) h = tt
scalar_from (Node-F.Whole n t) h = tt
scalar_from (Node-F.Decimal t) h = tt
scalar_from (Node-F.Text t) h = tt

each_within : {A : Type 0} (test : A → Bool) (P Q : A → Type 0) → ((x : A) → P x → test x ≡ true → Q x) → (xs : List A) → Each P xs → list_all test xs ≡ true → Each Q xs
each_within test P Q f [] h k = tt
each_within test P Q f (x ∷ xs) h k =
    let parts = and_parts (test x) (list_all test xs) k in
    (f x h.0 parts.0, each_within test P Q f xs h.1 parts.1)

inside_within : (test : Node → Bool) (P Q : Node → Type 0) → ((v : Node) → P v → test v ≡ true → Q v) → (l : Layer) → Inside P l → all_inside test l ≡ true → Inside Q l
inside_within test P Q f (Node-F.Items xs) h k = each_within test P Q f xs h k
inside_within test P Q f (Node-F.Pairs ps) h k =
    each_within (λ p. test (value_of p)) (λ p. P (value_of p)) (λ p. Q (value_of p)) (λ p. f (value_of p)) ps h k
inside_within test P Q f Node-F.Null h k = tt
inside_within test P Q f (Node-F.Bool b) h k = tt
inside_within test P Q f (Node-F.Whole n t) h k = tt
inside_within test P Q f (Node-F.Decimal t) h k = tt
inside_within test P Q f (Node-F.Text t) h k = tt

nothing_inside : (P : Node → Type 0) (l : Layer) → IsScalar l → Inside P l
nothing_inside P (Node-F.Items xs) h = absurd h
nothing_inside P (Node-F.Pairs ps) h = absurd h
nothing_inside P Node-F.Null h = tt
nothing_inside P (Node-F.Bool b) h = tt
nothing_inside P (Node-F.Whole n t) h = tt
nothing_inside P (Node-F.Decimal t) h = tt
nothing_inside P (Node-F.Text t) h = tt

proper : (d : ℕ) (v : Node) → IsSound d v → IsProper (out-Node v)
unfolding IsSound
proper zero v h = h.0
proper (suc d) v h = h.0

inside : (d : ℕ) (v : Node) → IsSound (suc d) v → Inside (IsSound d) (out-Node v)
unfolding IsSound
inside d v h = h.1

scalar : (v : Node) → IsSound 0 v → IsScalar (out-Node v)
unfolding IsSound
scalar v h = h.1

at_none : (v : Node) → IsProper (out-Node v) → IsScalar (out-Node v) → IsSound 0 v
unfolding IsSound
at_none v p s = (p, s)

at_more : (d : ℕ) (v : Node) → IsProper (out-Node v) → Inside (IsSound d) (out-Node v) → IsSound (suc d) v
unfolding IsSound
at_more d v p s = (p, s)

pub sound_within_depth : (d k : ℕ) (v : Node) → IsSound d v → is_within k v ≡ true → IsSound k v
sound_within_depth d zero v h w = at_none v (proper d v h) (scalar_from (out-Node v) (sym (none v) ∙ w))
sound_within_depth zero (suc k) v h w = at_more k v (proper 0 v h) (nothing_inside (IsSound k) (out-Node v) (scalar v h))
sound_within_depth (suc d) (suc k) v h w =
    at_more k v (proper (suc d) v h)
    (inside_within (is_within k) (IsSound d) (IsSound k) (sound_within_depth d k) (out-Node v) (inside d v h) (sym (deep k v) ∙ w))

-- ---- what may be printed is within the depth at which it may

scalar_is : (l : Layer) → IsScalar l → is_scalar_of l ≡ true
scalar_is (Node-F.Items xs) h = absurd h
scalar_is (Node-F.Pairs ps) h = absurd h
scalar_is Node-F.Null h = refl
scalar_is (Node-F.Bool b) h = refl
scalar_is (Node-F.Whole n t) h = refl
scalar_is (Node-F.Decimal t) h = refl
scalar_is (Node-F.Text t) h = refl

each_is : {A : Type 0} (test : A → Bool) (P : A → Type 0) → ((x : A) → P x → test x ≡ true) → (xs : List A) → Each P xs → list_all test xs ≡ true
each_is test P f [] h = refl
each_is test P f (x ∷ xs) h = and_from (test x) (list_all test xs) (f x h.0) (each_is test P f xs h.1)

inside_is : (test : Node → Bool) (P : Node → Type 0) → ((v : Node) → P v → test v ≡ true) → (l : Layer) → Inside P l → all_inside test l ≡ true
inside_is test P f (Node-F.Items xs) h = each_is test P f xs h
inside_is test P f (Node-F.Pairs ps) h = each_is (λ p. test (value_of p)) (λ p. P (value_of p)) (λ p. f (value_of p)) ps h
inside_is test P f Node-F.Null h = refl
inside_is test P f (Node-F.Bool b) h = refl
inside_is test P f (Node-F.Whole n t) h = refl
inside_is test P f (Node-F.Decimal t) h = refl
inside_is test P f (Node-F.Text t) h = refl

pub within_sound : (d : ℕ) (v : Node) → IsSound d v → is_within d v ≡ true
within_sound zero v h = none v ∙ scalar_is (out-Node v) (scalar v h)
within_sound (suc d) v h = deep d v ∙ inside_is (is_within d) (IsSound d) (within_sound d) (out-Node v) (inside d v h)
