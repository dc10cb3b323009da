-- Names that stand once.
--     has_same      a set of names has a name where a stage has it
--     names_more    the names with a new one
--     name_new, name_old     a name that no earlier stage has, and one that an earlier stage has
use Rattle.std.proofs.Common.{◌≡◌, ◌∙◌, ℕ, ◌+◌, ◌<◌, Bool, true, false, not, ◌||◌, List, [], ◌∷◌, ◌++◌, map, take, drop, length, get_or, bytes_eq, Some, refl, sym, ap, if◌then◌else◌}
use Rattle.std.specs.Borrow.{Bor}
use Rattle.std.specs.List.{list_any}
use Rattle.std.proofs.lemmas.List.{map-append, take_more, drop_more}
use Rattle.indexmap.specs.IndexSet.{insert_key}
use Rattle.stage_schema.specs.declared.stage.Stage.{Stage}
use Rattle.template_expand.specs.Expansion.{has_name, second_name}

abbrev pub Name : Type 0
Name = Bor (List ℕ)

abbrev pub names : List Name → List (List ℕ)
names keys = map (λ key. key.now) keys

abbrev pub names_of : List Stage → List (List ℕ)
names_of stages = map (λ stage. stage.name) stages

abbrev pub same_name : Name → Name → Bool
same_name a b = bytes_eq a.now b.now

any_mapped : {A : Type 0} (test : List ℕ → Bool) (f : A → List ℕ) (xs : List A) → list_any (λ x. test (f x)) xs ≡ list_any test (map f xs)
any_mapped test f [] = refl
any_mapped test f (x ∷ xs) = ap (λ b. test (f x) || b) (any_mapped test f xs)

pub has_same : (keys : List Name) (k : Name) (stages : List Stage) → names keys ≡ names_of stages → list_any (same_name k) keys ≡ has_name k.now stages
has_same keys k stages tied =
    any_mapped (bytes_eq k.now) (λ (key : Name). key.now) keys
    ∙ ap (list_any (bytes_eq k.now)) tied
    ∙ sym (any_mapped (bytes_eq k.now) (λ (stage : Stage). stage.name) stages)

not_false : (b : Bool) → not b ≡ true → b ≡ false
not_false true h = sym h
not_false false h = refl

not_true : (b : Bool) → not b ≡ false → b ≡ true
not_true true h = refl
not_true false h = sym h

pub names_more : (keys more : List Name) (k : Name) (stages : List Stage) (i : ℕ) (s : Stage) → i < length stages → s ≡ get_or stages i s → k.now ≡ s.name
    → names keys ≡ names_of (take i stages) → not (list_any (same_name k) keys) ≡ true → more ≡ insert_key same_name keys k
    → names more ≡ names_of (take (i + 1) stages)
names_more keys more k stages i s within is same tied new inserted =
    let put : more ≡ keys ++ k ∷ [] = inserted ∙ ap (λ b. if b then keys else keys ++ k ∷ []) (not_false (list_any (same_name k) keys) new) in
    let front : take (i + 1) stages ≡ take i stages ++ s ∷ [] = take_more stages i s within ∙ ap (λ y. take i stages ++ y ∷ []) (sym is) in
    ap names put ∙ map-append (λ key. key.now) keys (k ∷ []) ∙ ap (λ ns. ns ++ k.now ∷ []) tied ∙ ap (λ n. names_of (take i stages) ++ n ∷ []) same
    ∙ sym (map-append (λ stage. stage.name) (take i stages) (s ∷ [])) ∙ ap names_of (sym front)

cut : (stages : List Stage) (i : ℕ) (s : Stage) → i < length stages → s ≡ get_or stages i s
    → second_name (take i stages) (drop i stages) ≡ (if has_name s.name (take i stages) then Some s.name else second_name (take (i + 1) stages) (drop (i + 1) stages))
cut stages i s within is =
    let front : take i stages ++ s ∷ [] ≡ take (i + 1) stages = ap (λ y. take i stages ++ y ∷ []) is ∙ sym (take_more stages i s within) in
    let back : drop i stages ≡ s ∷ drop (i + 1) stages = drop_more stages i s within ∙ ap (λ y. y ∷ drop (i + 1) stages) (sym is) in
    ap (second_name (take i stages)) back
    ∙ ap (λ before. if has_name s.name (take i stages) then Some s.name else second_name before (drop (i + 1) stages)) front

pub name_new : (keys : List Name) (k : Name) (stages : List Stage) (i : ℕ) (s : Stage) → i < length stages → s ≡ get_or stages i s → k.now ≡ s.name
    → names keys ≡ names_of (take i stages) → not (list_any (same_name k) keys) ≡ true
    → second_name (take i stages) (drop i stages) ≡ second_name (take (i + 1) stages) (drop (i + 1) stages)
name_new keys k stages i s within is same tied new =
    let none : has_name s.name (take i stages) ≡ false =
    ap (λ n. has_name n (take i stages)) (sym same) ∙ sym (has_same keys k (take i stages) tied) ∙ not_false (list_any (same_name k) keys) new in
    cut stages i s within is ∙ ap (λ b. if b then Some s.name else second_name (take (i + 1) stages) (drop (i + 1) stages)) none

pub name_old : (keys : List Name) (k : Name) (stages : List Stage) (i : ℕ) (s : Stage) → i < length stages → s ≡ get_or stages i s → k.now ≡ s.name
    → names keys ≡ names_of (take i stages) → not (list_any (same_name k) keys) ≡ false
    → second_name (take i stages) (drop i stages) ≡ Some k.now
name_old keys k stages i s within is same tied old =
    let there : has_name s.name (take i stages) ≡ true =
    ap (λ n. has_name n (take i stages)) (sym same) ∙ sym (has_same keys k (take i stages) tied) ∙ not_true (list_any (same_name k) keys) old in
    cut stages i s within is ∙ ap (λ b. if b then Some s.name else second_name (take (i + 1) stages) (drop (i + 1) stages)) there ∙ ap Some (sym same)
