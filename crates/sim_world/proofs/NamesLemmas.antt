-- The names in a folder are names, and rise in the order of their bytes.
use Rattle.std.proofs.Common.{◌≡◌, ◌≢◌, ℕ, ◌+◌, get_or, arith, Bool, true, false, List, [], ◌∷◌, ◌++◌, length, refl, sym, ap, subst, ◌∙◌, inl, inr}
use Rattle.std.specs.Prelude.{◌⊎◌, ◌&&◌, cond, T, IsSome, bytes_eq}
use Rattle.std.specs.List.{AllByRecursion, flat_map}
use Rattle.std.specs.Cmp.{tied_itself}
use Rattle.std.specs.Ordering.{nat_cmp, is_lt, ordering_then}
use Rattle.std.specs.Cmp.Lexicographic.{slice_cmp, nat_list_cmp_total}
use Rattle.std.specs.declared.cmp.Ordering.{Ordering}
use Rattle.std.specs.declared.cmp.Ordering.TheVariants.{Less, Equal, Greater}
use Rattle.std.specs.FinMap.{entries, entries_sorted, is_sorted, get}
use Rattle.std.specs.FinMap.Entries.{below_all}
use Rattle.std.proofs.lemmas.Bool.{false≢true, and_from, and_parts}
use Rattle.std.proofs.lemmas.List.Elements.{All-nil, All-append, All-tail}
use Rattle.std.proofs.lemmas.Slice.Eq.{bytes_eq-Decides}
use Rattle.dvc_base.specs.Path.{Path, under}
use Rattle.dvc_base.specs.Normal.{IsName, IsNormal}
use Rattle.world_api.specs.Tree.{Tree, Item, path_cmp, name_below, names_in, IsRelPath, IsTree}
use Rattle.world_api.specs.Calls.{are_rising, AreNames}
use Rattle.sim_world.specs.Sorted.{pairs_of}
use Rattle.sim_world.specs.declared.sorted.Member.{Member}
use Rattle.sim_world.proofs.ListLemmas.{all_weaker}
use Rattle.sim_world.proofs.PlaceLemmas.{entries_in}

pub names_pairs : (p : Path) (ms : List (Member Item)) → flat_map (λ (m : Member Item). name_below p m.path) ms ≡ flat_map (λ (e : Path × Item). name_below p e.0) (pairs_of ms)
names_pairs p [] = refl
names_pairs p (m ∷ ms) = ap (λ (x : List (List ℕ)). name_below p m.path ++ x) (names_pairs p ms)

-- a name of what lies in a folder is a component of its path
name_normal : (p q : Path) → IsNormal q → IsNormal (name_below p q)
name_normal [] [] is = All-nil IsName
name_normal [] (c ∷ []) is = is
name_normal [] (c ∷ d ∷ q) is = All-nil IsName
name_normal (b ∷ p) [] is = All-nil IsName
name_normal (b ∷ p) (c ∷ q) is =
    elim (bytes_eq b c) as (λ x. IsNormal (cond x (name_below p q) [])) [ true ↦ name_normal p q (All-tail IsName c q is) | false ↦ All-nil IsName ]

-- each of these entries has a path that a workspace may have
abbrev AreRels : List (Path × Item) → Type 0
AreRels es = AllByRecursion (λ e. IsRelPath e.0) es

name_short : (b : Bool) (ns : List (List ℕ)) → length ns ≡ 0 → cond b ns [] ≡ []
name_short b [] e = elim b as (λ x. cond {A = List (List ℕ)} x [] [] ≡ []) [ true ↦ refl | false ↦ refl ]
name_short b (n ∷ ns) e = absurd (omega arith)

-- a path that isn't just one component longer, or doesn't lie below, has no name in the folder
pub no_name_length : (p q : Path) → length q ≢ length p + 1 → name_below p q ≡ []
no_name_length [] [] ne = refl
no_name_length [] (c ∷ []) ne = absurd (ne refl)
no_name_length [] (c ∷ d ∷ q) ne = refl
no_name_length (b ∷ p) [] ne = refl
no_name_length (b ∷ p) (c ∷ q) ne =
    name_short (bytes_eq b c) (name_below p q) (ap length (no_name_length p q (λ e. ne (omega (arith, e)))))

pub no_name_apart : (p q : Path) → under p q ≡ false → name_below p q ≡ []
no_name_apart [] q out = absurd (false≢true (sym out))
no_name_apart (b ∷ p) [] out = refl
no_name_apart (b ∷ p) (c ∷ q) out =
    elim (bytes_eq b c) as (λ x. (x && under p q) ≡ false → cond x (name_below p q) [] ≡ []) [ true ↦ λ e. no_name_apart p q e | false ↦ λ e. refl ] out

pub one_name : (p q : Path) (c : List ℕ) → under p q ≡ true → length q ≡ length p + 1 → c ≡ get_or q (length p) c → name_below p q ≡ c ∷ []
one_name [] [] c u l is = absurd (omega (arith, l))
one_name [] (d ∷ []) c u l is = ap (λ (x : List ℕ). x ∷ []) (sym is)
one_name [] (d ∷ e ∷ q) c u l is = absurd (omega (arith, l))
one_name (b ∷ p) [] c u l is = absurd (omega (arith, l))
one_name (b ∷ p) (d ∷ q) c u l is =
    let parts = and_parts (bytes_eq b d) (under p q) u in
    ap (λ x. cond x (name_below p q) []) parts.0 ∙ one_name p q c parts.1 (omega (arith, l)) is

names_normal : (p : Path) (es : List (Path × Item)) → AreRels es → IsNormal (flat_map (λ e. name_below p e.0) es)
names_normal p [] all = All-nil IsName
names_normal p (e ∷ es) all = All-append IsName (name_below p e.0) (flat_map (λ e. name_below p e.0) es) (name_normal p e.0 all.0.normal) (names_normal p es all.1)

-- two paths in a folder stand as their names do
rising_names : (p a b : Path) (c d : List ℕ) → name_below p a ≡ c ∷ [] → name_below p b ≡ d ∷ [] → is_lt (path_cmp a b) ≡ true → is_lt (slice_cmp nat_cmp c d) ≡ true
rising_names [] [] b c d e f l = absurd (cc)
rising_names [] (x ∷ y ∷ a) b c d e f l = absurd (cc)
rising_names [] (x ∷ []) [] c d e f l = absurd (cc)
rising_names [] (x ∷ []) (y ∷ z ∷ b) c d e f l = absurd (cc)
rising_names [] (x ∷ []) (y ∷ []) c d e f l =
    let one : x ≡ c = ap (λ (q : List (List ℕ)). first_of q) e in
    let two : y ≡ d = ap (λ (q : List (List ℕ)). first_of q) f in
    subst (λ (u : List ℕ). is_lt (slice_cmp nat_cmp u d) ≡ true) one
    (subst (λ (v : List ℕ). is_lt (slice_cmp nat_cmp x v) ≡ true) two (alone (slice_cmp nat_cmp x y) l))
  where
    first_of : List (List ℕ) → List ℕ
    first_of [] = []
    first_of (q ∷ qs) = q

    alone : (r : Ordering) → is_lt (ordering_then r Equal) ≡ true → is_lt r ≡ true
    alone Less l = refl
    alone Equal l = l
    alone Greater l = l
rising_names (m ∷ p) [] b c d e f l = absurd (cc)
rising_names (m ∷ p) (x ∷ a) [] c d e f l = absurd (cc)
rising_names (m ∷ p) (x ∷ a) (y ∷ b) c d e f l =
    elim (bytes_eq m x) as (λ u. bytes_eq m x ≡ u → cond u (name_below p a) [] ≡ c ∷ [] → is_lt (slice_cmp nat_cmp c d) ≡ true) [
      | true ↦ λ s g. elim (bytes_eq m y) as (λ u. bytes_eq m y ≡ u → cond u (name_below p b) [] ≡ d ∷ [] → is_lt (slice_cmp nat_cmp c d) ≡ true) [
        | true ↦ λ t h.
            let same : x ≡ y = sym ((bytes_eq-Decides m x).0 s) ∙ (bytes_eq-Decides m y).0 t in
            let tie : slice_cmp nat_cmp x y ≡ Equal = ap (slice_cmp nat_cmp x) (sym same) ∙ tied_itself nat_list_cmp_total x in
            rising_names p a b c d g h (sym (ap (λ r. is_lt (ordering_then r (path_cmp a b))) tie) ∙ l)
        | false ↦ λ t h. absurd (cc)
      ] refl f
      | false ↦ λ s g. absurd (cc)
    ] refl e

none_or_one : (p q : Path) → (name_below p q ≡ []) ⊎ ((c : List ℕ) × (name_below p q ≡ c ∷ []))
none_or_one [] [] = inl refl
none_or_one [] (c ∷ []) = inr (c, refl)
none_or_one [] (c ∷ d ∷ q) = inl refl
none_or_one (b ∷ p) [] = inl refl
none_or_one (b ∷ p) (c ∷ q) =
    elim (bytes_eq b c) as (λ x. (cond x (name_below p q) [] ≡ []) ⊎ ((d : List ℕ) × (cond x (name_below p q) [] ≡ d ∷ []))) [ true ↦ none_or_one p q | false ↦ inl refl ]

abbrev Names : Path → List (Path × Item) → List (List ℕ)
Names p es = flat_map (λ e. name_below p e.0) es

abbrev AboveAll : List ℕ → List (List ℕ) → Type 0
AboveAll c ns = AllByRecursion (λ d. is_lt (slice_cmp nat_cmp c d) ≡ true) ns

halves : (a b : Bool) → T (a && b) → (a ≡ true) × T b
halves true true h = (refl, tt)
halves true false h = absurd h
halves false b h = absurd h

above_all : (p a : Path) (c : List ℕ) (es : List (Path × Item)) → name_below p a ≡ c ∷ [] → T (below_all path_cmp a es) → AboveAll c (Names p es)
above_all p a c [] e below = tt
above_all p a c (f ∷ es) e below =
    let parts = halves (is_lt (path_cmp a f.0)) (below_all path_cmp a es) below in
    elim (none_or_one p f.0) [
      | inl none ↦ subst (λ ns. AboveAll c (ns ++ Names p es)) (sym none) (above_all p a c es e parts.1)
      | inr one ↦ subst (λ ns. AboveAll c (ns ++ Names p es)) (sym one.1) (rising_names p a f.0 c one.0 e one.1 parts.0, above_all p a c es e parts.1)
    ]

rising_cons : (c : List ℕ) (ns : List (List ℕ)) → AboveAll c ns → are_rising ns ≡ true → are_rising (c ∷ ns) ≡ true
rising_cons c [] all e = refl
rising_cons c (d ∷ ns) all e = and_from (is_lt (slice_cmp nat_cmp c d)) (are_rising (d ∷ ns)) all.0 e

names_rise : (p : Path) (es : List (Path × Item)) → T (is_sorted path_cmp es) → are_rising (Names p es) ≡ true
names_rise p [] sorted = refl
names_rise p (e ∷ es) sorted =
    let parts = both (below_all path_cmp e.0 es) (is_sorted path_cmp es) sorted in
    let rest : are_rising (Names p es) ≡ true = names_rise p es parts.1 in
    elim (none_or_one p e.0) [
      | inl none ↦ ap (λ ns. are_rising (ns ++ Names p es)) none ∙ rest
      | inr one ↦ ap (λ ns. are_rising (ns ++ Names p es)) one.1 ∙ rising_cons one.0 (Names p es) (above_all p e.0 one.0 es one.1 parts.0) rest
    ]
  where
    both : (a b : Bool) → T (a && b) → T a × T b
    both true true h = (tt, tt)
    both true false h = absurd h
    both false b h = absurd h

pub are-names : (t : Tree) (p : Path) → IsTree t → AreNames (names_in t p)
are-names t p is = record {
  each = names_normal p (entries t) (all_weaker (λ e. IsSome (get t e.0)) (λ e. IsRelPath e.0) (entries t) (λ e some. is.paths e.0 some) (entries_in t));
  rise = names_rise p (entries t) (entries_sorted t);
}
