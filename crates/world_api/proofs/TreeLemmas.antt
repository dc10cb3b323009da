-- Laws of trees: what is found after an insert and after a subtree is taken out, and that each leaves a tree.
use Rattle.std.proofs.Common.{◌≡◌, ◌≢◌, ℕ, suc, ◌-◌, ◌<◌, Bool, true, false, cond, not, ◌⊎◌, List, [], ◌∷◌, ◌++◌, length, refl, sym, ap, ◌∙◌, subst, inl, inr, arith, Option, Some, None}
use Rattle.std.specs.Prelude.{IsSome, is_some}
use Rattle.std.specs.Ordering.{eq_by_cmp, is_eq}
use Rattle.std.specs.declared.cmp.Ordering.{Ordering}
use Rattle.std.specs.declared.cmp.Ordering.TheVariants.{Less, Equal, Greater}
use Rattle.std.specs.Cmp.{IsTotalOrder, nat_cmp_total, tied_itself}
use Rattle.std.specs.Cmp.Lexicographic.{lists_total}
use Rattle.std.specs.FinMap.{get, insert, retain_keys, empty, IsAntisymmetric, nat_cmp-IsAntisymmetric, slice_cmp-IsAntisymmetric, get-insert, get-retain_keys, get-empty, same_map}
use Rattle.std.proofs.lemmas.Bool.{false≢true, false_from_ne_true, both_ways, not-true, not_from_false}
use Rattle.std.proofs.lemmas.List.{length-take-le, length-append}
use Rattle.std.proofs.lemmas.Grind.{common_steps}
use Rattle.dvc_base.specs.Path.{Path, under}
use Rattle.dvc_base.proofs.PathLemmas.{under-trans, under-append, under-length}
use Rattle.world_api.specs.Tree.{Tree, Item, folder, path_cmp, item_at, IsRelPath, IsTree}
use Rattle.world_api.specs.Calls.{parent}

-- ---- the order of paths

pub path_cmp-total : IsTotalOrder path_cmp
path_cmp-total = lists_total (lists_total nat_cmp_total)

pub path_cmp-antisym : IsAntisymmetric path_cmp
path_cmp-antisym = slice_cmp-IsAntisymmetric (slice_cmp-IsAntisymmetric nat_cmp-IsAntisymmetric)

equal : (r : Ordering) → is_eq r ≡ true → r ≡ Equal
equal Less e = absurd (false≢true e)
equal Equal e = refl
equal Greater e = absurd (false≢true e)

pub same_path : (p q : Path) → eq_by_cmp path_cmp p q ≡ true → p ≡ q
same_path p q e = path_cmp-antisym p q (equal (path_cmp p q) e)

pub path_itself : (p : Path) → eq_by_cmp path_cmp p p ≡ true
path_itself p = ap is_eq (tied_itself path_cmp-total p)

pub other_path : (p q : Path) → p ≢ q → eq_by_cmp path_cmp p q ≡ false
other_path p q ne =
    elim (eq_by_cmp path_cmp p q) as (λ b. eq_by_cmp path_cmp p q ≡ b → b ≡ false) [
      | true ↦ λ e. absurd (ne (same_path p q e))
      | false ↦ λ e. refl
    ] refl

pub path_cases : (p q : Path) → (p ≡ q) ⊎ (p ≢ q)
path_cases p q =
    elim (eq_by_cmp path_cmp p q) as (λ b. eq_by_cmp path_cmp p q ≡ b → (p ≡ q) ⊎ (p ≢ q)) [
      | true ↦ λ e. inl (same_path p q e)
      | false ↦ λ e. inr (λ s. false≢true (sym e ∙ subst (λ (x : Path). eq_by_cmp path_cmp p x ≡ true) s (path_itself p)))
    ] refl

-- ---- what is found

pub get_put_same : (t : Tree) (q : Path) (i : Item) → get (insert t q i) q ≡ Some i
get_put_same t q i =
    get-insert path_cmp-total t q i q ∙ ap (λ b. cond b (Some i) (get t q)) (path_itself q)

pub get_put_other : (t : Tree) (q : Path) (i : Item) (p : Path) → p ≢ q → get (insert t q i) p ≡ get t p
get_put_other t q i p ne =
    get-insert path_cmp-total t q i p ∙ ap (λ b. cond b (Some i) (get t p)) (other_path p q ne)

pub get_kept : (t : Tree) (test : Path → Bool) (p : Path) → test p ≡ true → get (retain_keys t test) p ≡ get t p
get_kept t test p e =
    get-retain_keys t test p (λ x s. ap test (sym (path_cmp-antisym p x s))) ∙ ap (λ b. cond b (get t p) None) e

pub get_gone : (t : Tree) (test : Path → Bool) (p : Path) → test p ≡ false → get (retain_keys t test) p ≡ None
get_gone t test p e =
    get-retain_keys t test p (λ x s. ap test (sym (path_cmp-antisym p x s))) ∙ ap (λ b. cond b (get t p) None) e

pub item_put_same : (t : Tree) (q : Path) (i : Item) → q ≢ [] → item_at (insert t q i) q ≡ Some i
item_put_same t [] i ne = absurd (ne refl)
item_put_same t (c ∷ q) i ne = get_put_same t (c ∷ q) i

pub item_put_other : (t : Tree) (q : Path) (i : Item) (p : Path) → p ≢ q → item_at (insert t q i) p ≡ item_at t p
item_put_other t q i [] ne = refl
item_put_other t q i (c ∷ p) ne = get_put_other t q i (c ∷ p) ne

pub item_kept : (t : Tree) (test : Path → Bool) (p : Path) → test p ≡ true → item_at (retain_keys t test) p ≡ item_at t p
item_kept t test [] e = refl
item_kept t test (c ∷ p) e = get_kept t test (c ∷ p) e

pub item_gone : (t : Tree) (test : Path → Bool) (p : Path) → p ≢ [] → test p ≡ false → item_at (retain_keys t test) p ≡ None
item_gone t test [] ne e = absurd (ne refl)
item_gone t test (c ∷ p) ne e = get_gone t test (c ∷ p) e

pub same_tree : (m n : Tree) → ((p : Path) → get m p ≡ get n p) → m ≡ n
same_tree m n = same_map path_cmp-total path_cmp-antisym m n

-- ---- the folder above a path

pub not_root : (p : Path) (c : List ℕ) → (p ++ c ∷ []) ≢ []
not_root [] c e = absurd (cc)
not_root (d ∷ p) c e = absurd (cc)

pub parent_push : (p : Path) (c : List ℕ) → parent (p ++ c ∷ []) ≡ p
parent_push p c = grind (arith, common_steps)

last_part : (p : Path) → p ≢ [] → (q : Path) × (c : List ℕ) × (p ≡ q ++ c ∷ [])
last_part [] ne = absurd (ne refl)
last_part (c ∷ []) ne = ([], c, refl)
last_part (c ∷ d ∷ p) ne =
    let r = last_part (d ∷ p) (λ s. absurd (cc)) in
    (c ∷ r.0, r.1, ap (λ (x : Path). c ∷ x) r.2)

pub split_last : (p : Path) → p ≢ [] → (c : List ℕ) × (p ≡ parent p ++ c ∷ [])
split_last p ne =
    let r = last_part p ne in
    (r.1, r.2 ∙ ap (λ (x : Path). x ++ r.1 ∷ []) (sym (parent_push r.0 r.1) ∙ sym (ap parent r.2)))

pub under_parent : (p : Path) → under (parent p) p ≡ true
under_parent [] = refl
under_parent (c ∷ p) =
    let r = split_last (c ∷ p) (λ s. absurd (cc)) in
    ap (under (parent (c ∷ p))) r.1 ∙ under-append (parent (c ∷ p)) (r.0 ∷ [])

pub parent_length : (p : Path) → p ≢ [] → length (parent p) < length p
parent_length [] ne = absurd (ne refl)
parent_length (c ∷ p) ne = omega (arith, length-take-le (length (c ∷ p) - 1) (c ∷ p) (omega arith))

pub parent_apart : (p : Path) → p ≢ [] → under p (parent p) ≡ false
parent_apart p ne =
    false_from_ne_true (under p (parent p)) (λ e. absurd (omega (arith, under-length p (parent p) e, parent_length p ne)))

pub cons_not_root : (c : List ℕ) (p : Path) → (c ∷ p) ≢ []
cons_not_root c p s = absurd (cc)

pub long_not_root : (p : Path) (n : ℕ) → length p ≡ suc n → p ≢ []
long_not_root p n l s = absurd (omega (arith, ap length s))

pub none_long : (p : Path) → length p ≡ 0 → p ≢ [] → ⊥
none_long [] l ne = ne refl
none_long (c ∷ p) l ne = omega arith

pub parent-length : (p : Path) (n : ℕ) → length p ≡ suc n → length (parent p) ≡ n
parent-length p n l = length-take-le (length p - 1) p (omega arith) ∙ omega arith

-- a path just below another isn't at or above the other's parent
pub child_apart : (p : Path) (c : List ℕ) → p ≢ [] → under (p ++ c ∷ []) (parent p) ≡ false
child_apart p c ne =
    false_from_ne_true (under (p ++ c ∷ []) (parent p)) (λ e. absurd (omega (arith, under-length (p ++ c ∷ []) (parent p) e, parent_length p ne, length-append p (c ∷ []))))

pub under_push : (q p : Path) (c : List ℕ) → under q p ≡ true → under q (p ++ c ∷ []) ≡ true
under_push q p c e = under-trans q p (p ++ c ∷ []) e (under-append p (c ∷ []))

-- ---- trees that stay trees

pub tree-empty : IsTree empty
tree-empty = record {
  rootless = get-empty path_cmp [];
  parents = λ p c some. absurd (false≢true (sym (ap is_some (get-empty path_cmp (p ++ c ∷ []))) ∙ some));
  paths = λ p some. absurd (false≢true (sym (ap is_some (get-empty path_cmp p)) ∙ some));
}

get_retained_none : (t : Tree) (test : Path → Bool) (p : Path) → get t p ≡ None → get (retain_keys t test) p ≡ None
get_retained_none t test p e =
    elim (test p) as (λ b. test p ≡ b → get (retain_keys t test) p ≡ None) [
      | true ↦ λ s. get_kept t test p s ∙ e
      | false ↦ λ s. get_gone t test p s
    ] refl

absent : (o : Option Item) → o ≡ None → IsSome o → ⊥
absent o e some = false≢true (sym (ap is_some e) ∙ some)

-- without what stands at or below a path
pub tree-without : (t : Tree) (at : Path) → IsTree t → IsTree (retain_keys t (λ p. not (under at p)))
tree-without t at is =
    let test : Path → Bool = λ p. not (under at p) in
    record {
      rootless = get_retained_none t test [] is.rootless;
      parents = λ p c some.
          elim (test (p ++ c ∷ [])) as (λ b. test (p ++ c ∷ []) ≡ b → item_at (retain_keys t test) p ≡ Some folder) [
            | true ↦ λ e.
                let apart : under at p ≡ false =
                false_from_ne_true (under at p) (λ u. both_ways (under at (p ++ c ∷ [])) (not-true (under at (p ++ c ∷ [])) e) (under_push at p c u)) in
                item_kept t test p (not_from_false (under at p) apart)
                ∙ is.parents p c (ap is_some (sym (get_kept t test (p ++ c ∷ []) e)) ∙ some)
            | false ↦ λ e. absurd (absent _ (get_gone t test (p ++ c ∷ []) e) some)
          ] refl;
      paths = λ p some.
          elim (test p) as (λ b. test p ≡ b → IsRelPath p) [
            | true ↦ λ e. is.paths p (ap is_some (sym (get_kept t test p e)) ∙ some)
            | false ↦ λ e. absurd (absent _ (get_gone t test p e) some)
          ] refl;
    }

put_parents : (t : Tree) (q : Path) (i : Item) → IsTree t → q ≢ [] → item_at t (parent q) ≡ Some folder → ((c : List ℕ) → IsSome (get t (q ++ c ∷ [])) → i ≡ folder) → (p : Path) (c : List ℕ) → IsSome (get (insert t q i) (p ++ c ∷ [])) → ((p ++ c ∷ [] ≡ q) ⊎ (p ++ c ∷ [] ≢ q)) → ((p ≡ q) ⊎ (p ≢ q)) → item_at (insert t q i) p ≡ Some folder
put_parents t q i is ne above below p c some (inl e) same =
    let up : p ≡ parent q = sym (parent_push p c) ∙ ap parent e in
    item_put_other t q i p (λ s. absurd (omega (arith, ap length s, ap length up, parent_length q ne)))
    ∙ ap (item_at t) up ∙ above
put_parents t q i is ne above below p c some (inr other) (inl e) =
    let was : IsSome (get t (p ++ c ∷ [])) = ap is_some (sym (get_put_other t q i (p ++ c ∷ []) other)) ∙ some in
    let is_folder : i ≡ folder = below c (subst (λ (x : Path). IsSome (get t (x ++ c ∷ []))) e was) in
    ap (item_at (insert t q i)) e ∙ item_put_same t q i ne ∙ ap (λ (x : Item). Some x) is_folder
put_parents t q i is ne above below p c some (inr other) (inr apart) =
    item_put_other t q i p apart
    ∙ is.parents p c (ap is_some (sym (get_put_other t q i (p ++ c ∷ []) other)) ∙ some)

put_paths : (t : Tree) (q : Path) (i : Item) → IsTree t → IsRelPath q → (p : Path) → IsSome (get (insert t q i) p) → ((p ≡ q) ⊎ (p ≢ q)) → IsRelPath p
put_paths t q i is place p some (inl e) = subst IsRelPath (sym e) place
put_paths t q i is place p some (inr apart) = is.paths p (ap is_some (sym (get_put_other t q i p apart)) ∙ some)

-- with an item at a path whose parent is a folder; a file only where nothing lies below
pub tree-put : (t : Tree) (q : Path) (i : Item) → IsTree t → IsRelPath q → q ≢ [] → item_at t (parent q) ≡ Some folder → ((c : List ℕ) → IsSome (get t (q ++ c ∷ [])) → i ≡ folder) → IsTree (insert t q i)
tree-put t q i is place ne above below =
    record {
      rootless = get_put_other t q i [] (λ e. ne (sym e)) ∙ is.rootless;
      parents = λ p c some. put_parents t q i is ne above below p c some (path_cases (p ++ c ∷ []) q) (path_cases p q);
      paths = λ p some. put_paths t q i is place p some (path_cases p q);
    }
