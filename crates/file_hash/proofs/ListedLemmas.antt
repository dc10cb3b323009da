-- What a walk has found is what the value's map has.
--     files_are        the map's entries are the files below the folder
--     told_all         each file stands where it was found
--     named_all        the members are those of the map
--     size_all         so is the size
--     limit_all        and the first limit that is passed
--     files_stand      each file of the map stands below the folder
use Rattle.std.proofs.Common.{◌≡◌, ℕ, ◌+◌, ◌<◌, true, false, cond, List, [], ◌∷◌, ◌++◌, length, drop, map, refl, sym, ap, subst, ◌∙◌, inl, inr, arith, Some}
use Rattle.std.specs.Prelude.{nat_lt}
use Rattle.std.specs.List.{AllByRecursion}
use Rattle.std.specs.Option.{option_or}
use Rattle.std.specs.Ordering.{is_lt}
use Rattle.std.specs.FinMap.{entries, get, get-entries, get-from_entries}
use Rattle.std.specs.FinMap.Entries.{find, is_sorted, below_all}
use Rattle.std.proofs.lemmas.Bool.{false≢true, and_parts, and_from, lt-ltb, cases_lt}
use Rattle.dvc_base.specs.Path.{Path, under, is_within}
use Rattle.dvc_base.proofs.PathLemmas.{under-split, under-same_length, under-length}
use Rattle.world_api.specs.Tree.{Tree, Item, folder, file, path_cmp, item_at, IsTree, member_of, members_of}
use Rattle.world_api.proofs.TreeLemmas.{path_cmp-total}
use Rattle.file_hash.specs.Files.{bytes_in}
use Rattle.file_hash.specs.Listing.{member_with}
use Rattle.file_hash.specs.Naming.{file_limit, first_limit, files_at}
use Rattle.file_hash.specs.Walk.{below, walk_limit, found_in, sizes, AreTold, AreNamed}
use Rattle.file_hash.specs.declared.listing.Member.{Member}
use Rattle.file_hash.proofs.TreeOrder.{Entry, tree_rises, found_each, rise_kept, same_lists, common_front, within_under, within_long, rises_all}

-- ---- entries of the tree

not_root : (t : Tree) (q : Path) → 0 < length q → item_at t q ≡ get t q
not_root t [] h = absurd (omega arith)
not_root t (c ∷ q) h = refl

-- an entry below the folder, with what stands there
pub record IsKnown (t : Tree) (at : Path) (e : Entry) : Type 0 where
  pub under : under at e.0 ≡ true
  pub there : item_at t e.0 ≡ Some e.1

known_from : (t : Tree) (at : Path) (es : List Entry) → AllByRecursion (λ e. find path_cmp e.0 (entries t) ≡ Some e.1) es → AllByRecursion (IsKnown t at) (below at es)
known_from t at [] h = tt
known_from t at (e ∷ es) h =
    elim (is_within e.0 at) as (λ b. is_within e.0 at ≡ b → AllByRecursion (IsKnown t at) (cond b (e ∷ below at es) (below at es))) [
      | true ↦ λ w. (
        record {
          under = within_under at e.0 w;
          there = not_root t e.0 (omega (arith, within_long at e.0 w)) ∙ get-entries t e.0 ∙ h.0;
        },
        known_from t at es h.1,
      )
      | false ↦ λ w. known_from t at es h.1
    ] refl

pub known : (t : Tree) (at : Path) → AllByRecursion (IsKnown t at) (below at (entries t))
known t at = known_from t at (entries t) (found_each (entries t) (tree_rises t))

none_get : (t : Tree) → IsTree t → (at : Path) (bytes : List ℕ) → item_at t at ≡ Some folder → get t at ≡ Some (file bytes) → ⊥
none_get t tree [] bytes h e = absurd (cc (tree.rootless))
none_get t tree (c ∷ at) bytes h e = absurd (cc)

outside : (t : Tree) → IsTree t → (at q : Path) (item : Item) → item_at t at ≡ Some folder → get t q ≡ Some item → is_within q at ≡ false → member_of at q item ≡ []
outside t tree at q folder h e w = refl
outside t tree at q (file bytes) h e w =
    let pair : Path × List ℕ = (drop (length at) q, bytes) in
    let one : List (Path × List ℕ) = pair ∷ [] in
    let none : List (Path × List ℕ) = [] in
    elim (under at q) as (λ b. under at q ≡ b → cond b one none ≡ none) [
      | true ↦ λ u.
          elim (cases_lt (length at) (length q)) [
            | inl less ↦ absurd (false≢true (sym w ∙ and_from (under at q) (nat_lt (length at) (length q)) u (lt-ltb (length at) (length q) less)))
            | inr most ↦
                let same : at ≡ q = under-same_length at q u (omega (arith, under-length at q u)) in
                absurd (none_get t tree at bytes h (ap (get t) same ∙ e))
          ]
      | false ↦ λ u. refl
    ] refl

members_below : (t : Tree) → IsTree t → (at : Path) → item_at t at ≡ Some folder → (es : List Entry) → AllByRecursion (λ e. find path_cmp e.0 (entries t) ≡ Some e.1) es → members_of at es ≡ members_of at (below at es)
members_below t tree at h [] k = refl
members_below t tree at h (e ∷ es) k =
    elim (is_within e.0 at) as (λ b. is_within e.0 at ≡ b → member_of at e.0 e.1 ++ members_of at es ≡ members_of at (cond b (e ∷ below at es) (below at es))) [
      | true ↦ λ w. ap (λ x. member_of at e.0 e.1 ++ x) (members_below t tree at h es k.1)
      | false ↦ λ w. ap (λ x. x ++ members_of at es) (outside t tree at e.0 e.1 h (get-entries t e.0 ∙ k.0) w) ∙ members_below t tree at h es k.1
    ] refl

-- ---- they rise by their paths from the folder

shorter : (at x y : Path) → under at x ≡ true → under at y ≡ true → path_cmp (drop (length at) x) (drop (length at) y) ≡ path_cmp x y
shorter at x y a b =
    sym (common_front at (drop (length at) x) (drop (length at) y))
    ∙ ap (λ (q : Path). path_cmp q (at ++ drop (length at) y)) (sym (under-split at x a)) ∙ ap (path_cmp x) (sym (under-split at y b))

pub file_member : (at q : Path) (bytes : List ℕ) → under at q ≡ true → member_of at q (file bytes) ≡ (drop (length at) q, bytes) ∷ []
file_member at q bytes u = ap (λ b. cond b ((drop (length at) q, bytes) ∷ []) []) u

module _ (t : Tree) (at : Path) where
  below_members : (x : Path) (es : List Entry) → under at x ≡ true → AllByRecursion (IsKnown t at) es → below_all path_cmp x es ≡ true → below_all path_cmp (drop (length at) x) (members_of at es) ≡ true
  below_members x [] u k h = refl
  below_members x ((q, folder) ∷ es) u k h = below_members x es u k.1 (and_parts (is_lt (path_cmp x q)) (below_all path_cmp x es) h).1
  below_members x ((q, file bytes) ∷ es) u k h =
      let parts = and_parts (is_lt (path_cmp x q)) (below_all path_cmp x es) h in
      ap (λ l. below_all path_cmp (drop (length at) x) (l ++ members_of at es)) (file_member at q bytes k.0.under)
      ∙ and_from (is_lt (path_cmp (drop (length at) x) (drop (length at) q))) (below_all path_cmp (drop (length at) x) (members_of at es)) (ap is_lt (shorter at x q u k.0.under) ∙ parts.0) (below_members x es u k.1 parts.1)

  members_rise : (es : List Entry) → AllByRecursion (IsKnown t at) es → is_sorted path_cmp es ≡ true → is_sorted path_cmp (members_of at es) ≡ true
  members_rise [] k h = refl
  members_rise ((q, folder) ∷ es) k h = members_rise es k.1 (and_parts (below_all path_cmp q es) (is_sorted path_cmp es) h).1
  members_rise ((q, file bytes) ∷ es) k h =
      let parts = and_parts (below_all path_cmp q es) (is_sorted path_cmp es) h in
      ap (λ l. is_sorted path_cmp (l ++ members_of at es)) (file_member at q bytes k.0.under)
      ∙ and_from (below_all path_cmp (drop (length at) q) (members_of at es)) (is_sorted path_cmp (members_of at es)) (below_members q es k.0.under k.1 parts.0) (members_rise es k.1 parts.1)

  -- ---- found, told, named

  pub size_all : (es : List Entry) → AllByRecursion (IsKnown t at) es → sizes (found_in at es) ≡ bytes_in (members_of at es)
  size_all [] k = refl
  size_all ((q, folder) ∷ es) k = size_all es k.1
  size_all ((q, file bytes) ∷ es) k =
      ap (λ n. length bytes + n) (size_all es k.1) ∙ sym (ap (λ l. bytes_in (l ++ members_of at es)) (file_member at q bytes k.0.under))

  pub limit_all : (n size : ℕ) (es : List Entry) → AllByRecursion (IsKnown t at) es → walk_limit n size es ≡ first_limit n size (members_of at es)
  limit_all n size [] k = refl
  limit_all n size ((q, folder) ∷ es) k = limit_all n size es k.1
  limit_all n size ((q, file bytes) ∷ es) k =
      ap (option_or (file_limit n size (length bytes))) (limit_all (n + 1) (size + length bytes) es k.1)
      ∙ sym (ap (λ l. first_limit n size (l ++ members_of at es)) (file_member at q bytes k.0.under))

  pub told_all : (es : List Entry) → AllByRecursion (IsKnown t at) es → AreTold t at (found_in at es)
  told_all [] k = tt
  told_all ((q, folder) ∷ es) k = told_all es k.1
  told_all ((q, file bytes) ∷ es) k = (
    (bytes, (ap (item_at t) (sym (under-split at q k.0.under)) ∙ k.0.there, refl)),
    told_all es k.1,
  )

  pub named_all : (es : List Entry) (ms : List Member) → AllByRecursion (IsKnown t at) es → AreNamed t at (found_in at es) ms → ms ≡ map member_with (members_of at es)
  named_all [] [] k h = refl
  named_all [] (m ∷ ms) k h = absurd h
  named_all ((q, folder) ∷ es) ms k h = named_all es ms k.1 h
  named_all ((q, file bytes) ∷ es) [] k h = absurd h
  named_all ((q, file bytes) ∷ es) (m ∷ ms) k h =
      ap (λ x. x ∷ ms) (h.0 bytes (ap (item_at t) (sym (under-split at q k.0.under)) ∙ k.0.there))
      ∙ ap (λ x. member_with (drop (length at) q, bytes) ∷ x) (named_all es ms k.1 h.1)
      ∙ sym (ap (λ l. map member_with (l ++ members_of at es)) (file_member at q bytes k.0.under))

pub files_are : (t : Tree) → IsTree t → (at : Path) → item_at t at ≡ Some folder → entries (files_at t at) ≡ members_of at (below at (entries t))
files_are t tree at h =
    let es = entries t in
    let all = members_of at es in
    let few = members_of at (below at es) in
    let same : all ≡ few = members_below t tree at h es (found_each es (tree_rises t)) in
    let rise = members_rise t at (below at es) (known t at) (rise_kept (λ q. is_within q at) es (tree_rises t)) in
    same_lists (entries (files_at t at)) few (rises_all (files_at t at)) rise
    (λ q. sym (get-entries (files_at t at) q) ∙ get-from_entries path_cmp-total all q ∙ ap (find path_cmp q) same)

-- ---- what stands in the tree

stand_all : (t : Tree) (at : Path) (es : List Entry) → AllByRecursion (IsKnown t at) es → AllByRecursion (λ e. item_at t (at ++ e.0) ≡ Some (file e.1)) (members_of at es)
stand_all t at [] k = tt
stand_all t at ((q, folder) ∷ es) k = stand_all t at es k.1
stand_all t at ((q, file bytes) ∷ es) k =
    subst (λ (l : List (Path × List ℕ)). AllByRecursion (λ e. item_at t (at ++ e.0) ≡ Some (file e.1)) (l ++ members_of at es)) (sym (file_member at q bytes k.0.under))
    (ap (item_at t) (sym (under-split at q k.0.under)) ∙ k.0.there, stand_all t at es k.1)

-- each file of a folder's value stands below the folder
pub files_stand : (t : Tree) → IsTree t → (at : Path) → item_at t at ≡ Some folder → AllByRecursion (λ e. item_at t (at ++ e.0) ≡ Some (file e.1)) (entries (files_at t at))
files_stand t tree at h =
    subst (λ (l : List (Path × List ℕ)). AllByRecursion (λ e. item_at t (at ++ e.0) ≡ Some (file e.1)) l) (sym (files_are t tree at h)) (stand_all t at (below at (entries t)) (known t at))
