-- Files of a tree, and the values that they make.
--     file_at t p          the bytes of the file that stands at a path
--     all_found            each entry of a map is found under its key
--     member_at            a member of the folder at a path is the file that stands there
--     value_kept           a value depends on what stands at its path, and on the files below
--     Roads t              each path above a file is a folder
use Rattle.std.proofs.Common.{◌≡◌, ◌≢◌, ℕ, Bool, true, false, cond, List, [], ◌∷◌, ◌++◌, length, drop, refl, sym, ap, subst, ◌∙◌, inl, inr, Option, Some, None, is_some, IsSome}
use Rattle.std.specs.Prelude.{T}
use Rattle.std.specs.List.{AllByRecursion}
use Rattle.std.specs.Ordering.{nat_cmp, is_eq, is_lt, eq_by_cmp, ordering_then}
use Rattle.std.specs.declared.cmp.Ordering.{Ordering}
use Rattle.std.specs.declared.cmp.Ordering.TheVariants.{Less, Equal, Greater}
use Rattle.std.specs.Cmp.{IsTotalOrder, tied_itself, nat_cmp_total}
use Rattle.std.specs.Cmp.Lexicographic.{slice_cmp, lists_total}
use Rattle.std.specs.FinMap.{FinMap, get, entries, entries_sorted, from_entries, get-entries, get-from_entries, same_map}
use Rattle.std.specs.FinMap.Entries.{find, is_sorted, below_all}
use Rattle.std.proofs.lemmas.Bool.{false≢true, and_parts, both_ways, false_from_ne_true, cases_Bool}
use Rattle.dvc_base.specs.Path.{Path, under, is_within}
use Rattle.dvc_base.proofs.PathLemmas.{under-append, under-split}
use Rattle.world_api.specs.Tree.{Tree, Item, folder, file, Value, nothing, content, members, IsTree, path_cmp, item_at, member_of, members_of, value_of, value_at}
use Rattle.world_api.proofs.TreeLemmas.{path_cmp-total, path_cmp-antisym, same_path, path_itself}
use Rattle.repro_laws.specs.Stage.{is_nothing}
use Rattle.repro_laws.proofs.RoadLemmas.{within, stands_above}

-- ---- files

abbrev pub only_file : Option Item → Option (List ℕ)
only_file (Some (file bytes)) = Some bytes
only_file _ = None

abbrev pub file_at : Tree → Path → Option (List ℕ)
file_at t p = only_file (get t p)

file_of : (o : Option Item) (bytes : List ℕ) → only_file o ≡ Some bytes → o ≡ Some (file bytes)
file_of None bytes e = absurd (cc)
file_of (Some folder) bytes e = absurd (cc)
file_of (Some (file other)) bytes e = cc

pub file_item : (t : Tree) (p : Path) (bytes : List ℕ) → p ≢ [] → file_at t p ≡ Some bytes → item_at t p ≡ Some (file bytes)
file_item t [] bytes ne e = absurd (ne refl)
file_item t (c ∷ p) bytes ne e = file_of (get t (c ∷ p)) bytes e

pub not_a_file : (bytes : List ℕ) → Some folder ≡ Some (file bytes) → ⊥
not_a_file bytes e = cc

pub item_file : (t : Tree) (p : Path) (bytes : List ℕ) → item_at t p ≡ Some (file bytes) → file_at t p ≡ Some bytes
item_file t [] bytes e = absurd (not_a_file bytes e)
item_file t (c ∷ p) bytes e = ap only_file e

pub rootless_file : (t : Tree) → IsTree t → file_at t [] ≡ None
rootless_file t tree = ap only_file tree.rootless

-- where a tree has no file at its root, files are read off items
pub file_by_item : (t : Tree) (p : Path) → file_at t [] ≡ None → file_at t p ≡ only_file (item_at t p)
file_by_item t [] root = root
file_by_item t (c ∷ p) root = refl

-- ---- entries of a map

to_T : (b : Bool) → b ≡ true → T b
to_T b e = subst T (sym e) tt

from_T : (b : Bool) → T b → b ≡ true
from_T true h = refl
from_T false h = absurd h

not_less : (r : Ordering) → is_lt r ≡ true → is_eq r ≡ true → ⊥
not_less Less a b = false≢true b
not_less Equal a b = false≢true a
not_less Greater a b = false≢true a

module _ {X : Type 0} where
  abbrev pub Rise : List (Path × X) → Type 0
  Rise es = is_sorted path_cmp es ≡ true

  pub rises : (m : FinMap path_cmp X) → Rise (entries m)
  rises m = from_T (is_sorted path_cmp (entries m)) (entries_sorted m)

  later_key : (q : Path) (es : List (Path × X)) (k : Path) → below_all path_cmp q es ≡ true → find path_cmp k es ≢ None → eq_by_cmp path_cmp k q ≡ true → ⊥
  later_key q [] k h some same = some refl
  later_key q (e ∷ es) k h some same =
      let parts = and_parts (is_lt (path_cmp q e.0)) (below_all path_cmp q es) h in
      let one : k ≡ q = same_path k q same in
      later_key q es k parts.1
      (λ none. some (ap (λ b. cond b (Some e.1) (find path_cmp k es)) (false_from_ne_true (eq_by_cmp path_cmp k e.0) (λ s. not_less (path_cmp q e.0) parts.0 (subst (λ (x : Path). eq_by_cmp path_cmp x e.0 ≡ true) one s))) ∙ none)) same

  pub find_below : (q : Path) (es : List (Path × X)) → below_all path_cmp q es ≡ true → find path_cmp q es ≡ None
  find_below q es h = none_of (find path_cmp q es) (λ some. later_key q es q h some (path_itself q))
    where
      none_of : (o : Option X) → (o ≢ None → ⊥) → o ≡ None
      none_of None f = refl
      none_of (Some x) f = absurd (f (λ e. absurd (cc)))

  found_later : (e : Path × X) (es fs : List (Path × X)) → below_all path_cmp e.0 fs ≡ true → AllByRecursion (λ f. find path_cmp f.0 es ≡ Some f.1) fs → AllByRecursion (λ f. find path_cmp f.0 (e ∷ es) ≡ Some f.1) fs
  found_later e es [] h all = tt
  found_later e es (f ∷ fs) h all =
      let parts = and_parts (is_lt (path_cmp e.0 f.0)) (below_all path_cmp e.0 fs) h in
      let apart : eq_by_cmp path_cmp f.0 e.0 ≡ false =
      false_from_ne_true (eq_by_cmp path_cmp f.0 e.0) (λ s. not_less (path_cmp e.0 f.0) parts.0 (subst (λ (x : Path). eq_by_cmp path_cmp x f.0 ≡ true) (same_path f.0 e.0 s) (path_itself f.0))) in
      (ap (λ b. cond b (Some e.1) (find path_cmp f.0 es)) apart ∙ all.0, found_later e es fs parts.1 all.1)

  each_found : (es : List (Path × X)) → Rise es → AllByRecursion (λ e. find path_cmp e.0 es ≡ Some e.1) es
  each_found [] rise = tt
  each_found (e ∷ es) rise =
      let parts = and_parts (below_all path_cmp e.0 es) (is_sorted path_cmp es) rise in (
        ap (λ b. cond b (Some e.1) (find path_cmp e.0 es)) (path_itself e.0),
        found_later e es es parts.0 (each_found es parts.1),
      )

-- ---- members of a folder

name_total : IsTotalOrder (slice_cmp nat_cmp)
name_total = lists_total nat_cmp_total

skip_front : (r x : Ordering) → r ≡ Equal → ordering_then r x ≡ x
skip_front Less x e = absurd (false≢true (ap is_eq e))
skip_front Equal x e = refl
skip_front Greater x e = absurd (false≢true (ap is_eq e))

common_front : (p x y : Path) → path_cmp (p ++ x) (p ++ y) ≡ path_cmp x y
common_front [] x y = refl
common_front (c ∷ p) x y =
    skip_front (slice_cmp nat_cmp c c) (path_cmp (p ++ x) (p ++ y)) (tied_itself name_total c) ∙ common_front p x y

same_key : (p q r : Path) → under p q ≡ true → eq_by_cmp path_cmp (p ++ r) q ≡ eq_by_cmp path_cmp r (drop (length p) q)
same_key p q r u =
    ap (eq_by_cmp path_cmp (p ++ r)) (under-split p q u) ∙ ap is_eq (common_front p r (drop (length p) q))

other_key : (p q r : Path) → under p q ≡ false → eq_by_cmp path_cmp (p ++ r) q ≡ false
other_key p q r u =
    false_from_ne_true (eq_by_cmp path_cmp (p ++ r) q) (λ s. both_ways (under p q) u (subst (λ (x : Path). under p x ≡ true) (same_path (p ++ r) q s) (under-append p r)))

folder_found : (p q r : Path) (es : List (Path × Item)) (found : Option (List ℕ)) → below_all path_cmp q es ≡ true → found ≡ only_file (find path_cmp (p ++ r) es) → found ≡ only_file (find path_cmp (p ++ r) ((q, folder) ∷ es))
folder_found p q r es found h e =
    elim (cases_Bool (eq_by_cmp path_cmp (p ++ r) q)) [
      | inl s ↦
          e ∙ ap only_file (ap (λ (x : Path). find path_cmp x es) (same_path (p ++ r) q s) ∙ find_below q es h) ∙ ap (λ b. only_file (cond b (Some folder) (find path_cmp (p ++ r) es))) (sym s)
      | inr s ↦ e ∙ ap (λ b. only_file (cond b (Some folder) (find path_cmp (p ++ r) es))) (sym s)
    ]

only_cond : (b : Bool) (bytes : List ℕ) (o : Option Item) → only_file (cond b (Some (file bytes)) o) ≡ cond b (Some bytes) (only_file o)
only_cond true bytes o = refl
only_cond false bytes o = refl

file_found : (p q r : Path) (bytes : List ℕ) (es : List (Path × Item)) (ms : List (Path × List ℕ)) → find path_cmp r ms ≡ only_file (find path_cmp (p ++ r) es) → find path_cmp r (member_of p q (file bytes) ++ ms) ≡ only_file (find path_cmp (p ++ r) ((q, file bytes) ∷ es))
file_found p q r bytes es ms e =
    let one : List (Path × List ℕ) = (drop (length p) q, bytes) ∷ [] in
    only_cond_from (only_cond (eq_by_cmp path_cmp (p ++ r) q) bytes (find path_cmp (p ++ r) es)) (elim (cases_Bool (under p q)) [
      | inl u ↦
          ap (λ b. find path_cmp r (cond b one [] ++ ms)) u ∙ ap (λ b. cond b (Some bytes) (find path_cmp r ms)) (sym (same_key p q r u)) ∙ ap (cond (eq_by_cmp path_cmp (p ++ r) q) (Some bytes)) e
      | inr u ↦
          ap (λ b. find path_cmp r (cond b one [] ++ ms)) u ∙ e ∙ ap (λ b. cond b (Some bytes) (only_file (find path_cmp (p ++ r) es))) (sym (other_key p q r u))
    ])
  where
    only_cond_from : {A : Type 0} {x y z : A} → z ≡ y → x ≡ y → x ≡ z
    only_cond_from a b = b ∙ sym a

members_found : (p r : Path) (es : List (Path × Item)) → Rise es → find path_cmp r (members_of p es) ≡ only_file (find path_cmp (p ++ r) es)
members_found p r [] rise = refl
members_found p r ((q, folder) ∷ es) rise =
    let parts = and_parts (below_all path_cmp q es) (is_sorted path_cmp es) rise in
    folder_found p q r es (find path_cmp r (members_of p es)) parts.0 (members_found p r es parts.1)
members_found p r ((q, file bytes) ∷ es) rise =
    let parts = and_parts (below_all path_cmp q es) (is_sorted path_cmp es) rise in
    file_found p q r bytes es (members_of p es) (members_found p r es parts.1)

abbrev pub Files : Type 0
Files = FinMap path_cmp (List ℕ)

abbrev pub files_below : Tree → Path → Files
files_below t p = from_entries (members_of p (entries t))

pub member_at : (t : Tree) (p r : Path) → get (files_below t p) r ≡ file_at t (p ++ r)
member_at t p r =
    get-from_entries path_cmp-total (members_of p (entries t)) r ∙ members_found p r (entries t) (rises t) ∙ ap only_file (sym (get-entries t (p ++ r)))

-- ---- values

value_by : (t u : Tree) (p : Path) (o : Option Item) → ((r : Path) → file_at u (p ++ r) ≡ file_at t (p ++ r)) → value_of u p o ≡ value_of t p o
value_by t u p None same = refl
value_by t u p (Some (file bytes)) same = refl
value_by t u p (Some folder) same =
    ap members (same_map path_cmp-total path_cmp-antisym (files_below u p) (files_below t p) (λ r. member_at u p r ∙ same r ∙ sym (member_at t p r)))

pub value_kept : (t u : Tree) (p : Path) → item_at u p ≡ item_at t p → ((r : Path) → file_at u (p ++ r) ≡ file_at t (p ++ r)) → value_at u p ≡ value_at t p
value_kept t u p e same = value_by t u p (item_at u p) same ∙ ap (value_of t p) e

-- a folder's members are the files below it
pub record IsFolderValue (t : Tree) (p : Path) (m : Files) : Type 0 where
  pub there : item_at t p ≡ Some folder
  pub each : (r : Path) → get m r ≡ file_at t (p ++ r)

abbrev files_or : Files → Value → Files
files_or m (members n) = n
files_or m nothing = m
files_or m (content bytes) = m

folder_by : (t : Tree) (p : Path) (m : Files) (o : Option Item) → item_at t p ≡ o → value_of t p o ≡ members m → IsFolderValue t p m
folder_by t p m None there e = absurd (cc)
folder_by t p m (Some (file bytes)) there e = absurd (cc)
folder_by t p m (Some folder) there e =
    let same : files_below t p ≡ m = ap (files_or m) e in
    record { there = there; each = λ r. ap (λ (x : Files). get x r) (sym same) ∙ member_at t p r }

pub folder_value : (t : Tree) (p : Path) (m : Files) → value_at t p ≡ members m → IsFolderValue t p m
folder_value t p m e = folder_by t p m (item_at t p) refl e

abbrev bytes_or : List ℕ → Value → List ℕ
bytes_or b nothing = b
bytes_or b (content bytes) = bytes
bytes_or b (members m) = b

content_by : (t : Tree) (p : Path) (bytes : List ℕ) (o : Option Item) → value_of t p o ≡ content bytes → o ≡ Some (file bytes)
content_by t p bytes None e = absurd (cc)
content_by t p bytes (Some folder) e = absurd (cc)
content_by t p bytes (Some (file other)) e = ap (λ (b : List ℕ). Some (file b)) (ap (bytes_or bytes) e)

pub content_item : (t : Tree) (p : Path) (bytes : List ℕ) → value_at t p ≡ content bytes → item_at t p ≡ Some (file bytes)
content_item t p bytes e = content_by t p bytes (item_at t p) e

some_by : (t : Tree) (p : Path) (o : Option Item) → is_nothing (value_of t p o) ≡ false → IsSome o
some_by t p None h = absurd (false≢true (sym h))
some_by t p (Some item) h = refl

pub some_value : (t : Tree) (p : Path) → is_nothing (value_at t p) ≡ false → IsSome (item_at t p)
some_value t p h = some_by t p (item_at t p) h

-- ---- trees

some_item : (o : Option Item) → IsSome (only_file o) → IsSome o
some_item None some = some
some_item (Some item) some = refl

pub file_stands : (t : Tree) (p : Path) → IsSome (file_at t p) → IsSome (item_at t p)
file_stands t [] some = refl
file_stands t (c ∷ p) some = some_item (get t (c ∷ p)) some

abbrev pub Roads : Tree → Type 0
Roads t = (p q : Path) → IsSome (file_at t q) → is_within q p ≡ true → item_at t p ≡ Some folder

pub roads_tree : (t : Tree) → IsTree t → Roads t
roads_tree t tree p q some w = stands_above t tree q p (file_stands t q some) w

pub none_of : {A : Type 0} (o : Option A) → (IsSome o → ⊥) → o ≡ None
none_of None h = refl
none_of (Some item) h = absurd (h refl)

pub absent : {A : Type 0} (o : Option A) → o ≡ None → IsSome o → ⊥
absent o e some = false≢true (sym (ap is_some e) ∙ some)

-- no file stands where a folder does
pub no_folder_file : (t : Tree) → IsTree t → (p : Path) → item_at t p ≡ Some folder → file_at t p ≡ None
no_folder_file t tree p e = file_by_item t p (rootless_file t tree) ∙ ap only_file e

-- nor below another file
pub no_file_below : (t : Tree) → IsTree t → (p q : Path) (bytes : List ℕ) → item_at t p ≡ Some (file bytes) → under p q ≡ true → q ≢ p → file_at t q ≡ None
no_file_below t tree p q bytes there u ne =
    none_of (file_at t q) (λ some. not_a_file bytes (sym (roads_tree t tree p q some (within q p u (λ e. ne (sym e)))) ∙ there))

found_each : (m : Files) (es : List (Path × List ℕ)) → AllByRecursion (λ e. find path_cmp e.0 (entries m) ≡ Some e.1) es → AllByRecursion (λ e. get m e.0 ≡ Some e.1) es
found_each m [] all = tt
found_each m (e ∷ es) all = (get-entries m e.0 ∙ all.0, found_each m es all.1)

pub all_found : (m : Files) → AllByRecursion (λ e. get m e.0 ≡ Some e.1) (entries m)
all_found m = found_each m (entries m) (each_found (entries m) (rises m))
