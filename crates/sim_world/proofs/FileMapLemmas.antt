-- Laws of maps of a folder's files.
--     files-none, files-put      the empty map is one, and so is one with a file more at a free path
--     files-below                so are the files below a folder of a tree
use Rattle.std.proofs.Common.{◌≡◌, ◌≢◌, ℕ, ◌≤◌, true, false, cond, not, List, [], ◌∷◌, ◌++◌, length, drop, refl, sym, ap, subst, ◌∙◌, arith, append_assoc, inl, inr, Option, Some, None, Result, Ok, Err, OnOk, OnErr}
use Rattle.std.specs.Prelude.{◌&&◌, IsSome, is_some}
use Rattle.std.specs.List.{list_all}
use Rattle.std.specs.Ordering.{eq_by_cmp}
use Rattle.std.specs.FinMap.{FinMap, get, insert, empty, find, entries, entries_sorted, from_entries, get-entries, get-empty, get-insert, get-from_entries}
use Rattle.std.proofs.lemmas.Bool.{false≢true, and_parts, or_parts, not-true}
use Rattle.std.proofs.lemmas.List.{append-nil, length-append}
use Rattle.std.proofs.lemmas.List.Elements.{All-drop}
use Rattle.std.proofs.Math.Seq.{drop-append_seam}
use Rattle.dvc_base.specs.Path.{Path, under, overlap, joined}
use Rattle.dvc_base.specs.Normal.{IsName, IsNormal}
use Rattle.dvc_base.proofs.PathLemmas.{under-split}
use Rattle.world_api.specs.Tree.{Tree, Item, folder, file, path_cmp, item_at, members_of, IsRelPath, IsTree}
use Rattle.world_api.proofs.TreeLemmas.{path_cmp-total, path_itself, other_path, same_path, path_cases}
use Rattle.file_hash.specs.Files.{IsFileMap}
use Rattle.sim_world.specs.FileMap.{is_free}
use Rattle.sim_world.specs.Item.{bytes_of}
use Rattle.sim_world.specs.Root.{is_root}
use Rattle.sim_world.specs.Sorted.{pairs_of}
use Rattle.sim_world.specs.declared.sorted.Member.{Member}
use Rattle.sim_world.proofs.PlaceTree.{members_found, item_get}

abbrev Map : Type 0
Map = FinMap path_cmp (List ℕ)

absent : {X : Type 0} (o : Option X) → o ≡ None → IsSome o → ⊥
absent o e some = false≢true (sym (ap is_some e) ∙ some)

pub files-none : IsFileMap empty
files-none = record {
  rootless = get-empty path_cmp [];
  apart = λ p q some other u. absurd (absent _ (get-empty path_cmp p) some);
  paths = λ p some. absurd (absent _ (get-empty path_cmp p) some);
}

free_of : (at q : Path) (es : List (Path × List ℕ)) → list_all (λ e. not (overlap at e.0)) es ≡ true → IsSome (find path_cmp q es) → overlap at q ≡ false
free_of at q [] all some = absurd (false≢true some)
free_of at q (e ∷ es) all some =
    let parts = and_parts (not (overlap at e.0)) (list_all (λ e. not (overlap at e.0)) es) all in
    elim (eq_by_cmp path_cmp q e.0) as (λ b. eq_by_cmp path_cmp q e.0 ≡ b → IsSome (cond b (Some e.1) (find path_cmp q es)) → overlap at q ≡ false) [
      | true ↦ λ s here. ap (overlap at) (same_path q e.0 s) ∙ not-true (overlap at e.0) parts.0
      | false ↦ λ s later. free_of at q es parts.1 later
    ] refl some

at_root : (p : Path) → not (is_root p) ≡ true → p ≢ []
at_root [] e s = false≢true e
at_root (c ∷ p) e s = absurd (cc)

pub apart_pairs : (at : Path) (ms : List (Member (List ℕ))) → list_all (λ (m : Member (List ℕ)). not (overlap at m.path)) ms ≡ list_all (λ (e : Path × List ℕ). not (overlap at e.0)) (pairs_of ms)
apart_pairs at [] = refl
apart_pairs at (m ∷ ms) = ap (λ b. not (overlap at m.path) && b) (apart_pairs at ms)

put_here : (m : Map) (at : Path) (bytes : List ℕ) → get (insert m at bytes) at ≡ Some bytes
put_here m at bytes = get-insert path_cmp-total m at bytes at ∙ ap (λ b. cond b (Some bytes) (get m at)) (path_itself at)

put_there : (m : Map) (at : Path) (bytes : List ℕ) (q : Path) → q ≢ at → get (insert m at bytes) q ≡ get m q
put_there m at bytes q ne = get-insert path_cmp-total m at bytes q ∙ ap (λ b. cond b (Some bytes) (get m q)) (other_path q at ne)

pub files-put : (m : Map) (at : Path) (bytes : List ℕ) → IsFileMap m → IsRelPath at → is_free m at ≡ true → IsFileMap (insert m at bytes)
files-put m at bytes is rel free =
    let parts = and_parts (not (is_root at)) (list_all (λ e. not (overlap at e.0)) (entries m)) free in
    let ne : at ≢ [] = at_root at parts.0 in
    let was : (q : Path) → q ≢ at → IsSome (get (insert m at bytes) q) → IsSome (get m q) = λ q other some. ap is_some (sym (put_there m at bytes q other)) ∙ some in
    let far : (q : Path) → IsSome (get m q) → overlap at q ≡ false = λ q some. free_of at q (entries m) parts.1 (ap is_some (sym (get-entries m q)) ∙ some) in
    record {
      rootless = put_there m at bytes [] (λ s. ne (sym s)) ∙ is.rootless;
      apart = λ p q some other u.
          elim (path_cases p at) [
            | inl s ↦ elim (path_cases q at) [
              | inl r ↦ s ∙ sym r
              | inr nq ↦ absurd (false≢true (sym (or_parts (under at q) (under q at) (far q (was q nq other))).0 ∙ ap (λ (x : Path). under x q) (sym s) ∙ u))
            ]
            | inr np ↦ elim (path_cases q at) [
              | inl r ↦ absurd (false≢true (sym (or_parts (under at p) (under p at) (far p (was p np some))).1 ∙ ap (under p) (sym r) ∙ u))
              | inr nq ↦ is.apart p q (was p np some) (was q nq other) u
            ]
          ];
      paths = λ p some.
          elim (path_cases p at) [
            | inl s ↦ subst IsRelPath (sym s) rel
            | inr np ↦ is.paths p (was p np some)
          ];
    }

pub files-put-by : {T E : Type 0} (r : Result T E) (m n : Map) (at : Path) (bytes : List ℕ) → IsFileMap m → IsRelPath at → is_free m at ≡ true → OnOk r (n ≡ insert m at bytes) → OnErr r (n ≡ m) → IsFileMap n
files-put-by (Ok x) m n at bytes is rel free ok err = subst IsFileMap (sym ok) (files-put m at bytes is rel free)
files-put-by (Err x) m n at bytes is rel free ok err = subst IsFileMap (sym err) is

-- ---- the files below a folder of a tree

joined_back : (q rest : Path) → length (joined rest) ≤ length (joined (q ++ rest))
joined_back [] rest = omega arith
joined_back (c ∷ []) [] = omega arith
joined_back (c ∷ []) (d ∷ rest) = omega (arith, length-append c (47 ∷ joined (d ∷ rest)))
joined_back (c ∷ d ∷ q) rest = omega (arith, joined_back (d ∷ q) rest, length-append c (47 ∷ joined (d ∷ (q ++ rest))))

pub rel_back : (q rest : Path) → IsRelPath (q ++ rest) → IsRelPath rest
rel_back q rest is = record {
  normal = subst IsNormal (drop-append_seam q rest) (All-drop IsName (length q) (q ++ rest) is.normal);
  short = omega (arith, joined_back q rest, is.short);
}

abbrev Below : Tree → Path → Map
Below t at = from_entries (members_of at (entries t))

below_found : (t : Tree) (at x : Path) → get (Below t at) x ≡ bytes_of (get t (at ++ x))
below_found t at x =
    get-from_entries path_cmp-total (members_of at (entries t)) x
    ∙ members_found at x (entries t) (entries_sorted t)
    ∙ ap bytes_of (sym (get-entries t (at ++ x)))

some_file : (o : Option Item) → IsSome (bytes_of o) → (bytes : List ℕ) × (o ≡ Some (file bytes))
some_file None some = absurd (false≢true some)
some_file (Some folder) some = absurd (false≢true some)
some_file (Some (file bytes)) some = (bytes, refl)

file_there : (t : Tree) (at x : Path) → IsSome (get (Below t at) x) → (bytes : List ℕ) × (get t (at ++ x) ≡ Some (file bytes))
file_there t at x some = some_file (get t (at ++ x)) (ap is_some (sym (below_found t at x)) ∙ some)

folder_no_file : (bytes : List ℕ) → ◌≡◌ {A = Option Item} (Some folder) (Some (file bytes)) → ⊥
folder_no_file bytes e = absurd (cc)

root_none : (t : Tree) (at : Path) → IsTree t → item_at t at ≡ Some folder → bytes_of (get t at) ≡ None
root_none t [] is e = ap bytes_of is.rootless
root_none t (c ∷ at) is e = ap bytes_of e

-- each path above one that stands is a folder
above_folder : (t : Tree) (q rest : Path) → IsTree t → rest ≢ [] → IsSome (get t (q ++ rest)) → item_at t q ≡ Some folder
above_folder t q [] is ne some = absurd (ne refl)
above_folder t q (c ∷ []) is ne some = is.parents q c some
above_folder t q (c ∷ d ∷ rest) is ne some =
    let deeper : item_at t (q ++ c ∷ []) ≡ Some folder =
    above_folder t (q ++ c ∷ []) (d ∷ rest) is (λ s. absurd (cc)) (subst (λ (x : Path). IsSome (get t x)) (sym (append_assoc q (c ∷ []) (d ∷ rest))) some) in
    is.parents q c (ap is_some (sym (item_get t (q ++ c ∷ []) (λ s. absurd (omega (arith, ap length s, length-append q (c ∷ []))))) ∙ deeper))

pub files-below : (t : Tree) (at : Path) → IsTree t → item_at t at ≡ Some folder → IsFileMap (Below t at)
files-below t at is here = record {
  rootless = below_found t at [] ∙ ap (λ (x : Path). bytes_of (get t x)) (append-nil at) ∙ root_none t at is here;
  apart = λ p q some other u.
      let rest : Path = drop (length p) q in
      let parts : q ≡ p ++ rest = under-split p q u in
      elim (path_cases rest []) [
        | inl s ↦ sym (parts ∙ ap (λ (x : Path). p ++ x) s ∙ append-nil p)
        | inr ne ↦
            let f = file_there t at p some in
            let g = file_there t at q other in
            let nr : (at ++ p) ≢ [] = λ s. absurd (absent _ (is.rootless) (ap is_some (ap (get t) (sym s) ∙ f.1))) in
            let whole : IsSome (get t ((at ++ p) ++ rest)) = ap is_some (ap (get t) (append_assoc at p rest ∙ ap (λ (x : Path). at ++ x) (sym parts)) ∙ g.1) in
            absurd (folder_no_file f.0 (sym (above_folder t (at ++ p) rest is ne whole) ∙ item_get t (at ++ p) nr ∙ f.1))
      ];
  paths = λ p some. rel_back at p (is.paths (at ++ p) (ap is_some (file_there t at p some).1));
}
