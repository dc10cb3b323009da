-- The files of a value are a listing.
--     listing-file-map    the members of a folder's files, in order, are a listing
use Rattle.std.proofs.Common.{◌≡◌, ℕ, ◌<◌, true, false, not, ◌&&◌, List, [], ◌∷◌, length, map, refl, sym, ap, ◌∙◌, subst, arith, Some}
use Rattle.std.specs.Prelude.{IsSome, is_some}
use Rattle.std.specs.List.{AllByRecursion, list_all}
use Rattle.std.specs.Ordering.{is_lt}
use Rattle.std.specs.FinMap.{FinMap, get, entries, get-entries}
use Rattle.std.specs.FinMap.Entries.{find, is_sorted, below_all}
use Rattle.std.proofs.lemmas.Bool.{false≢true, and_parts, and_from, or_from, ne_eqb, false_from_ne_true}
use Rattle.dvc_base.specs.Path.{Path, under, overlap}
use Rattle.dvc_base.specs.Normal.{IsNormal}
use Rattle.dvc_base.specs.Name.{are_digits}
use Rattle.world_api.specs.Tree.{path_cmp}
use Rattle.world_api.specs.Calls.{are_apart, is_apart}
use Rattle.file_hash.specs.Files.{IsFileMap}
use Rattle.file_hash.specs.Listing.{path_at, is_file_name, name_of_bytes, member_with, listing_of, IsListing}
use Rattle.file_hash.proofs.HashLemmas.{name_of_bytes-digits}
use Rattle.file_hash.proofs.TreeOrder.{found_each, rises_all}
use Rattle.file_hash.proofs.ListingLemmas.{listing_in_order}
use Rattle.file_hash.proofs.ApartLemmas.{not_same_path}

module _ (m : FinMap path_cmp (List ℕ)) (h : IsFileMap m) where
  nonroot : (p : Path) → IsSome (get m p) → 0 < length p
  nonroot [] some = absurd (false≢true (sym (ap is_some h.rootless) ∙ some))
  nonroot (c ∷ p) some = omega arith

  not_one : (p q : Path) → is_lt (path_cmp p q) ≡ true → p ≡ q → ⊥
  not_one p q less same =
      false≢true (sym (not_same_path q) ∙ subst (λ (x : Path). is_lt (path_cmp x q) ≡ true) same less)

  apart_two : (p q : Path) → IsSome (get m p) → IsSome (get m q) → is_lt (path_cmp p q) ≡ true → overlap p q ≡ false
  apart_two p q a b less =
      or_from (under p q) (under q p) (false_from_ne_true (under p q) (λ u. not_one p q less (h.apart p q a b u)))
      (false_from_ne_true (under q p) (λ u. not_one p q less (sym (h.apart q p b a u))))

  abbrev AreFound : List (Path × List ℕ) → Type 0
  AreFound es = AllByRecursion (λ e. find path_cmp e.0 (entries m) ≡ Some e.1) es

  there : (e : Path × List ℕ) → find path_cmp e.0 (entries m) ≡ Some e.1 → IsSome (get m e.0)
  there e k = ap is_some (get-entries m e.0 ∙ k)

  apart_one : (p : Path) (es : List (Path × List ℕ)) → IsSome (get m p) → AreFound es → below_all path_cmp p es ≡ true → is_apart p (map path_at (map member_with es)) ≡ true
  apart_one p [] some k b = ap not (ne_eqb (length p) 0 (λ e. omega (arith, nonroot p some)))
  apart_one p (e ∷ es) some k b =
      let parts = and_parts (is_lt (path_cmp p e.0)) (below_all path_cmp p es) b in
      ap (λ o. not o && is_apart p (map path_at (map member_with es))) (apart_two p e.0 some (there e k.0) parts.0) ∙ apart_one p es some k.1 parts.1

  apart_all : (es : List (Path × List ℕ)) → AreFound es → is_sorted path_cmp es ≡ true → are_apart (map path_at (map member_with es)) ≡ true
  apart_all [] k s = refl
  apart_all (e ∷ es) k s =
      let parts = and_parts (below_all path_cmp e.0 es) (is_sorted path_cmp es) s in
      and_from (is_apart e.0 (map path_at (map member_with es))) (are_apart (map path_at (map member_with es))) (apart_one e.0 es (there e k.0) k.1 parts.0) (apart_all es k.1 parts.1)

  normals : (es : List (Path × List ℕ)) → AreFound es → AllByRecursion (λ k. IsNormal k.path) (map member_with es)
  normals [] k = tt
  normals (e ∷ es) k = ((h.paths e.0 (there e k.0)).normal, normals es k.1)

  names : (es : List (Path × List ℕ)) → list_all (λ k. is_file_name k.name) (map member_with es) ≡ true
  names [] = refl
  names (e ∷ es) =
      and_from (is_file_name (name_of_bytes e.1)) (list_all (λ k. is_file_name k.name) (map member_with es)) (and_from (are_digits (name_of_bytes e.1).digits) true (name_of_bytes-digits e.1) refl) (names es)

  pub listing-file-map : IsListing (listing_of m)
  listing-file-map =
      let es = entries m in
      let found = found_each es (rises_all m) in
      listing_in_order (map member_with es) (apart_all es found (rises_all m)) (normals es found) (names es)
