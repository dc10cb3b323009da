-- Members that are made one after another.
use Rattle.std.proofs.Common.{◌≡◌, ℕ, ◌+◌, ◌<◌, true, List, [], ◌∷◌, ◌++◌, length, map, take, get_or, sym, ap, ◌∙◌, subst}
use Rattle.std.specs.List.{AllByRecursion, list_all}
use Rattle.std.proofs.lemmas.Bool.{and_parts, and_from}
use Rattle.std.proofs.lemmas.List.{take_more, map-append}
use Rattle.dvc_base.specs.Path.{Path}
use Rattle.dvc_base.specs.Normal.{IsNormal}
use Rattle.world_api.specs.Tree.{Tree, item_at}
use Rattle.file_bytes.specs.Reading.{IsTold}
use Rattle.file_hash.specs.Listing.{path_at, is_file_name}
use Rattle.file_hash.specs.Walk.{AreTold, AreNamed, IsNamed, IsMade, path_in}
use Rattle.file_hash.specs.declared.walk.Found.{Found}
use Rattle.file_hash.specs.declared.listing.Member.{Member}
use Rattle.file_hash.proofs.NameTurn.{all_at}

pub told_at : (t u : Tree) (at : Path) (fs : List Found) (i : ℕ) (f : Found) → i < length fs → f ≡ get_or fs i f → u ≡ t → AreTold t at fs → IsTold (item_at u (at ++ f.path)) f.size
told_at t u at fs i f l is same h =
    subst (λ (x : Tree). IsTold (item_at x (at ++ f.path)) f.size) (sym same) (all_at (λ g. IsTold (item_at t (at ++ g.path)) g.size) fs i f l is h)

named_both : (t : Tree) (at : Path) (fs gs : List Found) (ms ns : List Member) → AreNamed t at fs ms → AreNamed t at gs ns → AreNamed t at (fs ++ gs) (ms ++ ns)
named_both t at [] gs [] ns h k = k
named_both t at [] gs (m ∷ ms) ns h k = absurd h
named_both t at (f ∷ fs) gs [] ns h k = absurd h
named_both t at (f ∷ fs) gs (m ∷ ms) ns h k = (h.0, named_both t at fs gs ms ns h.1 k)

one_longer : (fs : List Found) (i : ℕ) (f : Found) → i < length fs → f ≡ get_or fs i f → take (i + 1) fs ≡ take i fs ++ f ∷ []
one_longer fs i f l is = take_more fs i f l ∙ ap (λ x. take i fs ++ x ∷ []) (sym is)

pub named_push : (t : Tree) (at : Path) (fs : List Found) (i : ℕ) (f : Found) (m : Member) (ms ns : List Member) → i < length fs → f ≡ get_or fs i f → AreNamed t at (take i fs) ms → IsNamed t at f m → ns ≡ ms ++ m ∷ [] → AreNamed t at (take (i + 1) fs) ns
named_push t at fs i f m ms ns l is h k e =
    subst (AreNamed t at (take (i + 1) fs)) (sym e)
    (subst (λ gs. AreNamed t at gs (ms ++ m ∷ [])) (sym (one_longer fs i f l is)) (named_both t at (take i fs) (f ∷ []) ms (m ∷ []) h (k, tt)))

all_both : {A : Type 0} (P : A → Type 0) (xs ys : List A) → AllByRecursion P xs → AllByRecursion P ys → AllByRecursion P (xs ++ ys)
all_both P [] ys a b = b
all_both P (x ∷ xs) ys a b = (a.0, all_both P xs ys a.1 b)

files_both : (ms ns : List Member) → list_all (λ m. is_file_name m.name) ms ≡ true → list_all (λ m. is_file_name m.name) ns ≡ true → list_all (λ m. is_file_name m.name) (ms ++ ns) ≡ true
files_both [] ns a b = b
files_both (m ∷ ms) ns a b =
    let parts = and_parts (is_file_name m.name) (list_all (λ m. is_file_name m.name) ms) a in
    and_from (is_file_name m.name) (list_all (λ m. is_file_name m.name) (ms ++ ns)) parts.0 (files_both ms ns parts.1 b)

made_both : (fs gs : List Found) (ms ns : List Member) → IsMade fs ms → IsMade gs ns → IsMade (fs ++ gs) (ms ++ ns)
made_both fs gs ms ns a b =
    record {
      paths = map-append path_at ms ns ∙ ap (λ x. x ++ map path_at ns) a.paths ∙ ap (λ x. map path_in fs ++ x) b.paths ∙ sym (map-append path_in fs gs);
      normal = all_both (λ m. IsNormal m.path) ms ns a.normal b.normal;
      files = files_both ms ns a.files b.files;
    }

pub made_push : (fs : List Found) (i : ℕ) (f : Found) (m : Member) (ms ns : List Member) → i < length fs → f ≡ get_or fs i f → IsMade (take i fs) ms → IsMade (f ∷ []) (m ∷ []) → ns ≡ ms ++ m ∷ [] → IsMade (take (i + 1) fs) ns
made_push fs i f m ms ns l is h k e =
    subst (IsMade (take (i + 1) fs)) (sym e)
    (subst (λ gs. IsMade gs (ms ++ m ∷ [])) (sym (one_longer fs i f l is)) (made_both (take i fs) (f ∷ []) ms (m ∷ []) h k))
