-- Paths in normal form, found by their texts.
--     path_there, path_new    a path is one among the paths, or their last, as its text is among theirs
--     texts_with_path         the texts, once a path is among the paths
--     once_more               each path once, with one path more
use Rattle.std.proofs.Common.{◌≡◌, ℕ, ◌+◌, ◌<◌, length, get_or, take, Bool, true, false, not, ◌||◌, List, [], ◌∷◌, ◌++◌, map, bytes_eq, refl, sym, ap, subst, ◌∙◌, true≢false, if◌then◌else◌, inl, inr}
use Rattle.std.specs.List.{list_any, All}
use Rattle.std.proofs.lemmas.Bool.{cases_Bool, and_from, and_parts, both_ways, false_from_ne_true, cond-true, cond-false}
use Rattle.std.proofs.lemmas.List.{map-append}
use Rattle.std.proofs.lemmas.List.Sums.{fold_more}
use Rattle.std.proofs.lemmas.List.Elements.{All-head, All-tail, All-push}
use Rattle.std.proofs.lemmas.Slice.Eq.{bytes_eq-Decides}
use Rattle.indexmap.specs.IndexSet.{insert_key}
use Rattle.dvc_base.specs.Path.{Path, under, is_one, path_text}
use Rattle.dvc_base.specs.Normal.{IsNormal}
use Rattle.dvc_base.proofs.PathLemmas.{under-refl, under-antisym}
use Rattle.dvc_base.proofs.NormalLemmas.{path_text-injective}
use Rattle.stage_schema.specs.Params.{with_text}
use Rattle.stage_schema.proofs.WantLemmas.{Name, names, any_name, names_inserted}
use Rattle.template_expand.specs.Wanted.{with_path, each_once, AreTexts}

is_one-text : (p q : Path) → IsNormal p → IsNormal q → is_one p q ≡ bytes_eq (path_text p) (path_text q)
is_one-text p q n m =
    let tells = bytes_eq-Decides (path_text p) (path_text q) in
    elim (cases_Bool (bytes_eq (path_text p) (path_text q))) [
      | inl same ↦
          let here : p ≡ q = path_text-injective p q n m (tells.0 same) in
          subst (λ x. is_one p x ≡ true) here (and_from (under p p) (under p p) (under-refl p) (under-refl p)) ∙ sym same
      | inr other ↦
          false_from_ne_true (is_one p q) (λ one.
          let parts = and_parts (under q p) (under p q) one in
          both_ways (bytes_eq (path_text p) (path_text q)) other (tells.1 (ap path_text (under-antisym p q parts.1 parts.0))))
          ∙ sym other
    ]

any_path : (p : Path) (paths : List Path) → IsNormal p → All IsNormal paths → list_any (is_one p) paths ≡ list_any (bytes_eq (path_text p)) (map path_text paths)
any_path p [] n m = refl
any_path p (q ∷ paths) n m =
    ap (λ b. b || list_any (is_one p) paths) (is_one-text p q n (All-head IsNormal q paths m))
    ∙ ap (λ b. bytes_eq (path_text p) (path_text q) || b) (any_path p paths n (All-tail IsNormal q paths m))

-- ---- whether it is there

same_test : (ks : List Name) (k : Name) (p : Path) (paths : List Path) → IsNormal p → AreTexts (names ks) paths → k.now ≡ path_text p → list_any (λ x. bytes_eq k.now x.now) ks ≡ list_any (is_one p) paths
same_test ks k p paths n tied is =
    any_name (bytes_eq k.now) ks ∙ ap (list_any (bytes_eq k.now)) tied.same ∙ ap (λ t. list_any (bytes_eq t) (map path_text paths)) is ∙ sym (any_path p paths n tied.normal)

pub path_there : (ks : List Name) (k : Name) (p : Path) (paths : List Path) (is_new : Bool) → IsNormal p → AreTexts (names ks) paths → k.now ≡ path_text p → is_new ≡ not (list_any (λ x. bytes_eq k.now x.now) ks) → is_new ≡ false → paths ≡ with_path paths p
path_there ks k p paths is_new n tied is tested old = by (list_any (is_one p) paths) refl
  where
    by : (b : Bool) → list_any (is_one p) paths ≡ b → paths ≡ with_path paths p
    by true there = sym (cond-true (list_any (is_one p) paths) paths (paths ++ p ∷ []) there)
    by false there = absurd (true≢false (sym (tested ∙ ap not (same_test ks k p paths n tied is ∙ there)) ∙ old))

pub path_new : (ks : List Name) (k : Name) (p : Path) (paths : List Path) (is_new : Bool) → IsNormal p → AreTexts (names ks) paths → k.now ≡ path_text p → is_new ≡ not (list_any (λ x. bytes_eq k.now x.now) ks) → is_new ≡ true → paths ++ p ∷ [] ≡ with_path paths p
path_new ks k p paths is_new n tied is tested new = by (list_any (is_one p) paths) refl
  where
    by : (b : Bool) → list_any (is_one p) paths ≡ b → paths ++ p ∷ [] ≡ with_path paths p
    by true there = absurd (true≢false (sym new ∙ (tested ∙ ap not (same_test ks k p paths n tied is ∙ there))))
    by false there = sym (cond-false (list_any (is_one p) paths) paths (paths ++ p ∷ []) there)

-- ---- what is left

normal_with_path : (p : Path) (paths : List Path) → IsNormal p → All IsNormal paths → All IsNormal (with_path paths p)
normal_with_path p paths n m = by (list_any (is_one p) paths)
  where
    by : (b : Bool) → All IsNormal (if b then paths else paths ++ p ∷ [])
    by true = m
    by false = All-push IsNormal paths p m n

text_with_path : (p : Path) (paths : List Path) → IsNormal p → All IsNormal paths → with_text (map path_text paths) (path_text p) ≡ map path_text (with_path paths p)
text_with_path p paths n m = ap (λ b. if b then map path_text paths else map path_text paths ++ path_text p ∷ []) (sym (any_path p paths n m)) ∙ by (list_any (is_one p) paths)
  where
    by : (b : Bool) → (if b then map path_text paths else map path_text paths ++ path_text p ∷ []) ≡ map path_text (if b then paths else paths ++ p ∷ [])
    by true = refl
    by false = sym (map-append path_text paths (p ∷ []))

pub texts_with_path : (ks more : List Name) (k : Name) (p : Path) (paths now : List Path) → IsNormal p → AreTexts (names ks) paths → k.now ≡ path_text p → more ≡ insert_key (λ a b. bytes_eq a.now b.now) ks k → now ≡ with_path paths p → AreTexts (names more) now
texts_with_path ks more k p paths now n tied is inserted left = subst (AreTexts (names more)) (sym left) (record {
  same =
      ap names inserted ∙ names_inserted ks k ∙ ap (λ ts. with_text ts k.now) tied.same ∙ ap (with_text (map path_text paths)) is
      ∙ text_with_path p paths n tied.normal;
  normal = normal_with_path p paths n tied.normal;
})

pub once_more : (paths : List Path) (i : ℕ) (p : Path) (once now : List Path) → i < length paths → p ≡ get_or paths i p → once ≡ each_once (take i paths) → now ≡ with_path once p → now ≡ each_once (take (i + 1) paths)
once_more paths i p once now l is so_far next =
    next ∙ ap (λ o. with_path o p) so_far ∙ ap (with_path (each_once (take i paths))) is ∙ sym (fold_more with_path [] paths i p l)
