-- Folders that are made on the way to a path.
--     Grows t u q          what stands at a path stays, or a folder stands where nothing did
--     folders_grow, folders_files, folders_roads     what making folders leaves
--     folders_made         where no file stands in the way, folders lead to the path
--     put_law              a file put at a path, with the folders above it
use Rattle.std.proofs.Common.{◌≡◌, ◌≢◌, ℕ, Bool, true, false, cond, List, [], ◌∷◌, ◌++◌, length, drop, refl, sym, ap, subst, ◌∙◌, ◌⊎◌, inl, inr, arith, append_assoc, append-nil, Option, Some, None, is_some, IsSome}
use Rattle.std.specs.FinMap.{get, insert}
use Rattle.std.proofs.lemmas.Bool.{false≢true, or_left, or_right}
use Rattle.dvc_base.specs.Path.{Path, under, overlap, is_within}
use Rattle.dvc_base.proofs.PathLemmas.{under-split, under-append, under-refl, under-trans, under-length}
use Rattle.world_api.specs.Tree.{Tree, Item, folder, file, item_at}
use Rattle.world_api.specs.Calls.{parent}
use Rattle.world_api.proofs.TreeLemmas.{path_cases, get_put_same, get_put_other, item_put_same, item_put_other}
use Rattle.repro_laws.specs.Anew.{with_item, with_folder, with_folders, is_file}
use Rattle.repro_laws.proofs.RoadLemmas.{is_within_parts, under_parent}
use Rattle.repro_laws.proofs.FileLemmas.{only_file, file_at, Roads, none_of}

-- ---- what grows

-- what stands at a path stays, or a folder stands where nothing did
abbrev pub Grows : Tree → Tree → Path → Type 0
Grows t u q = (item_at u q ≡ item_at t q) ⊎ ((item_at t q ≡ None) × (item_at u q ≡ Some folder))

pub some_none : (i : Item) → Some i ≡ None → ⊥
some_none i e = cc

pub grows_then : (t u v : Tree) (q : Path) → Grows t u q → Grows u v q → Grows t v q
grows_then t u v q (inl a) (inl b) = inl (b ∙ a)
grows_then t u v q (inl a) (inr b) = inr (sym a ∙ b.0, b.1)
grows_then t u v q (inr a) (inl b) = inr (a.0, b ∙ a.1)
grows_then t u v q (inr a) (inr b) = absurd (some_none folder (sym a.1 ∙ b.0))

pub grows_some : (t u : Tree) (q : Path) (i : Item) → Grows t u q → item_at t q ≡ Some i → item_at u q ≡ Some i
grows_some t u q i (inl a) e = a ∙ e
grows_some t u q i (inr a) e = absurd (some_none i (sym e ∙ a.0))

missing_not_root : (t : Tree) (p : Path) → item_at t p ≡ None → p ≢ []
missing_not_root t p e s = some_none folder (sym (ap (item_at t) s) ∙ e)

pub missing_file : (t : Tree) (p : Path) → item_at t p ≡ None → file_at t p ≡ None
missing_file t [] e = absurd (some_none folder e)
missing_file t (c ∷ p) e = ap only_file e

-- ---- a folder

item_grows : (o : Option Item) (t : Tree) (p q : Path) → item_at t p ≡ o → Grows t (with_item o t p) q
item_grows (Some i) t p q e = inl refl
item_grows None t p q e =
    elim (path_cases q p) [
      | inl same ↦ inr (ap (item_at t) same ∙ e, ap (item_at (insert t p folder)) same ∙ item_put_same t p folder (missing_not_root t p e))
      | inr other ↦ inl (item_put_other t p folder q other)
    ]

item_files : (o : Option Item) (t : Tree) (p q : Path) → item_at t p ≡ o → file_at (with_item o t p) q ≡ file_at t q
item_files (Some i) t p q e = refl
item_files None t p q e =
    elim (path_cases q p) [
      | inl same ↦
          ap only_file (ap (get (insert t p folder)) same ∙ get_put_same t p folder) ∙ sym (ap (file_at t) same ∙ missing_file t p e)
      | inr other ↦ ap only_file (get_put_other t p folder q other)
    ]

folder_here : (o : Option Item) (t : Tree) (p : Path) → item_at t p ≡ o → is_file o ≡ false → item_at (with_item o t p) p ≡ Some folder
folder_here None t p e h = item_put_same t p folder (missing_not_root t p e)
folder_here (Some folder) t p e h = e
folder_here (Some (file bytes)) t p e h = absurd (false≢true (sym h))

pub folder_grows : (t : Tree) (p q : Path) → Grows t (with_folder t p) q
folder_grows t p q = item_grows (item_at t p) t p q refl

-- ---- folders on a way

unless_grows : (b : Bool) (t u : Tree) (q : Path) → Grows t u q → Grows t (cond b t u) q
unless_grows true t u q h = inl refl
unless_grows false t u q h = h

pub folders_grow : (p above : Path) (t : Tree) (q : Path) → Grows t (with_folders t above p) q
folders_grow [] above t q = folder_grows t above q
folders_grow (c ∷ p) above t q =
    let next = with_folder t above in
    let last = with_folders next (above ++ c ∷ []) p in
    unless_grows (is_file (item_at t above)) t last q (grows_then t next last q (folder_grows t above q) (folders_grow p (above ++ c ∷ []) next q))

unless_files : (b : Bool) (t u : Tree) (q : Path) → file_at u q ≡ file_at t q → file_at (cond b t u) q ≡ file_at t q
unless_files true t u q h = refl
unless_files false t u q h = h

pub folders_files : (p above : Path) (t : Tree) (q : Path) → file_at (with_folders t above p) q ≡ file_at t q
folders_files [] above t q = item_files (item_at t above) t above q refl
folders_files (c ∷ p) above t q =
    let next = with_folder t above in
    let last = with_folders next (above ++ c ∷ []) p in
    unless_files (is_file (item_at t above)) t last q (folders_files p (above ++ c ∷ []) next q ∙ item_files (item_at t above) t above q refl)

pub folders_roads : (p above : Path) (t : Tree) → Roads t → Roads (with_folders t above p)
folders_roads p above t roads a b some w =
    grows_some t (with_folders t above p) a folder (folders_grow p above t a) (roads a b (ap is_some (sym (folders_files p above t b)) ∙ some) w)

-- no file stands at the path, or above it
abbrev pub IsClear : Tree → Path → Type 0
IsClear t p = (x : Path) → under x p ≡ true → is_file (item_at t x) ≡ false

grown_clear : (t u : Tree) (x : Path) → Grows t u x → is_file (item_at t x) ≡ false → is_file (item_at u x) ≡ false
grown_clear t u x (inl a) h = ap is_file a ∙ h
grown_clear t u x (inr a) h = ap is_file a.1

made_on : (a b above : Path) (t : Tree) (q : Path) → q ≡ above ++ a → IsClear t q → item_at (with_folders t above (a ++ b)) q ≡ Some folder
made_on [] [] above t q cut clear =
    let here : q ≡ above = cut ∙ append-nil above in
    ap (item_at (with_folder t above)) here ∙ folder_here (item_at t above) t above refl (clear above (subst (λ (x : Path). under above x ≡ true) (sym here) (under-refl above)))
made_on [] (c ∷ b) above t q cut clear =
    let here : q ≡ above = cut ∙ append-nil above in
    let next = with_folder t above in
    let last = with_folders next (above ++ c ∷ []) b in
    let free : is_file (item_at t above) ≡ false = clear above (subst (λ (x : Path). under above x ≡ true) (sym here) (under-refl above)) in
    ap (λ x. item_at (cond x t last) q) free ∙ grows_some next last q folder (folders_grow b (above ++ c ∷ []) next q) (ap (item_at next) here ∙ folder_here (item_at t above) t above refl free)
made_on (c ∷ a) b above t q cut clear =
    let next = with_folder t above in
    let last = with_folders next (above ++ c ∷ []) (a ++ b) in
    let free : is_file (item_at t above) ≡ false =
    clear above (subst (λ (x : Path). under above x ≡ true) (sym cut) (under-append above (c ∷ a))) in
    ap (λ x. item_at (cond x t last) q) free ∙ made_on a b (above ++ c ∷ []) next q (cut ∙ sym (append_assoc above (c ∷ []) a)) (λ x u. grown_clear t next x (folder_grows t above x) (clear x u))

-- where no file stands in the way, folders lead to the path
pub folders_made : (t : Tree) (p q : Path) → under q p ≡ true → IsClear t q → item_at (with_folders t [] p) q ≡ Some folder
folders_made t p q u clear =
    ap (λ (x : Path). item_at (with_folders t [] x) q) (under-split q p u) ∙ made_on q (drop (length q) p) [] t q refl clear

-- ---- a file

pub record IsPut (t : Tree) (at : Path) (bytes : List ℕ) (u : Tree) : Type 0 where
  pub here : get u at ≡ Some (file bytes)
  pub files : (q : Path) → q ≢ at → file_at u q ≡ file_at t q
  pub grows : (q : Path) → q ≢ at → Grows t u q
  pub made : (q : Path) → is_within at q ≡ true → item_at u q ≡ Some folder
  pub roads : Roads u

no_file : (o : Option Item) → only_file o ≡ None → is_file o ≡ false
no_file None e = refl
no_file (Some folder) e = refl
no_file (Some (file bytes)) e = absurd (cc)

pub clear_item : (t : Tree) (x : Path) → file_at t x ≡ None → is_file (item_at t x) ≡ false
clear_item t [] e = refl
clear_item t (c ∷ x) e = no_file (get t (c ∷ x)) e

-- a file above a path, below it or at it stands just at it
abbrev pub IsAlone : Tree → Path → Type 0
IsAlone t at = (q : Path) → IsSome (file_at t q) → overlap q at ≡ true → q ≡ at

below_not : (at q : Path) → is_within at q ≡ true → q ≢ at
below_not at q w e =
    let up = is_within_parts at q w in
    absurd (omega (arith, ap length e))

pub clear_above : (t : Tree) (at q : Path) → IsAlone t at → is_within at q ≡ true → IsClear t q
clear_above t at q alone w x u =
    let up = is_within_parts at q w in
    clear_item t x (none_of (file_at t x) (λ some. let same = alone x some (or_left (under x at) (under at x) (under-trans x q at u up.0)) in let l = under-length x q u in absurd (omega (arith, ap length same))))

roads_put : (t u : Tree) (at p q : Path) → IsAlone t at → Roads t → ((x : Path) → x ≢ at → file_at u x ≡ file_at t x) → ((x : Path) → x ≢ at → Grows t u x) → ((x : Path) → is_within at x ≡ true → item_at u x ≡ Some folder) → IsSome (file_at u q) → is_within q p ≡ true → (q ≡ at) ⊎ (q ≢ at) → item_at u p ≡ Some folder
roads_put t u at p q alone roads files grows made some w (inl same) =
    made p (subst (λ (x : Path). is_within x p ≡ true) same w)
roads_put t u at p q alone roads files grows made some w (inr other) =
    let was : IsSome (file_at t q) = ap is_some (sym (files q other)) ∙ some in
    grows_some t u p folder (grows p (λ e. other (alone q was (or_right (under q at) (under at q) (subst (λ (x : Path). under x q ≡ true) e (is_within_parts q p w).0))))) (roads p q was w)

pub put_law : (t : Tree) (above at : Path) (bytes : List ℕ) → above ≡ parent at → Roads t → IsAlone t at → IsPut t at bytes (insert (with_folders t [] above) at (file bytes))
put_law t above at bytes front roads alone =
    let next = with_folders t [] above in
    let last = insert next at (file bytes) in
    let files : (q : Path) → q ≢ at → file_at last q ≡ file_at t q =
    λ q ne. ap only_file (get_put_other next at (file bytes) q ne) ∙ folders_files above [] t q in
    let grows : (q : Path) → q ≢ at → Grows t last q =
    λ q ne. grows_then t next last q (folders_grow above [] t q) (inl (item_put_other next at (file bytes) q ne)) in
    let made : (q : Path) → is_within at q ≡ true → item_at last q ≡ Some folder =
    λ q w. item_put_other next at (file bytes) q (below_not at q w) ∙ folders_made t above q (subst (λ (x : Path). under q x ≡ true) (sym front) (under_parent q at w)) (clear_above t at q alone w) in
    record {
      here = get_put_same next at (file bytes);
      files = files;
      grows = grows;
      made = made;
      roads = λ p q some w. roads_put t last at p q alone roads files grows made some w (path_cases q at);
    }
