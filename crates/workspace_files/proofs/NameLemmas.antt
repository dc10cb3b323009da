-- One name of a folder in the walk.
--     short_path                no path that is there is too long
--     next_walk, next_passes    the branch of the name was walked, or passes the limit
--     visit_closed, visit_open  what a visit has met, with what lies below it
--     visit_refusal, open_refusal   it is refused, or what lies below it is
--     walked_all, below_root    all names have been walked; what lies below the root is the whole tree
use Rattle.std.proofs.Common.{◌≡◌, ℕ, suc, zero, ◌+◌, ◌<◌, ◌≤◌, true, cond, List, [], ◌∷◌, ◌++◌, length, drop, take, get_or, refl, sym, ap, ◌∙◌, subst, arith, Option, Some, None}
use Rattle.std.specs.Prelude.{IsSome, is_some}
use Rattle.std.specs.List.{AllByRecursion, flat_map}
use Rattle.std.specs.FinMap.{entries, get, get-entries}
use Rattle.std.specs.FinMap.Entries.{find}
use Rattle.std.proofs.lemmas.Bool.{false≢true, lt-ltb}
use Rattle.std.proofs.lemmas.List.{take_more, drop_more, take-append-drop, flat_map_more, take_all}
use Rattle.std.proofs.lemmas.Grind.{flat_map-append}
use Rattle.dvc_base.specs.Path.{Path}
use Rattle.world_api.specs.Tree.{Tree, Item, folder, file, item_at, IsTree, names_in, path_cmp}
use Rattle.world_api.specs.Calls.{are_rising}
use Rattle.file_hash.specs.Walk.{below}
use Rattle.workspace_files.proofs.TreeOrder.{Entry, branch, branches, below_names, branch_is, below_file, names_there, item_at_push, found_each, tree_rises}
use Rattle.workspace_files.specs.Met.{Walks, Passes, IsRefusal, IsNext, IsVisit, IsVisitFault, IsLong, entry_at}
use Rattle.workspace_files.specs.declared.walk.Met.{Met}
use Rattle.workspace_files.specs.declared.walk.WalkFault.{WalkFault}
use Rattle.workspace_files.specs.declared.walk.WalkFault.TheVariants.{LongPath, ManyPaths, Failed, NoMemory}
use Rattle.workspace_files.proofs.MetLemmas.{walks_then, walks_left, passes_on, passes_more, passes_then, left_below}

-- what is known of a name in a folder of the tree
pub record AtName (t : Tree) (at : Path) (names : List (List ℕ)) (i : ℕ) (name : List ℕ) : Type 0 where
  pub tree : IsTree t
  pub names_are : names ≡ names_in t at
  pub rising : are_rising names ≡ true
  pub within : i < length names
  pub is : name ≡ get_or names i name

pub all_at : {A : Type 0} (P : A → Type 0) (xs : List A) (i : ℕ) (x : A) → i < length xs → x ≡ get_or xs i x → AllByRecursion P xs → P x
all_at P [] i x l e h = absurd (omega arith)
all_at P (y ∷ ys) zero x l e h = subst P (sym e) h.0
all_at P (y ∷ ys) (suc i) x l e h = all_at P ys i x (omega arith) e h.1

module _ (t : Tree) (at : Path) (names : List (List ℕ)) (i : ℕ) (name : List ℕ) (h : AtName t at names i name) where
  there : IsSome (get t (at ++ name ∷ []))
  there =
      all_at (λ c. IsSome (get t (at ++ c ∷ []))) names i name h.within h.is
      (subst (AllByRecursion (λ c. IsSome (get t (at ++ c ∷ [])))) (sym h.names_are) (names_there t at))

  pub short_path : IsLong (at ++ name ∷ []) → ⊥
  short_path long = omega (arith, long, (h.tree.paths (at ++ name ∷ []) there).short)

  pub not_missing : item_at t (at ++ name ∷ []) ≡ None → ⊥
  not_missing e = false≢true (ap is_some (sym e ∙ item_at_push t at name) ∙ there)

  pub next_walk : (a b c : Met) → Walks (branches at (entries t) (take i names)) a b → Walks (branch at (entries t) name) b c → Walks (branches at (entries t) (take (i + 1) names)) a c
  next_walk a b c walked more =
      let f = branch at (entries t) in
      let grown : flat_map f (take (i + 1) names) ≡ flat_map f (take i names) ++ f name =
      ap (flat_map f) (take_more names i name h.within ∙ ap (λ x. take i names ++ x ∷ []) (sym h.is)) ∙ sym (flat_map_more f [] (take i names) name) in
      subst (λ es. Walks es a c) (sym grown) (walks_then (flat_map f (take i names)) (f name) a b c walked more)

  cut : below at (entries t) ≡ branches at (entries t) (take i names) ++ (branch at (entries t) name ++ branches at (entries t) (drop (i + 1) names))
  cut =
      let f = branch at (entries t) in
      below_names t at h.tree (subst (λ ns. are_rising ns ≡ true) h.names_are h.rising)
      ∙ ap (flat_map f) (sym h.names_are ∙ sym (take-append-drop i names) ∙ ap (λ x. take i names ++ x) (drop_more names i name h.within ∙ ap (λ x. x ∷ drop (i + 1) names) (sym h.is)))
      ∙ flat_map-append f (take i names) (name ∷ drop (i + 1) names)

  pub next_passes : (a b : Met) → Walks (branches at (entries t) (take i names)) a b → Passes (branch at (entries t) name) b → Passes (below at (entries t)) a
  next_passes a b walked p =
      let f = branch at (entries t) in
      subst (λ es. Passes es a) (sym cut) (passes_on (flat_map f (take i names)) (f name) (flat_map f (drop (i + 1) names)) a b walked p)

  got : (item : Item) → item_at t (at ++ name ∷ []) ≡ Some item → get t (at ++ name ∷ []) ≡ Some item
  got item e = sym (item_at_push t at name) ∙ e

  file_branch : (bytes : List ℕ) → item_at t (at ++ name ∷ []) ≡ Some (file bytes) → branch at (entries t) name ≡ (at ++ name ∷ [], file bytes) ∷ []
  file_branch bytes e =
      let q = at ++ name ∷ [] in
      branch_is t q (file bytes) (got (file bytes) e) ∙ ap (λ x. (q, file bytes) ∷ x) (below_file t h.tree q bytes e)

  folder_branch : item_at t (at ++ name ∷ []) ≡ Some folder → branch at (entries t) name ≡ (at ++ name ∷ [], folder) ∷ below (at ++ name ∷ []) (entries t)
  folder_branch e = branch_is t (at ++ name ∷ []) folder (got folder e)

  -- the name's entry is the first of its branch, or there is none
  front : (item : Option Item) → item_at t (at ++ name ∷ []) ≡ item → (rest : List Entry) × (branch at (entries t) name ≡ entry_at (at ++ name ∷ []) item ++ rest)
  front None e = absurd (not_missing e)
  front (Some folder) e = (below (at ++ name ∷ []) (entries t), folder_branch e)
  front (Some (file bytes)) e = ([], file_branch bytes e)

  visit_passes : (a b : Met) → Walks (branches at (entries t) (take i names)) a b → Passes (entry_at (at ++ name ∷ []) (item_at t (at ++ name ∷ []))) b → Passes (below at (entries t)) a
  visit_passes a b walked p =
      let parts = front (item_at t (at ++ name ∷ [])) refl in
      next_passes a b walked (subst (λ es. Passes es b) (sym parts.1) (passes_more (entry_at (at ++ name ∷ []) (item_at t (at ++ name ∷ []))) parts.0 b p))

  -- a name that isn't walked into
  closed : (item : Option Item) (b c : Met) → item_at t (at ++ name ∷ []) ≡ item → Walks (entry_at (at ++ name ∷ []) item) b c → IsNext (at ++ name ∷ []) item None → Walks (branch at (entries t) name) b c
  closed None b c e walked next = absurd (not_missing e)
  closed (Some (file bytes)) b c e walked next = subst (λ es. Walks es b c) (sym (file_branch bytes e)) walked
  closed (Some folder) b c e walked left =
      let q = at ++ name ∷ [] in
      subst (λ es. Walks es b c) (sym (folder_branch e))
      (walks_then ((q, folder) ∷ []) (below q (entries t)) b c c walked (walks_left (below q (entries t)) c (left_below q (entries t) left) walked.within))

  pub visit_closed : (b c : Met) → IsVisit (at ++ name ∷ []) (item_at t (at ++ name ∷ [])) b c None → Walks (branch at (entries t) name) b c
  visit_closed b c v = closed (item_at t (at ++ name ∷ [])) b c refl v.walked v.next

  -- a folder that is walked into
  pub visit_open : (inner : Path) (b c d : Met) → inner ≡ at ++ name ∷ [] → IsVisit (at ++ name ∷ []) (item_at t (at ++ name ∷ [])) b c (Some inner) → Walks (below inner (entries t)) c d → Walks (branch at (entries t) name) b d
  visit_open inner b c d is v walked =
      let q = at ++ name ∷ [] in
      subst (λ es. Walks es b d) (sym (folder_branch v.next))
      (walks_then ((q, folder) ∷ []) (below q (entries t)) b c d
      (subst (λ (o : Option Item). Walks (entry_at q o) b c) v.next v.walked) (subst (λ (p : Path). Walks (below p (entries t)) c d) is walked))

  open_passes : (inner : Path) (a b c : Met) → inner ≡ at ++ name ∷ [] → Walks (branches at (entries t) (take i names)) a b → IsVisit (at ++ name ∷ []) (item_at t (at ++ name ∷ [])) b c (Some inner) → Passes (below inner (entries t)) c → Passes (below at (entries t)) a
  open_passes inner a b c is walked v p =
      let q = at ++ name ∷ [] in
      let first : Walks ((q, folder) ∷ []) b c = subst (λ (o : Option Item). Walks (entry_at q o) b c) v.next v.walked in
      next_passes a b walked (subst (λ es. Passes es b) (sym (folder_branch v.next))
      (passes_then ((q, folder) ∷ []) (below q (entries t)) b c first (subst (λ (r : Path). Passes (below r (entries t)) c) is p)))

  pub visit_refusal : (a b : Met) (why : WalkFault) → Walks (branches at (entries t) (take i names)) a b → IsVisitFault (at ++ name ∷ []) (item_at t (at ++ name ∷ [])) b why → IsRefusal (below at (entries t)) a why
  visit_refusal a b LongPath walked long = short_path long
  visit_refusal a b ManyPaths walked p = visit_passes a b walked p
  visit_refusal a b Failed walked p = tt
  visit_refusal a b NoMemory walked p = tt

  pub open_refusal : (inner : Path) (a b c : Met) (why : WalkFault) → inner ≡ at ++ name ∷ [] → Walks (branches at (entries t) (take i names)) a b → IsVisit (at ++ name ∷ []) (item_at t (at ++ name ∷ [])) b c (Some inner) → IsRefusal (below inner (entries t)) c why → IsRefusal (below at (entries t)) a why
  open_refusal inner a b c LongPath is walked v none = none
  open_refusal inner a b c ManyPaths is walked v p = open_passes inner a b c is walked v p
  open_refusal inner a b c Failed is walked v p = tt
  open_refusal inner a b c NoMemory is walked v p = tt

-- all names have been walked
pub walked_all : (t : Tree) (at : Path) (items names : List (List ℕ)) (i : ℕ) (a b : Met) → IsTree t → items ≡ names → names ≡ names_in t at → are_rising names ≡ true → length items ≤ i
    → Walks (branches at (entries t) (take i items)) a b → Walks (below at (entries t)) a b
walked_all t at items names i a b tree same told rising l walked =
    subst (λ es. Walks es a b) (ap (branches at (entries t)) (take_all i items l ∙ same ∙ told) ∙ sym (below_names t at tree (subst (λ ns. are_rising ns ≡ true) told rising))) walked

pub at_name : (t : Tree) (at : Path) (items names : List (List ℕ)) (i : ℕ) (name : List ℕ) → IsTree t → items ≡ names → names ≡ names_in t at → are_rising names ≡ true → i < length items → name ≡ get_or items i name → AtName t at items i name
at_name t at items names i name tree same told rising l is =
    record { tree = tree; names_are = same ∙ told; rising = ap are_rising same ∙ rising; within = l; is = is }

-- ---- the root

root_from : (t : Tree) → IsTree t → (es : List Entry) → AllByRecursion (λ e. find path_cmp e.0 (entries t) ≡ Some e.1) es → below [] es ≡ es
root_from t tree [] h = refl
root_from t tree (([], item) ∷ es) h = absurd (false≢true (ap is_some (sym tree.rootless ∙ get-entries t [] ∙ h.0)))
root_from t tree ((c ∷ q, item) ∷ es) h =
    ap (λ b. cond b ((c ∷ q, item) ∷ below [] es) (below [] es)) (lt-ltb 0 (length (c ∷ q)) (omega arith))
    ∙ ap (λ x. (c ∷ q, item) ∷ x) (root_from t tree es h.1)

pub below_root : (t : Tree) → IsTree t → below [] (entries t) ≡ entries t
below_root t tree = root_from t tree (entries t) (found_each (entries t) (tree_rises t))
