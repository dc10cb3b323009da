-- One name of a folder in the walk.
--     next_walk, next_refusal     the branch of the name was walked, or refused the walk
--     look_sound                  no path that is there is too long
--     found_step, found_all       the files that were found lie apart
use Rattle.std.proofs.Common.{◌≡◌, ℕ, suc, zero, ◌+◌, ◌<◌, ◌≤◌, Bool, true, false, not, ◌==◌, List, [], ◌∷◌, ◌++◌, length, drop, map, take, get_or, refl, sym, ap, ◌∙◌, subst, inl, inr, arith, append_assoc, Some, None}
use Rattle.std.specs.Prelude.{IsSome, is_some}
use Rattle.std.specs.List.{AllByRecursion, list_any, flat_map}
use Rattle.std.specs.Ordering.{nat_cmp, is_eq}
use Rattle.std.specs.declared.cmp.Ordering.TheVariants.{Less}
use Rattle.std.specs.Cmp.{tied_itself}
use Rattle.std.specs.Cmp.Lexicographic.{slice_cmp}
use Rattle.std.specs.FinMap.{entries, get}
use Rattle.std.proofs.lemmas.Bool.{false≢true, and_parts, and_from, or_left, or_right, or_cases, or_from, false_from_ne_true, ne_eqb}
use Rattle.std.proofs.lemmas.List.{append-nil, length-append, take_more, drop_more, take-append-drop, flat_map_more, map-append, take_all}
use Rattle.std.proofs.lemmas.Grind.{flat_map-append}
use Rattle.dvc_base.specs.Path.{Path, joined, under, overlap}
use Rattle.dvc_base.specs.declared.limits.What.{What}
use Rattle.dvc_base.proofs.PathLemmas.{under-trans, under-append, under-refl}
use Rattle.world_api.specs.Tree.{Tree, Item, folder, file, item_at, IsTree, names_in, path_cmp}
use Rattle.world_api.specs.Calls.{are_apart, is_apart, are_rising}
use Rattle.world_api.proofs.TreeLemmas.{path_cmp-total}
use Rattle.file_bytes.specs.Reading.{IsTold}
use Rattle.file_hash.specs.Naming.{file_limit}
use Rattle.file_hash.specs.Walk.{below, walk_limit, Walks, IsRefusal, IsAdded, IsAddFault, IsLook, path_in, Finds, FindsAmong}
use Rattle.file_hash.specs.declared.walk.Found.{Found}
use Rattle.file_hash.specs.declared.walk.Met.{Met}
use Rattle.file_hash.specs.declared.fault.HashFault.{HashFault}
use Rattle.file_hash.specs.declared.fault.HashFault.TheVariants.{Missing, Changed, TooLarge, Failed, NoMemory}
use Rattle.file_hash.proofs.TreeOrder.{Entry, branch, branches, below_names, branch_is, below_file, names_there, before_under, rising_all, item_at_push}
use Rattle.file_hash.proofs.WalkLemmas.{next_limit, walks_then, walks_file, walks_folder, limit_file, limit_more}

-- ---- lists

pub all_at : {A : Type 0} (P : A → Type 0) (xs : List A) (i : ℕ) (x : A) → i < length xs → x ≡ get_or xs i x → AllByRecursion P xs → P x
all_at P [] i x l e h = absurd (omega arith)
all_at P (y ∷ ys) zero x l e h = subst P (sym e) h.0
all_at P (y ∷ ys) (suc i) x l e h = all_at P ys i x (omega arith) e h.1

less_before : (names : List (List ℕ)) (i : ℕ) (name : List ℕ) → are_rising names ≡ true → i < length names → name ≡ get_or names i name → AllByRecursion (λ c. slice_cmp nat_cmp c name ≡ Less) (take i names)
less_before [] i name r l e = absurd (omega arith)
less_before (c ∷ cs) zero name r l e = tt
less_before (c ∷ cs) (suc i) name r l e =
    let parts = rising_all c cs r in
    (all_at (λ d. slice_cmp nat_cmp c d ≡ Less) cs i name (omega arith) e parts.0, less_before cs i name parts.1 (omega arith) e)

-- ---- a tree that is told

-- what is known of a name in a folder of the tree
pub record AtName (t : Tree) (at inner : Path) (names : List (List ℕ)) (i : ℕ) (name : List ℕ) : Type 0 where
  pub tree : IsTree t
  pub names_are : names ≡ names_in t (at ++ inner)
  pub rising : are_rising names ≡ true
  pub within : i < length names
  pub is : name ≡ get_or names i name

pub at_name : (t : Tree) (at inner : Path) (items names : List (List ℕ)) (i : ℕ) (name : List ℕ) → IsTree t → items ≡ names → names ≡ names_in t (at ++ inner) → are_rising names ≡ true → i < length items → name ≡ get_or items i name → AtName t at inner items i name
at_name t at inner items names i name tree same told rising l is =
    record { tree = tree; names_are = same ∙ told; rising = ap are_rising same ∙ rising; within = l; is = is }

module _ (t : Tree) (at inner : Path) (names : List (List ℕ)) (i : ℕ) (name : List ℕ) (h : AtName t at inner names i name) where
  there : IsSome (get t ((at ++ inner) ++ name ∷ []))
  there =
      all_at (λ c. IsSome (get t ((at ++ inner) ++ c ∷ []))) names i name h.within h.is
      (subst (AllByRecursion (λ c. IsSome (get t ((at ++ inner) ++ c ∷ [])))) (sym h.names_are) (names_there t (at ++ inner)))

  place : at ++ (inner ++ name ∷ []) ≡ (at ++ inner) ++ name ∷ []
  place = sym (append_assoc at inner (name ∷ []))

  short : length (joined ((at ++ inner) ++ name ∷ [])) ≤ 1024
  short = (h.tree.paths ((at ++ inner) ++ name ∷ []) there).short

  pub look_sound : (why : HashFault) → IsLook (at ++ (inner ++ name ∷ [])) why → (what : What) (limit : ℕ) → why ≡ TooLarge what limit → ⊥
  look_sound why (inl f) what limit e = absurd (cc)
  look_sound why (inr (inl f)) what limit e = absurd (cc)
  look_sound why (inr (inr f)) what limit e = omega (arith, f.1, ap (λ (q : Path). length (joined q)) place, short)

  pub next_walk : (m0 m n : Met) → Walks at (branches (at ++ inner) (entries t) (take i names)) m0 m → Walks at (branch (at ++ inner) (entries t) name) m n → Walks at (branches (at ++ inner) (entries t) (take (i + 1) names)) m0 n
  next_walk m0 m n a b =
      let f = branch (at ++ inner) (entries t) in
      let grown : flat_map f (take (i + 1) names) ≡ flat_map f (take i names) ++ f name =
      ap (flat_map f) (take_more names i name h.within ∙ ap (λ x. take i names ++ x ∷ []) (sym h.is)) ∙ sym (flat_map_more f [] (take i names) name) in
      subst (λ es. Walks at es m0 n) (sym grown) (walks_then at (flat_map f (take i names)) (f name) m0 m n a b)

  cut : below (at ++ inner) (entries t) ≡ branches (at ++ inner) (entries t) (take i names) ++ (branch (at ++ inner) (entries t) name ++ branches (at ++ inner) (entries t) (drop (i + 1) names))
  cut =
      let f = branch (at ++ inner) (entries t) in
      below_names t (at ++ inner) h.tree (subst (λ ns. are_rising ns ≡ true) h.names_are h.rising)
      ∙ ap (flat_map f) (sym h.names_are ∙ sym (take-append-drop i names) ∙ ap (λ x. take i names ++ x) (drop_more names i name h.within ∙ ap (λ x. x ∷ drop (i + 1) names) (sym h.is)))
      ∙ flat_map-append f (take i names) (name ∷ drop (i + 1) names)

  pub next_refusal : (m0 m : Met) (what : What) → Walks at (branches (at ++ inner) (entries t) (take i names)) m0 m → walk_limit (length m.found) m.size (branch (at ++ inner) (entries t) name) ≡ Some what → walk_limit (length m0.found) m0.size (below (at ++ inner) (entries t)) ≡ Some what
  next_refusal m0 m what a e =
      let f = branch (at ++ inner) (entries t) in
      let rest = flat_map f (drop (i + 1) names) in
      ap (walk_limit (length m0.found) m0.size) cut ∙ next_limit at (flat_map f (take i names)) (f name ++ rest) m0 m a
      ∙ limit_more (length m.found) m.size (f name) rest what e

  got : (item : Item) → item_at t (at ++ (inner ++ name ∷ [])) ≡ Some item → get t ((at ++ inner) ++ name ∷ []) ≡ Some item
  got item e = sym (item_at_push t (at ++ inner) name) ∙ ap (item_at t) (sym place) ∙ e

  pub not_missing : item_at t (at ++ (inner ++ name ∷ [])) ≡ None → ⊥
  not_missing e = false≢true (ap is_some (sym e ∙ ap (item_at t) place ∙ item_at_push t (at ++ inner) name) ∙ there)

  file_branch : (bytes : List ℕ) → item_at t (at ++ (inner ++ name ∷ [])) ≡ Some (file bytes) → branch (at ++ inner) (entries t) name ≡ ((at ++ inner) ++ name ∷ [], file bytes) ∷ []
  file_branch bytes e =
      let q = (at ++ inner) ++ name ∷ [] in
      branch_is t q (file bytes) (got (file bytes) e) ∙ ap (λ x. (q, file bytes) ∷ x) (below_file t h.tree q bytes (ap (item_at t) (sym place) ∙ e))

  relative : drop (length at) ((at ++ inner) ++ name ∷ []) ≡ inner ++ name ∷ []
  relative = ap (drop (length at)) (sym place) ∙ drop_front at (inner ++ name ∷ [])
    where
      drop_front : (xs ys : Path) → drop (length xs) (xs ++ ys) ≡ ys
      drop_front [] ys = refl
      drop_front (x ∷ xs) ys = drop_front xs ys

  pub file_walk : (path : Path) (size : ℕ) (m n : Met) → path ≡ inner ++ name ∷ [] → IsTold (item_at t (at ++ (inner ++ name ∷ []))) size → IsAdded m path size n → Walks at (branch (at ++ inner) (entries t) name) m n
  file_walk path size m n is (bytes, (e, sized)) added =
      subst (λ es. Walks at es m n) (sym (file_branch bytes e)) (walks_file at path ((at ++ inner) ++ name ∷ []) bytes size m n (relative ∙ sym is) sized added)

  pub file_refusal : (size : ℕ) (m : Met) (what : What) → IsTold (item_at t (at ++ (inner ++ name ∷ []))) size → file_limit (length m.found) m.size size ≡ Some what → walk_limit (length m.found) m.size (branch (at ++ inner) (entries t) name) ≡ Some what
  file_refusal size m what (bytes, (e, sized)) limit =
      ap (walk_limit (length m.found) m.size) (file_branch bytes e) ∙ limit_file (length m.found) m.size ((at ++ inner) ++ name ∷ []) bytes size [] what sized limit

  folder_branch : item_at t (at ++ (inner ++ name ∷ [])) ≡ Some folder → (path : Path) → path ≡ inner ++ name ∷ [] → branch (at ++ inner) (entries t) name ≡ ((at ++ inner) ++ name ∷ [], folder) ∷ below (at ++ path) (entries t)
  folder_branch e path is =
      let q = (at ++ inner) ++ name ∷ [] in
      branch_is t q folder (got folder e) ∙ ap (λ x. (q, folder) ∷ below x (entries t)) (sym place ∙ ap (λ x. at ++ x) (sym is))

  pub folder_walk : (path : Path) (m n : Met) → path ≡ inner ++ name ∷ [] → item_at t (at ++ (inner ++ name ∷ [])) ≡ Some folder → Walks at (below (at ++ path) (entries t)) m n → Walks at (branch (at ++ inner) (entries t) name) m n
  folder_walk path m n is e walked =
      subst (λ es. Walks at es m n) (sym (folder_branch e path is)) (walks_folder at ((at ++ inner) ++ name ∷ []) (below (at ++ path) (entries t)) m n walked)

  pub folder_refusal : (path : Path) (m : Met) (what : What) → path ≡ inner ++ name ∷ [] → item_at t (at ++ (inner ++ name ∷ [])) ≡ Some folder → walk_limit (length m.found) m.size (below (at ++ path) (entries t)) ≡ Some what → walk_limit (length m.found) m.size (branch (at ++ inner) (entries t) name) ≡ Some what
  folder_refusal path m what is e limit =
      ap (walk_limit (length m.found) m.size) (folder_branch e path is) ∙ limit

-- by the fault that came
pub look_refusal : (m0 : Met) (es : List Entry) (why : HashFault) → ((what : What) (limit : ℕ) → why ≡ TooLarge what limit → ⊥) → IsRefusal m0 es why
look_refusal m0 es (TooLarge what limit) f = absurd (f what limit refl)
look_refusal m0 es Missing f = tt
look_refusal m0 es (Changed path told found) f = tt
look_refusal m0 es Failed f = tt
look_refusal m0 es NoMemory f = tt

pub add_refusal : (m0 m : Met) (size : ℕ) (es : List Entry) (why : HashFault) → ((what : What) → file_limit (length m.found) m.size size ≡ Some what → walk_limit (length m0.found) m0.size es ≡ Some what) → IsAddFault m size why → IsRefusal m0 es why
add_refusal m0 m size es (TooLarge what limit) f h = f what h.0
add_refusal m0 m size es Missing f h = tt
add_refusal m0 m size es (Changed path told found) f h = tt
add_refusal m0 m size es Failed f h = tt
add_refusal m0 m size es NoMemory f h = tt

pub walk_refusal : (m0 m : Met) (es fs : List Entry) (why : HashFault) → ((what : What) → walk_limit (length m.found) m.size fs ≡ Some what → walk_limit (length m0.found) m0.size es ≡ Some what) → IsRefusal m fs why → IsRefusal m0 es why
walk_refusal m0 m es fs (TooLarge what limit) f h = f what h
walk_refusal m0 m es fs Missing f h = tt
walk_refusal m0 m es fs (Changed path told found) f h = tt
walk_refusal m0 m es fs Failed f h = tt
walk_refusal m0 m es fs NoMemory f h = tt

-- ---- the files lie apart, over any world

not_itself : (x : Path) → path_cmp x x ≡ Less → ⊥
not_itself x e = false≢true (sym (ap is_eq e) ∙ ap is_eq (tied_itself path_cmp-total x))

apart_names : (inner x y : Path) (c d : List ℕ) → slice_cmp nat_cmp c d ≡ Less → under (inner ++ c ∷ []) x ≡ true → under (inner ++ d ∷ []) y ≡ true → overlap x y ≡ false
apart_names inner x y c d less a b =
    or_from (under x y) (under y x)
    (false_from_ne_true (under x y) (λ u. not_itself y (before_under inner c d y y less (under-trans (inner ++ c ∷ []) x y a u) b)))
    (false_from_ne_true (under y x) (λ u. not_itself x (before_under inner c d x x less a (under-trans (inner ++ d ∷ []) y x b u))))

apart_among : (inner x y : Path) (cs : List (List ℕ)) (d : List ℕ) → AllByRecursion (λ c. slice_cmp nat_cmp c d ≡ Less) cs → list_any (λ c. under (inner ++ c ∷ []) x) cs ≡ true → under (inner ++ d ∷ []) y ≡ true → overlap x y ≡ false
apart_among inner x y [] d less a b = absurd (false≢true a)
apart_among inner x y (c ∷ cs) d less a b =
    elim (or_cases (under (inner ++ c ∷ []) x) (list_any (λ c. under (inner ++ c ∷ []) x) cs) a) [
      | inl u ↦ apart_names inner x y c d less.0 u b
      | inr more ↦ apart_among inner x y cs d less.1 more b
    ]

apart_one : (x : Path) (ps qs : List Path) → is_apart x ps ≡ true → AllByRecursion (λ q. overlap x q ≡ false) qs → is_apart x (ps ++ qs) ≡ true
apart_one x [] [] a h = a
apart_one x [] (q ∷ qs) a h = and_from (not (overlap x q)) (is_apart x qs) (ap not h.0) (apart_one x [] qs a h.1)
apart_one x (p ∷ ps) qs a h =
    let parts = and_parts (not (overlap x p)) (is_apart x ps) a in
    and_from (not (overlap x p)) (is_apart x (ps ++ qs)) parts.0 (apart_one x ps qs parts.1 h)

pub apart_append : (ps qs : List Path) → are_apart ps ≡ true → are_apart qs ≡ true → AllByRecursion (λ p. AllByRecursion (λ q. overlap p q ≡ false) qs) ps → are_apart (ps ++ qs) ≡ true
apart_append [] qs a b h = b
apart_append (p ∷ ps) qs a b h =
    let parts = and_parts (is_apart p ps) (are_apart ps) a in
    and_from (is_apart p (ps ++ qs)) (are_apart (ps ++ qs)) (apart_one p ps qs parts.0 h.0) (apart_append ps qs parts.1 b h.1)

every : {A B : Type 0} (f : A → B) (P : A → Type 0) (Q : B → Type 0) (xs : List A) → ((x : A) → P x → Q (f x)) → AllByRecursion P xs → AllByRecursion Q (map f xs)
every f P Q [] g h = tt
every f P Q (x ∷ xs) g h = (g x h.0, every f P Q xs g h.1)

all_more : {A : Type 0} (P Q : A → Type 0) (xs : List A) → ((x : A) → P x → Q x) → AllByRecursion P xs → AllByRecursion Q xs
all_more P Q [] g h = tt
all_more P Q (x ∷ xs) g h = (g x h.0, all_more P Q xs g h.1)

all_both : {A : Type 0} (P : A → Type 0) (xs ys : List A) → AllByRecursion P xs → AllByRecursion P ys → AllByRecursion P (xs ++ ys)
all_both P [] ys a b = b
all_both P (x ∷ xs) ys a b = (a.0, all_both P xs ys a.1 b)

any_more : {A : Type 0} (p : A → Bool) (xs ys : List A) → list_any p xs ≡ true → list_any p (xs ++ ys) ≡ true
any_more p [] ys h = absurd (false≢true h)
any_more p (x ∷ xs) ys h =
    elim (or_cases (p x) (list_any p xs) h) [
      | inl e ↦ or_left (p x) (list_any p (xs ++ ys)) e
      | inr e ↦ or_right (p x) (list_any p (xs ++ ys)) (any_more p xs ys e)
    ]

any_last : {A : Type 0} (p : A → Bool) (xs : List A) (x : A) → p x ≡ true → list_any p (xs ++ x ∷ []) ≡ true
any_last p [] x h = or_left (p x) false h
any_last p (y ∷ xs) x h = or_right (p y) (list_any p (xs ++ x ∷ [])) (any_last p xs x h)

-- what was found below one name more
pub found_step : (inner : Path) (names : List (List ℕ)) (i : ℕ) (name : List ℕ) (m0 m n : Met) (new : List Found) → are_rising names ≡ true → i < length names → name ≡ get_or names i name → FindsAmong inner (take i names) m0 m → n.found ≡ m.found ++ new → AllByRecursion (λ f. under (inner ++ name ∷ []) f.path ≡ true) new → are_apart (map path_in new) ≡ true → FindsAmong inner (take (i + 1) names) m0 n
found_step inner names i name m0 m n new rising l is h grown inside apart =
    let less = less_before names i name rising l is in
    let longer : take (i + 1) names ≡ take i names ++ name ∷ [] = take_more names i name l ∙ ap (λ x. take i names ++ x ∷ []) (sym is) in
    let old = all_more (λ f. list_any (λ c. under (inner ++ c ∷ []) f.path) (take i names) ≡ true) (λ f. list_any (λ c. under (inner ++ c ∷ []) f.path) (take i names ++ name ∷ []) ≡ true) h.more (λ f u. any_more (λ c. under (inner ++ c ∷ []) f.path) (take i names) (name ∷ []) u) h.inside in
    let fresh = all_more (λ f. under (inner ++ name ∷ []) f.path ≡ true) (λ f. list_any (λ c. under (inner ++ c ∷ []) f.path) (take i names ++ name ∷ []) ≡ true) new (λ f u. any_last (λ c. under (inner ++ c ∷ []) f.path) (take i names) name u) inside in
    subst (λ ns. FindsAmong inner ns m0 n) (sym longer) (record {
      more = h.more ++ new;
      grown = grown ∙ ap (λ x. x ++ new) h.grown ∙ append_assoc m0.found h.more new;
      inside = all_both (λ f. list_any (λ c. under (inner ++ c ∷ []) f.path) (take i names ++ name ∷ []) ≡ true) h.more new old fresh;
      apart =
          ap are_apart (map-append path_in h.more new)
          ∙ apart_append (map path_in h.more) (map path_in new) h.apart apart (every path_in (λ f. list_any (λ c. under (inner ++ c ∷ []) f.path) (take i names) ≡ true) (λ p. AllByRecursion (λ q. overlap p q ≡ false) (map path_in new)) h.more (λ f u. every path_in (λ g. under (inner ++ name ∷ []) g.path ≡ true) (λ q. overlap f.path q ≡ false) new (λ g v. apart_among inner f.path g.path (take i names) name less u v) inside) h.inside);
    })

pub found_none : (inner : Path) (m : Met) → FindsAmong inner [] m m
found_none inner m = record { more = []; grown = sym (append-nil m.found); inside = tt; apart = refl }

under_any : (inner x : Path) (cs : List (List ℕ)) → list_any (λ c. under (inner ++ c ∷ []) x) cs ≡ true → under inner x ≡ true
under_any inner x [] h = absurd (false≢true h)
under_any inner x (c ∷ cs) h =
    elim (or_cases (under (inner ++ c ∷ []) x) (list_any (λ c. under (inner ++ c ∷ []) x) cs) h) [
      | inl u ↦ under-trans inner (inner ++ c ∷ []) x (under-append inner (c ∷ [])) u
      | inr more ↦ under_any inner x cs more
    ]

pub found_all : (inner : Path) (names : List (List ℕ)) (m n : Met) → FindsAmong inner names m n → Finds inner m n
found_all inner names m n h =
    record {
      more = h.more;
      grown = h.grown;
      inside = all_more (λ f. list_any (λ c. under (inner ++ c ∷ []) f.path) names ≡ true) (λ f. under inner f.path ≡ true) h.more (λ f u. under_any inner f.path names u) h.inside;
      apart = h.apart;
    }

pub rising_items : (items names : List (List ℕ)) → items ≡ names → are_rising names ≡ true → are_rising items ≡ true
rising_items items names same rising = ap are_rising same ∙ rising

-- one file
pub apart_file : (f : Found) → 0 < length f.path → are_apart (map path_in (f ∷ [])) ≡ true
apart_file f some = and_from (not (length f.path == 0)) true (ap not (ne_eqb (length f.path) 0 (omega arith))) refl

abbrev pub AllUnder : Path → List Found → Type 0
AllUnder p fs = AllByRecursion (λ f. under p f.path ≡ true) fs

pub file_apart : (inner : Path) (name : List ℕ) (path : Path) (size : ℕ) → path ≡ inner ++ name ∷ [] → AllUnder (inner ++ name ∷ []) (record { path = path; size = size } ∷ []) × (are_apart (map path_in (record { path = path; size = size } ∷ [])) ≡ true)
file_apart inner name path size is = (
  (ap (under (inner ++ name ∷ [])) is ∙ under-refl (inner ++ name ∷ []), tt),
  apart_file (record { path = path; size = size }) (omega (arith, ap length is, length-append inner (name ∷ []))),
)

-- all names have been walked
pub walked_all : (t : Tree) (at inner : Path) (items names : List (List ℕ)) (i : ℕ) (m0 m : Met) → IsTree t → items ≡ names → names ≡ names_in t (at ++ inner) → are_rising names ≡ true → length items ≤ i → Walks at (branches (at ++ inner) (entries t) (take i items)) m0 m → Walks at (below (at ++ inner) (entries t)) m0 m
walked_all t at inner items names i m0 m tree same told rising l walked =
    let p = at ++ inner in
    subst (λ es. Walks at es m0 m) (ap (branches p (entries t)) (take_all i items l ∙ same ∙ told) ∙ sym (below_names t p tree (subst (λ ns. are_rising ns ≡ true) told rising))) walked
