-- Laws of the contents that were met: the book has just these, and covers the tree where no two share an MD5.
use Rattle.std.proofs.Common.{◌≡◌, ℕ, zero, suc, Bool, true, false, cond, not, List, [], ◌∷◌, ◌++◌, length, map, ◌-◌, refl, sym, ap, subst, ◌∙◌, inl, inr, bytes_eq, Option, Some, None}
use Rattle.std.specs.Prelude.{◌⊎◌}
use Rattle.std.specs.List.{AllByRecursion, flat_map}
use Rattle.std.specs.Ordering.{eq_by_cmp}
use Rattle.std.specs.FinMap.{find, entries, insert, get-entries}
use Rattle.std.proofs.lemmas.Bool.{false≢true, not_from_true, not_from_false}
use Rattle.std.proofs.lemmas.Grind.{flat_map-append}
use Rattle.std.proofs.lemmas.Slice.Eq.{bytes_eq-Decides}
use Rattle.md5.specs.Md5.{md5}
use Rattle.dvc_base.specs.Path.{Path, under}
use Rattle.dvc_base.proofs.PathLemmas.{under-trans, under-append}
use Rattle.world_api.specs.Tree.{Tree, Item, folder, file, path_cmp, item_at, Value as Told, nothing, content, members}
use Rattle.world_api.specs.Calls.{parent}
use Rattle.world_api.specs.Effect.{Effect}
use Rattle.world_api.specs.History.{Book, Moment, History}
use Rattle.world_api.specs.Layout.{tmp_path, lane_path}
use Rattle.world_api.proofs.LaneLemmas.{lane_in_tmp}
use Rattle.world_api.proofs.TreeLemmas.{item_kept, item_gone, item_put_same, item_put_other, path_cases, cons_not_root}
use Rattle.sim_world.specs.Answer.{told}
use Rattle.sim_world.specs.Applied.{tree_changed, tree_after}
use Rattle.sim_world.specs.Book.{met_all, contents_of, file_bytes, files_in}
use Rattle.sim_world.specs.Change.{changed, grown, replay, history_of, opened}
use Rattle.sim_world.specs.Edits.{is_root, is_nothing, without, with_folders, folders_above, put_member, put_files, put_value, edited_tree, has_place, place, left_tree, made_tree}
use Rattle.sim_world.specs.Met.{values_of, values_met, contents_met, first_under, IsIn, IsBooks, IsOneOf, NoneShare, BookIsOfMet, BookCovers}
use Rattle.sim_world.specs.Stands.{changed_tree}
use Rattle.sim_world.specs.declared.value.Value.{Value}
use Rattle.sim_world.specs.declared.value.Value.TheVariants.{Nothing, File, Files}
use Rattle.sim_world.specs.declared.change.Change.{Change}
use Rattle.sim_world.specs.declared.change.Change.TheVariants.{Edited, Cleared, Started, Left, Ran, FolderMade, Written, Settled, Published, Met}
use Rattle.sim_world.proofs.BookLemmas.{met_all-append, met_all-first}
use Rattle.sim_world.proofs.LogLemmas.{present_tree}

-- ---- the book

book_changed : (c : Change) (m : Moment) → (changed c m).aside.book ≡ met_all (flat_map contents_of (values_of c m.tree)) m.aside.book
book_changed (Edited at value) m = refl
book_changed (Cleared at) m = refl
book_changed (Started job) m = refl
book_changed (Left at value) m = refl
book_changed (Ran job) m = refl
book_changed (FolderMade at) m = refl
book_changed (Written lane value) m = refl
book_changed (Settled lane) m = refl
book_changed (Published lane at value) m = refl
book_changed (Met at) m = refl

book_replay : (h : History) (cs : List Change) → (replay h cs).present.aside.book ≡ met_all (flat_map contents_of (values_met h.present.tree cs)) h.present.aside.book
book_replay h [] = refl
book_replay h (c ∷ cs) =
    let m : Moment = h.present in
    let more : List (List ℕ) = flat_map contents_of (values_of c m.tree) in
    book_replay (grown (changed c) h) cs
    ∙ ap (λ (t : Tree). met_all (flat_map contents_of (values_met t cs)) (changed c m).aside.book) (changed_tree c m)
    ∙ ap (met_all (flat_map contents_of (values_met (tree_changed c m.tree) cs))) (book_changed c m)
    ∙ sym (met_all-append more (flat_map contents_of (values_met (tree_changed c m.tree) cs)) m.aside.book)
    ∙ ap (λ (x : List (List ℕ)). met_all x m.aside.book) (sym (flat_map-append contents_of (values_of c m.tree) (values_met (tree_changed c m.tree) cs)))

pub book_is_of_met : BookIsOfMet
book_is_of_met effect t cs digest =
    ap (λ (b : Book). b digest) (book_replay (record { present = opened effect t; past = []; under = [] }) cs)
    ∙ ap (λ (b : Book). b digest) (sym (met_all-append (files_in t) (flat_map contents_of (values_met t cs)) (λ d. None)))
    ∙ met_all-first (contents_met t cs) (λ d. None) digest

-- ---- one of a list

first_or : {X : Type 0} (xs ys : List X) (x : X) → IsOneOf xs x ⊎ IsOneOf ys x → IsOneOf (xs ++ ys) x
first_or [] ys x (inl i) = absurd i
first_or [] ys x (inr i) = i
first_or (z ∷ xs) ys x (inl (inl e)) = inl e
first_or (z ∷ xs) ys x (inl (inr i)) = inr (first_or xs ys x (inl i))
first_or (z ∷ xs) ys x (inr i) = inr (first_or xs ys x (inr i))

from_one : {X : Type 0} (f : X → List (List ℕ)) (vs : List X) (v : X) (x : List ℕ) → IsOneOf vs v → IsOneOf (f v) x → IsOneOf (flat_map f vs) x
from_one f [] v x i j = absurd i
from_one f (w ∷ vs) v x (inl e) j = first_or (f w) (flat_map f vs) x (inl (subst (λ y. IsOneOf (f y) x) (sym e) j))
from_one f (w ∷ vs) v x (inr i) j = first_or (f w) (flat_map f vs) x (inr (from_one f vs v x i j))

-- ---- files outside the lanes are of contents met

abbrev AreMet : (List ℕ → Type 0) → Tree → Type 0
AreMet P t = (p : Path) (x : List ℕ) → under tmp_path p ≡ false → item_at t p ≡ Some (file x) → P x

weaker : (P Q : List ℕ → Type 0) (t : Tree) → ((x : List ℕ) → P x → Q x) → AreMet P t → AreMet Q t
weaker P Q t f h p x out e = f x (h p x out e)

folder_no_file : (x : List ℕ) → ◌≡◌ {A = Option Item} (Some folder) (Some (file x)) → ⊥
folder_no_file x e = absurd (cc)

are_without : (P : List ℕ → Type 0) (at : Path) (t : Tree) → AreMet P t → AreMet P (without at t)
are_without P at t h [] x out e = absurd (folder_no_file x e)
are_without P at t h (c ∷ p) x out e =
    let test : Path → Bool = λ q. not (under at q) in
    elim (under at (c ∷ p)) as (λ b. under at (c ∷ p) ≡ b → P x) [
      | true ↦ λ u. let gone = item_gone t test (c ∷ p) (cons_not_root c p) (not_from_true (under at (c ∷ p)) u) in absurd (cc)
      | false ↦ λ u. h (c ∷ p) x out (sym (item_kept t test (c ∷ p) (not_from_false (under at (c ∷ p)) u)) ∙ e)
    ] refl

put_here : (t : Tree) (at : Path) (i : Item) (c : List ℕ) (p : Path) → at ≡ c ∷ p → item_at (insert t at i) (c ∷ p) ≡ Some i
put_here t at i c p s = subst (λ (q : Path). item_at (insert t q i) (c ∷ p) ≡ Some i) (sym s) (item_put_same t (c ∷ p) i (cons_not_root c p))

some_bytes : (i : Item) (x : List ℕ) → Some i ≡ Some (file x) → IsOneOf (file_bytes i) x
some_bytes folder x e = folder_no_file x e
some_bytes (file bytes) x e = inl cc

are_put : (P : List ℕ → Type 0) (t : Tree) (at : Path) (i : Item) → AreMet P t → ((x : List ℕ) → IsOneOf (file_bytes i) x → under tmp_path at ≡ false → P x) → AreMet P (insert t at i)
are_put P t at i h new [] x out e = absurd (folder_no_file x e)
are_put P t at i h new (c ∷ p) x out e =
    elim (path_cases at (c ∷ p)) [
      | inl s ↦ new x (some_bytes i x (sym (put_here t at i c p s) ∙ e)) (ap (under tmp_path) s ∙ out)
      | inr ne ↦ h (c ∷ p) x out (sym (item_put_other t at i (c ∷ p) (λ s. ne (sym s))) ∙ e)
    ]

are_folder : (P : List ℕ → Type 0) (t : Tree) (at : Path) → AreMet P t → AreMet P (insert t at folder)
are_folder P t at h = are_put P t at folder h (λ x e out. absurd e)

are_folders : (P : List ℕ → Type 0) (n : ℕ) (at : Path) (t : Tree) → AreMet P t → AreMet P (with_folders n at t)
are_folders P zero at t h = h
are_folders P (suc n) at t h = are_folder P (with_folders n (parent at) t) at (are_folders P n (parent at) t h)

-- what is put at a path or below it
abbrev MayBring : (List ℕ → Type 0) → Path → List (List ℕ) → Type 0
MayBring P at xs = (x : List ℕ) → IsOneOf xs x → under tmp_path at ≡ false → P x

outside_tmp : (at q : Path) → under tmp_path (at ++ q) ≡ false → under tmp_path at ≡ false
outside_tmp at q out =
    elim (under tmp_path at) as (λ b. under tmp_path at ≡ b → b ≡ false) [
      | true ↦ λ u. absurd (false≢true (sym out ∙ under-trans tmp_path at (at ++ q) u (under-append at q)))
      | false ↦ λ u. refl
    ] refl

are_files : (P : List ℕ → Type 0) (at : Path) (es : List (Path × List ℕ)) (t : Tree) → AreMet P t → MayBring P at (map (λ e. e.1) es) → AreMet P (put_files at es t)
are_files P at [] t h new = h
are_files P at (e ∷ es) t h new =
    let n : ℕ = length e.0 - 1 in
    are_files P at es (put_member at e.0 e.1 t)
    (are_put P (with_folders n (parent (at ++ e.0)) t) (at ++ e.0) (file e.1) (are_folders P n (parent (at ++ e.0)) t h)
    (λ x i out. new x (just_one e.1 x i (map (λ e. e.1) es)) (outside_tmp at e.0 out)))
    (λ x i out. new x (inr i) out)
  where
    just_one : (y x : List ℕ) → (y ≡ x) ⊎ ⊥ → (ys : List (List ℕ)) → (y ≡ x) ⊎ IsOneOf ys x
    just_one y x (inl e) ys = inl e
    just_one y x (inr e) ys = absurd e

are_placed : (P : List ℕ → Type 0) (at : Path) (value : Value) (t : Tree) → AreMet P t → MayBring P at (contents_of (told value)) → AreMet P (place at value t)
are_placed P at Nothing t h new = h
are_placed P at (File bytes) t h new = are_put P t at (file bytes) h new
are_placed P at (Files m) t h new =
    are_files P at (entries m) (insert t at folder) (are_folder P t at h) (λ x i out. new x (inr i) out)

are_edited : (P : List ℕ → Type 0) (at : Path) (value : Value) (t : Tree) → AreMet P t → MayBring P at (contents_of (told value)) → AreMet P (edited_tree at value t)
are_edited P at value t h new =
    let kept : Tree = without at t in
    let clear : AreMet P kept = are_without P at t h in
    elim (is_root at) as (λ b. AreMet P (cond b t (put_value at value kept))) [
      | true ↦ h
      | false ↦ elim (is_nothing value) as (λ b. AreMet P (cond b kept (place at value (folders_above at kept)))) [
        | true ↦ clear
        | false ↦ are_placed P at value (folders_above at kept) (are_folders P (length (parent at)) (parent at) kept clear) new
      ]
    ]

are_left : (P : List ℕ → Type 0) (at : Path) (value : Value) (t : Tree) → AreMet P t → MayBring P at (contents_of (told value)) → AreMet P (left_tree at value t)
are_left P at value t h new =
    elim (has_place t at) as (λ b. AreMet P (cond b (place at value (without at t)) t)) [
      | true ↦ are_placed P at value (without at t) (are_without P at t h) new
      | false ↦ h
    ]

are_made : (P : List ℕ → Type 0) (at : Path) (t : Tree) → AreMet P t → AreMet P (made_tree at t)
are_made P at t h =
    elim (has_place t at) as (λ b. AreMet P (cond b (insert t at folder) t)) [ true ↦ are_folder P t at h | false ↦ h ]

-- what a change brings
abbrev Brings : Change → Tree → List ℕ → Type 0
Brings c t x = IsOneOf (flat_map contents_of (values_of c t)) x

value_alone : (v : Told) (x : List ℕ) → IsOneOf (contents_of v) x → IsOneOf (flat_map contents_of (v ∷ [])) x
value_alone v x i = first_or (contents_of v) [] x (inl i)

are_changed : (P : List ℕ → Type 0) (c : Change) (t : Tree) → AreMet P t → AreMet (λ x. P x ⊎ Brings c t x) (tree_changed c t)
are_changed P (Edited at value) t h =
    let Q : List ℕ → Type 0 = λ x. P x ⊎ Brings (Edited at value) t x in
    are_edited Q at value t (weaker P Q t (λ x p. inl p) h) (λ x b out. inr (value_alone (told value) x b))
are_changed P (Cleared at) t h = weaker P (λ x. P x ⊎ ⊥) (without at t) (λ x p. inl p) (are_without P at t h)
are_changed P (Started job) t h = weaker P (λ x. P x ⊎ Brings (Started job) t x) t (λ x p. inl p) h
are_changed P (Left at value) t h =
    let Q : List ℕ → Type 0 = λ x. P x ⊎ Brings (Left at value) t x in
    are_left Q at value t (weaker P Q t (λ x p. inl p) h) (λ x b out. inr (value_alone (told value) x b))
are_changed P (Ran job) t h = weaker P (λ x. P x ⊎ ⊥) t (λ x p. inl p) h
are_changed P (FolderMade at) t h = weaker P (λ x. P x ⊎ ⊥) (made_tree at t) (λ x p. inl p) (are_made P at t h)
are_changed P (Written lane value) t h =
    weaker P (λ x. P x ⊎ ⊥) (left_tree (lane_path lane) value t) (λ x p. inl p)
    (are_left P (lane_path lane) value t h (λ x b out. absurd (false≢true (sym out ∙ lane_in_tmp lane))))
are_changed P (Settled lane) t h = weaker P (λ x. P x ⊎ ⊥) t (λ x p. inl p) h
are_changed P (Published lane at value) t h =
    let Q : List ℕ → Type 0 = λ x. P x ⊎ Brings (Published lane at value) t x in
    are_without Q (lane_path lane) (left_tree at value t)
    (are_left Q at value t (weaker P Q t (λ x p. inl p) h) (λ x b out. inr (value_alone (told value) x b)))
are_changed P (Met at) t h = weaker P (λ x. P x ⊎ Brings (Met at) t x) t (λ x p. inl p) h

later : (P : List ℕ → Type 0) (vs ws : List Told) (x : List ℕ) → (P x ⊎ IsOneOf (flat_map contents_of vs) x) ⊎ IsOneOf (flat_map contents_of ws) x → P x ⊎ IsOneOf (flat_map contents_of (vs ++ ws)) x
later P vs ws x (inl (inl p)) = inl p
later P vs ws x (inl (inr i)) = inr (subst (λ (l : List (List ℕ)). IsOneOf l x) (sym (flat_map-append contents_of vs ws)) (first_or (flat_map contents_of vs) (flat_map contents_of ws) x (inl i)))
later P vs ws x (inr i) = inr (subst (λ (l : List (List ℕ)). IsOneOf l x) (sym (flat_map-append contents_of vs ws)) (first_or (flat_map contents_of vs) (flat_map contents_of ws) x (inr i)))

are_after : (P : List ℕ → Type 0) (t : Tree) (cs : List Change) → AreMet P t → AreMet (λ x. P x ⊎ IsOneOf (flat_map contents_of (values_met t cs)) x) (tree_after t cs)
are_after P t [] h = weaker P (λ x. P x ⊎ ⊥) t (λ x p. inl p) h
are_after P t (c ∷ cs) h =
    let Q : List ℕ → Type 0 = λ x. P x ⊎ Brings c t x in
    weaker (λ x. Q x ⊎ IsOneOf (flat_map contents_of (values_met (tree_changed c t) cs)) x) (λ x. P x ⊎ IsOneOf (flat_map contents_of (values_met t (c ∷ cs))) x) (tree_after (tree_changed c t) cs)
    (λ x. later P (values_of c t) (values_met (tree_changed c t) cs) x)
    (are_after Q (tree_changed c t) cs (are_changed P c t h))

found_file : (p : Path) (es : List (Path × Item)) (x : List ℕ) → find path_cmp p es ≡ Some (file x) → IsOneOf (flat_map (λ e. file_bytes e.1) es) x
found_file p [] x e = absurd (cc)
found_file p (i ∷ es) x e =
    elim (eq_by_cmp path_cmp p i.0) as (λ b. cond b (Some i.1) (find path_cmp p es) ≡ Some (file x) → IsOneOf (file_bytes i.1 ++ flat_map (λ e. file_bytes e.1) es) x) [
      | true ↦ λ s. first_or (file_bytes i.1) (flat_map (λ e. file_bytes e.1) es) x (inl (some_bytes i.1 x s))
      | false ↦ λ s. first_or (file_bytes i.1) (flat_map (λ e. file_bytes e.1) es) x (inr (found_file p es x s))
    ] e

are_opened : (t : Tree) → AreMet (IsOneOf (files_in t)) t
are_opened t [] x out e = absurd (folder_no_file x e)
are_opened t (c ∷ p) x out e = found_file (c ∷ p) (entries t) x (sym (get-entries t (c ∷ p)) ∙ e)

-- ---- where no two share an MD5

-- the first content under a digest of theirs is one of them, and has it
first-of : (xs : List (List ℕ)) (x : List ℕ) → IsOneOf xs x → (y : List ℕ) × (first_under (md5 x) xs ≡ Some y) × IsOneOf xs y × (md5 y ≡ md5 x)
first-of [] x i = absurd i
first-of (z ∷ xs) x i =
    elim (bytes_eq (md5 z) (md5 x)) as (λ b. bytes_eq (md5 z) (md5 x) ≡ b → (y : List ℕ) × (cond b (Some z) (first_under (md5 x) xs) ≡ Some y) × IsOneOf (z ∷ xs) y × (md5 y ≡ md5 x)) [
      | true ↦ λ e. (z, refl, inl refl, (bytes_eq-Decides (md5 z) (md5 x)).0 e)
      | false ↦ λ e. elim i [
        | inl s ↦ absurd (false≢true (sym e ∙ (bytes_eq-Decides (md5 z) (md5 x)).1 (ap md5 s)))
        | inr j ↦ let so = first-of xs x j in (so.0, so.1, inr so.2, so.3)
      ]
    ] refl

book_of_one : (effect : Effect) (t : Tree) (cs : List Change) → NoneShare (contents_met t cs) → (x : List ℕ) → IsOneOf (contents_met t cs) x → IsIn (history_of effect t cs).present.aside.book x
book_of_one effect t cs none x i =
    let so = first-of (contents_met t cs) x i in
    book_is_of_met effect t cs (md5 x) ∙ so.1 ∙ ap (λ (y : List ℕ). Some y) (none so.0 x so.2 i so.3)

each_in : (book : Book) (xs ys : List (List ℕ)) → ((x : List ℕ) → IsOneOf ys x → IsIn book x) → ((x : List ℕ) → IsOneOf xs x → IsOneOf ys x) → AllByRecursion (IsIn book) xs
each_in book [] ys is sub = tt
each_in book (x ∷ xs) ys is sub = (is x (sub x (inl refl)), each_in book xs ys is (λ y i. sub y (inr i)))

books_of : (book : Book) (v : Told) → AllByRecursion (IsIn book) (contents_of v) → IsBooks book v
books_of book nothing all = tt
books_of book (content bytes) all = all.0
books_of book (members m) all = all

pub book_covers : BookCovers
book_covers effect t cs none =
    let book : Book = (history_of effect t cs).present.aside.book in
    let all : (x : List ℕ) → IsOneOf (contents_met t cs) x → IsIn book x = book_of_one effect t cs none in
    record {
      files = λ p x out e.
          all x (first_or (files_in t) (flat_map contents_of (values_met t cs)) x
          (are_after (IsOneOf (files_in t)) t cs (are_opened t) p x out (ap (λ (k : Tree). item_at k p) (sym (present_tree effect t cs)) ∙ e)));
      values = λ v i.
          books_of book v (each_in book (contents_of v) (contents_met t cs) all
          (λ x j. first_or (files_in t) (flat_map contents_of (values_met t cs)) x (inr (from_one contents_of (values_met t cs) v x i j))));
    }
