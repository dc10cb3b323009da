-- Two trees that show the same to a stage.
--     Alike own done t u       files are the same, and so is all that stands outside the outputs that are done: in these, folders without
--                              files may be there or not
--     value_alike, dep_alike   values at paths
--     each_put, each_written   what holds of each item of a list in order, and back
use Rattle.std.proofs.Common.{◌≡◌, ℕ, Bool, true, false, cond, List, [], ◌∷◌, ◌++◌, length, map, refl, sym, ap, subst, ◌∙◌, inl, inr, Option, Some, None, ◌==◌}
use Rattle.std.specs.List.{AllByRecursion, list_any}
use Rattle.std.specs.FinMap.{empty, entries, get-empty, len-empty, len-entries, same_map}
use Rattle.std.proofs.lemmas.Bool.{false≢true, cases_Bool, cond-true, cond-false}
use Rattle.dvc_base.specs.Path.{Path, is_within}
use Rattle.dvc_base.proofs.PathLemmas.{under-append}
use Rattle.world_api.specs.Tree.{Tree, Item, folder, file, Value, nothing, content, members, path_cmp, item_at, value_of, value_at}
use Rattle.world_api.proofs.TreeLemmas.{path_cmp-total, path_cmp-antisym}
use Rattle.lock_files.specs.Order.{is_less, put_in, in_order}
use Rattle.repro_laws.specs.Stage.{value_inside, dep_value, is_nothing}
use Rattle.repro_laws.specs.Headline.{IsApart}
use Rattle.repro_laws.specs.declared.stage.Dep.{Dep}
use Rattle.repro_laws.proofs.FileLemmas.{only_file, file_at, Files, files_below, member_at}

-- strictly below one of the paths
abbrev pub is_inside : List Path → Path → Bool
is_inside outs p = list_any (is_within p) outs

-- where nothing stands inside the outputs, no file stands below
abbrev pub AreRoads : List Path → Tree → Type 0
AreRoads done t = (p : Path) → is_inside done p ≡ true → item_at t p ≡ None → (r : Path) → file_at t (p ++ r) ≡ None

pub record Alike (own : Path → Bool) (done : List Path) (t u : Tree) : Type 0 where
  pub files : (q : Path) → own q ≡ false → file_at u q ≡ file_at t q
  pub kinds : (q : Path) → own q ≡ false → is_inside done q ≡ false → item_at u q ≡ item_at t q
  pub roads : AreRoads done t
  pub roads_too : AreRoads done u

-- ---- lists

pub each_put : {A : Type 0} (key : A → List ℕ) (P : A → Type 0) (a : A) (bs : List A) → P a → AllByRecursion P bs → AllByRecursion P (put_in key a bs)
each_put key P a [] here rest = (here, tt)
each_put key P a (b ∷ bs) here rest =
    elim (cases_Bool (is_less (key b) (key a))) [
      | inl h ↦ subst (AllByRecursion P) (sym (cond-true (is_less (key b) (key a)) (b ∷ put_in key a bs) (a ∷ b ∷ bs) h)) (rest.0, each_put key P a bs here rest.1)
      | inr h ↦ subst (AllByRecursion P) (sym (cond-false (is_less (key b) (key a)) (b ∷ put_in key a bs) (a ∷ b ∷ bs) h)) (here, rest)
    ]

pub each_ordered : {A : Type 0} (key : A → List ℕ) (P : A → Type 0) (xs : List A) → AllByRecursion P xs → AllByRecursion P (in_order key xs)
each_ordered key P [] all = tt
each_ordered key P (x ∷ xs) all = each_put key P x (in_order key xs) all.0 (each_ordered key P xs all.1)

each_taken : {A : Type 0} (key : A → List ℕ) (P : A → Type 0) (a : A) (bs : List A) → AllByRecursion P (put_in key a bs) → P a × AllByRecursion P bs
each_taken key P a [] all = (all.0, tt)
each_taken key P a (b ∷ bs) all =
    elim (cases_Bool (is_less (key b) (key a))) [
      | inl h ↦
          let parts : P b × AllByRecursion P (put_in key a bs) =
          subst (AllByRecursion P) (cond-true (is_less (key b) (key a)) (b ∷ put_in key a bs) (a ∷ b ∷ bs) h) all in
          let more = each_taken key P a bs parts.1 in
          (more.0, (parts.0, more.1))
      | inr h ↦ subst (AllByRecursion P) (cond-false (is_less (key b) (key a)) (b ∷ put_in key a bs) (a ∷ b ∷ bs) h) all
    ]

pub each_written : {A : Type 0} (key : A → List ℕ) (P : A → Type 0) (xs : List A) → AllByRecursion P (in_order key xs) → AllByRecursion P xs
each_written key P [] all = tt
each_written key P (x ∷ xs) all =
    let parts = each_taken key P x (in_order key xs) all in
    (parts.0, each_written key P xs parts.1)

pub each_on : {A : Type 0} (P Q : A → Type 0) (xs : List A) → ((x : A) → P x → Q x) → AllByRecursion P xs → AllByRecursion Q xs
each_on P Q [] f a = tt
each_on P Q (x ∷ xs) f a = (f x a.0, each_on P Q xs f a.1)

pub each_two : {A : Type 0} (P Q R : A → Type 0) (xs : List A) → ((x : A) → P x → Q x → R x) → AllByRecursion P xs → AllByRecursion Q xs → AllByRecursion R xs
each_two P Q R [] f a b = tt
each_two P Q R (x ∷ xs) f a b = (f x a.0 b.0, each_two P Q R xs f a.1 b.1)

pub each_front : {A : Type 0} (P : A → Type 0) (xs ys : List A) → AllByRecursion P (xs ++ ys) → AllByRecursion P xs × AllByRecursion P ys
each_front P [] ys all = (tt, all)
each_front P (x ∷ xs) ys all =
    let parts = each_front P xs ys all.1 in
    ((all.0, parts.0), parts.1)

pub each_mapped : {A B : Type 0} (f : A → B) (P : B → Type 0) (xs : List A) → AllByRecursion P (map f xs) → AllByRecursion (λ x. P (f x)) xs
each_mapped f P [] all = tt
each_mapped f P (x ∷ xs) all = (all.0, each_mapped f P xs all.1)

pub each_map : {A B : Type 0} (f : A → B) (P : B → Type 0) (xs : List A) → AllByRecursion (λ x. P (f x)) xs → AllByRecursion P (map f xs)
each_map f P [] all = tt
each_map f P (x ∷ xs) all = (all.0, each_map f P xs all.1)

pub map_same : {A B : Type 0} (f g : A → B) (xs : List A) → AllByRecursion (λ x. g x ≡ f x) xs → map g xs ≡ map f xs
map_same f g [] all = refl
map_same f g (x ∷ xs) all = ap (λ y. y ∷ map g xs) all.0 ∙ ap (λ ys. f x ∷ ys) (map_same f g xs all.1)

-- ---- values

pub files_alike : (t u : Tree) (p : Path) → ((r : Path) → file_at u (p ++ r) ≡ file_at t (p ++ r)) → files_below u p ≡ files_below t p
files_alike t u p same =
    same_map path_cmp-total path_cmp-antisym (files_below u p) (files_below t p) (λ r. member_at u p r ∙ same r ∙ sym (member_at t p r))

no_files : (t : Tree) (p : Path) → ((r : Path) → file_at t (p ++ r) ≡ None) → files_below t p ≡ empty
no_files t p none =
    same_map path_cmp-total path_cmp-antisym (files_below t p) empty (λ r. member_at t p r ∙ none r ∙ sym (get-empty path_cmp r))

value_by : (t u : Tree) (p : Path) (o : Option Item) → files_below u p ≡ files_below t p → value_of u p o ≡ value_of t p o
value_by t u p None same = refl
value_by t u p (Some folder) same = ap members same
value_by t u p (Some (file bytes)) same = refl

-- a value depends on what stands at its path, and on the files below
pub value_kept : (t u : Tree) (p : Path) → item_at u p ≡ item_at t p → ((r : Path) → file_at u (p ++ r) ≡ file_at t (p ++ r)) → value_at u p ≡ value_at t p
value_kept t u p item same =
    ap (value_of u p) item ∙ value_by t u p (item_at t p) (files_alike t u p same)

pub apart_below : (own : Path → Bool) (p r : Path) → IsApart own p → own (p ++ r) ≡ false
apart_below own p r apart = apart (p ++ r) (under-append p r)

pub value_alike : (own : Path → Bool) (done : List Path) (t u : Tree) (p : Path) → Alike own done t u → IsApart own p → is_inside done p ≡ false → value_at u p ≡ value_at t p
value_alike own done t u p alike apart out =
    value_kept t u p (alike.kinds p (subst (λ (x : Path). own x ≡ false) (append_nil p) (apart_below own p [] apart)) out) (λ r. alike.files (p ++ r) (apart_below own p r apart))
  where
    append_nil : (p : Path) → p ++ [] ≡ p
    append_nil [] = refl
    append_nil (c ∷ p) = ap (λ (q : Path). c ∷ q) (append_nil p)

-- ---- dependencies, which may lie inside an output

-- as a stage sees them the values are the same; and so they are where something is there
abbrev IsSeenSame : Value → Value → Type 0
IsSeenSame v w =
    (value_inside true w ≡ value_inside true v) × (is_nothing (value_inside true v) ≡ false → w ≡ v)

abbrev no_map : Files
no_map = empty

empty_length : (length (entries no_map) == 0) ≡ true
empty_length = ap (λ n. n == 0) (sym (len-entries no_map) ∙ len-empty path_cmp (List ℕ))

none_in : (m : Files) → m ≡ empty → value_inside true (members m) ≡ nothing
none_in m none =
    ap (λ (x : Files). cond (length (entries x) == 0) nothing (members x)) none ∙ cond-true (length (entries no_map) == 0) nothing (members no_map) empty_length

same_seen : (v w : Value) → w ≡ v → IsSeenSame v w
same_seen v w e = (ap (value_inside true) e, λ h. e)

seen_by : (t u : Tree) (p : Path) (o x : Option Item) → item_at t p ≡ o → item_at u p ≡ x → only_file x ≡ only_file o → files_below u p ≡ files_below t p → (o ≡ None → files_below t p ≡ empty) → (x ≡ None → files_below u p ≡ empty) → IsSeenSame (value_of t p o) (value_of u p x)
seen_by t u p None None a b f same e g = same_seen nothing nothing refl
seen_by t u p None (Some folder) a b f same e g =
    (none_in (files_below u p) (same ∙ e refl), λ h. absurd (false≢true (sym h)))
seen_by t u p None (Some (file bytes)) a b f same e g = absurd (cc)
seen_by t u p (Some folder) None a b f same e g =
    let gone = none_in (files_below t p) (sym same ∙ g refl) in
    (sym gone, λ h. absurd (false≢true (sym h ∙ ap is_nothing gone)))
seen_by t u p (Some folder) (Some folder) a b f same e g = same_seen (members (files_below t p)) (members (files_below u p)) (ap members same)
seen_by t u p (Some folder) (Some (file bytes)) a b f same e g = absurd (cc)
seen_by t u p (Some (file bytes)) None a b f same e g = absurd (cc)
seen_by t u p (Some (file bytes)) (Some folder) a b f same e g = absurd (cc)
seen_by t u p (Some (file bytes)) (Some (file other)) a b f same e g =
    let one : other ≡ bytes = cc in
    same_seen (content bytes) (content other) (ap content one)

pub only_item : (t u : Tree) (p : Path) → file_at u p ≡ file_at t p → only_file (item_at u p) ≡ only_file (item_at t p)
only_item t u [] e = refl
only_item t u (c ∷ p) e = e

inside_alike : (own : Path → Bool) (done : List Path) (t u : Tree) (p : Path) → Alike own done t u → IsApart own p → own p ≡ false → is_inside done p ≡ true → IsSeenSame (value_at t p) (value_at u p)
inside_alike own done t u p alike apart kept within =
    seen_by t u p (item_at t p) (item_at u p) refl refl (only_item t u p (alike.files p kept)) (files_alike t u p (λ r. alike.files (p ++ r) (apart_below own p r apart))) (λ e. no_files t p (alike.roads p within e)) (λ e. no_files u p (alike.roads_too p within e))

pub record IsDepAlike (t u : Tree) (d : Dep) : Type 0 where
  pub value : dep_value u d ≡ dep_value t d
  pub raw : is_nothing (dep_value t d) ≡ false → value_at u d.path ≡ value_at t d.path

dep_inside : (t u : Tree) (d : Dep) → d.inside ≡ true → IsSeenSame (value_at t d.path) (value_at u d.path) → IsDepAlike t u d
dep_inside t u d within same =
    let mark : (v : Value) → value_inside d.inside v ≡ value_inside true v = λ v. ap (λ b. value_inside b v) within in
    record {
      value = mark (value_at u d.path) ∙ same.0 ∙ sym (mark (value_at t d.path));
      raw = λ h. same.1 (ap is_nothing (sym (mark (value_at t d.path))) ∙ h);
    }

pub dep_alike : (own : Path → Bool) (done : List Path) (t u : Tree) (d : Dep) → Alike own done t u → IsApart own d.path → own d.path ≡ false → (is_inside done d.path ≡ true → d.inside ≡ true) → IsDepAlike t u d
dep_alike own done t u d alike apart kept marked =
    elim (cases_Bool (is_inside done d.path)) [
      | inl within ↦ dep_inside t u d (marked within) (inside_alike own done t u d.path alike apart kept within)
      | inr out ↦
          let same = value_alike own done t u d.path alike apart out in
          record { value = ap (value_inside d.inside) same; raw = λ h. same }
    ]
