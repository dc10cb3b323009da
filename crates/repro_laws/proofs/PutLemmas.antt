-- Values that are put into a tree from another one.
--     members_put       the members of a folder's value
--     value_put         a value put at a path that is free
--     values_put        values put at paths that are apart
use Rattle.std.proofs.Common.{◌≡◌, ◌≢◌, ℕ, ◌-◌, true, false, cond, List, [], ◌∷◌, ◌++◌, length, take, drop, map, refl, sym, ap, subst, ◌∙◌, ◌⊎◌, inl, inr, append-nil, Option, Some, None, is_some, IsSome}
use Rattle.std.specs.List.{AllByRecursion}
use Rattle.std.specs.Ordering.{eq_by_cmp}
use Rattle.std.specs.FinMap.{get, insert, entries, get-entries}
use Rattle.std.specs.FinMap.Entries.{find}
use Rattle.std.proofs.lemmas.Bool.{false≢true, and_parts, or_parts, or_left, or_right, or_cases, both_ways, false_from_ne_true, cases_Bool}
use Rattle.dvc_base.specs.Path.{Path, under, overlap, is_within}
use Rattle.dvc_base.proofs.PathLemmas.{under-refl, under-trans, under-split, under-append, under-antisym, under-overlap}
use Rattle.world_api.specs.Tree.{Tree, Item, folder, file, Value, nothing, content, members, IsTree, path_cmp, item_at, value_at}
use Rattle.world_api.specs.Effect.{is_in_any}
use Rattle.world_api.specs.Calls.{is_apart, are_apart, parent}
use Rattle.world_api.proofs.TreeLemmas.{same_path, path_cases}
use Rattle.file_hash.specs.Files.{IsFileMap}
use Rattle.file_hash.proofs.TellsLemmas.{value-file-map}
use Rattle.repro_laws.specs.Stage.{is_nothing}
use Rattle.repro_laws.specs.Anew.{with_folders, is_file, put_members, put_value, put_values}
use Rattle.repro_laws.proofs.RoadLemmas.{not_same, is_within_parts, apart_root, apart_head, apart_above, under_common, append_cancel, parent_append, above_apart}
use Rattle.repro_laws.proofs.FileLemmas.{only_file, file_at, item_file, Files, IsFolderValue, folder_value, content_item, some_value, Roads, absent, no_file_below, all_found}
use Rattle.repro_laws.proofs.FolderLemmas.{Grows, grows_then, grows_some, folders_grow, folders_files, folders_roads, folders_made, IsPut, clear_item, put_law}

-- ---- members of a folder

-- the files at and below a path are members, and none stands above
pub record IsFilled (t : Tree) (p : Path) (m : Files) : Type 0 where
  pub inside : (r : Path) (bytes : List ℕ) → file_at t (p ++ r) ≡ Some bytes → get m r ≡ Some bytes
  pub above : (q : Path) → under q p ≡ true → file_at t q ≡ None
  pub roads : Roads t

found : {A : Type 0} (o : Option A) → IsSome o → (x : A) × (o ≡ Some x)
found None some = absurd (false≢true some)
found (Some x) some = (x, refl)

member_has : (t : Tree) (p : Path) (m : Files) → IsFilled t p m → (r : Path) → IsSome (file_at t (p ++ r)) → IsSome (get m r)
member_has t p m filled r some =
    let x = found (file_at t (p ++ r)) some in
    ap is_some (filled.inside r x.0 x.1)

alone_inside : (m : Files) (p d r : Path) → IsFileMap m → IsSome (get m d) → IsSome (get m r) → overlap (p ++ d) (p ++ r) ≡ true → p ++ d ≡ p ++ r
alone_inside m p d r map a b over =
    elim (or_cases (under (p ++ d) (p ++ r)) (under (p ++ r) (p ++ d)) over) [
      | inl u ↦ ap (λ (x : Path). p ++ x) (map.apart d r a b (sym (under_common p d r) ∙ u))
      | inr u ↦ ap (λ (x : Path). p ++ x) (sym (map.apart r d b a (sym (under_common p r d) ∙ u)))
    ]

alone_outside : (t : Tree) (p r q : Path) (m : Files) → IsFilled t p m → IsSome (file_at t q) → under p q ≡ false → overlap q (p ++ r) ≡ true → q ≡ p ++ r
alone_outside t p r q m filled some out over =
    elim (or_cases (under q (p ++ r)) (under (p ++ r) q) over) [
      | inl u ↦
          elim (or_cases (under q p) (under p q) (under-overlap q p (p ++ r) u (under-append p r))) [
            | inl up ↦ absurd (absent (file_at t q) (filled.above q up) some)
            | inr down ↦ absurd (both_ways (under p q) out down)
          ]
      | inr u ↦ absurd (both_ways (under p q) out (under-trans p (p ++ r) q (under-append p r) u))
    ]

member_alone : (t : Tree) (p r : Path) (bytes : List ℕ) (m : Files) → IsFileMap m → IsFilled t p m → get m r ≡ Some bytes → (q : Path) → IsSome (file_at t q) → overlap q (p ++ r) ≡ true → q ≡ p ++ r
member_alone t p r bytes m map filled has q some over =
    elim (cases_Bool (under p q)) [
      | inl u ↦
          let cut : q ≡ p ++ drop (length p) q = under-split p q u in
          let there : IsSome (file_at t (p ++ drop (length p) q)) = subst (λ (x : Path). IsSome (file_at t x)) cut some in
          let overlaps : overlap (p ++ drop (length p) q) (p ++ r) ≡ true = subst (λ (x : Path). overlap x (p ++ r) ≡ true) cut over in
          cut ∙ alone_inside m p (drop (length p) q) r map (member_has t p m filled (drop (length p) q) there) (ap is_some has) overlaps
      | inr out ↦ alone_outside t p r q m filled some out over
    ]

longer : (p r : Path) → r ≢ [] → p ≢ p ++ r
longer p r ne e = ne (append_cancel p r [] (sym e ∙ sym (append-nil p)))

member_root : (m : Files) (r : Path) (bytes : List ℕ) → IsFileMap m → get m r ≡ Some bytes → r ≢ []
member_root m r bytes map has e = absent (get m []) map.rootless (ap is_some (sym (ap (get m) e) ∙ has))

inside_put : (t u : Tree) (p r a : Path) (b bytes : List ℕ) (m : Files) → IsFilled t p m → get m r ≡ Some b → IsPut t (p ++ r) b u → file_at u (p ++ a) ≡ Some bytes → (a ≡ r) ⊎ (a ≢ r) → get m a ≡ Some bytes
inside_put t u p r a b bytes m filled has put there (inl same) =
    ap (get m) same ∙ has ∙ sym (ap only_file put.here) ∙ ap (file_at u) (ap (λ (x : Path). p ++ x) (sym same)) ∙ there
inside_put t u p r a b bytes m filled has put there (inr other) =
    filled.inside a bytes (sym (put.files (p ++ a) (λ e. other (append_cancel p a r e))) ∙ there)

filled_put : (t u : Tree) (p r : Path) (b : List ℕ) (m : Files) → IsFileMap m → IsFilled t p m → get m r ≡ Some b → IsPut t (p ++ r) b u → IsFilled u p m
filled_put t u p r b m map filled has put =
    record {
      inside = λ a bytes e. inside_put t u p r a b bytes m filled has put e (path_cases a r);
      above = λ q up. put.files q (λ e. longer p r (member_root m r b map has) (under-antisym p (p ++ r) (under-append p r) (subst (λ (x : Path). under x p ≡ true) e up))) ∙ filled.above q up;
      roads = put.roads;
    }

pub record IsMembers (t : Tree) (p : Path) (m : Files) (es : List (Path × List ℕ)) (u : Tree) : Type 0 where
  pub files : (q : Path) → under p q ≡ false → file_at u q ≡ file_at t q
  pub grows : (q : Path) → under p q ≡ false → Grows t u q
  pub root : item_at t p ≡ Some folder → item_at u p ≡ Some folder
  pub kept : (r : Path) → IsSome (file_at t (p ++ r)) → IsSome (file_at u (p ++ r))
  pub has : (r : Path) → IsSome (find path_cmp r es) → IsSome (file_at u (p ++ r))
  pub filled : IsFilled u p m

kept_put : (t u : Tree) (at q : Path) (b : List ℕ) → IsPut t at b u → IsSome (file_at t q) → (q ≡ at) ⊎ (q ≢ at) → IsSome (file_at u q)
kept_put t u at q b put some (inl same) = ap is_some (ap (file_at u) same ∙ ap only_file put.here)
kept_put t u at q b put some (inr other) = ap is_some (put.files q other) ∙ some

has_head : (e : Path × List ℕ) (es : List (Path × List ℕ)) (r : Path) → eq_by_cmp path_cmp r e.0 ≡ false → IsSome (find path_cmp r (e ∷ es)) → IsSome (find path_cmp r es)
has_head e es r other some =
    ap is_some (sym (ap (λ b. cond b (Some e.1) (find path_cmp r es)) other)) ∙ some

outside_member : (p r q : Path) → under p q ≡ false → q ≢ p ++ r
outside_member p r q out e =
    both_ways (under p q) out (subst (λ (x : Path). under p x ≡ true) (sym e) (under-append p r))

members_step : (t : Tree) (p : Path) (m : Files) (e : Path × List ℕ) → IsFileMap m → get m e.0 ≡ Some e.1 → IsFilled t p m → IsPut t (p ++ e.0) e.1 (insert (with_folders t [] (p ++ take (length e.0 - 1) e.0)) (p ++ e.0) (file e.1))
members_step t p m e map has filled =
    put_law t (p ++ parent e.0) (p ++ e.0) e.1 (parent_append p e.0 (member_root m e.0 e.1 map has)) filled.roads (member_alone t p e.0 e.1 m map filled has)

members_put : (es : List (Path × List ℕ)) (t : Tree) (p : Path) (m : Files) → IsFileMap m → AllByRecursion (λ e. get m e.0 ≡ Some e.1) es → IsFilled t p m → IsMembers t p m es (put_members t p es)
members_put [] t p m map all filled =
    record {
      files = λ q out. refl;
      grows = λ q out. inl refl;
      root = λ h. h;
      kept = λ r some. some;
      has = λ r some. absurd (false≢true some);
      filled = filled;
    }
members_put (e ∷ es) t p m map all filled =
    let at = p ++ e.0 in
    let next = insert (with_folders t [] (p ++ take (length e.0 - 1) e.0)) at (file e.1) in
    let last = put_members next p es in
    let put : IsPut t at e.1 next = members_step t p m e map all.0 filled in
    let rest = members_put es next p m map all.1 (filled_put t next p e.0 e.1 m map filled all.0 put) in
    record {
      files = λ q out. rest.files q out ∙ put.files q (outside_member p e.0 q out);
      grows = λ q out. grows_then t next last q (put.grows q (outside_member p e.0 q out)) (rest.grows q out);
      root = λ h. rest.root (grows_some t next p folder (put.grows p (longer p e.0 (member_root m e.0 e.1 map all.0))) h);
      kept = λ r some. rest.kept r (kept_put t next at (p ++ r) e.1 put some (path_cases (p ++ r) at));
      has = λ r some. elim (cases_Bool (eq_by_cmp path_cmp r e.0)) [
        | inl same ↦ rest.kept r (ap is_some (ap (file_at next) (ap (λ (x : Path). p ++ x) (same_path r e.0 same)) ∙ ap only_file put.here))
        | inr other ↦ rest.has r (has_head e es r other some)
      ];
      filled = rest.filled;
    }

-- ---- a value

-- no file stands at the path, above it or below
abbrev pub IsFree : Tree → Path → Type 0
IsFree t p = (q : Path) → overlap q p ≡ true → file_at t q ≡ None

-- at a path of u stands what n has there
pub record IsPutFrom (t : Tree) (p : Path) (n u : Tree) : Type 0 where
  pub others : (q : Path) → under p q ≡ false → file_at u q ≡ file_at t q
  pub inside : (q : Path) → under p q ≡ true → file_at u q ≡ file_at n q
  pub grows : (q : Path) → under p q ≡ false → Grows t u q
  pub there : item_at u p ≡ item_at n p
  pub made : (q : Path) → is_within p q ≡ true → item_at u q ≡ Some folder
  pub roads : Roads u

get_item : (t : Tree) (p : Path) (i : Item) → p ≢ [] → get t p ≡ Some i → item_at t p ≡ Some i
get_item t [] i ne e = absurd (ne refl)
get_item t (c ∷ p) i ne e = e

free_below : (t : Tree) (p q : Path) → IsFree t p → under p q ≡ true → file_at t q ≡ None
free_below t p q free u = free q (or_right (under q p) (under p q) u)

content_inside : (t n u : Tree) (p q : Path) (bytes : List ℕ) → IsTree n → item_at n p ≡ Some (file bytes) → IsFree t p → IsPut t p bytes u → under p q ≡ true → (q ≡ p) ⊎ (q ≢ p) → file_at u q ≡ file_at n q
content_inside t n u p q bytes tree there free put u1 (inl same) =
    ap (file_at u) same ∙ ap only_file put.here ∙ sym (ap (file_at n) same ∙ item_file n p bytes there)
content_inside t n u p q bytes tree there free put u1 (inr other) =
    put.files q other ∙ free_below t p q free u1 ∙ sym (no_file_below n tree p q bytes there u1 other)

content_put : (t n : Tree) (p : Path) (bytes : List ℕ) → p ≢ [] → IsTree n → IsFree t p → Roads t → value_at n p ≡ content bytes → IsPutFrom t p n (put_value t p (content bytes))
content_put t n p bytes root tree free roads e =
    let there = content_item n p bytes e in
    let last = insert (with_folders t [] (parent p)) p (file bytes) in
    let put : IsPut t p bytes last =
    put_law t (parent p) p bytes refl roads (λ q some over. absurd (absent (file_at t q) (free q over) some)) in
    record {
      others = λ q out. put.files q (not_same p q out);
      inside = λ q u. content_inside t n last p q bytes tree there free put u (path_cases q p);
      grows = λ q out. put.grows q (not_same p q out);
      there = get_item last p (file bytes) root put.here ∙ sym there;
      made = put.made;
      roads = put.roads;
    }

same_found : (a b : Option (List ℕ)) → ((x : List ℕ) → a ≡ Some x → b ≡ Some x) → (IsSome b → IsSome a) → a ≡ b
same_found None None f g = refl
same_found None (Some y) f g = absurd (false≢true (g refl))
same_found (Some x) b f g = sym (f x refl)

members_inside : (n u : Tree) (p r : Path) (m : Files) → IsFolderValue n p m → IsFilled u p m → ((x : Path) → IsSome (find path_cmp x (entries m)) → IsSome (file_at u (p ++ x))) → file_at u (p ++ r) ≡ file_at n (p ++ r)
members_inside n u p r m value filled has =
    same_found (file_at u (p ++ r)) (get m r) (filled.inside r) (λ some. has r (ap is_some (sym (get-entries m r)) ∙ some)) ∙ value.each r

free_clear : (t : Tree) (p q : Path) → IsFree t p → under q p ≡ true → (x : Path) → under x q ≡ true → is_file (item_at t x) ≡ false
free_clear t p q free u x v = clear_item t x (free x (or_left (under x p) (under p x) (under-trans x q p v u)))

filled_first : (t : Tree) (p : Path) (m : Files) → IsFree t p → Roads t → IsFilled (with_folders t [] p) p m
filled_first t p m free roads =
    let same : (q : Path) → file_at (with_folders t [] p) q ≡ file_at t q = λ q. folders_files p [] t q in
    record {
      inside = λ r bytes e. absurd (absent (file_at t (p ++ r)) (free_below t p (p ++ r) free (under-append p r)) (ap is_some (sym (same (p ++ r)) ∙ e)));
      above = λ q u. same q ∙ free q (or_left (under q p) (under p q) u);
      roads = folders_roads p [] t roads;
    }

folder_put : (t n : Tree) (p : Path) (m : Files) → IsTree n → IsFree t p → Roads t → value_at n p ≡ members m → IsPutFrom t p n (put_value t p (members m))
folder_put t n p m tree free roads e =
    let value = folder_value n p m e in
    let first = with_folders t [] p in
    let last = put_members first p (entries m) in
    let put : IsMembers first p m (entries m) last =
    members_put (entries m) first p m (value-file-map n tree p m e) (all_found m) (filled_first t p m free roads) in
    record {
      others = λ q out. put.files q out ∙ folders_files p [] t q;
      inside = λ q u. let cut = under-split p q u in ap (file_at last) cut ∙ members_inside n last p (drop (length p) q) m value put.filled put.has ∙ ap (file_at n) (sym cut);
      grows = λ q out. grows_then t first last q (folders_grow p [] t q) (put.grows q out);
      there = put.root (folders_made t p p (under-refl p) (free_clear t p p free (under-refl p))) ∙ sym value.there;
      made = λ q w. let up = (is_within_parts p q w).0 in grows_some first last q folder (put.grows q (above_apart p q w)) (folders_made t p q up (free_clear t p q free up));
      roads = put.filled.roads;
    }

put_by : (t n : Tree) (p : Path) (v : Value) → p ≢ [] → IsTree n → IsFree t p → Roads t → is_nothing v ≡ false → value_at n p ≡ v → IsPutFrom t p n (put_value t p v)
put_by t n p nothing root tree free roads some e = absurd (false≢true (sym some))
put_by t n p (content bytes) root tree free roads some e = content_put t n p bytes root tree free roads e
put_by t n p (members m) root tree free roads some e = folder_put t n p m tree free roads e

pub value_put : (t n : Tree) (p : Path) → p ≢ [] → IsTree n → IsFree t p → Roads t → is_nothing (value_at n p) ≡ false → IsPutFrom t p n (put_value t p (value_at n p))
value_put t n p root tree free roads some = put_by t n p (value_at n p) root tree free roads some refl

-- ---- values at paths that are apart

pub record ArePutFrom (t : Tree) (ps : List Path) (n u : Tree) : Type 0 where
  pub others : (q : Path) → is_in_any ps q ≡ false → file_at u q ≡ file_at t q
  pub inside : (q : Path) → is_in_any ps q ≡ true → file_at u q ≡ file_at n q
  pub grows : (q : Path) → is_in_any ps q ≡ false → Grows t u q
  pub there : AllByRecursion (λ p. item_at u p ≡ item_at n p) ps
  pub made : AllByRecursion (λ p. (q : Path) → is_within p q ≡ true → item_at u q ≡ Some folder) ps
  pub roads : Roads u

-- what overlaps one of two paths that are apart isn't below the other
below_apart : (p x q : Path) → overlap p x ≡ false → overlap q x ≡ true → under p q ≡ false
below_apart p x q apart over =
    let parts = or_parts (under p x) (under x p) apart in
    false_from_ne_true (under p q) (λ u.
    elim (or_cases (under q x) (under x q) over) [
      | inl up ↦ both_ways (under p x) parts.0 (under-trans p q x u up)
      | inr down ↦ both_ways (overlap p x) apart (under-overlap p x q u down)
    ])

free_after : (t n u : Tree) (p : Path) (ps : List Path) → is_apart p ps ≡ true → IsPutFrom t p n u → AllByRecursion (IsFree t) ps → AllByRecursion (IsFree u) ps
free_after t n u p [] apart put free = tt
free_after t n u p (x ∷ ps) apart put free =
    let parts = apart_head p x ps apart in (
      λ q over. put.others q (below_apart p x q parts.0 over) ∙ free.0 q over,
      free_after t n u p ps parts.1 put free.1,
    )

below_head : (p : Path) (ps : List Path) (q : Path) → is_in_any (p ∷ ps) q ≡ true → is_in_any ps q ≡ false → under p q ≡ true
below_head p ps q h out =
    elim (or_cases (under p q) (is_in_any ps q) h) [ inl e ↦ e | inr e ↦ absurd (both_ways (is_in_any ps q) out e) ]

inside_all : (t n u last : Tree) (p : Path) (ps : List Path) (q : Path) → IsPutFrom t p n u → ArePutFrom u ps n last → is_in_any (p ∷ ps) q ≡ true → (is_in_any ps q ≡ true) ⊎ (is_in_any ps q ≡ false) → file_at last q ≡ file_at n q
inside_all t n u last p ps q put rest h (inl inside) = rest.inside q inside
inside_all t n u last p ps q put rest h (inr out) = rest.others q out ∙ put.inside q (below_head p ps q h out)

pub values_put : (ps : List Path) (t n : Tree) → are_apart ps ≡ true → IsTree n → AllByRecursion (IsFree t) ps → Roads t → AllByRecursion (λ p. is_nothing (value_at n p) ≡ false) ps → ArePutFrom t ps n (put_values t ps (map (value_at n) ps))
values_put [] t n apart tree free roads some =
    record {
      others = λ q h. refl;
      inside = λ q h. absurd (false≢true h);
      grows = λ q h. inl refl;
      there = tt;
      made = tt;
      roads = roads;
    }
values_put (p ∷ ps) t n apart tree free roads some =
    let parts = and_parts (is_apart p ps) (are_apart ps) apart in
    let next = put_value t p (value_at n p) in
    let last = put_values next ps (map (value_at n) ps) in
    let put : IsPutFrom t p n next = value_put t n p (apart_root p ps parts.0) tree free.0 roads some.0 in
    let rest = values_put ps next n parts.1 tree (free_after t n next p ps parts.0 put free.1) put.roads some.1 in
    let stands = found (item_at n p) (some_value n p some.0) in
    let here : item_at last p ≡ Some stands.0 =
    grows_some next last p stands.0 (rest.grows p (apart_above p p ps parts.0 (under-refl p))) (put.there ∙ stands.1) in
    record {
      others = λ q h. let out = or_parts (under p q) (is_in_any ps q) h in rest.others q out.1 ∙ put.others q out.0;
      inside = λ q h. inside_all t n next last p ps q put rest h (cases_Bool (is_in_any ps q));
      grows = λ q h. let out = or_parts (under p q) (is_in_any ps q) h in grows_then t next last q (put.grows q out.0) (rest.grows q out.1);
      there = (here ∙ sym stands.1, rest.there);
      made = (
        λ q w. grows_some next last q folder (rest.grows q (apart_above p q ps parts.0 (is_within_parts p q w).0)) (put.made q w),
        rest.made,
      );
      roads = rest.roads;
    }
