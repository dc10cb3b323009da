-- What the text of a listing tells of the files that it lists.
--     row_same          equal texts of two members, before whatever follows, have equal digits and paths
--     rows_same         equal texts of listings have equal rows
--     value-file-map    the files of a folder that stands in a tree
--     listing_tells     folders whose listings have one text have the same files, by their digests
use Rattle.std.proofs.Common.{◌≡◌, ℕ, ◌*◌, ◌<◌, true, false, cond, List, [], ◌∷◌, ◌++◌, length, drop, map, refl, sym, ap, ◌∙◌, subst, inl, inr, arith, append_assoc, codes, Option, Some, None}
use Rattle.std.specs.Prelude.{IsSome, is_some, nat_lt}
use Rattle.std.specs.List.{AllByRecursion, flat_map}
use Rattle.std.specs.Ordering.{eq_by_cmp}
use Rattle.std.specs.FinMap.{FinMap, get, entries, get-entries}
use Rattle.std.specs.FinMap.Entries.{find}
use Rattle.std.proofs.lemmas.Bool.{false≢true, and_from, lt-ltb, cases_lt}
use Rattle.std.proofs.lemmas.List.{append-nil}
use Rattle.std.proofs.lemmas.List.Elements.{All-tail}
use Rattle.json.specs.Text.{content, plain}
use Rattle.md5.specs.Md5.{md5}
use Rattle.md5.proofs.StandardFacts.{length-md5}
use Rattle.hex.specs.Hex.{lower_digits, encode_lower}
use Rattle.hex.proofs.HexLemmas.{length-encode_with}
use Rattle.dvc_base.specs.Path.{Path, path_text, under}
use Rattle.dvc_base.specs.Normal.{IsName, IsNormal}
use Rattle.dvc_base.proofs.PathLemmas.{under-split, under-append, under-length, under-same_length}
use Rattle.dvc_base.proofs.NormalLemmas.{path_text-injective}
use Rattle.world_api.specs.Tree.{Tree, Item, folder, file, members, path_cmp, item_at, value_at, value_of, members_of, IsTree, IsRelPath}
use Rattle.world_api.proofs.TreeLemmas.{same_path}
use Rattle.file_hash.specs.Files.{IsFileMap}
use Rattle.file_hash.specs.Listing.{is_before, text_at, member_with, listing_of, escaped_text, member_text, more_text, listing_text}
use Rattle.file_hash.specs.Naming.{files_at}
use Rattle.file_hash.specs.Walk.{below}
use Rattle.file_hash.specs.declared.listing.Member.{Member}
use Rattle.file_hash.proofs.OrderLemmas.{order_each, order_back}
use Rattle.file_hash.proofs.DigestLemmas.{same_digits}
use Rattle.file_hash.proofs.PathsLemmas.{longer}
use Rattle.file_hash.proofs.TreeOrder.{Entry, rises_all, found_each, not_within_file}
use Rattle.file_hash.proofs.ListedLemmas.{IsKnown, known, files_are, file_member}
use Rattle.file_hash.proofs.ListingLemmas.{weak}
use Rattle.file_hash.proofs.EscapeLemmas.{text_read}

-- ---- lists

heads : (x y : ℕ) (xs ys : List ℕ) → x ∷ xs ≡ y ∷ ys → x ≡ y
heads x y xs ys e = cc

tails : (x y : ℕ) (xs ys : List ℕ) → x ∷ xs ≡ y ∷ ys → xs ≡ ys
tails x y xs ys e = cc

cancel : (xs ys zs : List ℕ) → xs ++ ys ≡ xs ++ zs → ys ≡ zs
cancel [] ys zs e = e
cancel (x ∷ xs) ys zs e = cancel xs ys zs (tails x x (xs ++ ys) (xs ++ zs) e)

split_same : (a b r s : List ℕ) → length a ≡ length b → a ++ r ≡ b ++ s → (a ≡ b) × (r ≡ s)
split_same [] [] r s l e = (refl, e)
split_same [] (y ∷ b) r s l e = absurd (omega arith)
split_same (x ∷ a) [] r s l e = absurd (omega arith)
split_same (x ∷ a) (y ∷ b) r s l e =
    let rest = split_same a b r s (omega arith) (tails x y (a ++ r) (b ++ s) e) in
    (ap (λ k. k ∷ a) (heads x y (a ++ r) (b ++ s) e) ∙ ap (λ t. y ∷ t) rest.0, rest.1)

regroup : (a d b e c r : List ℕ) → (a ++ d ++ b ++ e ++ c) ++ r ≡ a ++ (d ++ (b ++ (e ++ (c ++ r))))
regroup a d b e c r = simp append_assoc

all_map : {A B : Type 0} (f : A → B) (P : B → Type 0) (xs : List A) → AllByRecursion (λ x. P (f x)) xs → AllByRecursion P (map f xs)
all_map f P [] h = tt
all_map f P (x ∷ xs) h = (h.0, all_map f P xs h.1)

map_all : {A B : Type 0} (f : A → B) (P : B → Type 0) (xs : List A) → AllByRecursion P (map f xs) → AllByRecursion (λ x. P (f x)) xs
map_all f P [] h = tt
map_all f P (x ∷ xs) h = (h.0, map_all f P xs h.1)

-- ---- rows

some_same : (x y : List ℕ) → Some x ≡ Some y → x ≡ y
some_same x y e = cc

-- a row's digits and the text of its path
abbrev row : Member → List ℕ × List ℕ
row m = (m.name.digits, text_at m)

row_from : (a b c d : List ℕ) → a ≡ b → c ≡ d → ◌≡◌ {A = List ℕ × List ℕ} (a, c) (b, d)
row_from a b c d e f = ap (λ x. (x, c)) e ∙ ap (λ x. (b, x)) f

abbrev pub behind : Member → List ℕ → List ℕ
behind m r = escaped_text (text_at m) ++ (codes "\"}" ++ r)

pub row_text : (m : Member) (r : List ℕ) → member_text m ++ r ≡ codes "{\"md5\": \"" ++ (m.name.digits ++ (codes "\", \"relpath\": \"" ++ behind m r))
row_text m r = regroup (codes "{\"md5\": \"") m.name.digits (codes "\", \"relpath\": \"") (escaped_text (text_at m)) (codes "\"}") r

behind_same : (m n : Member) (r s : List ℕ) → behind m r ≡ behind n s → (text_at m ≡ text_at n) × (r ≡ s)
behind_same m n r s e =
    let same = some_same (text_at m) (text_at n) (sym (text_read (text_at m) (125 ∷ r)) ∙ ap (content plain) e ∙ text_read (text_at n) (125 ∷ s)) in (
      same,
      cancel (codes "\"}") r s (cancel (escaped_text (text_at m)) (codes "\"}" ++ r) (codes "\"}" ++ s) (e ∙ ap (λ t. escaped_text t ++ (codes "\"}" ++ s)) (sym same))),
    )

row_same : (m n : Member) (r s : List ℕ) → length m.name.digits ≡ 32 → length n.name.digits ≡ 32 → member_text m ++ r ≡ member_text n ++ s → (row m ≡ row n) × (r ≡ s)
row_same m n r s l k e =
    let middle : List ℕ = codes "\", \"relpath\": \"" in
    let whole = sym (row_text m r) ∙ e ∙ row_text n s in
    let digits = split_same m.name.digits n.name.digits (middle ++ behind m r) (middle ++ behind n s) (l ∙ sym k) (cancel (codes "{\"md5\": \"") (m.name.digits ++ (middle ++ behind m r)) (n.name.digits ++ (middle ++ behind n s)) whole) in
    let rest = behind_same m n r s (cancel middle (behind m r) (behind n s) digits.1) in
    (row_from m.name.digits n.name.digits (text_at m) (text_at n) digits.0 rest.0, rest.1)

abbrev Sized : List Member → Type 0
Sized ms = AllByRecursion (λ m. length m.name.digits ≡ 32) ms

abbrev pub rest_text : List Member → List ℕ
rest_text ms = flat_map more_text ms ++ codes "]"

end_or_more : (x y : List ℕ) → 93 ∷ x ≡ 44 ∷ y → ⊥
end_or_more x y e = omega (arith, heads 93 44 x y e)

end_or_first : (x y : List ℕ) → 91 ∷ 93 ∷ x ≡ 91 ∷ 123 ∷ y → ⊥
end_or_first x y e = omega (arith, heads 93 123 x y (tails 91 91 (93 ∷ x) (123 ∷ y) e))

pub more_first : (m : Member) (ms : List Member) → rest_text (m ∷ ms) ≡ codes ", " ++ (member_text m ++ rest_text ms)
more_first m ms = append_assoc (more_text m) (flat_map more_text ms) (codes "]") ∙ append_assoc (codes ", ") (member_text m) (rest_text ms)

rows_from : (m n : Member) (ms ns : List Member) → row m ≡ row n → map row ms ≡ map row ns → map row (m ∷ ms) ≡ map row (n ∷ ns)
rows_from m n ms ns e f = ap (λ r. r ∷ map row ms) e ∙ ap (λ l. row n ∷ l) f

rest_same : (ms ns : List Member) → Sized ms → Sized ns → rest_text ms ≡ rest_text ns → map row ms ≡ map row ns
rest_same [] [] l k e = refl
rest_same [] (n ∷ ns) l k e = absurd (end_or_more [] (32 ∷ (member_text n ++ rest_text ns)) (e ∙ more_first n ns))
rest_same (m ∷ ms) [] l k e = absurd (end_or_more [] (32 ∷ (member_text m ++ rest_text ms)) (sym e ∙ more_first m ms))
rest_same (m ∷ ms) (n ∷ ns) l k e =
    let parts = row_same m n (rest_text ms) (rest_text ns) l.0 k.0 (cancel (codes ", ") (member_text m ++ rest_text ms) (member_text n ++ rest_text ns) (sym (more_first m ms) ∙ e ∙ more_first n ns)) in
    rows_from m n ms ns parts.0 (rest_same ms ns l.1 k.1 parts.1)

pub first_text : (m : Member) (ms : List Member) → listing_text (m ∷ ms) ≡ 91 ∷ (member_text m ++ rest_text ms)
unfolding listing_text
first_text m ms = append_assoc (codes "[" ++ member_text m) (flat_map more_text ms) (codes "]")

none_text : listing_text [] ≡ 91 ∷ 93 ∷ []
unfolding listing_text
none_text = refl

brace : (m : Member) (ms : List Member) → listing_text (m ∷ ms) ≡ 91 ∷ 123 ∷ drop 1 (member_text m ++ rest_text ms)
brace m ms = first_text m ms

rows_same : (ms ns : List Member) → Sized ms → Sized ns → listing_text ms ≡ listing_text ns → map row ms ≡ map row ns
rows_same [] [] l k e = refl
rows_same [] (n ∷ ns) l k e = absurd (end_or_first [] (drop 1 (member_text n ++ rest_text ns)) (sym none_text ∙ e ∙ brace n ns))
rows_same (m ∷ ms) [] l k e = absurd (end_or_first [] (drop 1 (member_text m ++ rest_text ms)) (sym none_text ∙ sym e ∙ brace m ms))
rows_same (m ∷ ms) (n ∷ ns) l k e =
    let parts = row_same m n (rest_text ms) (rest_text ns) l.0 k.0 (tails 91 91 (member_text m ++ rest_text ms) (member_text n ++ rest_text ns) (sym (first_text m ms) ∙ e ∙ first_text n ns)) in
    rows_from m n ms ns parts.0 (rest_same ms ns l.1 k.1 parts.1)

-- ---- the files that they tell

sized_names : (es : List (Path × List ℕ)) → Sized (map member_with es)
sized_names [] = tt
sized_names (e ∷ es) = (length-encode_with lower_digits (md5 e.1) ∙ ap (λ (n : ℕ). 2 * n) (length-md5 e.1), sized_names es)

sized_listing : (m : FinMap path_cmp (List ℕ)) → Sized (listing_of m)
sized_listing m = order_each is_before weak (λ k. length k.name.digits ≡ 32) (map member_with (entries m)) (sized_names (entries m))

-- a row stands for a file of the map
abbrev Tells : FinMap path_cmp (List ℕ) → List ℕ × List ℕ → Type 0
Tells b r = (p : Path) → IsNormal p → path_text p ≡ r.1 → (y : List ℕ) × ((get b p ≡ Some y) × (encode_lower (md5 y) ≡ r.0))

entries_tell : (b : FinMap path_cmp (List ℕ)) → IsFileMap b → (es : List (Path × List ℕ)) → AllByRecursion (λ e. find path_cmp e.0 (entries b) ≡ Some e.1) es → AllByRecursion (λ m. Tells b (row m)) (map member_with es)
entries_tell b fb [] k = tt
entries_tell b fb (e ∷ es) k =
    let there : get b e.0 ≡ Some e.1 = get-entries b e.0 ∙ k.0 in
    let normal = (fb.paths e.0 (ap is_some there)).normal in (
      λ p n same. (e.1, (ap (get b) (path_text-injective p e.0 n normal same) ∙ there, refl)),
      entries_tell b fb es k.1,
    )

rows_tell : (b : FinMap path_cmp (List ℕ)) → IsFileMap b → AllByRecursion (Tells b) (map row (listing_of b))
rows_tell b fb =
    all_map row (Tells b) (listing_of b)
    (order_each is_before weak (λ m. Tells b (row m)) (map member_with (entries b)) (entries_tell b fb (entries b) (found_each (entries b) (rises_all b))))

at_entry : (P : Member → Type 0) (p : Path) (x : List ℕ) (es : List (Path × List ℕ)) → find path_cmp p es ≡ Some x → AllByRecursion P (map member_with es) → P (member_with (p, x))
at_entry P p x [] h k = absurd (cc)
at_entry P p x (e ∷ es) h k =
    elim (eq_by_cmp path_cmp p e.0) as (λ b. eq_by_cmp path_cmp p e.0 ≡ b → cond b (Some e.1) (find path_cmp p es) ≡ Some x → P (member_with (p, x))) [
      | true ↦ λ s is. subst P (ap (λ (q : Path). member_with (q, e.1)) (sym (same_path p e.0 s)) ∙ ap (λ y. member_with (p, y)) (some_same e.1 x is)) k.0
      | false ↦ λ s is. at_entry P p x es is k.1
    ] refl h

pub listing_tells : (a b : FinMap path_cmp (List ℕ)) → IsFileMap a → IsFileMap b → listing_text (listing_of a) ≡ listing_text (listing_of b)
    → (p : Path) (x : List ℕ) → get a p ≡ Some x → (y : List ℕ) × ((get b p ≡ Some y) × (md5 x ≡ md5 y))
listing_tells a b fa fb same p x here =
    let rows = rows_same (listing_of a) (listing_of b) (sized_listing a) (sized_listing b) same in
    let all = map_all row (Tells b) (listing_of a) (subst (AllByRecursion (Tells b)) (sym rows) (rows_tell b fb)) in
    let each = order_back is_before weak (λ m. Tells b (row m)) (map member_with (entries a)) all in
    let told = at_entry (λ m. Tells b (row m)) p x (entries a) (sym (get-entries a p) ∙ here) each in
    let found = told p (fa.paths p (ap is_some here)).normal refl in
    (found.0, (found.1.0, same_digits x found.0 (sym found.1.1)))

-- ---- the files of a folder

module _ (t : Tree) (at : Path) where
  -- a file of the folder stands in the tree
  stands : (q : Path) (es : List Entry) → AllByRecursion (IsKnown t at) es → IsSome (find path_cmp q (members_of at es)) → (bytes : List ℕ) × (item_at t (at ++ q) ≡ Some (file bytes))
  stands q [] k h = absurd (false≢true h)
  stands q ((x, folder) ∷ es) k h = stands q es k.1 h
  stands q ((x, file bytes) ∷ es) k h =
      elim (eq_by_cmp path_cmp q (drop (length at) x)) as (λ b. eq_by_cmp path_cmp q (drop (length at) x) ≡ b → IsSome (cond b (Some bytes) (find path_cmp q (members_of at es))) → (bytes : List ℕ) × (item_at t (at ++ q) ≡ Some (file bytes))) [
        | true ↦ λ s i. (bytes, ap (item_at t) (ap (λ (r : Path). at ++ r) (same_path q (drop (length at) x) s) ∙ sym (under-split at x k.0.under)) ∙ k.0.there)
        | false ↦ λ s i. stands q es k.1 i
      ] refl (subst (λ l. IsSome (find path_cmp q (l ++ members_of at es))) (file_member at x bytes k.0.under) h)

  at_file : IsTree t → item_at t at ≡ Some folder → (q : Path) → IsSome (get (files_at t at) q) → (bytes : List ℕ) × (item_at t (at ++ q) ≡ Some (file bytes))
  at_file tree here q h =
      stands q (below at (entries t)) (known t at) (subst IsSome (get-entries (files_at t at) q ∙ ap (find path_cmp q) (files_are t tree at here)) h)

got : (t : Tree) (r : Path) (bytes : List ℕ) → item_at t r ≡ Some (file bytes) → get t r ≡ Some (file bytes)
got t [] bytes e = absurd (folder_file bytes e)
  where
    folder_file : (bytes : List ℕ) → Some folder ≡ Some (file bytes) → ⊥
    folder_file bytes e = cc
got t (c ∷ r) bytes e = e

none_from : (o : Option (List ℕ)) → (IsSome o → ⊥) → o ≡ None
none_from None h = refl
none_from (Some x) h = absurd (h refl)

normal_below : (at q : Path) → IsNormal (at ++ q) → IsNormal q
normal_below [] q n = n
normal_below (c ∷ at) q n = normal_below at q (All-tail IsName c (at ++ q) n)

rel_below : (at q : Path) → IsRelPath (at ++ q) → IsRelPath q
rel_below at q h = record { normal = normal_below at q h.normal; short = omega (arith, longer at q, h.short) }

under_both : (at p q : Path) → under p q ≡ true → under (at ++ p) (at ++ q) ≡ true
under_both at p q u =
    subst (λ (x : Path). under (at ++ p) x ≡ true) (append_assoc at p (drop (length p) q) ∙ ap (λ (r : Path). at ++ r) (sym (under-split p q u))) (under-append (at ++ p) (drop (length p) q))

same_file : (t : Tree) → IsTree t → (at p q : Path) (x y : List ℕ) → item_at t (at ++ p) ≡ Some (file x) → item_at t (at ++ q) ≡ Some (file y) → under p q ≡ true → p ≡ q
same_file t tree at p q x y a b u =
    let above = under_both at p q u in
    elim (cases_lt (length p) (length q)) [
      | inl less ↦
          absurd (not_within_file t tree (at ++ p) (at ++ q) x a (ap is_some (got t (at ++ q) y b))
          (and_from (under (at ++ p) (at ++ q)) (nat_lt (length (at ++ p)) (length (at ++ q))) above (lt-ltb (length (at ++ p)) (length (at ++ q)) (longer_both at p q less))))
      | inr most ↦ under-same_length p q u (omega (arith, under-length p q u))
    ]
  where
    longer_both : (at p q : Path) → length p < length q → length (at ++ p) < length (at ++ q)
    longer_both [] p q l = l
    longer_both (c ∷ at) p q l = omega (arith, longer_both at p q l)

file_map : (t : Tree) → IsTree t → (at : Path) → item_at t at ≡ Some folder → IsFileMap (files_at t at)
file_map t tree at here =
    record {
      rootless = none_from (get (files_at t at) []) (λ h. let there = at_file t at tree here [] h in no_file there.0 (sym here ∙ ap (item_at t) (sym (append-nil at)) ∙ there.1));
      apart = λ p q a b u. let one = at_file t at tree here p a in let two = at_file t at tree here q b in same_file t tree at p q one.0 two.0 one.1 two.1 u;
      paths = λ p h. let there = at_file t at tree here p h in rel_below at p (tree.paths (at ++ p) (ap is_some (got t (at ++ p) there.0 there.1)));
    }
  where
    no_file : (bytes : List ℕ) → Some folder ≡ Some (file bytes) → ⊥
    no_file bytes e = cc

pub value-file-map : (t : Tree) → IsTree t → (p : Path) (m : FinMap path_cmp (List ℕ)) → value_at t p ≡ members m → IsFileMap m
value-file-map t tree p m e = by_item (item_at t p) refl e
  where
    same_map : (a b : FinMap path_cmp (List ℕ)) → members a ≡ members b → a ≡ b
    same_map a b e = cc

    by_item : (o : Option Item) → item_at t p ≡ o → value_of t p o ≡ members m → IsFileMap m
    by_item None is e = absurd (cc)
    by_item (Some (file bytes)) is e = absurd (cc)
    by_item (Some folder) is e = subst IsFileMap (same_map (files_at t p) m e) (file_map t tree p is)
