-- Reading a listing, member by member.
--     unread_on              what can't be read makes more unreadable
--     items_one, items_no    one item more is a member, or none
--     member_ok, member_no   an item is a member, or lacks something
--     listing_read           members that lie apart are a listing in order
use Rattle.std.proofs.Common.{◌≡◌, ℕ, ◌+◌, ◌<◌, ◌≤◌, true, false, cond, not, ◌==◌, List, [], ◌∷◌, ◌++◌, length, drop, map, get_or, refl, sym, ap, ◌∙◌, subst, inl, inr, arith, append_assoc, codes, bytes_eq, Option, Some, None, Result, Ok, Err}
use Rattle.std.specs.Prelude.{option_map, option_and_then}
use Rattle.std.specs.List.{AllByRecursion, list_all}
use Rattle.std.proofs.lemmas.Bool.{false≢true, and_parts, and_from, cases_Bool, cond-true, cond-false}
use Rattle.std.proofs.lemmas.List.{append-nil, drop_more, drop_all}
use Rattle.std.specs.Str.{IsUtf8, is_utf8}
use Rattle.std.proofs.lemmas.Str.{is_utf8-from_IsUtf8, IsUtf8-from_is_utf8}
use Rattle.serde_json.specs.Read.{read}
use Rattle.serde_json.specs.Data.{Data}
use Rattle.serde_json.specs.View.{view, items_view}
use Rattle.serde_json.specs.declared.value.Value.{Value}
use Rattle.dvc_base.specs.Path.{Path, path_text}
use Rattle.dvc_base.specs.Normal.{IsNormal}
use Rattle.dvc_base.specs.Join.{join}
use Rattle.dvc_base.specs.Name.{ObjectName, name_with, are_digits, is_digit}
use Rattle.dvc_base.specs.declared.path.PathFault.{PathFault}
use Rattle.world_api.specs.Calls.{are_apart}
use Rattle.file_hash.specs.Listing.{in_order, is_before, path_at, is_file_name, IsListing}
use Rattle.file_hash.specs.Reading.{name_of_digits, is_own, path_if_own, path_of_text, member_by, text_in, member_in, members_in, if_apart, array_in, members_of_text, IsUnread, IsMember, AreMembers}
use Rattle.file_hash.specs.declared.listing.Member.{Member}
use Rattle.file_hash.specs.declared.fault.ListingFault.{ListingFault}
use Rattle.file_hash.proofs.ListingLemmas.{listing_in_order}

pub unread_on : {A B : Type 0} (o : Option A) (q : Option B) (why : ListingFault) → (o ≡ None → q ≡ None) → IsUnread o why → IsUnread q why
unread_on o q why f (inl e) = inl e
unread_on o q why f (inr h) = inr (h.0, f h.1)

-- ---- items

abbrev pub put_front : List Member → Option (List Member) → Option (List Member)
put_front ms o = option_map (λ x. ms ++ x) o

pub put_none : (o : Option (List Member)) → put_front [] o ≡ o
put_none None = refl
put_none (Some x) = refl

put_one : (ms : List Member) (m : Member) (o : Option (List Member)) → put_front (ms ++ m ∷ []) o ≡ put_front ms (option_map (λ x. m ∷ x) o)
put_one ms m None = refl
put_one ms m (Some x) = ap Some (append_assoc ms (m ∷ []) x)

rest_items : (vs : List Value) (i : ℕ) (v : Value) → i < length vs → v ≡ get_or vs i v → members_in (items_view (drop i vs)) ≡ option_and_then (λ m. option_map (λ ms. m ∷ ms) (members_in (items_view (drop (i + 1) vs)))) (member_in (view v))
rest_items vs i v l is =
    ap (λ xs. members_in (items_view xs)) (drop_more vs i v l)
    ∙ ap (λ x. option_and_then (λ m. option_map (λ ms. m ∷ ms) (members_in (items_view (drop (i + 1) vs)))) (member_in (view x))) (sym is)

pub items_one : (vs : List Value) (i : ℕ) (v : Value) (ms new : List Member) (m : Member) → i < length vs → v ≡ get_or vs i v → member_in (view v) ≡ Some m → new ≡ ms ++ m ∷ []
    → put_front ms (members_in (items_view (drop i vs))) ≡ members_in (items_view vs) → put_front new (members_in (items_view (drop (i + 1) vs))) ≡ members_in (items_view vs)
items_one vs i v ms new m l is one grown held =
    ap (λ x. put_front x (members_in (items_view (drop (i + 1) vs)))) grown
    ∙ put_one ms m (members_in (items_view (drop (i + 1) vs)))
    ∙ ap (λ o. put_front ms (option_and_then (λ k. option_map (λ x. k ∷ x) (members_in (items_view (drop (i + 1) vs)))) o)) (sym one)
    ∙ ap (put_front ms) (sym (rest_items vs i v l is))
    ∙ held

pub items_no : (vs : List Value) (i : ℕ) (v : Value) (ms : List Member) → i < length vs → v ≡ get_or vs i v
    → put_front ms (members_in (items_view (drop i vs))) ≡ members_in (items_view vs) → member_in (view v) ≡ None → members_in (items_view vs) ≡ None
items_no vs i v ms l is held none =
    sym held ∙ ap (put_front ms) (rest_items vs i v l is)
    ∙ ap (λ o. put_front ms (option_and_then (λ k. option_map (λ x. k ∷ x) (members_in (items_view (drop (i + 1) vs)))) o)) none

pub items_end : (vs : List Value) (i : ℕ) (ms : List Member) → length vs ≤ i → put_front ms (members_in (items_view (drop i vs))) ≡ members_in (items_view vs) → members_in (items_view vs) ≡ Some ms
items_end vs i ms l held =
    sym held ∙ ap (λ xs. put_front ms (members_in (items_view xs))) (drop_all i vs l) ∙ ap Some (append-nil ms)

pub members_more : (ms new : List Member) (m : Member) → new ≡ ms ++ m ∷ [] → AreMembers ms → IsMember m → AreMembers new
members_more ms new m grown h k = subst AreMembers (sym grown) (both ms h)
  where
    both : (xs : List Member) → AreMembers xs → AreMembers (xs ++ m ∷ [])
    both [] h = (k, tt)
    both (x ∷ xs) h = (h.0, both xs h.1)

-- ---- one item

none_left : (o : Option Path) → member_by None o ≡ None
none_left None = refl
none_left (Some p) = refl

none_right : (o : Option ObjectName) → member_by o None ≡ None
none_right None = refl
none_right (Some n) = refl

pub member_ok : (d : Data) (s t : List ℕ) (name : ObjectName) (path : Path) → text_in (codes "md5") d ≡ Some s → name_of_digits s ≡ Some name → text_in (codes "relpath") d ≡ Some t → path_of_text t ≡ Some path → member_in d ≡ Some (record { path = path; name = name })
member_ok d s t name path a b c e =
    ap (λ o. member_by (option_and_then name_of_digits o) (option_and_then path_of_text (text_in (codes "relpath") d))) a
    ∙ ap (λ o. member_by o (option_and_then path_of_text (text_in (codes "relpath") d))) b
    ∙ ap (λ o. member_by (Some name) (option_and_then path_of_text o)) c
    ∙ ap (member_by (Some name)) e

pub no_digits : (d : Data) → text_in (codes "md5") d ≡ None → member_in d ≡ None
no_digits d a =
    ap (λ o. member_by (option_and_then name_of_digits o) (option_and_then path_of_text (text_in (codes "relpath") d))) a ∙ none_left (option_and_then path_of_text (text_in (codes "relpath") d))

pub no_name : (d : Data) (s : List ℕ) → text_in (codes "md5") d ≡ Some s → name_of_digits s ≡ None → member_in d ≡ None
no_name d s a b =
    ap (λ o. member_by (option_and_then name_of_digits o) (option_and_then path_of_text (text_in (codes "relpath") d))) a
    ∙ ap (λ o. member_by o (option_and_then path_of_text (text_in (codes "relpath") d))) b
    ∙ none_left (option_and_then path_of_text (text_in (codes "relpath") d))

pub no_text : (d : Data) → text_in (codes "relpath") d ≡ None → member_in d ≡ None
no_text d c =
    ap (λ o. member_by (option_and_then name_of_digits (text_in (codes "md5") d)) (option_and_then path_of_text o)) c ∙ none_right (option_and_then name_of_digits (text_in (codes "md5") d))

pub no_path : (d : Data) (t : List ℕ) → text_in (codes "relpath") d ≡ Some t → path_of_text t ≡ None → member_in d ≡ None
no_path d t c e =
    ap (λ o. member_by (option_and_then name_of_digits (text_in (codes "md5") d)) (option_and_then path_of_text o)) c
    ∙ ap (member_by (option_and_then name_of_digits (text_in (codes "md5") d))) e
    ∙ none_right (option_and_then name_of_digits (text_in (codes "md5") d))

some_name : (a b : ObjectName) → Some a ≡ Some b → a ≡ b
some_name a b e = cc

pub name_is_file : (s : List ℕ) (name : ObjectName) → name_of_digits s ≡ Some name → is_file_name name ≡ true
name_is_file s name e =
    elim (length s == 32) as (λ b. (length s == 32) ≡ b → cond b (name_with s false) None ≡ Some name → is_file_name name ≡ true) [
      | true ↦ λ l h.
          elim (list_all is_digit s) as (λ b. list_all is_digit s ≡ b → cond b (Some (record { digits = s; dir = false })) None ≡ Some name → is_file_name name ≡ true) [
            | true ↦ λ d k.
                subst (λ n. is_file_name n ≡ true) (some_name (record { digits = s; dir = false }) name k)
                (and_from (are_digits s) true (and_from (length s == 32) (list_all is_digit s) l d) refl)
            | false ↦ λ d k. absurd (cc)
          ] refl h
      | false ↦ λ l h. absurd (cc)
    ] refl e

some_path : (a b : Path) → Some a ≡ Some b → a ≡ b
some_path a b e = cc

long_enough : (p : Path) → not (length p == 0) ≡ true → 0 < length p
long_enough [] h = absurd (false≢true h)
long_enough (c ∷ p) h = omega arith

pub path_rootless : (s : List ℕ) (p : Path) → path_of_text s ≡ Some p → 0 < length p
path_rootless s p e = by_result (join [] s) e
  where
    by_result : (r : Result Path PathFault) → path_if_own s r ≡ Some p → 0 < length p
    by_result (Err why) h = absurd (cc)
    by_result (Ok q) h =
        elim (is_own q s) as (λ b. is_own q s ≡ b → cond b (Some q) None ≡ Some p → 0 < length p) [
          | true ↦ λ o k. subst (λ (x : Path). 0 < length x) (some_path q p k) (long_enough q (and_parts (not (length q == 0)) (bytes_eq (path_text q) s) o).0)
          | false ↦ λ o k. absurd (cc)
        ] refl h

pub path_own : (s : List ℕ) (p : Path) → join [] s ≡ Ok p → is_own p s ≡ true → path_of_text s ≡ Some p
path_own s p e o = ap (path_if_own s) e ∙ cond-true (is_own p s) (Some p) None o

pub path_other : (s : List ℕ) (p : Path) → join [] s ≡ Ok p → is_own p s ≡ false → path_of_text s ≡ None
path_other s p e o = ap (path_if_own s) e ∙ cond-false (is_own p s) (Some p) None o

pub path_wrong : (s : List ℕ) (why : PathFault) → join [] s ≡ Err why → path_of_text s ≡ None
path_wrong s why e = ap (path_if_own s) e

-- ---- a text

pub text_members : (text : List ℕ) (d : Data) → IsUtf8 text → read text ≡ Some d → members_of_text text ≡ array_in d
text_members text d u e =
    cond-true (is_utf8 text) (option_and_then array_in (read text)) None (is_utf8-from_IsUtf8 text u) ∙ ap (option_and_then array_in) e

pub text_none : (text : List ℕ) → (IsUtf8 text → read text ≡ None) → members_of_text text ≡ None
text_none text f =
    elim (cases_Bool (is_utf8 text)) [
      | inl e ↦ cond-true (is_utf8 text) (option_and_then array_in (read text)) None e ∙ ap (option_and_then array_in) (f (IsUtf8-from_is_utf8 text e))
      | inr e ↦ cond-false (is_utf8 text) (option_and_then array_in (read text)) None e
    ]

-- ---- the listing

pub apart_some : (ms : List Member) → are_apart (map path_at ms) ≡ true → if_apart ms ≡ Some (in_order is_before ms)
apart_some ms h = cond-true (are_apart (map path_at ms)) (Some (in_order is_before ms)) None h

pub apart_none : (ms : List Member) → are_apart (map path_at ms) ≡ false → if_apart ms ≡ None
apart_none ms h = cond-false (are_apart (map path_at ms)) (Some (in_order is_before ms)) None h

pub listing_read : (ms list : List Member) → AreMembers ms → are_apart (map path_at ms) ≡ true → list ≡ in_order is_before ms → IsListing list
listing_read ms list g a is =
    subst IsListing (sym is) (listing_in_order ms a (normals ms g) (names ms g))
  where
    normals : (xs : List Member) → AreMembers xs → AllByRecursion (λ m. IsNormal m.path) xs
    normals [] h = tt
    normals (x ∷ xs) h = (h.0.normal, normals xs h.1)

    names : (xs : List Member) → AreMembers xs → list_all (λ m. is_file_name m.name) xs ≡ true
    names [] h = refl
    names (x ∷ xs) h = and_from (is_file_name x.name) (list_all (λ m. is_file_name m.name) xs) h.0.file (names xs h.1)
