-- The text of a listing is read back as that listing.
--     tokens_listing     its tokens are those of an array of objects
--     data_listing       which reads as its members, each with two texts
--     read_back          so the listing is read back, where its paths are UTF-8
--     sound_back         as those of the workspace are
use Rattle.std.proofs.Common.{◌≡◌, ℕ, suc, ◌+◌, ◌<◌, ◌≤◌, Bool, true, false, not, ◌==◌, List, [], ◌∷◌, ◌++◌, length, map, take, get_or, refl, sym, ap, ◌∙◌, subst, arith, codes, bytes_eq, Some, None}
use Rattle.std.specs.Prelude.{option_map, option_and_then}
use Rattle.std.specs.List.{AllByRecursion, list_all}
use Rattle.std.specs.Ordering.{nat_cmp, is_lt, ordering_reverse}
use Rattle.std.specs.declared.cmp.Ordering.TheVariants.{Less}
use Rattle.std.specs.Cmp.Lexicographic.{slice_cmp}
use Rattle.std.specs.Str.{IsUtf8, is_utf8}
use Rattle.std.proofs.lemmas.Bool.{false≢true, and_parts, and_from, cond-true, ne_eqb}
use Rattle.std.proofs.lemmas.Cmp.{nat_list_cmp_total}
use Rattle.std.proofs.lemmas.List.{append-nil, take_more}
use Rattle.std.proofs.lemmas.Slice.Eq.{bytes_eq-Decides}
use Rattle.json.specs.Token.{Token}
use Rattle.json.specs.Text.{content, plain}
use Rattle.json.specs.Lex.{Lexeme, token, comma, colon, string_token, lex, between, in_string, fresh, after_value, punctuate, tokens}
use Rattle.json.specs.Json as json
use Rattle.json.specs.Tree.{json_tokens, items_tokens, items_depth}
use Rattle.json.proofs.Printed.Trees.{value-json_tokens}
use Rattle.serde_json.specs.Data.{Data, Items, no_items, item, no_members, member, string, array, object}
use Rattle.serde_json.specs.Read.{of_json, of_items, read}
use Rattle.dvc_base.specs.Path.{Path, path_text, overlap}
use Rattle.dvc_base.specs.Name.{ObjectName, name_with, are_digits, is_digit}
use Rattle.dvc_base.proofs.NormalLemmas.{join-path_text}
use Rattle.world_api.specs.Tree.{IsRelPath}
use Rattle.world_api.specs.Calls.{are_rising, are_apart, is_apart}
use Rattle.file_hash.specs.Listing.{is_before, path_at, text_at, is_file_name, escaped_text, member_text, listing_text, IsListing}
use Rattle.file_hash.specs.Reading.{name_of_digits, path_of_text, member_in, members_in, if_apart, array_in, members_of_text, read_listing, IsSound}
use Rattle.file_hash.specs.declared.listing.Member.{Member}
use Rattle.file_hash.proofs.OrderLemmas.{Rises, rising_in_order}
use Rattle.file_hash.proofs.TreeOrder.{rising_all}
use Rattle.file_hash.proofs.ListingLemmas.{weak}
use Rattle.file_hash.proofs.EscapeLemmas.{text_read, text_passed, digits_read, digits_passed, are_ascii, ascii_both, text_ascii, digits_ascii, ascii_utf8}
use Rattle.file_hash.proofs.TellsLemmas.{behind, row_text, rest_text, more_first, first_text}
use Rattle.file_hash.proofs.ReadLemmas.{member_ok, path_own, apart_some}

-- ---- tokens

abbrev row_json : Member → json.Json
row_json m = json.object (json.member (codes "md5") (json.string m.name.digits) (json.member (codes "relpath") (json.string (text_at m)) json.no_members))

abbrev rows_json : List Member → json.Items
rows_json [] = json.no_items
rows_json (m ∷ ms) = json.item (row_json m) (rows_json ms)

abbrev Digits : List Member → Type 0
Digits ms = AllByRecursion (λ m. list_all is_digit m.name.digits ≡ true) ms

abbrev row_lexemes : Member → List Lexeme → List Lexeme
row_lexemes m ls =
    token Token.begin_object ∷ token (Token.string (codes "md5")) ∷ colon ∷ token (Token.string m.name.digits) ∷ comma
    ∷ token (Token.string (codes "relpath")) ∷ colon ∷ token (Token.string (text_at m)) ∷ token Token.end_object ∷ ls

front_lexed : (x : List ℕ) → lex between (codes "{\"md5\": \"" ++ x) ≡ token Token.begin_object ∷ token (Token.string (codes "md5")) ∷ colon ∷ token (string_token (content plain x)) ∷ lex in_string x
unfolding lex content
front_lexed x = refl

middle_lexed : (x : List ℕ) → lex between (codes ", \"relpath\": \"" ++ x) ≡ comma ∷ token (Token.string (codes "relpath")) ∷ colon ∷ token (string_token (content plain x)) ∷ lex in_string x
unfolding lex content
middle_lexed x = refl

brace_lexed : (r : List ℕ) → lex between (125 ∷ r) ≡ token Token.end_object ∷ lex between r
unfolding lex
brace_lexed r = refl

row_lexed : (m : Member) (r : List ℕ) → list_all is_digit m.name.digits ≡ true → lex between (member_text m ++ r) ≡ row_lexemes m (lex between r)
row_lexed m r d =
    let t = text_at m in
    let after : List ℕ = codes ", \"relpath\": \"" ++ behind m r in
    let begun : List Lexeme → List Lexeme = λ (ls : List Lexeme). token Token.begin_object ∷ token (Token.string (codes "md5")) ∷ colon ∷ ls in
    let middle : List Lexeme → List Lexeme = λ (ls : List Lexeme). begun (token (Token.string m.name.digits) ∷ comma ∷ token (Token.string (codes "relpath")) ∷ colon ∷ ls) in
    ap (lex between) (row_text m r)
    ∙ front_lexed (m.name.digits ++ 34 ∷ after)
    ∙ ap (λ o. begun (token (string_token o) ∷ lex in_string (m.name.digits ++ 34 ∷ after))) (digits_read m.name.digits after d)
    ∙ ap (λ ls. begun (token (Token.string m.name.digits) ∷ ls)) (digits_passed m.name.digits after d ∙ middle_lexed (behind m r))
    ∙ ap (λ o. middle (token (string_token o) ∷ lex in_string (behind m r))) (text_read t (125 ∷ r))
    ∙ ap (λ ls. middle (token (Token.string t) ∷ ls)) (text_passed t (125 ∷ r) ∙ brace_lexed r)

fresh_row : (m : Member) (ls : List Lexeme) → punctuate fresh (row_lexemes m ls) ≡ json_tokens (row_json m) ++ punctuate after_value ls
unfolding punctuate
fresh_row m ls = refl

next_row : (m : Member) (ls : List Lexeme) → punctuate after_value (comma ∷ row_lexemes m ls) ≡ json_tokens (row_json m) ++ punctuate after_value ls
unfolding punctuate
next_row m ls = refl

end_tokens : punctuate after_value (lex between (codes "]")) ≡ Token.end_array ∷ []
unfolding punctuate lex
end_tokens = refl

comma_lexed : (x : List ℕ) → lex between (codes ", " ++ x) ≡ comma ∷ lex between x
unfolding lex
comma_lexed x = refl

rest_tokens : (ms : List Member) → Digits ms → punctuate after_value (lex between (rest_text ms)) ≡ items_tokens (rows_json ms)
rest_tokens [] d = end_tokens
rest_tokens (m ∷ ms) d =
    ap (λ t. punctuate after_value (lex between t)) (more_first m ms)
    ∙ ap (punctuate after_value) (comma_lexed (member_text m ++ rest_text ms) ∙ ap (λ ls. comma ∷ ls) (row_lexed m (rest_text ms) d.0))
    ∙ next_row m (lex between (rest_text ms))
    ∙ ap (λ ts. json_tokens (row_json m) ++ ts) (rest_tokens ms d.1)

none_tokens : tokens (codes "[]") ≡ Token.begin_array ∷ Token.end_array ∷ []
unfolding punctuate lex
none_tokens = refl

open_tokens : (x : List ℕ) → tokens (91 ∷ x) ≡ Token.begin_array ∷ punctuate fresh (lex between x)
unfolding punctuate lex
open_tokens x = refl

none_listed : listing_text [] ≡ codes "[]"
unfolding listing_text
none_listed = refl

tokens_listing : (ms : List Member) → Digits ms → tokens (listing_text ms) ≡ json_tokens (json.array (rows_json ms))
tokens_listing [] d = ap tokens none_listed ∙ none_tokens
tokens_listing (m ∷ ms) d =
    ap tokens (first_text m ms) ∙ open_tokens (member_text m ++ rest_text ms)
    ∙ ap (λ ls. Token.begin_array ∷ punctuate fresh ls) (row_lexed m (rest_text ms) d.0)
    ∙ ap (λ ts. Token.begin_array ∷ ts) (fresh_row m (lex between (rest_text ms)) ∙ ap (λ ts. json_tokens (row_json m) ++ ts) (rest_tokens ms d.1))

-- ---- data

abbrev row_data : Member → Data
row_data m = object (member (codes "md5") (string m.name.digits) (member (codes "relpath") (string (text_at m)) no_members))

abbrev rows_data : List Member → Items
rows_data [] = no_items
rows_data (m ∷ ms) = item (row_data m) (rows_data ms)

row_read : (m : Member) → of_json (row_json m) ≡ Some (row_data m)
row_read m = refl

rows_read : (ms : List Member) → of_items (rows_json ms) ≡ Some (rows_data ms)
rows_read [] = refl
rows_read (m ∷ ms) =
    ap (option_and_then (λ d. option_map (item d) (of_items (rows_json ms)))) (row_read m) ∙ ap (option_map (item (row_data m))) (rows_read ms)

shallow : (ms : List Member) → items_depth (rows_json ms) ≤ 1
shallow [] = omega arith
shallow (m ∷ ms) = omega (arith, shallow ms)

data_listing : (ms : List Member) → Digits ms → read (listing_text ms) ≡ Some (array (rows_data ms))
data_listing ms d =
    ap (λ ts. option_and_then of_json (option_and_then (λ p. json.if_last p.0 p.1) (json.value 127 ts))) (tokens_listing ms d ∙ sym (append-nil (json_tokens (json.array (rows_json ms)))))
    ∙ ap (λ o. option_and_then of_json (option_and_then (λ p. json.if_last p.0 p.1) o)) (value-json_tokens (json.array (rows_json ms)) 127 [] (deep (items_depth (rows_json ms)) (shallow ms)))
    ∙ ap (option_map array) (rows_read ms)
  where
    deep : (n : ℕ) → n ≤ 1 → suc n ≤ 127
    deep n l = omega arith

-- ---- members

-- what a listing's members have
record IsRow (m : Member) : Type 0 where
  rootless : 0 < length m.path
  rel : IsRelPath m.path
  file : is_file_name m.name ≡ true

not_dir : (b : Bool) → not b ≡ true → b ≡ false
not_dir true h = absurd (false≢true h)
not_dir false h = refl

named_back : (name : ObjectName) → is_file_name name ≡ true → name_of_digits name.digits ≡ Some name
named_back name h =
    let parts = and_parts (are_digits name.digits) (not name.dir) h in
    let digits = and_parts (length name.digits == 32) (list_all is_digit name.digits) parts.0 in
    cond-true (length name.digits == 32) (name_with name.digits false) None digits.0
    ∙ cond-true (list_all is_digit name.digits) (Some (record { digits = name.digits; dir = false })) None digits.1
    ∙ ap (λ b. Some (record { digits = name.digits; dir = b })) (sym (not_dir name.dir parts.1))

some_parts : (p : Path) → 0 < length p → not (length p == 0) ≡ true
some_parts [] h = absurd (omega arith)
some_parts (c ∷ p) h = ap not (ne_eqb (length (c ∷ p)) 0 (λ e. omega arith))

path_back : (p : Path) → 0 < length p → IsRelPath p → path_of_text (path_text p) ≡ Some p
path_back p some rel =
    path_own (path_text p) p (join-path_text p rel.normal rel.short)
    (and_from (not (length p == 0)) (bytes_eq (path_text p) (path_text p)) (some_parts p some) ((bytes_eq-Decides (path_text p) (path_text p)).1 refl))

row_back : (m : Member) → IsRow m → member_in (row_data m) ≡ Some m
row_back m h = member_ok (row_data m) m.name.digits (text_at m) m.name m.path refl (named_back m.name h.file) refl (path_back m.path h.rootless h.rel)

rows_back : (ms : List Member) → AllByRecursion IsRow ms → members_in (rows_data ms) ≡ Some ms
rows_back [] h = refl
rows_back (m ∷ ms) h =
    ap (option_and_then (λ k. option_map (λ ks. k ∷ ks) (members_in (rows_data ms)))) (row_back m h.0) ∙ ap (option_map (λ ks. m ∷ ks)) (rows_back ms h.1)

apart_some_path : (p : Path) (qs : List Path) → is_apart p qs ≡ true → 0 < length p
apart_some_path [] [] h = absurd (false≢true h)
apart_some_path (c ∷ p) [] h = omega arith
apart_some_path p (q ∷ qs) h = apart_some_path p qs (and_parts (not (overlap p q)) (is_apart p qs) h).1

rows_from : (ms : List Member) → are_apart (map path_at ms) ≡ true → list_all (λ m. is_file_name m.name) ms ≡ true → AllByRecursion (λ m. IsRelPath m.path) ms → AllByRecursion IsRow ms
rows_from [] a f r = tt
rows_from (m ∷ ms) a f r =
    let apart = and_parts (is_apart m.path (map path_at ms)) (are_apart (map path_at ms)) a in
    let files = and_parts (is_file_name m.name) (list_all (λ m. is_file_name m.name) ms) f in (
      record { rootless = apart_some_path m.path (map path_at ms) apart.0; rel = r.0; file = files.0 },
      rows_from ms apart.1 files.1 r.1,
    )

digits_of_files : (ms : List Member) → list_all (λ m. is_file_name m.name) ms ≡ true → Digits ms
digits_of_files [] f = tt
digits_of_files (m ∷ ms) f =
    let files = and_parts (is_file_name m.name) (list_all (λ m. is_file_name m.name) ms) f in
    let name = and_parts (are_digits m.name.digits) (not m.name.dir) files.0 in
    ((and_parts (length m.name.digits == 32) (list_all is_digit m.name.digits) name.0).1, digits_of_files ms files.1)

-- ---- in order already

not_later : (a b : List ℕ) → slice_cmp nat_cmp a b ≡ Less → is_lt (slice_cmp nat_cmp b a) ≡ false
not_later a b e = ap is_lt (nat_list_cmp_total.antisymm b a ∙ ap ordering_reverse e)

later_all : (m : Member) (ms : List Member) → AllByRecursion (λ t. slice_cmp nat_cmp (text_at m) t ≡ Less) (map text_at ms) → AllByRecursion (λ k. is_before k m ≡ false) ms
later_all m [] h = tt
later_all m (k ∷ ms) h = (not_later (text_at m) (text_at k) h.0, later_all m ms h.1)

rises_from : (ms : List Member) → are_rising (map text_at ms) ≡ true → Rises is_before weak ms
rises_from [] h = tt
rises_from (m ∷ ms) h =
    let parts = rising_all (text_at m) (map text_at ms) h in (later_all m ms parts.0, rises_from ms parts.1)

-- ---- the text is ASCII

row_ascii : (m : Member) → list_all is_digit m.name.digits ≡ true → IsUtf8 (text_at m) → are_ascii (member_text m) ≡ true
row_ascii m d u =
    ascii_both (codes "{\"md5\": \"" ++ m.name.digits ++ codes "\", \"relpath\": \"" ++ escaped_text (text_at m)) (codes "\"}")
    (ascii_both (codes "{\"md5\": \"" ++ m.name.digits ++ codes "\", \"relpath\": \"") (escaped_text (text_at m))
    (ascii_both (codes "{\"md5\": \"" ++ m.name.digits) (codes "\", \"relpath\": \"") (ascii_both (codes "{\"md5\": \"") m.name.digits refl (digits_ascii m.name.digits d)) refl)
    (text_ascii (text_at m) u))
    refl

rest_ascii : (ms : List Member) → Digits ms → AllByRecursion (λ m. IsUtf8 (text_at m)) ms → are_ascii (rest_text ms) ≡ true
rest_ascii [] d u = refl
rest_ascii (m ∷ ms) d u =
    ap are_ascii (more_first m ms) ∙ ascii_both (codes ", ") (member_text m ++ rest_text ms) refl (ascii_both (member_text m) (rest_text ms) (row_ascii m d.0 u.0) (rest_ascii ms d.1 u.1))

listing_ascii : (ms : List Member) → Digits ms → AllByRecursion (λ m. IsUtf8 (text_at m)) ms → are_ascii (listing_text ms) ≡ true
listing_ascii [] d u = ap are_ascii none_listed
listing_ascii (m ∷ ms) d u =
    ap are_ascii (first_text m ms) ∙ ascii_both (91 ∷ []) (member_text m ++ rest_text ms) refl (ascii_both (member_text m) (rest_text ms) (row_ascii m d.0 u.0) (rest_ascii ms d.1 u.1))

-- ---- back again

pub read_back : (ms : List Member) → IsListing ms → AllByRecursion (λ m. IsRelPath m.path) ms → AllByRecursion (λ m. IsUtf8 (text_at m)) ms → read_listing (listing_text ms) ≡ Some ms
read_back ms h rel utf8 =
    let digits = digits_of_files ms h.files in
    let found : members_of_text (listing_text ms) ≡ Some ms =
    cond-true (is_utf8 (listing_text ms)) (option_and_then array_in (read (listing_text ms))) None (ascii_utf8 (listing_text ms) (listing_ascii ms digits utf8))
    ∙ ap (option_and_then array_in) (data_listing ms digits)
    ∙ rows_back ms (rows_from ms h.apart h.files rel) in
    ap (option_and_then if_apart) found ∙ apart_some ms h.apart ∙ ap Some (rising_in_order is_before weak ms (rises_from ms h.rising))

sound_rel : (ms : List Member) → AllByRecursion IsSound ms → AllByRecursion (λ m. IsRelPath m.path) ms
sound_rel [] h = tt
sound_rel (m ∷ ms) h = (h.0.rel, sound_rel ms h.1)

sound_utf8 : (ms : List Member) → AllByRecursion IsSound ms → AllByRecursion (λ m. IsUtf8 (text_at m)) ms
sound_utf8 [] h = tt
sound_utf8 (m ∷ ms) h = (h.0.utf8, sound_utf8 ms h.1)

pub sound_back : (ms : List Member) (text : List ℕ) → text ≡ listing_text ms → AllByRecursion IsSound ms → IsListing ms → read_listing text ≡ Some ms
sound_back ms text is sound listing = ap read_listing is ∙ read_back ms listing (sound_rel ms sound) (sound_utf8 ms sound)

pub sound_more : (rest : List Member) (i : ℕ) (m : Member) → m ≡ get_or rest i m → i < length rest → AllByRecursion IsSound (take i rest) → IsSound m → AllByRecursion IsSound (take (i + 1) rest)
sound_more rest i m is l h k =
    subst (AllByRecursion IsSound) (sym (take_more rest i m l ∙ ap (λ x. take i rest ++ x ∷ []) (sym is))) (both (take i rest) h)
  where
    both : (xs : List Member) → AllByRecursion IsSound xs → AllByRecursion IsSound (xs ++ m ∷ [])
    both [] h = (k, tt)
    both (x ∷ xs) h = (h.0, both xs h.1)
