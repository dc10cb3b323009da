-- The files of a value that was named: each has the bytes of its name, and none is too large to be an object.
--     file_known         a single file
--     folder_known       the members of a folder, by their listing
--     listing_small      the listing's text
--     single_.., listed_..     what was named: its file, and the names of its objects
use Rattle.std.proofs.Common.{◌≡◌, ℕ, ◌+◌, ◌≤◌, Bool, true, false, cond, List, [], ◌∷◌, ◌++◌, length, map, refl, sym, ap, subst, ◌∙◌, arith, Option, Some, None, Result, Ok}
use Rattle.std.specs.List.{AllByRecursion}
use Rattle.std.specs.Option.{option_or}
use Rattle.std.specs.FinMap.{FinMap, entries}
use Rattle.std.proofs.lemmas.Bool.{ltb-false, le-ltb}
use Rattle.std.proofs.lemmas.List.{length-map}
use Rattle.std.proofs.lemmas.Slice.Eq.{bytes_eq-Decides}
use Rattle.md5.specs.Md5.{md5}
use Rattle.hex.specs.Hex.{encode_lower}
use Rattle.dvc_base.specs.Path.{Path}
use Rattle.dvc_base.specs.Limits.{limit_of}
use Rattle.dvc_base.specs.declared.limits.What.{What}
use Rattle.dvc_base.specs.declared.limits.What.TheVariants as w
use Rattle.world_api.specs.Tree.{Tree, Item, folder, file, item_at, IsTree, path_cmp, value_at, value_of}
use Rattle.file_hash.specs.Listing.{name_of_bytes, member_with, is_before, listing_of, listing_text}
use Rattle.file_hash.specs.Naming.{named_bytes, named_of, naming_of, unless_over, is_over, if_over, file_limit, first_limit, files_limit, files_at, listed_of, listed_due, name_of_listing}
use Rattle.file_hash.specs.declared.listing.Member.{Member}
use Rattle.file_hash.specs.Files.{size_of, count_of}
use Rattle.file_hash.specs.declared.name.Listed.{Listed}
use Rattle.file_hash.specs.declared.named.Named.{Named}
use Rattle.file_hash.specs.declared.fault.HashFault.{HashFault}
use Rattle.file_hash.proofs.OrderLemmas.{order_each, order_length}
use Rattle.file_hash.proofs.ListingLemmas.{weak}
use Rattle.file_hash.proofs.ListedLemmas.{files_stand}
use Rattle.object_cache.specs.declared.fault.CacheFault.TheVariants.{TooLarge}
use Rattle.object_cache.specs.Objects.{has_name, object_names, listing_names}
use Rattle.object_cache.specs.Due.{size_fault}
use Rattle.object_cache.specs.Copying.{HasNamed, AreKnown}

-- ---- sizes

small_of : (bytes : List ℕ) → length bytes ≤ limit_of w.FileSize → size_fault (Some (file bytes)) ≡ None
small_of bytes l =
    ap (λ (b : Bool). cond b (Some (TooLarge w.FileSize (limit_of w.FileSize))) None) (le-ltb (limit_of w.FileSize) (length bytes) l)

if_none : (b : Bool) (what : What) (rest : Option What) → cond b (Some what) rest ≡ None → (b ≡ false) × (rest ≡ None)
if_none true what rest e = absurd (cc)
if_none false what rest e = (refl, e)

or_none : (a b : Option What) → option_or a b ≡ None → (a ≡ None) × (b ≡ None)
or_none None b e = (refl, e)
or_none (Some what) b e = absurd (cc)

within_limit : (n size more : ℕ) → file_limit n size more ≡ None → size + more ≤ limit_of w.FileSize
within_limit n size more e =
    ltb-false (limit_of w.FileSize) (size + more) (if_none (is_over w.FileSize (size + more)) w.FileSize (if_over w.Members (n + 1)) e).0

all_small : (n size : ℕ) (es : List (Path × List ℕ)) → first_limit n size es ≡ None → AllByRecursion (λ e. size_fault (Some (file e.1)) ≡ None) es
all_small n size [] e = tt
all_small n size (x ∷ es) e =
    let p = or_none (file_limit n size (length x.1)) (first_limit (n + 1) (size + length x.1) es) e in
    (small_of x.1 (omega (arith, within_limit n size (length x.1) p.0)), all_small (n + 1) (size + length x.1) es p.1)

pub listing_small : (files : FinMap path_cmp (List ℕ)) → files_limit files ≡ None → size_fault (Some (file (listing_text (listing_of files)))) ≡ None
listing_small files e =
    let text = listing_text (listing_of files) in
    let last = (or_none (first_limit 0 0 (entries files)) (if_over w.Listing (length text)) e).1 in
    let within : length text ≤ 268435456 = ltb-false (limit_of w.Listing) (length text) (if_none (is_over w.Listing (length text)) w.Listing None last).0 in
    small_of text (omega (arith, within))

-- ---- files that have their names

own_name : (bytes : List ℕ) → has_name (name_of_bytes bytes) bytes ≡ true
own_name bytes = (bytes_eq-Decides (encode_lower (md5 bytes)) (encode_lower (md5 bytes))).1 refl

pub file_known : (t : Tree) (at : Path) (bytes : List ℕ) → item_at t at ≡ Some (file bytes) → size_fault (Some (file bytes)) ≡ None → HasNamed (name_of_bytes bytes) (item_at t at)
file_known t at bytes there small = record { bytes = bytes; there = there; named = own_name bytes; small = ap size_fault there ∙ small }

abbrev IsKnownAt : Tree → Path → Member → Type 0
IsKnownAt t at m = HasNamed m.name (item_at t (at ++ m.path))

all_known : (t : Tree) (at : Path) (es : List (Path × List ℕ)) → AllByRecursion (λ e. item_at t (at ++ e.0) ≡ Some (file e.1)) es → AllByRecursion (λ e. size_fault (Some (file e.1)) ≡ None) es → AllByRecursion (IsKnownAt t at) (map member_with es)
all_known t at [] there small = tt
all_known t at (e ∷ es) there small = (file_known t (at ++ e.0) e.1 there.0 small.0, all_known t at es there.1 small.1)

pub folder_known : (t : Tree) (at : Path) → IsTree t → item_at t at ≡ Some folder → files_limit (files_at t at) ≡ None → AreKnown t at (listing_of (files_at t at))
folder_known t at tree here e =
    let files = files_at t at in
    let first = (or_none (first_limit 0 0 (entries files)) (if_over w.Listing (length (listing_text (listing_of files)))) e).0 in
    order_each is_before weak (IsKnownAt t at) (map member_with (entries files)) (all_known t at (entries files) (files_stand t tree at here) (all_small 0 0 (entries files) first))

-- ---- a single file that was named

pub record IsSingle (t : Tree) (at : Path) (named : Named) : Type 0 where
  pub bytes : List ℕ
  pub there : item_at t at ≡ Some (file bytes)
  pub name : named ≡ named_bytes bytes
  pub small : size_fault (Some (file bytes)) ≡ None

unless_is : {A : Type 0} (o : Option What) (x y : A) → ◌≡◌ {A = Result A HashFault} (unless_over o x) (Ok y) → (o ≡ None) × (x ≡ y)
unless_is None x y e = (refl, cc)
unless_is (Some what) x y e = absurd (cc)

single_at : (t : Tree) (at : Path) (named : Named) (o : Option Item) → item_at t at ≡ o → (o ≡ Some folder → ⊥) → naming_of (value_of t at o) ≡ Ok named → IsSingle t at named
single_at t at named None is free e = absurd (cc)
single_at t at named (Some folder) is free e = absurd (free refl)
single_at t at named (Some (file bytes)) is free e =
    let p = unless_is (if_over w.FileSize (length bytes)) (named_bytes bytes) named e in
    record {
      bytes = bytes;
      there = is;
      name = sym p.1;
      small = small_of bytes (ltb-false (limit_of w.FileSize) (length bytes) (if_none (is_over w.FileSize (length bytes)) w.FileSize None p.0).0);
    }

pub single_of : (t : Tree) (at : Path) (named : Named) → (item_at t at ≡ Some folder → ⊥) → naming_of (value_at t at) ≡ Ok named → IsSingle t at named
single_of t at named free e = single_at t at named (item_at t at) refl free e

pub single_known : (t : Tree) (at : Path) (named : Named) → IsSingle t at named → HasNamed named.name (item_at t at)
single_known t at named s =
    subst (λ (n : Named). HasNamed n.name (item_at t at)) (sym s.name) (file_known t at s.bytes s.there s.small)

pub single_names : (t : Tree) (at : Path) (named : Named) → IsSingle t at named → object_names (value_at t at) ≡ named.name ∷ []
single_names t at named s =
    ap (λ (o : Option Item). object_names (value_of t at o)) s.there ∙ sym (ap (λ (n : Named). n.name ∷ []) s.name)

pub single_named : (t : Tree) (at : Path) (named : Named) → IsSingle t at named → named_of (value_at t at) ≡ Some named
single_named t at named s = ap (λ (o : Option Item). named_of (value_of t at o)) s.there ∙ sym (ap Some s.name)

-- ---- a folder that was listed

pub record IsListedAt (t : Tree) (at : Path) (listed : Listed) : Type 0 where
  pub none : files_limit (files_at t at) ≡ None
  pub is : listed ≡ listed_of (files_at t at)

pub listed_at : (t : Tree) (at : Path) (listed : Listed) → ◌≡◌ {A = Result Listed HashFault} (Ok listed) (listed_due (files_at t at)) → IsListedAt t at listed
listed_at t at listed e =
    let p = unless_is (files_limit (files_at t at)) (listed_of (files_at t at)) listed (sym e) in
    record { none = p.0; is = sym p.1 }

pub listed_known : (t : Tree) (at : Path) (listed : Listed) → IsTree t → item_at t at ≡ Some folder → IsListedAt t at listed → AreKnown t at listed.list
listed_known t at listed tree here l =
    subst (λ (x : Listed). AreKnown t at x.list) (sym l.is) (folder_known t at tree here l.none)

pub listed_small : (t : Tree) (at : Path) (listed : Listed) → IsListedAt t at listed → size_fault (Some (file listed.text)) ≡ None
listed_small t at listed l =
    subst (λ (x : Listed). size_fault (Some (file x.text)) ≡ None) (sym l.is) (listing_small (files_at t at) l.none)

abbrev as_named : List ℕ → ℕ → ℕ → Named
as_named text size count = record { name = name_of_listing text; size = size; nfiles = Some count }

member_count : (files : FinMap path_cmp (List ℕ)) → length (listing_of files) ≡ count_of files
member_count files = order_length is_before weak (map member_with (entries files)) ∙ length-map (entries files) member_with

pub listed_named : (t : Tree) (at : Path) (listed : Listed) (named : Named) → item_at t at ≡ Some folder → IsListedAt t at listed → named ≡ as_named listed.text listed.size (length listed.list) → named_of (value_at t at) ≡ Some named
listed_named t at listed named here l e =
    let files = files_at t at in
    ap (λ (o : Option Item). named_of (value_of t at o)) here
    ∙ ap (λ (n : ℕ). Some (as_named (listing_text (listing_of files)) (size_of files) n)) (sym (member_count files))
    ∙ sym (ap Some (e ∙ ap (λ (x : Listed). as_named x.text x.size (length x.list)) l.is))

pub listed_names : (t : Tree) (at : Path) (listed : Listed) → item_at t at ≡ Some folder → IsListedAt t at listed → object_names (value_at t at) ≡ listing_names listed.list
listed_names t at listed here l =
    ap (λ (o : Option Item). object_names (value_of t at o)) here ∙ sym (ap (λ (x : Listed). listing_names x.list) l.is)
