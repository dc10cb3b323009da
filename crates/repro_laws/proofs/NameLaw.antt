-- Names, and what they tell of values.
--     name_law     equal names of a covered value and of a value of the book mean equal values
use Rattle.std.proofs.Common.{◌≡◌, ◌≢◌, ℕ, List, refl, sym, ap, ◌∙◌, Option, Some, None}
use Rattle.std.specs.FinMap.{FinMap, get, same_map}
use Rattle.std.proofs.lemmas.Bool.{false≢true}
use Rattle.std.proofs.lemmas.Option.{same_Some, none-some}
use Rattle.md5.specs.Md5.{md5}
use Rattle.world_api.specs.Tree.{Value, nothing, content, members, path_cmp}
use Rattle.world_api.specs.History.{Book}
use Rattle.world_api.proofs.TreeLemmas.{path_cmp-total, path_cmp-antisym}
use Rattle.file_hash.specs.Listing.{listing_of, listing_text}
use Rattle.file_hash.specs.Naming.{named_bytes, named_files, named_of}
use Rattle.file_hash.specs.declared.named.Named.{Named}
use Rattle.file_hash.proofs.TellsLemmas.{listing_tells}
use Rattle.repro_laws.specs.Book.{IsIn, IsBooks, IsCovered}
use Rattle.repro_laws.proofs.DigestLemmas.{same_digest}

-- ---- contents of the book

one_content : (book : Book) (x y : List ℕ) → IsIn book x → IsIn book y → md5 x ≡ md5 y → x ≡ y
one_content book x y a b e = same_Some x y (sym a ∙ ap book e ∙ b)

-- an item of the one stands in the other, with the same digest
abbrev IsMatched : Option (List ℕ) → Option (List ℕ) → Type 0
IsMatched o q = (x : List ℕ) → o ≡ Some x → (y : List ℕ) × ((q ≡ Some y) × (md5 x ≡ md5 y))

same_matched : (book : Book) (o q : Option (List ℕ)) → ((x : List ℕ) → o ≡ Some x → IsIn book x) → ((x : List ℕ) → q ≡ Some x → IsIn book x) → IsMatched o q → IsMatched q o → o ≡ q
same_matched book None None a b f g = refl
same_matched book None (Some y) a b f g = let found = g y refl in absurd (none-some found.0 found.1.0)
same_matched book (Some x) q a b f g =
    let found = f x refl in
    ap (λ (z : List ℕ). Some z) (one_content book x found.0 (a x refl) (b found.0 found.1.0) found.1.1) ∙ sym found.1.0

-- ---- the name law

digits_of : (m n : Named) → Some m ≡ Some n → m.name.digits ≡ n.name.digits
digits_of m n e = ap (λ (x : Named). x.name.digits) (same_Some m n e)

dir_of : (m n : Named) → Some m ≡ Some n → m.name.dir ≡ n.name.dir
dir_of m n e = ap (λ (x : Named). x.name.dir) (same_Some m n e)

same_content : (book : Book) (x y : List ℕ) → IsIn book x → IsIn book y → Some (named_bytes x) ≡ Some (named_bytes y) → x ≡ y
same_content book x y a b e =
    one_content book x y a b (same_digest x y (digits_of (named_bytes x) (named_bytes y) e))

same_files : (book : Book) (a b : FinMap path_cmp (List ℕ)) → IsBooks book (members a) → IsBooks book (members b) → Some (named_files a) ≡ Some (named_files b) → a ≡ b
same_files book a b h k e =
    let x = listing_text (listing_of a) in
    let y = listing_text (listing_of b) in
    let texts = one_content book x y h.1.0 k.1.0 (same_digest x y (digits_of (named_files a) (named_files b) e)) in
    same_map path_cmp-total path_cmp-antisym a b (λ p. same_matched book (get a p) (get b p) (h.1.1 p) (k.1.1 p) (listing_tells a b h.0 k.0 texts p) (listing_tells b a k.0 h.0 (sym texts) p))

pub name_law : (book : Book) (v w : Value) → IsCovered book v → IsBooks book w → named_of v ≡ named_of w → named_of w ≢ None → v ≡ w
name_law book nothing w a b e there = absurd (there (sym e))
name_law book (content x) nothing a b e there = absurd b
name_law book (content x) (content y) a b e there = ap content (same_content book x y a b e)
name_law book (content x) (members n) a b e there = absurd (false≢true (dir_of (named_bytes x) (named_files n) e))
name_law book (members m) nothing a b e there = absurd b
name_law book (members m) (content y) a b e there = absurd (false≢true (sym (dir_of (named_files m) (named_bytes y) e)))
name_law book (members m) (members n) a b e there = ap members (same_files book m n a b e)
