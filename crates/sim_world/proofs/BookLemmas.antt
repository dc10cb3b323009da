-- Laws of the book: it only grows, and has the first content under each digest.
use Rattle.std.proofs.Common.{◌≡◌, ℕ, List, [], ◌∷◌, ◌++◌, Bool, true, false, refl, sym, ap, ◌∙◌, bytes_eq, Option, Some, None, cond}
use Rattle.std.specs.List.{flat_map}
use Rattle.md5.specs.Md5.{md5}
use Rattle.world_api.specs.Tree.{Value as Told}
use Rattle.world_api.specs.History.{Aside, Book, Grows, Stays, itself}
use Rattle.sim_world.specs.Book.{or_else, met, met_all, contents_of, with_met}
use Rattle.sim_world.specs.Met.{first_under}

met_grows : (bytes : List ℕ) (book : Book) → Grows book (met bytes book)
unfolding met
met_grows bytes book digest x e = ap (λ (o : Option (List ℕ)). or_else o (cond (bytes_eq (md5 bytes) digest) (Some bytes) None)) e

all_grows : (xs : List (List ℕ)) (book : Book) → Grows book (met_all xs book)
all_grows [] book digest x e = e
all_grows (y ∷ xs) book digest x e = all_grows xs (met y book) digest x (met_grows y book digest x e)

pub stays_met : (vs : List Told) (a : Aside) → Stays itself a (with_met vs a)
stays_met vs a = record { fixed = refl; book = all_grows (flat_map contents_of vs) a.book }

pub met_all-append : (xs ys : List (List ℕ)) (book : Book) → met_all (xs ++ ys) book ≡ met_all ys (met_all xs book)
met_all-append [] ys book = refl
met_all-append (x ∷ xs) ys book = met_all-append xs ys (met x book)

or_cond : (o : Option (List ℕ)) (b : Bool) (x : List ℕ) (rest : Option (List ℕ)) → or_else (or_else o (cond b (Some x) None)) rest ≡ or_else o (cond b (Some x) rest)
or_cond None true x rest = refl
or_cond None false x rest = refl
or_cond (Some y) b x rest = refl

or_none : (o : Option (List ℕ)) → or_else o None ≡ o
or_none None = refl
or_none (Some x) = refl

-- what was there stays, and else the first of the contents is met
pub met_all-first : (xs : List (List ℕ)) (book : Book) (digest : List ℕ) → met_all xs book digest ≡ or_else (book digest) (first_under digest xs)
unfolding met
met_all-first [] book digest = sym (or_none (book digest))
met_all-first (x ∷ xs) book digest =
    met_all-first xs (met x book) digest ∙ or_cond (book digest) (bytes_eq (md5 x) digest) x (first_under digest xs)
