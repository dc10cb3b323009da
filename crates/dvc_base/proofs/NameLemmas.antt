-- Names and their texts: what is printed is parsed as the same name, and the place of an object is a path in normal form.
use Rattle.std.proofs.Common.{◌≡◌, ◌≢◌, ℕ, ◌<◌, ◌≤◌, Bool, true, false, ◌&&◌, not, List, [], ◌∷◌, ◌++◌, length, take, drop, arith, ap, sym, ◌∙◌, subst, refl, codes, length-append, length-drop, cond, ◌==◌, bytes_eq, Some, None, Option, eq-eqb, eqb-true}
use Rattle.std.specs.List.{list_all}
use Rattle.std.proofs.lemmas.Bool.{and_parts, cond_both}
use Rattle.std.proofs.lemmas.List.{take_at, drop_at, append-nil, length-take-le, take-append-drop}
use Rattle.std.proofs.lemmas.List.Elements.{All-nil, All-cons, All-append}
use Rattle.std.proofs.lemmas.List.Folds.{list_all-append}
use Rattle.std.proofs.lemmas.Slice.Eq.{bytes_eq-Decides}
use Rattle.dvc_base.specs.Path.{joined}
use Rattle.dvc_base.specs.Normal.{IsName, IsNormal}
use Rattle.dvc_base.specs.Name.{ObjectName, is_digit, are_digits, ending_of, name_text, name_with, name_in, place_of}
use Rattle.dvc_base.proofs.NormalLemmas.{IsPiece, IsPiece-nil, IsPiece-cons}

-- ---- the bytes of a component

-- a test that one byte passes and another doesn't tells them apart
told_apart : (p : ℕ → Bool) (x y : ℕ) → p x ≡ true → p y ≡ false → x ≢ y
told_apart p x y h n e =
    let both : false ≡ true = sym n ∙ subst (λ (k : ℕ). p k ≡ true) e h in
    cc

-- a text of bytes that pass a test which neither a slash nor a NUL passes
pub IsPiece-tested : (p : ℕ → Bool) (c : List ℕ) → p 47 ≡ false → p 0 ≡ false → list_all p c ≡ true → IsPiece c
IsPiece-tested p [] a b h = IsPiece-nil
IsPiece-tested p (x ∷ c) a b h =
    let parts = and_parts (p x) (list_all p c) h in
    IsPiece-cons x c (told_apart p x 47 parts.0 a) (told_apart p x 0 parts.0 b) (IsPiece-tested p c a b parts.1)

IsPiece-append : (a b : List ℕ) → IsPiece a → IsPiece b → IsPiece (a ++ b)
IsPiece-append a b g h =
    record {
      no_slash = All-append (λ byte. byte ≢ 47) a b g.no_slash h.no_slash;
      no_nul = All-append (λ byte. byte ≢ 0) a b g.no_nul h.no_nul;
    }

-- a component that doesn't begin with a dot
pub IsName-from_first : (x : ℕ) (c : List ℕ) → x ≢ 46 → IsPiece (x ∷ c) → IsName (x ∷ c)
IsName-from_first x c n h =
    record {
      not_empty = omega arith;
      not_here = λ e. n (let same : x ∷ c ≡ 46 ∷ [] = e in cc);
      not_up = λ e. n (let same : x ∷ c ≡ 46 ∷ 46 ∷ [] = e in cc);
      no_slash = h.no_slash;
      no_nul = h.no_nul;
    }

IsName-digits : (c rest : List ℕ) → 0 < length c → list_all is_digit c ≡ true → IsPiece rest → IsName (c ++ rest)
IsName-digits [] rest l h p = absurd (omega arith)
IsName-digits (x ∷ c) rest l h p =
    let parts = and_parts (is_digit x) (list_all is_digit c) h in
    IsName-from_first x (c ++ rest) (told_apart is_digit x 46 parts.0 refl) (IsPiece-append (x ∷ c) rest (IsPiece-tested is_digit (x ∷ c) refl refl h) p)

-- ---- the place of an object

abbrev plain : ℕ → Bool
plain b = not (b == 47) && not (b == 0)

IsPiece-ending : (dir : Bool) → IsPiece (ending_of dir)
IsPiece-ending true = IsPiece-tested plain (codes ".dir") refl refl refl
IsPiece-ending false = IsPiece-nil

IsName-files : IsName (codes "files")
IsName-files = IsName-from_first 102 (codes "iles") (λ e. absurd (omega (arith, e))) (IsPiece-tested plain (codes "files") refl refl refl)

IsName-md5 : IsName (codes "md5")
IsName-md5 = IsName-from_first 109 (codes "d5") (λ e. absurd (omega (arith, e))) (IsPiece-tested plain (codes "md5") refl refl refl)

length-ending : (dir : Bool) → length (ending_of dir) ≤ 4
length-ending true = omega arith
length-ending false = omega arith

-- the digits of a name, cut in two
list_all-cut : (c : List ℕ) (n : ℕ) → list_all is_digit c ≡ true → (list_all is_digit (take n c) ≡ true) × (list_all is_digit (drop n c) ≡ true)
list_all-cut c n h =
    let whole : list_all is_digit (take n c ++ drop n c) ≡ true = rw (take-append-drop n c) h in
    and_parts (list_all is_digit (take n c)) (list_all is_digit (drop n c)) (sym (list_all-append is_digit (take n c) (drop n c)) ∙ whole)

pub are_digits-length : (c : List ℕ) → are_digits c ≡ true → length c ≡ 32
are_digits-length c h = eqb-true (length c) 32 (and_parts (length c == 32) (list_all is_digit c) h).0

pub are_digits-all : (c : List ℕ) → are_digits c ≡ true → list_all is_digit c ≡ true
are_digits-all c h = (and_parts (length c == 32) (list_all is_digit c) h).1

pub place-normal : (name : ObjectName) → are_digits name.digits ≡ true → IsNormal (place_of name)
place-normal name h =
    let c = name.digits in
    let count = are_digits-length c h in
    let cut = list_all-cut c 2 (are_digits-all c h) in
    let head : IsName (take 2 c) = subst IsName (append-nil (take 2 c)) (IsName-digits (take 2 c) [] (omega (arith, length-take-le 2 c (omega arith))) cut.0 IsPiece-nil) in
    let tail = IsName-digits (drop 2 c) (ending_of name.dir) (omega (arith, length-drop 2 c)) cut.1 (IsPiece-ending name.dir) in
    let last = All-cons IsName (drop 2 c ++ ending_of name.dir) [] tail (All-nil IsName) in
    let hash = All-cons IsName (take 2 c) ((drop 2 c ++ ending_of name.dir) ∷ []) head last in
    let kind = All-cons IsName (codes "md5") (take 2 c ∷ (drop 2 c ++ ending_of name.dir) ∷ []) IsName-md5 hash in
    All-cons IsName (codes "files") (codes "md5" ∷ take 2 c ∷ (drop 2 c ++ ending_of name.dir) ∷ []) IsName-files kind

pub place-short : (name : ObjectName) → are_digits name.digits ≡ true → length (joined (place_of name)) ≤ 1024
place-short name h =
    let c = name.digits in
    let count = are_digits-length c h in
    let front = length-take-le 2 c (omega arith) in
    let back = length-drop 2 c in
    let ending = length-ending name.dir in
    omega (arith, length-append (take 2 c) (47 ∷ (drop 2 c ++ ending_of name.dir)), length-append (drop 2 c) (ending_of name.dir))

-- ---- what is printed is parsed as the same name, and each name that is parsed prints as the text that it was parsed from

name_in-printed : (digits : List ℕ) (dir : Bool) → length digits ≡ 32 → list_all is_digit digits ≡ true → name_in (digits ++ ending_of dir) ≡ Some (record { digits = digits; dir = dir })
name_in-printed digits false l h = rw (append-nil digits, eq-eqb (length digits) 32 l, h)
name_in-printed digits true l h =
    let count : length (digits ++ codes ".dir") ≡ 36 = omega (arith, length-append digits (codes ".dir")) in
    rw (count, take_at digits (codes ".dir") 32 l, drop_at digits (codes ".dir") 32 l, h)

pub name_in-text : (name : ObjectName) → are_digits name.digits ≡ true → name_in (name_text name) ≡ Some name
name_in-text name h =
    name_in-printed name.digits name.dir (are_digits-length name.digits h) (are_digits-all name.digits h)

name_with-some : (digits : List ℕ) (dir : Bool) (name : ObjectName) → name_with digits dir ≡ Some name → (name ≡ record { digits = digits; dir = dir }) × (list_all is_digit digits ≡ true)
name_with-some digits dir name =
    let G : Type 0 = (name ≡ record { digits = digits; dir = dir }) × (list_all is_digit digits ≡ true) in
    cond_both (list_all is_digit digits) (Some (record { digits = digits; dir = dir })) None (λ (o : Option ObjectName). o ≡ Some name → G) (λ a e. (cc, a)) (λ a e. cc)

printed_from : (text digits : List ℕ) (dir : Bool) (name : ObjectName) → text ≡ digits ++ ending_of dir → length digits ≡ 32 → name_with digits dir ≡ Some name → (text ≡ name_text name) × (are_digits name.digits ≡ true)
printed_from text digits dir name t l e =
    let found = name_with-some digits dir name e in
    let same : name_text name ≡ digits ++ ending_of dir = ap name_text found.0 in
    let good : are_digits name.digits ≡ are_digits digits = ap (λ (n : ObjectName). are_digits n.digits) found.0 in
    let tested : are_digits digits ≡ true = rw (eq-eqb (length digits) 32 l, found.1) in
    (t ∙ sym same, good ∙ tested)

pub name_text-in : (text : List ℕ) (name : ObjectName) → name_in text ≡ Some name → (text ≡ name_text name) × (are_digits name.digits ≡ true)
name_text-in text name =
    let G : Type 0 = (text ≡ name_text name) × (are_digits name.digits ≡ true) in
    let P : Option ObjectName → Type 0 = λ o. o ≡ Some name → G in
    let listing = (length text == 36) && bytes_eq (drop 32 text) (codes ".dir") in
    let rest = cond listing (name_with (take 32 text) true) None in
    cond_both (length text == 32) (name_with text false) rest P
    (λ a e. printed_from text text false name (sym (append-nil text)) (eqb-true (length text) 32 a) e)
    (λ _. cond_both listing (name_with (take 32 text) true) None P
    (λ b e.
    let parts = and_parts (length text == 36) (bytes_eq (drop 32 text) (codes ".dir")) b in
    let count = eqb-true (length text) 36 parts.0 in
    let ending = (bytes_eq-Decides (drop 32 text) (codes ".dir")).0 parts.1 in
    printed_from text (take 32 text) true name (sym (take-append-drop 32 text) ∙ ap (λ (x : List ℕ). take 32 text ++ x) ending) (length-take-le 32 text (omega arith)) e)
    (λ _ e. cc))
