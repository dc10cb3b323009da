-- The text of a name is ASCII.
use Rattle.std.proofs.Common.{◌≡◌, ℕ, ◌<◌, Bool, true, false, ◌&&◌, List, [], ◌∷◌, ◌++◌, length, take, codes, inl, inr, arith, subst, sym, ap, ◌∙◌, nat_le}
use Rattle.std.specs.List.{list_all}
use Rattle.std.specs.Str.{IsAscii}
use Rattle.std.proofs.lemmas.Bool.{and_parts, or_cases, leb-true}
use Rattle.std.proofs.lemmas.List.{take_at}
use Rattle.std.proofs.lemmas.Str.Ascii.{IsAscii-nil, IsAscii-cons}
use Rattle.std.proofs.lemmas.Str.{IsAscii-append}
use Rattle.dvc_base.specs.Name.{ObjectName, is_digit, are_digits, ending_of, name_text}
use Rattle.dvc_base.proofs.NameLemmas.{are_digits-all}

digit_small : (b : ℕ) → is_digit b ≡ true → b < 128
digit_small b h =
    elim (or_cases (nat_le 48 b && nat_le b 57) (nat_le 97 b && nat_le b 102) h) [
      | inl d ↦ omega (arith, leb-true b 57 (and_parts (nat_le 48 b) (nat_le b 57) d).1)
      | inr l ↦ omega (arith, leb-true b 102 (and_parts (nat_le 97 b) (nat_le b 102) l).1)
    ]

digits_ascii : (ds : List ℕ) → list_all is_digit ds ≡ true → IsAscii ds
digits_ascii [] h = IsAscii-nil
digits_ascii (d ∷ ds) h =
    let both = and_parts (is_digit d) (list_all is_digit ds) h in
    IsAscii-cons d ds (digit_small d both.0) (digits_ascii ds both.1)

ending_ascii : (dir : Bool) → IsAscii (ending_of dir)
ending_ascii true =
    IsAscii-cons 46 (codes "dir") (omega arith) (IsAscii-cons 100 (codes "ir") (omega arith) (IsAscii-cons 105 (codes "r") (omega arith) (IsAscii-cons 114 [] (omega arith) IsAscii-nil)))
ending_ascii false = IsAscii-nil

pub name_ascii : (name : ObjectName) → are_digits name.digits ≡ true → IsAscii (name_text name)
name_ascii name h = IsAscii-append name.digits (ending_of name.dir) (digits_ascii name.digits (are_digits-all name.digits h)) (ending_ascii name.dir)

-- the front of a buffer that has the text
pub written_ascii : (buffer rest : List ℕ) (len : ℕ) (name : ObjectName) → buffer ≡ name_text name ++ rest → len ≡ length (name_text name) → are_digits name.digits ≡ true → IsAscii (take len buffer)
written_ascii buffer rest len name is long h =
    let front : take len buffer ≡ name_text name = ap (take len) is ∙ take_at (name_text name) rest len (sym long) in
    subst IsAscii (sym front) (name_ascii name h)
