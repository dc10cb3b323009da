-- The digits of a SHA-256, and what has a name of such digits.
--     digits-key       they are those of a key
--     other_name       bytes have no name that isn't of such digits
use Rattle.std.proofs.Common.{◌≡◌, ℕ, ◌*◌, ◌/◌, ◌%◌, ◌<◌, ◌==◌, Bool, true, false, List, [], ◌∷◌, length, arith, ap, sym, subst, ◌∙◌, refl, slice_index, suc, zero, w32, eq-eqb}
use Rattle.std.specs.List.{All, list_all}
use Rattle.std.specs.Int.{to_be_bytes}
use Rattle.std.proofs.lemmas.Bool.{and_from, false≢true}
use Rattle.std.proofs.lemmas.List.Sums.{AllPass-from_list_all}
use Rattle.std.proofs.lemmas.List.Elements.{All-head, All-tail, All-nil, All-cons, All-append}
use Rattle.std.proofs.lemmas.Slice.Eq.{bytes_eq-Decides}
use Rattle.sha2.specs.Sha256.{sha256, digest_bytes, final_hash, initial_hash_256}
use Rattle.sha2.proofs.Facts256.{length-sha256}
use Rattle.hex.specs.Hex.{lower_digits, encode_with, encode_lower}
use Rattle.hex.proofs.HexLemmas.{length-encode_with}
use Rattle.dvc_base.specs.Name.{is_digit}
use Rattle.dvc_base.specs.RunKey.{are_key_digits}
use Rattle.run_cache.specs.Records.{digits_of, has_name}

abbrev IsByte : ℕ → Type 0
IsByte b = b < 256

-- each of the sixteen digits is one
digit_at : (n : ℕ) → n < 16 → is_digit (slice_index lower_digits n) ≡ true
digit_at n l = AllPass-from_list_all is_digit lower_digits refl n 0 l

encode_lower-all : (bytes : List ℕ) → All IsByte bytes → list_all is_digit (encode_lower bytes) ≡ true
unfolding encode_with
encode_lower-all [] h = refl
encode_lower-all (b ∷ rest) h =
    let small : b < 256 = All-head IsByte b rest h in
    let high : is_digit (slice_index lower_digits (b / 16)) ≡ true = digit_at (b / 16) (omega arith) in
    let low : is_digit (slice_index lower_digits (b % 16)) ≡ true = digit_at (b % 16) (omega arith) in
    let more = encode_lower-all rest (All-tail IsByte b rest h) in
    rw (high, low) more

-- 32 bytes have 64 digits
pub encode_lower-key : (bytes : List ℕ) → length bytes ≡ 32 → All IsByte bytes → are_key_digits (encode_lower bytes) ≡ true
encode_lower-key bytes l h =
    let count : length (encode_lower bytes) ≡ 64 = length-encode_with lower_digits bytes ∙ ap (λ (n : ℕ). 2 * n) l in
    and_from (length (encode_lower bytes) == 64) (list_all is_digit (encode_lower bytes)) (eq-eqb (length (encode_lower bytes)) 64 count) (encode_lower-all bytes h)

word-bytes : (x : ℕ) → All IsByte (to_be_bytes w32 x)
word-bytes x =
    let last : All IsByte (x % 256 ∷ []) = All-cons IsByte (x % 256) [] (omega arith) (All-nil IsByte) in
    let third : All IsByte (x / 256 % 256 ∷ x % 256 ∷ []) = All-cons IsByte (x / 256 % 256) (x % 256 ∷ []) (omega arith) last in
    let second : All IsByte (x / 65536 % 256 ∷ x / 256 % 256 ∷ x % 256 ∷ []) = All-cons IsByte (x / 65536 % 256) (x / 256 % 256 ∷ x % 256 ∷ []) (omega arith) third in
    All-cons IsByte (x / 16777216 % 256) (x / 65536 % 256 ∷ x / 256 % 256 ∷ x % 256 ∷ []) (omega arith) second

digest-bytes : (h : List ℕ) (n : ℕ) → All IsByte (digest_bytes h n)
unfolding digest_bytes
digest-bytes h zero = All-nil IsByte
digest-bytes h (suc n) =
    All-append IsByte (digest_bytes h n) (to_be_bytes w32 (slice_index h n)) (digest-bytes h n) (word-bytes (slice_index h n))

sha256-bytes : (m : List ℕ) → All IsByte (sha256 m)
unfolding sha256
sha256-bytes m = digest-bytes (final_hash initial_hash_256 m) 8

pub digits-key : (bytes : List ℕ) → are_key_digits (digits_of bytes) ≡ true
digits-key bytes = encode_lower-key (sha256 bytes) (length-sha256 bytes) (sha256-bytes bytes)

name_by : (name bytes : List ℕ) (b : Bool) → has_name name bytes ≡ b → are_key_digits name ≡ false → has_name name bytes ≡ false
name_by name bytes false e h = e
name_by name bytes true e h =
    absurd (false≢true (sym h ∙ subst (λ (x : List ℕ). are_key_digits x ≡ true) ((bytes_eq-Decides (digits_of bytes) name).0 e) (digits-key bytes)))

pub other_name : (name bytes : List ℕ) → are_key_digits name ≡ false → has_name name bytes ≡ false
other_name name bytes h = name_by name bytes (has_name name bytes) refl h
