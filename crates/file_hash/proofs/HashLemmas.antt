-- The digits of a digest.
use Rattle.std.proofs.Common.{◌≡◌, ℕ, ◌*◌, ◌/◌, ◌%◌, ◌<◌, true, List, [], ◌∷◌, length, arith, ap, ◌∙◌, refl, slice_index, suc, zero, w32}
use Rattle.std.specs.List.{All, list_all}
use Rattle.std.proofs.lemmas.List.Sums.{AllPass-from_list_all}
use Rattle.std.proofs.lemmas.List.Elements.{All-head, All-tail, All-nil, All-cons, All-append}
use Rattle.md5.specs.Md5.{md5, digest_bytes, hash_after, padded_message}
use Rattle.std.specs.Int.{to_le_bytes}
use Rattle.md5.proofs.StandardFacts.{length-md5}
use Rattle.hex.specs.Hex.{lower_digits, encode_with, encode_lower}
use Rattle.hex.proofs.HexLemmas.{length-encode_with}
use Rattle.file_hash.specs.Listing.{name_of_bytes}
use Rattle.dvc_base.specs.Name.{is_digit, are_digits}

-- each of the sixteen digits is one
digit_at : (n : ℕ) → n < 16 → is_digit (slice_index lower_digits n) ≡ true
digit_at n l = AllPass-from_list_all is_digit lower_digits refl n 0 l

encode_lower-all : (bytes : List ℕ) → All (λ b. b < 256) bytes → list_all is_digit (encode_lower bytes) ≡ true
unfolding encode_with
encode_lower-all [] h = refl
encode_lower-all (b ∷ rest) h =
    let small : b < 256 = All-head (λ (b : ℕ). b < 256) b rest h in
    let high : is_digit (slice_index lower_digits (b / 16)) ≡ true = digit_at (b / 16) (omega arith) in
    let low : is_digit (slice_index lower_digits (b % 16)) ≡ true = digit_at (b % 16) (omega arith) in
    let more = encode_lower-all rest (All-tail (λ (b : ℕ). b < 256) b rest h) in
    rw (high, low) more

-- a digest of 16 bytes has 32 digits
pub encode_lower-digits : (bytes : List ℕ) → length bytes ≡ 16 → All (λ b. b < 256) bytes → are_digits (encode_lower bytes) ≡ true
encode_lower-digits bytes l h =
    let count : length (encode_lower bytes) ≡ 32 = length-encode_with lower_digits bytes ∙ ap (λ (n : ℕ). 2 * n) l in
    rw count (encode_lower-all bytes h)

-- ---- the bytes of a digest

word-bytes : (x : ℕ) → All (λ b. b < 256) (to_le_bytes w32 x)
word-bytes x =
    let P : ℕ → Type 0 = λ b. b < 256 in
    let last : All P (x / 16777216 % 256 ∷ []) = All-cons P (x / 16777216 % 256) [] (omega arith) (All-nil P) in
    let third : All P (x / 65536 % 256 ∷ x / 16777216 % 256 ∷ []) = All-cons P (x / 65536 % 256) (x / 16777216 % 256 ∷ []) (omega arith) last in
    let second : All P (x / 256 % 256 ∷ x / 65536 % 256 ∷ x / 16777216 % 256 ∷ []) = All-cons P (x / 256 % 256) (x / 65536 % 256 ∷ x / 16777216 % 256 ∷ []) (omega arith) third in
    All-cons P (x % 256) (x / 256 % 256 ∷ x / 65536 % 256 ∷ x / 16777216 % 256 ∷ []) (omega arith) second

digest-bytes : (h : List ℕ) (n : ℕ) → All (λ b. b < 256) (digest_bytes h n)
unfolding digest_bytes
digest-bytes h zero = All-nil (λ (b : ℕ). b < 256)
digest-bytes h (suc n) =
    All-append (λ (b : ℕ). b < 256) (digest_bytes h n) (to_le_bytes w32 (slice_index h n)) (digest-bytes h n) (word-bytes (slice_index h n))

pub md5-bytes : (m : List ℕ) → All (λ b. b < 256) (md5 m)
unfolding md5
md5-bytes m = digest-bytes (hash_after (padded_message m) (length (padded_message m) / 64)) 4

-- the digits of a file's name are lower-case hexadecimal digits
pub name_of_bytes-digits : (bytes : List ℕ) → are_digits (name_of_bytes bytes).digits ≡ true
name_of_bytes-digits bytes = encode_lower-digits (md5 bytes) (length-md5 bytes) (md5-bytes bytes)
