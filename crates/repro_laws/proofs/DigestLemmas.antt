-- Equal digits mean equal digests.
use Rattle.std.proofs.Common.{◌≡◌, ℕ, zero, suc, ◌/◌, ◌%◌, ◌<◌, ◌≤◌, List, [], ◌∷◌, length, arith, ap, sym, ◌∙◌, slice_index, Ok, ◌⊎◌, inl, inr, w32}
use Rattle.std.specs.List.{All}
use Rattle.std.specs.Int.{to_le_bytes}
use Rattle.std.proofs.lemmas.Bool.{cases_lt}
use Rattle.std.proofs.lemmas.List.{get_or_past}
use Rattle.std.proofs.lemmas.List.Elements.{All-nil, All-cons, All-append}
use Rattle.md5.specs.Md5.{md5, digest_bytes, hash_after, padded_message}
use Rattle.hex.specs.Hex.{IsBytes, decode_of, encode_lower}
use Rattle.hex.proofs.HexLemmas.{decode_of-encode_lower}

-- ---- a digest is made of bytes

word-bytes : (x : ℕ) → All (λ b. b < 256) (to_le_bytes w32 x)
word-bytes x =
    let P : ℕ → Type 0 = λ b. b < 256 in
    let last : All P (x / 16777216 % 256 ∷ []) = All-cons P (x / 16777216 % 256) [] (omega arith) (All-nil P) in
    let third : All P (x / 65536 % 256 ∷ x / 16777216 % 256 ∷ []) = All-cons P (x / 65536 % 256) (x / 16777216 % 256 ∷ []) (omega arith) last in
    let second : All P (x / 256 % 256 ∷ x / 65536 % 256 ∷ x / 16777216 % 256 ∷ []) = All-cons P (x / 256 % 256) (x / 65536 % 256 ∷ x / 16777216 % 256 ∷ []) (omega arith) third in
    All-cons P (x % 256) (x / 256 % 256 ∷ x / 65536 % 256 ∷ x / 16777216 % 256 ∷ []) (omega arith) second

digest-bytes : (h : List ℕ) (n : ℕ) → All (λ b. b < 256) (digest_bytes h n)
unfolding digest_bytes
digest-bytes h zero = All-nil (λ (b : ℕ). b < 256)
digest-bytes h (suc n) =
    All-append (λ (b : ℕ). b < 256) (digest_bytes h n) (to_le_bytes w32 (slice_index h n)) (digest-bytes h n) (word-bytes (slice_index h n))

md5-bytes : (m : List ℕ) → All (λ b. b < 256) (md5 m)
unfolding md5
md5-bytes m = digest-bytes (hash_after (padded_message m) (length (padded_message m) / 64)) 4

-- ---- digits

bytes_at : (xs : List ℕ) (i : ℕ) → All (λ b. b < 256) xs → (i < length xs) ⊎ (length xs ≤ i) → slice_index xs i < 256
bytes_at xs i all (inl within) = all i 0 within
bytes_at xs i all (inr past) = omega (arith, get_or_past xs i 0 past)

are_bytes : (xs : List ℕ) → All (λ b. b < 256) xs → IsBytes xs
are_bytes xs all i = bytes_at xs i all (cases_lt i (length xs))

same_bytes : (xs ys : List ℕ) → IsBytes xs → IsBytes ys → encode_lower xs ≡ encode_lower ys → xs ≡ ys
same_bytes xs ys a b e =
    let first : decode_of (encode_lower xs) ≡ Ok xs = decode_of-encode_lower xs a in
    let second : decode_of (encode_lower ys) ≡ Ok ys = decode_of-encode_lower ys b in
    let both : Ok xs ≡ Ok ys = sym first ∙ ap decode_of e ∙ second in
    cc

pub same_digest : (x y : List ℕ) → encode_lower (md5 x) ≡ encode_lower (md5 y) → md5 x ≡ md5 y
same_digest x y e = same_bytes (md5 x) (md5 y) (are_bytes (md5 x) (md5-bytes x)) (are_bytes (md5 y) (md5-bytes y)) e
