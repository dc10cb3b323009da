-- Equal names of contents mean equal digests.
use Rattle.std.proofs.Common.{◌≡◌, ℕ, ◌<◌, List, length, arith, ap, sym, ◌∙◌, slice_index, Ok, ◌⊎◌, inl, inr, ◌≤◌}
use Rattle.std.specs.List.{All}
use Rattle.std.proofs.lemmas.Bool.{cases_lt}
use Rattle.std.proofs.lemmas.List.{get_or_past}
use Rattle.md5.specs.Md5.{md5}
use Rattle.hex.specs.Hex.{IsBytes, decode_of, encode_lower}
use Rattle.hex.proofs.HexLemmas.{decode_of-encode_lower}
use Rattle.file_hash.specs.Listing.{name_of_bytes}
use Rattle.file_hash.proofs.HashLemmas.{md5-bytes}

bytes_at : (xs : List ℕ) (i : ℕ) → All (λ b. b < 256) xs → (i < length xs) ⊎ (length xs ≤ i) → slice_index xs i < 256
bytes_at xs i all (inl within) = all i 0 within
bytes_at xs i all (inr past) = omega (arith, get_or_past xs i 0 past)

are_bytes : (xs : List ℕ) → All (λ b. b < 256) xs → IsBytes xs
are_bytes xs all i = bytes_at xs i all (cases_lt i (length xs))

same_bytes : (xs ys : List ℕ) → IsBytes xs → IsBytes ys → encode_lower xs ≡ encode_lower ys → xs ≡ ys
same_bytes xs ys a b e =
    let first : decode_of (encode_lower xs) ≡ Ok xs = decode_of-encode_lower xs a in
    let second : decode_of (encode_lower ys) ≡ Ok ys = decode_of-encode_lower ys b in
    let both : Ok xs ≡ Ok ys = sym first ∙ ap decode_of e ∙ second in
    cc

pub same_digits : (x y : List ℕ) → encode_lower (md5 x) ≡ encode_lower (md5 y) → md5 x ≡ md5 y
same_digits x y e = same_bytes (md5 x) (md5 y) (are_bytes (md5 x) (md5-bytes x)) (are_bytes (md5 y) (md5-bytes y)) e

pub same_digest : (x y : List ℕ) → name_of_bytes x ≡ name_of_bytes y → md5 x ≡ md5 y
same_digest x y e = same_digits x y (ap (λ n. n.digits) e)
