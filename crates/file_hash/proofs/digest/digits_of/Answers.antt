-- The digits are those of 16 bytes.
use Rattle.std.proofs.Common.{◌≡◌, ◌<◌, ℕ, List, true, rules, sym, subst}
use Rattle.std.proofs.lemmas.List.Elements.{All-from_get_or}
use Rattle.hex.specs.Hex.{encode_lower}
use Rattle.dvc_base.specs.Name.{are_digits}
use Rattle.file_hash.proofs.HashLemmas.{encode_lower-digits}
use Rattle.file_hash.proofs.digest.digits_of.Goals as goal

pub returns-clause-digits : goal.returns-clause-digits
returns-clause-digits c =
    let digest = c.args.digest.now in
    let written : c.encode_to_slice.new.output ≡ encode_lower digest = search rules in
    subst (λ (x : List ℕ). are_digits x ≡ true) (sym written) (encode_lower-digits digest c.told-digest (All-from_get_or (λ (b : ℕ). b < 256) digest 0 (λ i _. c.fits-digest i)))
