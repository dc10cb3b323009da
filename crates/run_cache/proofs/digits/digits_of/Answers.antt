use Rattle.std.proofs.Common.{◌≡◌, ℕ, List, true, rules, sym, subst}
use Rattle.dvc_base.specs.RunKey.{are_key_digits}
use Rattle.run_cache.specs.Records as spec
use Rattle.run_cache.proofs.DigestLemmas.{digits-key}
use Rattle.run_cache.proofs.digits.digits_of.Goals as goal

pub returns-clause-digits : goal.returns-clause-digits
returns-clause-digits c =
    let bytes = c.args.bytes.now in
    let written : c.encode_to_slice.new.output ≡ spec.digits_of bytes = search rules in
    subst (λ (x : List ℕ). are_key_digits x ≡ true) (sym written) (digits-key bytes)
