-- What the key leads to is what its look-up found.
use Rattle.std.proofs.Common.{◌≡◌, ◌∙◌, List, ℕ, sym, ap, Some}
use Rattle.std.specs.Prelude.{option_copied}
use Rattle.params.specs.Lookup.{lookup}
use Rattle.repro_core.proofs.TrackedLemmas.{found_key}
use Rattle.repro_core.proofs.tracked.key_pair.Goals as goal

pub returns-in_ok-pair_of-in-Some : goal.returns-in_ok-pair_of-in-Some
returns-in_ok-pair_of-in-Some c =
    let root = c.args.root.now in
    let key = c.args.key.now in
    let v = c.in-Some.value.now in
    let found : lookup key root ≡ Some v =
    ap (λ (k : List ℕ). lookup k root) (sym c.as_str.ensures.same) ∙ sym c.lookup.ensures.exact ∙ ap option_copied c.in-Some.is in
    record { exact = found_key c.args.file.now root key v c.in_ok-pair_of-in-Some.field-0 found c.in_ok-pair_of-in-Some.ensures.exact }
