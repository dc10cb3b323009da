use Rattle.std.proofs.Common.{◌≡◌, List, map, subst, sym}
use Rattle.yaml_print.specs.Sound.{Each, IsSound}
use Rattle.params.specs.Canonical.{canonical}
use Rattle.change_check.specs.Keys.{tracked_of, IsSoundKey, IsCanonicalKey}
use Rattle.change_check.proofs.KeyLemmas.{present_each, tracked_each}
use Rattle.change_check.specs.declared.keys.TrackedKey.{TrackedKey}
use Rattle.change_check.proofs.differences.add_params.Goals as goal

pub add_keys-requires-clause-sound : goal.add_keys-requires-clause-sound
add_keys-requires-clause-sound c =
    subst (λ (keys : List TrackedKey). Each IsSoundKey (map tracked_of keys)) (sym c.as_slice.ensures.value)
    (subst (Each IsSoundKey) (sym c.in_ok-told.ensures.exact) (present_each (IsSound 64) c.args.told.now c.requires.sound))

pub add_keys-requires-clause-canonical : goal.add_keys-requires-clause-canonical
add_keys-requires-clause-canonical c =
    subst (λ (keys : List TrackedKey). Each IsCanonicalKey (map tracked_of keys)) (sym c.as_slice-2.ensures.value)
    (subst (Each IsCanonicalKey) (sym c.in_ok-seen.ensures.exact) (tracked_each (λ v. IsSound 64 v × (canonical 64 v ≡ v)) c.args.seen.now c.args.lost.now c.requires.canonical))
