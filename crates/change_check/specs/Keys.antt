-- Tracked keys as they are looked at.
--     tracked_of k       the key that a reference to its file, its name and its value tells of
--     CanCompare p       a told value can be printed, and a seen one is its own canonical node
use Rattle.std.specs.Prelude.{◌≡◌, Option, IfSome, option_copied, option_map}
use Rattle.yaml_print.specs.Sound.{IsSound}
use Rattle.params.specs.Canonical.{canonical}
use Rattle.change_check.specs.Compare.{Tracked}
use Rattle.change_check.specs.declared.keys.TrackedKey.{TrackedKey}
use Rattle.change_check.specs.declared.sides.Sides.{Sides}

abbrev pub tracked_of : TrackedKey → Tracked
tracked_of k = record { file = k.file.now; key = k.key.now; value = option_copied k.value }

abbrev pub tracked_sides : Sides TrackedKey TrackedKey → Option Tracked × Option Tracked
tracked_sides s = (option_map (λ k. tracked_of k.now) s.left, option_map (λ k. tracked_of k.now) s.right)

abbrev pub IsSoundKey : Tracked → Type 0
IsSoundKey k = IfSome k.value (IsSound 64)

abbrev pub IsCanonicalKey : Tracked → Type 0
IsCanonicalKey k = IfSome k.value (λ v. IsSound 64 v × (canonical 64 v ≡ v))

abbrev pub CanCompare : Option Tracked × Option Tracked → Type 0
CanCompare p = IfSome p.0 IsSoundKey × IfSome p.1 IsCanonicalKey
