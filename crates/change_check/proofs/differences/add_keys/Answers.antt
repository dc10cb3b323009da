use Rattle.std.proofs.Common.{◌≡◌, List, map, ap, subst, sym, ◌∙◌, ◌++◌}
use Rattle.std.specs.List.{flat_map}
use Rattle.std.specs.Prelude.{Option, OnOk}
use Rattle.yaml_print.specs.Sound.{Each}
use Rattle.change_check.specs.Compare.{Tracked, key_order, param_diff}
use Rattle.change_check.specs.Keys.{tracked_of, tracked_sides, CanCompare}
use Rattle.change_check.specs.Sides.{pairs}
use Rattle.change_check.specs.declared.sides.Sides.{Sides}
use Rattle.change_check.specs.declared.keys.TrackedKey.{TrackedKey}
use Rattle.change_check.proofs.KeyLemmas.{tracked_pairs, can_compare}
use Rattle.change_check.proofs.differences.add_keys.Goals as goal

-- the keys side by side can be compared
pub add_each_key-requires : goal.add_each_key-requires
add_each_key-requires c = record {
  can = subst (Each (λ (s : Sides TrackedKey TrackedKey). CanCompare (tracked_sides s))) (sym c.as_slice.ensures.value)
      (can_compare c.in_ok-sides.sides.items c.args.told.now c.args.seen.now c.in_ok-sides.ensures.exact c.requires.sound c.requires.canonical);
}

pub returns : goal.returns
returns c =
    let sides : map tracked_sides c.as_slice.result.now ≡ pairs key_order (map tracked_of c.args.told.now) (map tracked_of c.args.seen.now) =
    ap (map tracked_sides) c.as_slice.ensures.value
    ∙ tracked_pairs c.in_ok-sides.sides.items c.args.told.now c.args.seen.now c.in_ok-sides.ensures.exact in
    record {
      exact = subst (λ (ps : List (Option Tracked × Option Tracked)). OnOk c.add_each_key.result (c.add_each_key.new.diffs ≡ c.args.diffs.now ++ flat_map param_diff ps)) sides
          c.add_each_key.ensures.exact;
    }
