use Rattle.std.proofs.Common.{◌≡◌, List, map, ap, subst, ◌∙◌}
use Rattle.std.specs.Prelude.{Option, IfOk}
use Rattle.std.specs.List.{flat_map}
use Rattle.change_check.specs.Compare.{Tracked, key_order, present, lost_key, last_of}
use Rattle.change_check.specs.Keys.{tracked_of, tracked_sides}
use Rattle.change_check.specs.Sides.{pairs}
use Rattle.change_check.proofs.KeyLemmas.{tracked_pairs}
use Rattle.change_check.proofs.keys.tracked_keys.Goals as goal

-- the last of the keys side by side
pub returns : goal.returns
returns c =
    let files = c.args.files.now in
    let lost = c.args.lost.now in
    let xs : map tracked_of c.as_slice.result.now ≡ present files =
    ap (map tracked_of) c.as_slice.ensures.value ∙ c.in_ok-present.ensures.exact in
    let ys : map tracked_of c.as_slice-2.result.now ≡ map lost_key lost =
    ap (map tracked_of) c.as_slice-2.ensures.value ∙ c.in_ok-lost.ensures.exact in
    let sides : map tracked_sides c.as_slice-3.result.now ≡ pairs key_order (present files) (map lost_key lost) =
    ap (map tracked_sides) c.as_slice-3.ensures.value
    ∙ tracked_pairs c.in_ok-sides.sides.items c.as_slice.result.now c.as_slice-2.result.now c.in_ok-sides.ensures.exact
    ∙ ap (λ (keys : List Tracked). pairs key_order keys (map tracked_of c.as_slice-2.result.now)) xs
    ∙ ap (pairs key_order (present files)) ys in
    record {
      exact = subst (λ (ps : List (Option Tracked × Option Tracked)). IfOk c.last_keys.result (λ made. map tracked_of made.items ≡ flat_map last_of ps)) sides
          c.last_keys.ensures.exact;
    }
