-- The places of the stages that targets choose.
--     behind_brought      each stage that is brought stands behind all that are above it
--     chosen_behind       and so does each chosen one
use Rattle.std.proofs.Common.{◌≡◌, ℕ, Bool, true, false, ◌==◌, cond, List, [], ◌∷◌, refl}
use Rattle.std.specs.List.{flat_map}
use Rattle.std.proofs.lemmas.Bool.{or_parts, or_from}
use Rattle.stage_order.specs.Brought.{brought, is_wanted}
use Rattle.stage_order.specs.Closure.{StandsBehind}
use Rattle.stage_order.specs.Order.{is_in, above_of, order}
use Rattle.stage_order.proofs.ClosureLemmas.{behind_order}
use Rattle.stage_schema.specs.declared.stage.Stage.{Stage as Written}
use Rattle.stage_graph.specs.Cycle.{all_above}
use Rattle.stage_plan.specs.Targets.{named, chosen}

not_with : (b : Bool) (s n : ℕ) (taken : List ℕ) → (s == n) ≡ false → is_in taken n ≡ false → is_in (cond b (s ∷ taken) taken) n ≡ false
not_with true s n taken other out = or_from (s == n) (is_in taken n) other out
not_with false s n taken other out = out

-- none but those of the order are brought
not_brought : (above : List (List ℕ)) (ns order : List ℕ) (n : ℕ) → is_in order n ≡ false → is_in (brought above ns order) n ≡ false
not_brought above ns [] n h = refl
not_brought above ns (s ∷ later) n h =
    let parts = or_parts (s == n) (is_in later n) h in
    let taken = brought above ns later in
    not_with (is_wanted above ns taken s) s n taken parts.0 (not_brought above ns later n parts.1)

behind_with : (above : List (List ℕ)) (b : Bool) (s : ℕ) (later taken : List ℕ) → ((n : ℕ) → is_in (above_of above s) n ≡ true → is_in (s ∷ later) n ≡ false) → is_in later s ≡ false →
    ((n : ℕ) → is_in later n ≡ false → is_in taken n ≡ false) → StandsBehind above taken → StandsBehind above (cond b (s ∷ taken) taken)
behind_with above true s later taken over alone within h = (
  (λ n met.
      let parts = or_parts (s == n) (is_in later n) (over n met) in
      or_from (s == n) (is_in taken n) parts.0 (within n parts.1)),
  within s alone,
  h,
)
behind_with above false s later taken over alone within h = h

pub behind_brought : (above : List (List ℕ)) (ns order : List ℕ) → StandsBehind above order → StandsBehind above (brought above ns order)
behind_brought above ns [] h = tt
behind_brought above ns (s ∷ later) h =
    let taken = brought above ns later in
    behind_with above (is_wanted above ns taken s) s later taken h.0 h.1 (not_brought above ns later) (behind_brought above ns later h.2)

pub chosen_behind : (targets : List (List ℕ)) (ss : List Written) → StandsBehind (all_above ss) (chosen targets ss)
chosen_behind [] ss = behind_order (all_above ss)
chosen_behind (target ∷ more) ss =
    behind_brought (all_above ss) (flat_map (named ss) (target ∷ more)) (order (all_above ss)) (behind_order (all_above ss))
