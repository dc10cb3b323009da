use Rattle.std.proofs.Common.{◌∙◌, ◌++◌, ◌+◌, ◌≡◌, ap, sym, arith, length, List, ℕ, [], ◌∷◌}
use Rattle.std.proofs.lemmas.List.{append-nil}
use Rattle.std.proofs.lemmas.Result.{on_ok_weaker}
use Rattle.dvc_base.specs.Path.{Path}
use Rattle.world_api.specs.Tree.{name_below}
use Rattle.sim_world.proofs.NamesLemmas.{no_name_length, no_name_apart, one_name}
use Rattle.sim_world.proofs.folder.push_name.Goals.{then-parts-above-via-then-parts-above, then-parts-above-via-else-parts-above+then-not-is_at_or_below}
use Rattle.sim_world.proofs.folder.push_name.Goals as goal

pub returns-then-parts-above : goal.returns-then-parts-above
returns-then-parts-above c =
    let none : name_below c.args.at.now c.args.path.now ≡ [] =
    elim c.then-parts-above.branch [
      | then-parts-above-via-then-parts-above w ↦ no_name_length c.args.at.now c.args.path.now (λ e. w.if-parts-above.true (ap length c.parts-parts.ensures.same ∙ e ∙ ap (λ (x : Path). length x + 1) (sym c.parts-above.ensures.same)))
      | then-parts-above-via-else-parts-above+then-not-is_at_or_below w ↦ no_name_apart c.args.at.now c.args.path.now (sym w.is_at_or_below.ensures.by_parts ∙ w.if-not-is_at_or_below.true)
    ] in
    record { pushed = sym (ap (λ (x : List (List ℕ)). c.args.names.now ++ x) none ∙ append-nil c.args.names.now) }

pub returns : goal.returns
returns c =
    let is : name_below c.args.at.now c.args.path.now ≡ _ =
    one_name c.args.at.now c.args.path.now c.index-parts-above.result (sym c.is_at_or_below.ensures.by_parts ∙ c.if-not-is_at_or_below.false)
    (omega (arith, c.if-parts-above.false, ap length c.parts-parts.ensures.same, ap length c.parts-above.ensures.same))
    (rw (← c.parts-parts.ensures.same, ← c.parts-above.ensures.same) c.index-parts-above.is) in
    record {
      pushed = on_ok_weaker c.push.result (λ e. e ∙ ap (λ (x : List (List ℕ)). c.args.names.now ++ x) (ap (λ (y : List ℕ). y ∷ []) c.in_ok-copy.ensures.same ∙ sym is)) c.push.ensures.ok;
    }
