-- The turns of the plan can be taken, and the tree is ready for them.
use Rattle.std.proofs.Common.{◌≡◌, ◌<◌, ◌^◌, length, Some, Ok, sym, ap, subst, ◌∙◌}
use Rattle.world_api.specs.Tree.{item_at}
use Rattle.world_api.specs.History.{History}
use Rattle.world_api.specs.Layout.{lock_path}
use Rattle.world_api.specs.Outside.{tree_of}
use Rattle.lock_files.specs.Book.{Lock}
use Rattle.lock_files.specs.Form.{IsBook}
use Rattle.stage_plan.specs.Plan.{plan_of, turns_at}
use Rattle.stage_plan.proofs.PlanLemmas.{plan_usable}
use Rattle.plan_turns.specs.Repro.{CanTurn, IsReady}
use Rattle.dvc_cli.specs.Read.{book_at}
use Rattle.dvc_cli.specs.Sources.{sources_of}
use Rattle.dvc_cli.specs.declared.workspace.Workspace.{Workspace}
use Rattle.dvc_cli.proofs.ChoiceLemmas.{chosen_tracked, chosen_ready, if_both}
use Rattle.dvc_cli.proofs.PlaceLemmas.{no_dvc_file, can_write}
use Rattle.dvc_cli.proofs.ReadLemmas.{remembered}
use Rattle.dvc_cli.proofs.workspace.read_rest.Goals as goal

pub returns-clause-can : goal.returns-clause-can
returns-clause-can g c =
    let targets = c.args.targets.now in
    let root = c.args.root.now in
    let vars = c.as_slice.result.now in
    let sources = c.in_ok-sources.sources in
    let of = c.choose_of.ensures in
    let r = c.choose_of.result in
    if_both (λ (w : Workspace). plan_of targets root vars sources ≡ Ok (turns_at w.plan w.chosen)) (λ (w : Workspace). (w.plan.lock ≡ c.in_ok-lock.lock) × (length (turns_at w.plan w.chosen).stages < 2 ^ 32)) (λ (w : Workspace). CanTurn (turns_at w.plan w.chosen) w.plan.lock) r
    (λ w planned more. record {
      usable = plan_usable targets root vars sources (turns_at w.plan w.chosen) planned;
      few = more.1;
      tracked = chosen_tracked targets root vars sources (turns_at w.plan w.chosen) planned c.in_ok-sources.ensures.tracks;
      form = subst IsBook (sym more.0) c.in_ok-lock.ensures.form;
    })
    of.planned
    (if_both (λ (w : Workspace). w.plan.lock ≡ c.in_ok-lock.lock) (λ (w : Workspace). length (turns_at w.plan w.chosen).stages < 2 ^ 32) (λ (w : Workspace). (w.plan.lock ≡ c.in_ok-lock.lock) × (length (turns_at w.plan w.chosen).stages < 2 ^ 32)) r (λ w lock few. (lock, few)) of.lock of.few)

pub returns-clause-ready : goal.returns-clause-ready
returns-clause-ready g c told =
    let targets = c.args.targets.now in
    let root = c.args.root.now in
    let vars = c.as_slice.result.now in
    let sources = c.in_ok-sources.sources in
    let of = c.choose_of.ensures in
    let start = g.F.Ground.history c.args.files.now in
    let tree = tree_of start in
    let lock = c.in_ok-lock.lock in
    let same = c.in_ok-vars.ensures.unchanged told in
    let known = remembered tree lock (sym (ap (λ (h : History). book_at (item_at h.present.tree lock_path)) (c.in_ok-sources.ensures.unchanged told ∙ same)) ∙ c.in_ok-lock.ensures.read told) in
    if_both (λ (w : Workspace). plan_of targets root vars sources ≡ Ok (turns_at w.plan w.chosen)) (λ (w : Workspace). w.plan.lock ≡ lock) (λ (w : Workspace). IsReady (turns_at w.plan w.chosen) w.plan.lock tree) c.choose_of.result
    (λ w planned is. record {
      tracks = chosen_ready tree lock targets root vars sources (turns_at w.plan w.chosen) (g.met.F.ReadFiles.stands c.args.files.now told).0 (no_dvc_file tree (c.requires.place told)) known
          (sym (ap (λ (h : History). sources_of (tree_of h)) same) ∙ c.in_ok-sources.ensures.read told) planned;
      remembered = known ∙ ap (λ (l : Lock). Some l) (sym is);
      place = can_write tree lock (c.requires.place told) known;
    })
    of.planned of.lock
