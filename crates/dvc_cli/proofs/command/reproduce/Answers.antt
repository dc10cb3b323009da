-- The workspace can't be read, or the turns of its plan are taken.
use Rattle.std.proofs.Common.{◌≡◌, Ok, Err, Some, None, refl, sym, subst, rules}
use Rattle.world_api.specs.History.{History}
use Rattle.world_api.specs.Outside.{tree_of}
use Rattle.stage_plan.specs.Plan.{turns_at}
use Rattle.plan_turns.specs.Repro.{IsReady, plan_turn_kinds}
use Rattle.dvc_cli.specs.declared.words.Request.TheVariants.{Repro}
use Rattle.dvc_cli.specs.Command.{Work}
use Rattle.dvc_cli.specs.Workspace.{read_kinds}
use Rattle.dvc_cli.proofs.CommandLemmas.{refused_does, refused_puts, unread_halted, repro_answers}
use Rattle.dvc_cli.proofs.TurnsLemmas.{turned_refuses, work_at}
use Rattle.dvc_cli.proofs.TookLemmas.{took_does, took_puts}
use Rattle.dvc_cli.proofs.command.reproduce.Goals as goal

-- ---- a workspace that can't be read

pub returns-in_err-workspace-clause-does : goal.returns-in_err-workspace-clause-does
returns-in_err-workspace-clause-does g c = λ t.
    let e : c.from_residual.result ≡ Err c.in_err-workspace.field-0.0 = search rules in
    let h = g.W.Ground.history c.args.world.now in
    let fault = c.in_err-workspace.field-0.0 in
    let answer = c.in_err-workspace.ensures.answer t in
    rw e (refused_does (Some (Repro c.args.force c.args.targets.now)) fault h (g.W.Ground.history c.read_workspace.new.files) (c.in_err-workspace.ensures.unchanged t)
    answer (unread_halted c.args.force c.args.targets.now fault h.present c.in_err-workspace.ensures.kinds answer))

pub returns-in_err-workspace-clause-refuses : goal.returns-in_err-workspace-clause-refuses
returns-in_err-workspace-clause-refuses g c = λ t some.
    let e : c.from_residual.result ≡ Err c.in_err-workspace.field-0.0 = search rules in
    rw e (c.in_err-workspace.ensures.answer t, c.in_err-workspace.ensures.unchanged t)

pub returns-in_err-workspace-clause-kinds : goal.returns-in_err-workspace-clause-kinds
returns-in_err-workspace-clause-kinds g c =
    let e : c.from_residual.result ≡ Err c.in_err-workspace.field-0.0 = search rules in
    rw e (repro_answers (Repro c.args.force c.args.targets.now) read_kinds refl refl g.W.Ground.tells _ c.in_err-workspace.ensures.kinds c.in_err-workspace.ensures.honest)

pub returns-in_err-workspace-clause-puts : goal.returns-in_err-workspace-clause-puts
returns-in_err-workspace-clause-puts g c = λ k.
    let e : c.from_residual.result ≡ Err c.in_err-workspace.field-0.0 = search rules in
    let h = g.W.Ground.history c.args.world.now in
    rw e (refused_puts (Some (Repro c.args.force c.args.targets.now)) g.W.Ground.tells c.in_err-workspace.field-0.0 h (g.W.Ground.history c.read_workspace.new.files) _
    c.in_err-workspace.ensures.answer)

-- ---- turns

pub repro-requires-clause-plan : goal.repro-requires-clause-plan
repro-requires-clause-plan g c = c.in_ok-workspace.ensures.can

pub repro-requires-clause-ready : goal.repro-requires-clause-ready
repro-requires-clause-ready g c = λ t.
    let workspace = c.in_ok-workspace.workspace in
    subst (λ (h : History). IsReady (turns_at workspace.plan workspace.chosen) workspace.plan.lock (tree_of h)) (sym (c.in_ok-workspace.ensures.unchanged t)) (c.in_ok-workspace.ensures.ready t)

pub returns-in_err-repro-clause-does : goal.returns-in_err-repro-clause-does
returns-in_err-repro-clause-does g c = λ t.
    let e : c.from_residual-in_err-repro.result ≡ Err c.in_err-repro.field-0.0 = search rules in
    let request = Repro c.args.force c.args.targets.now in
    let start = g.W.Ground.history c.args.world.now in
    let old = g.W.Ground.history c.read_workspace.new.files in
    let new = g.W.Ground.history c.repro.new.world in
    let workspace = c.in_ok-workspace.workspace in
    let turns = turns_at workspace.plan workspace.chosen in
    let w : Work = record { force = c.args.force; stages = turns.stages; tracks = turns.tracks; lock = workspace.plan.lock } in
    let read = c.in_ok-workspace.ensures in
    rw e (took_does (Err c.in_err-repro.field-0.0) (Some request) w c.repro.new.plan.lock start old new g.K.Sink.tells (g.K.Sink.taken c.args.out.now) (g.K.Sink.taken c.repro.new.out) (read.unchanged t) read.can.usable
    (work_at c.args.force c.args.targets.now start old turns.stages turns.stages turns.tracks turns.tracks workspace.plan.lock (read.unchanged t) refl refl (read.answer t) (read.planned t) (read.ready t).remembered) (c.in_err-repro.ensures.takes t))

pub returns-in_err-repro-clause-refuses : goal.returns-in_err-repro-clause-refuses
returns-in_err-repro-clause-refuses g c = λ t.
    let request = Repro c.args.force c.args.targets.now in
    let start = g.W.Ground.history c.args.world.now in
    let old = g.W.Ground.history c.read_workspace.new.files in
    let new = g.W.Ground.history c.repro.new.world in
    let workspace = c.in_ok-workspace.workspace in
    let turns = turns_at workspace.plan workspace.chosen in
    let w : Work = record { force = c.args.force; stages = turns.stages; tracks = turns.tracks; lock = workspace.plan.lock } in
    let read = c.in_ok-workspace.ensures in
    turned_refuses (Some request) _ w start old new (read.unchanged t)
    (work_at c.args.force c.args.targets.now start old turns.stages turns.stages turns.tracks turns.tracks workspace.plan.lock (read.unchanged t) refl refl (read.answer t) (read.planned t) (read.ready t).remembered)

pub returns-in_err-repro-clause-kinds : goal.returns-in_err-repro-clause-kinds
returns-in_err-repro-clause-kinds g c =
    let e : c.from_residual-in_err-repro.result ≡ Err c.in_err-repro.field-0.0 = search rules in
    rw e (repro_answers (Repro c.args.force c.args.targets.now) plan_turn_kinds refl refl g.W.Ground.tells _ c.in_err-repro.ensures.kinds c.in_err-repro.ensures.honest)

pub returns-in_err-repro-clause-puts : goal.returns-in_err-repro-clause-puts
returns-in_err-repro-clause-puts g c = λ k.
    let e : c.from_residual-in_err-repro.result ≡ Err c.in_err-repro.field-0.0 = search rules in
    let request = Repro c.args.force c.args.targets.now in
    let start = g.W.Ground.history c.args.world.now in
    let old = g.W.Ground.history c.read_workspace.new.files in
    let new = g.W.Ground.history c.repro.new.world in
    let workspace = c.in_ok-workspace.workspace in
    let turns = turns_at workspace.plan workspace.chosen in
    let w : Work = record { force = c.args.force; stages = turns.stages; tracks = turns.tracks; lock = workspace.plan.lock } in
    let read = c.in_ok-workspace.ensures in
    rw e (took_puts (Err c.in_err-repro.field-0.0) (Some request) g.W.Ground.tells g.K.Sink.tells w c.repro.new.plan.lock start old new (g.K.Sink.taken c.args.out.now) (g.K.Sink.taken c.repro.new.out) k read.unchanged
    (λ t. work_at c.args.force c.args.targets.now start old turns.stages turns.stages turns.tracks turns.tracks workspace.plan.lock (read.unchanged t) refl refl (read.answer t) (read.planned t) (read.ready t).remembered)
    c.in_err-repro.ensures.takes (c.in_err-repro.ensures.lines k))

pub returns-clause-does : goal.returns-clause-does
returns-clause-does g c = λ t.
    let request = Repro c.args.force c.args.targets.now in
    let start = g.W.Ground.history c.args.world.now in
    let old = g.W.Ground.history c.read_workspace.new.files in
    let new = g.W.Ground.history c.repro.new.world in
    let workspace = c.in_ok-workspace.workspace in
    let turns = turns_at workspace.plan workspace.chosen in
    let w : Work = record { force = c.args.force; stages = turns.stages; tracks = turns.tracks; lock = workspace.plan.lock } in
    let read = c.in_ok-workspace.ensures in
    (took_does (Ok c.in_ok-repro.field-0) (Some request) w c.repro.new.plan.lock start old new g.K.Sink.tells (g.K.Sink.taken c.args.out.now) (g.K.Sink.taken c.repro.new.out) (read.unchanged t) read.can.usable
    (work_at c.args.force c.args.targets.now start old turns.stages turns.stages turns.tracks turns.tracks workspace.plan.lock (read.unchanged t) refl refl (read.answer t) (read.planned t) (read.ready t).remembered) (c.in_ok-repro.ensures.takes t))

pub returns-clause-refuses : goal.returns-clause-refuses
returns-clause-refuses g c = λ t.
    let request = Repro c.args.force c.args.targets.now in
    let start = g.W.Ground.history c.args.world.now in
    let old = g.W.Ground.history c.read_workspace.new.files in
    let new = g.W.Ground.history c.repro.new.world in
    let workspace = c.in_ok-workspace.workspace in
    let turns = turns_at workspace.plan workspace.chosen in
    let w : Work = record { force = c.args.force; stages = turns.stages; tracks = turns.tracks; lock = workspace.plan.lock } in
    let read = c.in_ok-workspace.ensures in
    turned_refuses (Some request) None w start old new (read.unchanged t)
    (work_at c.args.force c.args.targets.now start old turns.stages turns.stages turns.tracks turns.tracks workspace.plan.lock (read.unchanged t) refl refl (read.answer t) (read.planned t) (read.ready t).remembered)

pub returns-clause-kinds : goal.returns-clause-kinds
returns-clause-kinds g c =
    (repro_answers (Repro c.args.force c.args.targets.now) plan_turn_kinds refl refl g.W.Ground.tells _ c.in_ok-repro.ensures.kinds c.in_ok-repro.ensures.honest)

pub returns-clause-puts : goal.returns-clause-puts
returns-clause-puts g c = λ k.
    let request = Repro c.args.force c.args.targets.now in
    let start = g.W.Ground.history c.args.world.now in
    let old = g.W.Ground.history c.read_workspace.new.files in
    let new = g.W.Ground.history c.repro.new.world in
    let workspace = c.in_ok-workspace.workspace in
    let turns = turns_at workspace.plan workspace.chosen in
    let w : Work = record { force = c.args.force; stages = turns.stages; tracks = turns.tracks; lock = workspace.plan.lock } in
    let read = c.in_ok-workspace.ensures in
    (took_puts (Ok c.in_ok-repro.field-0) (Some request) g.W.Ground.tells g.K.Sink.tells w c.repro.new.plan.lock start old new (g.K.Sink.taken c.args.out.now) (g.K.Sink.taken c.repro.new.out) k read.unchanged
    (λ t. work_at c.args.force c.args.targets.now start old turns.stages turns.stages turns.tracks turns.tracks workspace.plan.lock (read.unchanged t) refl refl (read.answer t) (read.planned t) (read.ready t).remembered)
    c.in_ok-repro.ensures.takes (c.in_ok-repro.ensures.lines k))
