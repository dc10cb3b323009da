-- Each moment that may be reached is sound: by what it comes from.
use Rattle.std.proofs.Common.{◌≡◌, [], Option, Some, None, refl, sym, ap, ◌∙◌, subst, inl, inr}
use Rattle.world_api.specs.Effect.{Effect}
use Rattle.world_api.specs.History.{Moment, Book}
use Rattle.world_api.specs.Layout.{yaml_path}
use Rattle.lock_files.specs.declared.entry.Entry.{Entry}
use Rattle.lock_files.specs.Book.{Lock}
use Rattle.repro_laws.specs.Lock.{IsTruthful}
use Rattle.repro_laws.specs.Sound.{lock_by, IsSound}
use Rattle.repro_laws.proofs.StopLaw.{stops}
use Rattle.dvc_cli.specs.declared.words.Request.{Request}
use Rattle.dvc_cli.specs.Command.{Work, work_due, InWork}
use Rattle.dvc_cli.specs.Life.{IsFresh, IsEdit, IsStop, IsMet, fresh, edited, commanded, stopped, LivesAreSound, ToldBooksDo}
use Rattle.dvc_cli.proofs.RecordLemmas.{records_sound}
use Rattle.dvc_cli.proofs.TurnsLemmas.{turns_sound}
use Rattle.dvc_cli.proofs.WorkLemmas.{work_is}

-- ---- each way to a moment

none_entry : (e : Entry) → None ≡ Some e → ⊥
none_entry e h = cc

same_lock : (a b : Lock) → Some a ≡ Some b → a ≡ b
same_lock a b e = cc

nothing_true : (book : Book) (effect : Effect) (lock : Lock) → [] ≡ lock → IsTruthful book effect lock
nothing_true book effect lock e = subst (IsTruthful book effect) e (λ name entry h. absurd (none_entry entry h))

fresh_sound : (book : Book) (effect : Effect) (n : Moment) → IsFresh n → IsSound book effect n
fresh_sound book effect n h = record {
  truthful = λ lock e. nothing_true book effect lock (same_lock [] lock (sym (ap lock_by h.none) ∙ e));
  lock_firm = λ p below. h.firm p;
  yaml_firm = h.firm yaml_path;
  dvc_firm = λ p below tmp. h.firm p;
}

edit_sound : (book : Book) (effect : Effect) (m n : Moment) → IsSound book effect m → IsEdit m n → IsSound book effect n
edit_sound book effect m n s h = record {
  truthful = λ lock e. s.truthful lock (sym (ap lock_by h.lock) ∙ e);
  lock_firm = λ p below. h.firm p (s.lock_firm p below);
  yaml_firm = h.firm yaml_path s.yaml_firm;
  dvc_firm = λ p below tmp. h.firm p (s.dvc_firm p below tmp);
}

stop_sound : (book : Book) (effect : Effect) (m n : Moment) → IsSound book effect m → IsStop m n → IsSound book effect n
stop_sound book effect m n s h = record {
  truthful = λ lock e. stops book effect m n.tree lock s h.image e;
  lock_firm = λ p below. h.firm p;
  yaml_firm = h.firm yaml_path;
  dvc_firm = λ p below tmp. h.firm p;
}

work_sound : (book : Book) (effect : Effect) (request : Option Request) (work : Option Work) (m end n : Moment) → work_due request m.tree ≡ work → IsSound book effect m → IsMet request book m end → InWork effect work m end n → IsSound book effect n
work_sound book effect request None m end n e s met h = subst (IsSound book effect) (sym h) s
work_sound book effect request (Some w) m end n e s met (inl recording) =
    let is = work_is request m.tree w e in
    records_sound w.tracks book effect m n is.named s recording
work_sound book effect request (Some w) m end n e s met (inr turns) =
    let is = work_is request m.tree w e in
    let recorded = turns.recorded in
    turns_sound book effect w m turns.begun end n is recorded.during s (met.met w e) turns.turns

pub lives : LivesAreSound
lives book effect n (fresh _ h) = fresh_sound book effect n h
lives book effect n (edited m _ r h) = edit_sound book effect m n (lives book effect m r) h
lives book effect n (commanded request m end _ r met h) =
    work_sound book effect request (work_due request m.tree) m end n refl (lives book effect m r) met h
lives book effect n (stopped m _ r h) = stop_sound book effect m n (lives book effect m r) h

-- ---- the book that a world tells

pub told_books : ToldBooksDo
told_books request effect m n s covers = record { book = n.aside.book; sound = s; met = covers.after }
