-- All laws together.
use Rattle.std.proofs.Common.{List, [], sym, ap, ◌∙◌, append-nil}
use Rattle.repro_laws.specs.Due.{standing_of, due, fault_of}
use Rattle.repro_laws.specs.Turns.{stages_of}
use Rattle.repro_laws.specs.Headline.{Headline, Front}
use Rattle.repro_laws.specs.Sound.{TurnsAreSound}
use Rattle.repro_laws.specs.declared.stage.Stage.{Stage}
use Rattle.repro_laws.proofs.DueLaw.{front_due}
use Rattle.repro_laws.proofs.EntryLaw.{run_true}
use Rattle.repro_laws.proofs.HeadlineLaw.{anew_of_turns}
use Rattle.repro_laws.proofs.PutLaw.{put_law}
use Rattle.repro_laws.proofs.SoundLaw.{sound}
use Rattle.repro_laws.proofs.TurnsLaw.{lefts_of_turns}
use Rattle.repro_laws.proofs.WaitLemmas.{waiting_planned}

pub front : Front
front own flags book effect ds others old new given =
    let waiting = waiting_planned own (stages_of ds) others given.planned in
    let met = front_due own given.area put_law flags effect given.no_restore ds others old new waiting.0 waiting.1 given.stands given.turns in
    let has = lefts_of_turns own flags book effect ds others old new given in
    record { due = met.0; fault = met.1; truthful = has.truthful }

pub headline : Headline
headline own flags book effect ds old new given =
    let both = anew_of_turns own flags book effect ds old new given in
    let met = front own flags book effect ds [] old new given in
    let here = standing_of old.tree old.lock in
    let all = stages_of ds in
    record {
      anew = both.0;
      truthful = both.1;
      due = sym (append-nil ds) ∙ sym met.due ∙ ap (λ (ss : List Stage). due flags effect ss here) (append-nil all);
      fault = ap (λ (ss : List Stage). fault_of flags effect ss here) (sym (append-nil all)) ∙ met.fault;
    }

pub sounds : TurnsAreSound
sounds = sound run_true
