-- The headline: what turns of all stages leave is what running every stage anew gives.
--     anew_of_turns     outputs, lock and other paths, and the lock is truthful
use Rattle.std.proofs.Common.{Bool, List, [], subst, append-nil}
use Rattle.dvc_base.specs.Path.{Path}
use Rattle.world_api.specs.Effect.{Effect}
use Rattle.world_api.specs.History.{Book}
use Rattle.repro_laws.specs.Lock.{IsTruthful}
use Rattle.repro_laws.specs.Due.{Due}
use Rattle.repro_laws.specs.Turns.{State, stages_of}
use Rattle.repro_laws.specs.Headline.{IsPlanned, LeavesAnew, IsGiven}
use Rattle.repro_laws.specs.declared.stage.Stage.{Stage}
use Rattle.repro_laws.specs.declared.stage.Flags.{Flags}
use Rattle.repro_laws.proofs.LeftsLaw.{lefts_law}
use Rattle.repro_laws.proofs.TurnsLaw.{lefts_of_turns}

pub anew_of_turns : (own : Path → Bool) (flags : Flags) (book : Book) (effect : Effect) (ds : List Due) (old new : State) → IsGiven own flags book effect ds [] old new → LeavesAnew own effect (stages_of ds) old new × IsTruthful book effect new.lock
anew_of_turns own flags book effect ds old new given =
    let has = lefts_of_turns own flags book effect ds [] old new given in
    let planned : IsPlanned own (stages_of ds) = subst (λ (ss : List Stage). IsPlanned own ss) (append-nil (stages_of ds)) given.planned in
    (lefts_law own effect (stages_of ds) old new given.area planned given.stands has.lefts, has.truthful)
