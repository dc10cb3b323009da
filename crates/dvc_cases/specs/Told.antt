-- What a world tells that tells nothing: it never fails, and no clause speaks of its history.
use Rattle.std.specs.Prelude.{false, [], None}
use Rattle.std.specs.FinMap.{empty}
use Rattle.world_api.specs.History.{History, Faults}

abbrev pub no_faults : Faults
no_faults = record { origin = []; count = 0 }

abbrev pub nothing_told : History
nothing_told = record {
  present = record { tree = empty; loose = λ p. false; aside = record { fixed = record { ran = []; effect = None }; book = λ digest. None } };
  past = [];
  under = [];
}
