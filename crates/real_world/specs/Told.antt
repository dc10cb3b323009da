-- What a real world tells: its failures, and nothing of what it holds.
use Rattle.std.specs.Prelude.{false, [], None}
use Rattle.std.specs.FinMap.{empty}
use Rattle.world_api.specs.History.{History, Faults}
use Rattle.real_world.specs.declared.failures.Failures.{Failures}

abbrev pub faults_of : Failures → Faults
faults_of f = record { origin = []; count = f.count }

-- it stands where a history is asked for. No clause speaks of it, since nothing is told
abbrev pub nothing_told : History
nothing_told = record {
  present = record { tree = empty; loose = λ p. false; aside = record { fixed = record { ran = []; effect = None }; book = λ digest. None } };
  past = [];
  under = [];
}
