-- What can be printed has canonical values.
use Rattle.std.proofs.Common.{sym, subst}
use Rattle.change_check.specs.Sound.{AreSound}
use Rattle.repro_laws.proofs.ParamLemmas.{sound_of_params}
use Rattle.repro_core.proofs.see.looked_of.Goals as goal

pub canonical_files-requires : goal.canonical_files-requires
canonical_files-requires c = record { sound = subst AreSound (sym c.as_slice.ensures.same) (sound_of_params c.args.params c.requires.params) }
