-- What was seen has canonical values.
use Rattle.std.proofs.Common.{sym, subst}
use Rattle.change_check.specs.Sound.{AreCanonical}
use Rattle.repro_laws.proofs.ParamLemmas.{canonical_of_params}
use Rattle.repro_core.proofs.choose.choose_turn.Goals as goal

pub can_skip-skips-requires-clause-canonical : goal.can_skip-skips-requires-clause-canonical
can_skip-skips-requires-clause-canonical g c =
    let good = c.in_ok-looked.ensures.good in
    subst AreCanonical (sym good.canonical) (canonical_of_params c.in_ok-looked.looked.params good.params)
