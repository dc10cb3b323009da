-- What a stop leaves of a sound moment.
use Rattle.std.proofs.Common.{sym, ap, ◌∙◌}
use Rattle.dvc_base.proofs.PathLemmas.{under-refl}
use Rattle.world_api.specs.Layout.{lock_path}
use Rattle.repro_laws.specs.Sound.{lock_by, StopsLeaveTruth}

pub stops : StopsLeaveTruth
stops book effect n t lock sound image read =
    let firm = sound.lock_firm lock_path (under-refl lock_path) in
    sound.truthful lock (ap lock_by (sym (image lock_path firm)) ∙ read)
