use Rattle.params.proofs.AgainLemmas.{canonical_again}
use Rattle.params.proofs.SoundLemmas.{canonical_sound}
use Rattle.params.proofs.laws.canon_law.Goals as goal

pub returns : goal.returns
returns c = record { again = canonical_again; sound = canonical_sound }
