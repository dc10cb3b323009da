use Rattle.std.proofs.Common.{sym, subst}
use Rattle.lock_files.specs.Form.{IsTrack}
use Rattle.lock_files.proofs.FormLemmas.{track_form}
use Rattle.lock_files.proofs.read.track_of.Goals as goal

pub returns-clause-form : goal.returns-clause-form
returns-clause-form c = subst IsTrack (sym c.in_ok-track.ensures.exact) (track_form c.args.node.now c.requires.printable c.in_ok-check_track.ensures.exact)
