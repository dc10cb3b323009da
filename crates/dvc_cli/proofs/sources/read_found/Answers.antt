-- Each track file has its path, and is in form.
use Rattle.std.proofs.Common.{List, subst}
use Rattle.dvc_base.specs.Path.{Path}
use Rattle.workspace_files.specs.Tracks.{AreTracks}
use Rattle.dvc_cli.proofs.FoundLemmas.{few_tracks, track_files}
use Rattle.dvc_cli.proofs.sources.read_found.Goals as goal

pub returns-clause-few : goal.returns-clause-few
returns-clause-few g c = few_tracks c.args.found c.in_ok-tracks.tracks c.requires.found (subst (λ (ps : List Path). AreTracks ps c.in_ok-tracks.tracks) c.as_slice-2.ensures.same c.in_ok-tracks.ensures.form)

pub returns-clause-tracks : goal.returns-clause-tracks
returns-clause-tracks g c = track_files c.args.found c.in_ok-tracks.tracks c.requires.found (subst (λ (ps : List Path). AreTracks ps c.in_ok-tracks.tracks) c.as_slice-2.ensures.same c.in_ok-tracks.ensures.form)
