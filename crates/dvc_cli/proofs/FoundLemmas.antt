-- The track files that were read where a walk has found them.
--     few_tracks      there are as many as were found
--     track_files     each has the path of a track file, and is in form
use Rattle.std.proofs.Common.{◌≡◌, ◌<◌, ◌^◌, true, List, [], ◌∷◌, length, map, sym, ap, subst, arith}
use Rattle.std.specs.List.{AllByRecursion}
use Rattle.std.proofs.lemmas.List.{length-map}
use Rattle.dvc_base.specs.Path.{Path}
use Rattle.lock_files.specs.Form.{IsTrack}
use Rattle.stage_graph.specs.declared.track.TrackFile.{TrackFile}
use Rattle.workspace_files.specs.Tracks.{file_of, AreTracks}
use Rattle.workspace_files.specs.Walk.{is_track_path, IsFound}
use Rattle.workspace_files.specs.declared.search.Found.{Found}
use Rattle.dvc_cli.specs.Sources.{IsTrackFile}

pub few_tracks : (found : Found) (fs : List TrackFile) → IsFound found → AreTracks found.tracks fs → length fs < 2 ^ 32
few_tracks found fs is read =
    let same : length (map file_of fs) ≡ length found.tracks = ap length read.files in
    omega (arith, length-map fs file_of, same, is.few)

each_track : (fs : List TrackFile) → AllByRecursion (λ p. is_track_path p ≡ true) (map file_of fs) → AllByRecursion (λ f. IsTrack f.track) fs → AllByRecursion IsTrackFile fs
each_track [] named form = tt
each_track (f ∷ fs) named form = (record { path = named.0; form = form.0 }, each_track fs named.1 form.1)

pub track_files : (found : Found) (fs : List TrackFile) → IsFound found → AreTracks found.tracks fs → AllByRecursion IsTrackFile fs
track_files found fs is read =
    each_track fs (subst (AllByRecursion (λ (p : Path). is_track_path p ≡ true)) (sym read.files) is.tracks) read.form
