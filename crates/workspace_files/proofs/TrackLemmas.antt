-- Track files, read one by one.
--     tracks_more      one more is read
--     form_more        what was read stays in form
use Rattle.std.proofs.Common.{◌≡◌, ℕ, ◌+◌, ◌<◌, List, [], ◌∷◌, ◌++◌, length, take, drop, get_or, refl, sym, ap, ◌∙◌, append_assoc, Result, Ok, Err}
use Rattle.std.proofs.lemmas.List.{drop_more, take_more, map-append}
use Rattle.dvc_base.specs.Path.{Path}
use Rattle.dvc_base.specs.declared.fault.Fault.{Fault}
use Rattle.world_api.specs.Tree.{Tree, item_at}
use Rattle.lock_files.specs.Form.{IsTrack}
use Rattle.stage_graph.specs.declared.track.TrackFile.{TrackFile}
use Rattle.workspace_files.specs.Read.{with_first}
use Rattle.workspace_files.specs.Tracks.{track_at, tracks_of, file_of, IsTrackAt, AreTracks}
use Rattle.workspace_files.proofs.TreeOrder.{all_append}

-- what was read so far, before the rest
abbrev pub with_front : List TrackFile → Result (List TrackFile) Fault → Result (List TrackFile) Fault
with_front made (Ok rest) = Ok (made ++ rest)
with_front made (Err fault) = Err fault

front_more : (made : List TrackFile) (file : TrackFile) (r : Result (List TrackFile) Fault) → with_front made (with_first (Ok file) r) ≡ with_front (made ++ file ∷ []) r
front_more made file (Ok rest) = ap (λ (ts : List TrackFile). Ok ts) (sym (append_assoc made (file ∷ []) rest))
front_more made file (Err fault) = refl

module _ (t : Tree) (paths : List Path) (i : ℕ) (made : List TrackFile) (left : tracks_of t paths ≡ with_front made (tracks_of t (drop i paths))) (path : Path) (before : i < length paths) (here : path ≡ get_or paths i path) where
  next : tracks_of t paths ≡ with_front made (with_first (track_at path (item_at t path)) (tracks_of t (drop (i + 1) paths)))
  next = left ∙ ap (λ (ps : List Path). with_front made (tracks_of t ps)) (drop_more paths i path before ∙ ap (λ (p : Path). p ∷ drop (i + 1) paths) (sym here))

  pub tracks_more : (file : TrackFile) → track_at path (item_at t path) ≡ Ok file → tracks_of t paths ≡ with_front (made ++ file ∷ []) (tracks_of t (drop (i + 1) paths))
  tracks_more file e =
      next ∙ ap (λ (r : Result TrackFile Fault). with_front made (with_first r (tracks_of t (drop (i + 1) paths)))) e
      ∙ front_more made file (tracks_of t (drop (i + 1) paths))

pub form_more : (paths : List Path) (i : ℕ) (path : Path) (made : List TrackFile) (file : TrackFile) → i < length paths → path ≡ get_or paths i path → AreTracks (take i paths) made → IsTrackAt path file → AreTracks (take (i + 1) paths) (made ++ file ∷ [])
form_more paths i path made file before here so_far one = record {
  files =
      map-append file_of made (file ∷ []) ∙ ap (λ (ps : List Path). ps ++ file.file ∷ []) so_far.files
      ∙ ap (λ (p : Path). take i paths ++ p ∷ []) (one.file ∙ here) ∙ sym (take_more paths i path before);
  form = all_append (λ (t : TrackFile). IsTrack t.track) made (file ∷ []) so_far.form (one.form, tt);
}
