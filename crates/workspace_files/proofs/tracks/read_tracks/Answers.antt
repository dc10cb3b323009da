-- One more track file is read.
use Rattle.std.proofs.Common.{◌≡◌, ◌+◌, List, [], ◌∷◌, ◌++◌, take, drop, sym, ap, subst, ◌∙◌}
use Rattle.world_api.specs.Tree.{item_at}
use Rattle.world_api.specs.History.{History}
use Rattle.world_api.specs.Outside.{tree_of}
use Rattle.stage_graph.specs.declared.track.TrackFile.{TrackFile}
use Rattle.workspace_files.specs.Tracks.{track_at, tracks_of, AreTracks}
use Rattle.workspace_files.proofs.MetLemmas.{caused_then}
use Rattle.workspace_files.proofs.TrackLemmas.{with_front, tracks_more, form_more}
use Rattle.workspace_files.proofs.tracks.read_tracks.Goals as goal

pub loop-path-preserved : goal.loop-path-preserved
loop-path-preserved g c =
    let faults = g.F.Ground.faults in
    let tree = tree_of (g.F.Ground.history c.args.files.now) in
    let paths = c.args.paths.now in
    let path = c.path-item.result in
    let i = c.loop-path.path-index in
    let made = c.loop-path.tracks in
    let file = c.in_ok-read_file.field-0 in
    let so_far = c.loop-path.invariant in
    let read = c.in_ok-read_file.ensures in
    let pushed : c.push.new.self ≡ made ++ file ∷ [] = c.in_ok-push.ensures.ok in
    record {
      same = λ told. read.unchanged told ∙ so_far.same told;
      left = λ told.
          let here = sym (ap (λ (h : History). track_at path (item_at (tree_of h) path)) (so_far.same told)) ∙ read.read told in
          tracks_more tree paths i made (so_far.left told) path c.loop-path-test.true c.path-item.is file here
          ∙ ap (λ (ts : List TrackFile). with_front ts (tracks_of tree (drop (i + 1) paths))) (sym pushed);
      form = subst (AreTracks (take (i + 1) paths)) (sym pushed) (form_more paths i path made file c.loop-path-test.true c.path-item.is so_far.form read.form);
      counted = caused_then (faults c.args.files.now) (faults c.loop-path.files) (faults c.read_file.new.files) so_far.counted read.cause.same read.cause.later;
    }
