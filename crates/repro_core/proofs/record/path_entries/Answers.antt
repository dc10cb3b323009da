-- One more path has its entry; none of them lacks one.
use Rattle.std.proofs.Common.{◌≡◌, ◌∷◌, ◌++◌, [], sym, ap, ◌∙◌, List, Some}
use Rattle.lock_files.specs.declared.entry.PathEntry.{PathEntry}
use Rattle.repro_core.proofs.RecordLemmas.{no_gap, entries_more}
use Rattle.repro_core.proofs.record.path_entries.Goals.{in-Some+in_ok-path_entry-in-Some+in_ok-push-in-Some, in-None}
use Rattle.repro_core.proofs.record.path_entries.Goals as goal

pub loop-at-preserved : goal.loop-at-preserved
loop-at-preserved c =
    let seen = c.args.seen.now in
    let i = c.loop-at.at in
    let entries = c.loop-at.entries in
    elim c.match-seen-at.branch [
      | in-Some+in_ok-path_entry-in-Some+in_ok-push-in-Some w ↦
          let p = w.index-seen-at.result in
          let entry = w.in_ok-path_entry-in-Some.field-0 in
          let now : c.match-seen-at.entries ≡ entries ++ entry ∷ [] = w.entries-is ∙ w.in_ok-push-in-Some.ensures.ok in
          record {
            named =
                entries_more seen i _ p w.in-Some.named entries entry c.loop-at-test.true w.in-Some.is c.loop-at.invariant.named w.in_ok-path_entry-in-Some.ensures.exact
                ∙ ap (λ (es : List PathEntry). Some es) (sym now);
          }
      | in-None w ↦ absurd (no_gap seen i _ c.requires.0 c.loop-at-test.true c.requires.1 w.in-None.is)
    ]
