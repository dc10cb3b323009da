-- How many turns of each choice were taken.
--     summary_of ds            of these turns
--     with_choice choice s     with one turn more
--     total s                  how many there are in all
use Rattle.std.specs.Prelude.{ℕ, ◌+◌, Bool, true, false, List, length}
use Rattle.std.specs.List.{filter}
use Rattle.repro_laws.specs.Due.{Due}
use Rattle.repro_laws.specs.declared.stage.Choice.{Choice}
use Rattle.repro_laws.specs.declared.stage.Choice.TheVariants.{Skip, Restore, Run}
use Rattle.repro_core.specs.declared.summary.Summary.{Summary}

abbrev pub is_choice : Choice → Choice → Bool
is_choice Run Run = true
is_choice Restore Restore = true
is_choice Skip Skip = true
is_choice _ _ = false

abbrev pub has_choice : Choice → Due → Bool
has_choice choice d = is_choice choice d.choice

abbrev pub count_of : Choice → List Due → ℕ
count_of choice ds = length (filter (has_choice choice) ds)

abbrev pub summary_of : List Due → Summary
summary_of ds = record { run = count_of Run ds; restored = count_of Restore ds; skipped = count_of Skip ds }

abbrev pub with_choice : Choice → Summary → Summary
with_choice Run s = record { run = s.run + 1; restored = s.restored; skipped = s.skipped }
with_choice Restore s = record { run = s.run; restored = s.restored + 1; skipped = s.skipped }
with_choice Skip s = record { run = s.run; restored = s.restored; skipped = s.skipped + 1 }

abbrev pub total : Summary → ℕ
total s = s.run + s.restored + s.skipped
