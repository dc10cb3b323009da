-- When a stage is skipped.
--     skip_parts      a skip is chosen only where nothing is forced, and the lock's entry is the present one
--     skip_exact      and exactly there
use Rattle.std.proofs.Common.{◌≡◌, Bool, true, false, cond, ◌||◌, List, refl, sym, ap, ◌∙◌, Option, Some, None, Ok}
use Rattle.std.proofs.lemmas.Bool.{false≢true}
use Rattle.dvc_base.specs.declared.data.ParamFile.{ParamFile}
use Rattle.world_api.specs.Tree.{Tree}
use Rattle.lock_files.specs.declared.entry.Entry.{Entry}
use Rattle.lock_files.specs.Book.{Lock, entry_of}
use Rattle.change_check.specs.Same.{seen_of, same_entry}
use Rattle.change_check.specs.declared.seen.Seen.{Seen}
use Rattle.repro_laws.specs.Stage.{params_at, IsStage}
use Rattle.repro_laws.specs.Entries.{seen_at}
use Rattle.repro_laws.specs.Lock.{HasEntry}
use Rattle.repro_laws.specs.Stored.{stored_in}
use Rattle.repro_laws.specs.Choices.{is_same_as, restore_or_run, entry_to_restore}
use Rattle.repro_laws.specs.Due.{standing_of, choice_at}
use Rattle.repro_laws.specs.Headline.{SkipIsExact}
use Rattle.repro_laws.specs.declared.stage.Stage.{Stage}
use Rattle.repro_laws.specs.declared.stage.Flags.{Flags}
use Rattle.repro_laws.specs.declared.stage.Choice.{Choice}
use Rattle.repro_laws.specs.declared.stage.Choice.TheVariants.{Skip, Run}
use Rattle.repro_laws.proofs.ParamLemmas.{read_same, params_form, canonical_of_params}
use Rattle.repro_laws.proofs.SameLemmas.{seen_same, seen_found}

pub record IsSame (o : Option Entry) (seen : Seen) : Type 0 where
  pub entry : Entry
  pub there : o ≡ Some entry
  pub same : same_entry entry seen ≡ true

same_parts : (o : Option Entry) (seen : Seen) → is_same_as o seen ≡ true → IsSame o seen
same_parts None seen h = absurd (false≢true h)
same_parts (Some e) seen h = record { entry = e; there = refl; same = h }

never_skips : (o : Option Entry) → (restore_or_run o).0 ≡ Skip → ⊥
never_skips None e = absurd (cc)
never_skips (Some x) e = absurd (cc)

pub forced_or_same : (forced same cached : Bool) (o : Option Entry) → (cond forced (Run, None) (cond same (Skip, None) (cond cached (restore_or_run o) (Run, None)))).0 ≡ Skip → (forced ≡ false) × (same ≡ true)
forced_or_same true same cached o e = absurd (cc)
forced_or_same false true cached o e = (refl, refl)
forced_or_same false false true o e = absurd (never_skips o e)
forced_or_same false false false o e = absurd (cc)

skips : (forced same : Bool) (rest : Choice × Option Entry) → forced ≡ false → same ≡ true → (cond forced (Run, None) (cond same (Skip, None) rest)).0 ≡ Skip
skips forced same rest e f = cc

pub skip_parts : (flags : Flags) (s : Stage) (ps : List ParamFile) (t : Tree) (lock : Lock) → IsStage s → params_at s t ≡ Ok ps → (choice_at flags s ps (standing_of t lock)).0 ≡ Skip → ((flags.force || s.always) ≡ false) × HasEntry lock t s
skip_parts flags s ps t lock is read e =
    let seen = seen_at s ps t in
    let chosen = forced_or_same (flags.force || s.always) (is_same_as (entry_of lock s.name) seen) flags.run_cache (entry_to_restore (stored_in t) s seen lock) e in
    let found = same_parts (entry_of lock s.name) seen chosen.1 in (
      chosen.0,
      record {
        entry = found.entry;
        there = found.there;
        present = record { params = ps; read = read; same = seen_same found.entry seen found.same };
      },
    )

skip_found : (flags : Flags) (s : Stage) (ps : List ParamFile) (t : Tree) (lock : Lock) → IsStage s → params_at s t ≡ Ok ps → (flags.force || s.always) ≡ false → HasEntry lock t s → (choice_at flags s ps (standing_of t lock)).0 ≡ Skip
skip_found flags s ps t lock is read free has =
    let seen = seen_at s ps t in
    let e = has.entry in
    let same_ps : has.present.params ≡ ps = read_same has.present.params ps (sym has.present.read ∙ read) in
    let same : seen_of e ≡ seen = has.present.same ∙ ap (λ (x : List ParamFile). seen_at s x t) same_ps in
    let found : is_same_as (entry_of lock s.name) seen ≡ true =
    ap (λ (o : Option Entry). is_same_as o seen) has.there ∙ seen_found e seen (canonical_of_params ps (params_form s t ps is read)) same in
    skips (flags.force || s.always) (is_same_as (entry_of lock s.name) seen) (cond flags.run_cache (restore_or_run (entry_to_restore (stored_in t) s seen lock)) (Run, None)) free found

pub skip_exact : SkipIsExact
skip_exact flags s ps t lock is read = (skip_parts flags s ps t lock is read, skip_found flags s ps t lock is read)
