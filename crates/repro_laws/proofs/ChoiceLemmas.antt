-- The choice where nothing is restored.
--     can_skip           nothing is forced, the stage doesn't always count as changed, and its entry is the same
--     skip_or_run        a skip is chosen just there, and a run everywhere else
--     chosen_forced, chosen_changed, chosen_same     the choice in each case
use Rattle.std.proofs.Common.{◌≡◌, Bool, true, false, cond, not, ◌&&◌, ◌||◌, refl, ap, ◌∙◌, Option, None}
use Rattle.std.specs.Prelude.{if◌then◌else◌}
use Rattle.lock_files.specs.declared.entry.Entry.{Entry}
use Rattle.lock_files.specs.Book.{Lock, entry_of}
use Rattle.change_check.specs.declared.seen.Seen.{Seen}
use Rattle.repro_laws.specs.Stored.{Stored}
use Rattle.repro_laws.specs.Choices.{is_same_as, choice_of}
use Rattle.repro_laws.specs.declared.stage.Stage.{Stage}
use Rattle.repro_laws.specs.declared.stage.Flags.{Flags}
use Rattle.repro_laws.specs.declared.stage.Choice.{Choice}
use Rattle.repro_laws.specs.declared.stage.Choice.TheVariants.{Skip, Run}
use Rattle.repro_laws.proofs.SeenLemmas.{plain_choice, choice_plain}

abbrev pub can_skip : Flags → Stage → Seen → Lock → Bool
can_skip flags s seen lock = not (flags.force || s.always) && is_same_as (entry_of lock s.name) seen

abbrev pub skip_if : Bool → Choice × Option Entry
skip_if skips = if skips then (Skip, None) else (Run, None)

by_both : (forced same : Bool) → cond forced (Run, None) (cond same (Skip, None) (Run, None)) ≡ skip_if (not forced && same)
by_both true same = refl
by_both false true = refl
by_both false false = refl

module _ (flags : Flags) (s : Stage) (seen : Seen) (stored : Stored) (lock : Lock) (plain : flags.run_cache ≡ false) where
  pub skip_or_run : choice_of flags s seen stored lock ≡ skip_if (can_skip flags s seen lock)
  unfolding plain_choice
  skip_or_run =
      choice_plain flags s seen stored lock plain ∙ by_both (flags.force || s.always) (is_same_as (entry_of lock s.name) seen)

  pub chosen_forced : (flags.force || s.always) ≡ true → choice_of flags s seen stored lock ≡ (Run, None)
  chosen_forced e =
      skip_or_run ∙ ap (λ b. skip_if (not b && is_same_as (entry_of lock s.name) seen)) e

  changed : (b : Bool) → skip_if (not b && false) ≡ (Run, None)
  changed true = refl
  changed false = refl

  pub chosen_changed : is_same_as (entry_of lock s.name) seen ≡ false → choice_of flags s seen stored lock ≡ (Run, None)
  chosen_changed e =
      skip_or_run ∙ ap (λ b. skip_if (not (flags.force || s.always) && b)) e ∙ changed (flags.force || s.always)

  pub chosen_same : (flags.force || s.always) ≡ false → is_same_as (entry_of lock s.name) seen ≡ true → choice_of flags s seen stored lock ≡ (Skip, None)
  chosen_same e same =
      skip_or_run ∙ ap (λ b. skip_if (not b && is_same_as (entry_of lock s.name) seen)) e ∙ ap skip_if same
