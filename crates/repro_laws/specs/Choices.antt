-- What a turn chooses: by what is seen of the stage, what the cache holds and what the lock remembers, and by no tree.
--     choice_of flags s seen stored lock     the choice, and for a restore the entry to restore from
use Rattle.std.specs.Prelude.{Bool, true, false, ◌&&◌, ◌||◌, List, [], ◌∷◌, Option, Some, None, if◌then◌else◌}
use Rattle.std.specs.Option.{option_or}
use Rattle.lock_files.specs.declared.entry.Entry.{Entry}
use Rattle.lock_files.specs.declared.entry.PathEntry.{PathEntry}
use Rattle.lock_files.specs.Book.{Lock, entry_of}
use Rattle.change_check.specs.Same.{told_of, is_named, same_entry, agrees}
use Rattle.change_check.specs.declared.seen.SeenPath.{SeenPath}
use Rattle.change_check.specs.declared.seen.Seen.{Seen}
use Rattle.repro_laws.specs.Stored.{Stored, is_held}
use Rattle.repro_laws.specs.declared.stage.Out.{Out}
use Rattle.repro_laws.specs.declared.stage.Stage.{Stage}
use Rattle.repro_laws.specs.declared.stage.Flags.{Flags}
use Rattle.repro_laws.specs.declared.stage.Choice.{Choice}
use Rattle.repro_laws.specs.declared.stage.Choice.TheVariants.{Skip, Restore, Run}

abbrev pub is_same_as : Option Entry → Seen → Bool
is_same_as None seen = false
is_same_as (Some e) seen = same_entry e seen

-- ---- restoring

-- an output can be had: it stands there with the name of the entry, or it is a cached one whose name the cache holds
abbrev pub can_have : Stored → Out → SeenPath → PathEntry → Bool
can_have stored o seen e = is_named (told_of e) seen.named || (o.cached && is_held stored.objects e.name)

abbrev pub can_have_all : Stored → List Out → List SeenPath → List PathEntry → Bool
can_have_all stored [] [] [] = true
can_have_all stored (o ∷ os) (p ∷ ps) (e ∷ es) = can_have stored o p e && can_have_all stored os ps es
can_have_all stored _ _ _ = false

abbrev pub is_restorable : Stored → Stage → Seen → Entry → Bool
is_restorable stored s seen e = agrees e seen && can_have_all stored s.made seen.outs e.outs

abbrev pub if_restorable : Stored → Stage → Seen → Option Entry → Option Entry
if_restorable stored s seen None = None
if_restorable stored s seen (Some e) = if is_restorable stored s seen e then Some e else None

abbrev pub first_record : List Entry → Option Entry
first_record [] = None
first_record (e ∷ es) = Some e

-- the lock's entry, and else the first record of a run
abbrev pub entry_to_restore : Stored → Stage → Seen → Lock → Option Entry
entry_to_restore stored s seen lock =
    option_or (if_restorable stored s seen (entry_of lock s.name)) (if_restorable stored s seen (first_record (stored.runs seen)))

-- ---- the choice

abbrev pub restore_or_run : Option Entry → Choice × Option Entry
restore_or_run None = (Run, None)
restore_or_run (Some e) = (Restore, Some e)

abbrev pub choice_of : Flags → Stage → Seen → Stored → Lock → Choice × Option Entry
choice_of flags s seen stored lock =
    if flags.force || s.always then (Run, None)
    else if is_same_as (entry_of lock s.name) seen then (Skip, None)
    else if flags.run_cache then restore_or_run (entry_to_restore stored s seen lock)
    else (Run, None)
