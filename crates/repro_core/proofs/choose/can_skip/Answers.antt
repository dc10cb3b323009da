-- What the lock remembers of a stage is an entry in form.
use Rattle.std.proofs.Common.{◌≡◌, ◌∙◌, sym, ap, Some}
use Rattle.std.specs.Prelude.{option_copied}
use Rattle.lock_files.specs.Book.{entry_of}
use Rattle.change_check.proofs.ValueLemmas.{entry_sound}
use Rattle.repro_core.proofs.EntryLemmas.{entry_good}
use Rattle.repro_core.proofs.choose.can_skip.Goals as goal

pub same_entry-requires-clause-sound : goal.same_entry-requires-clause-sound
same_entry-requires-clause-sound c =
    let lock = c.args.lock.now in
    let entry = c.in-Some.entry.now in
    let name = c.as_str.result.now in
    let found : entry_of lock name ≡ Some entry = sym c.get.ensures.by_name ∙ ap option_copied c.in-Some.is in
    entry_sound entry (entry_good lock name entry c.requires.form.entries found)
