use Rattle.std.proofs.Common.{[], sym, subst}
use Rattle.lock_files.specs.Form.{IsEntry}
use Rattle.lock_files.proofs.FormLemmas.{entry_form}
use Rattle.lock_files.proofs.read.entry_of.Goals as goal

pub returns-clause-form : goal.returns-clause-form
returns-clause-form c = subst IsEntry (sym c.in_ok-entry.ensures.exact) (entry_form 64 [] c.args.node.now c.requires.printable c.in_ok-check_entry.ensures.exact)
