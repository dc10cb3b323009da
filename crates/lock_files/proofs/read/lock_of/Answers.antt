use Rattle.std.proofs.Common.{sym, subst}
use Rattle.lock_files.specs.Form.{IsBook}
use Rattle.lock_files.proofs.FormLemmas.{book_form}
use Rattle.lock_files.proofs.read.lock_of.Goals as goal

pub returns-clause-form : goal.returns-clause-form
returns-clause-form c = subst IsBook (sym c.in_ok-book.ensures.exact) (book_form 64 c.args.node.now c.requires.printable c.in_ok-check_lock.ensures.exact)
