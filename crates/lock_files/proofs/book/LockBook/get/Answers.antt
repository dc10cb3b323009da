use Rattle.std.proofs.Common.{ap, ◌∙◌}
use Rattle.lock_files.specs.Book.{Lock, entry_of}
use Rattle.lock_files.proofs.BookLemmas.{entry-entries}
use Rattle.lock_files.proofs.book.LockBook.get.Goals as goal

pub returns : goal.returns
returns c = record {
  by_name = c.get.ensures.value ∙ entry-entries c.self.inside.stages.entries c.args.stage.now ∙ ap (λ (b : Lock). entry_of b c.args.stage.now) c.self.view_is;
}
