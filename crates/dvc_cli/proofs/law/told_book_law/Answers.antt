use Rattle.dvc_cli.proofs.LifeLaw.{told_books}
use Rattle.dvc_cli.proofs.law.told_book_law.Goals as goal

pub returns : goal.returns
returns c = told_books
