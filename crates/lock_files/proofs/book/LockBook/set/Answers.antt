use Rattle.std.proofs.Common.{List, ℕ, ap, ◌∙◌, map}
use Rattle.lock_files.specs.Book.{Lock, set}
use Rattle.lock_files.proofs.BookLemmas.{stage_of, set-entries}
use Rattle.lock_files.proofs.book.LockBook.set.Goals as goal

pub returns-clause-ok : goal.returns-clause-ok
returns-clause-ok c =
    let name = c.args.stage.now in
    ap (map stage_of) c.in_ok-insert.ensures.entries
    ∙ set-entries c.self.inside.stages.entries c.in_ok-stage.stage c.args.entry
    ∙ ap (λ (x : List ℕ). set (map stage_of c.self.inside.stages.entries) x c.args.entry) c.in_ok-stage.ensures.ok
    ∙ ap (λ (b : Lock). set b name c.args.entry) c.self.view_is
