use Rattle.std.proofs.Common.{◌≡◌, Ok, ap, sym, subst, ◌∙◌}
use Rattle.yaml_nodes.specs.Document.{parse}
use Rattle.yaml_print.specs.Sound.{IsPrintable}
use Rattle.lock_files.specs.Read.{lock_read}
use Rattle.lock_files.proofs.ReadLemmas.{lock_again, ok_then}
use Rattle.lock_files.proofs.PrintableLemmas.{book_printable}
use Rattle.lock_files.proofs.print.print_lock.Goals as goal

pub print-requires : goal.print-requires
print-requires c = subst IsPrintable (sym c.in_ok-node.ensures.exact) (book_printable c.args.book.now c.requires)

pub returns-clause-read_back : goal.returns-clause-read_back
returns-clause-read_back c =
    ok_then c.print.result (λ text. parse text ≡ Ok c.in_ok-node.node) (λ text. lock_read text ≡ Ok c.args.book.now)
    (λ text h. lock_again c.args.book.now text c.requires (h ∙ ap Ok c.in_ok-node.ensures.exact)) c.print.ensures.read_back
