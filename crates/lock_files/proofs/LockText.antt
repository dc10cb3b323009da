-- A printed book is read as just this book.
--     lock_text_read     where its texts are UTF-8, as those of a `Text` are
--     lock_printed       by the two clauses of `print_lock`
use Rattle.std.proofs.Common.{◌≡◌, ℕ, List, Ok, subst}
use Rattle.yaml_nodes.specs.Document.{max_depth}
use Rattle.yaml_print.specs.Print.{print_text}
use Rattle.yaml_print.specs.Sound.{AreTexts}
use Rattle.yaml_print.proofs.DocumentRead.{read_back}
use Rattle.lock_files.specs.Book.{Lock}
use Rattle.lock_files.specs.Nodes.{lock_node}
use Rattle.lock_files.specs.Form.{IsBook}
use Rattle.lock_files.specs.Read.{lock_read}
use Rattle.lock_files.proofs.PrintableLemmas.{book_printable}
use Rattle.lock_files.proofs.ReadLemmas.{lock_again}

pub lock_text_read : (book : Lock) → IsBook book → AreTexts max_depth (lock_node book) → lock_read (print_text (lock_node book)) ≡ Ok book
lock_text_read book h texts =
    lock_again book (print_text (lock_node book)) h (read_back (lock_node book) (book_printable book h) texts)

pub lock_printed : (book : Lock) (text : List ℕ) → text ≡ print_text (lock_node book) → lock_read text ≡ Ok book → lock_read (print_text (lock_node book)) ≡ Ok book
lock_printed book text is read = subst (λ t. lock_read t ≡ Ok book) is read
