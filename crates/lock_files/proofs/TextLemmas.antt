-- What is in form: a book that a text is read as, and one that remembers an entry more.
use Rattle.std.proofs.Common.{◌≡◌, ℕ, List, Some, None, Result, Ok, Err, refl, subst}
use Rattle.dvc_base.specs.declared.node.Node.{Node}
use Rattle.dvc_base.specs.declared.node.YamlFault.{YamlFault}
use Rattle.yaml_nodes.specs.Document.{parse}
use Rattle.yaml_print.specs.Sound.{IsPrintable}
use Rattle.yaml_print.proofs.ReadSound.{read_printable}
use Rattle.lock_files.specs.declared.entry.Entry.{Entry}
use Rattle.lock_files.specs.Book.{Lock, set}
use Rattle.lock_files.specs.Refused.{Refusal, lock_refused}
use Rattle.lock_files.specs.Value.{lock_in}
use Rattle.lock_files.specs.Form.{IsEntry, IsBook}
use Rattle.lock_files.specs.Read.{value_unless, node_or, node_read, read_by, lock_read}
use Rattle.lock_files.proofs.FormLemmas.{book_form, set_names, set_entries}

value_form : (v : Node) (book : Lock) (due : Refusal) → IsPrintable v → lock_refused v ≡ due → value_unless due (lock_in v) ≡ Ok book → IsBook book
value_form v book None h free is = let same : lock_in v ≡ book = cc in subst IsBook same (book_form 64 v h free)
value_form v book (Some fault) h free is = absurd (cc)

node_form : (r : Result Node YamlFault) (book : Lock) → ((v : Node) → r ≡ Ok v → IsPrintable v) → read_by lock_refused lock_in (node_or r) ≡ Ok book → IsBook book
node_form (Ok v) book h is = value_form v book (lock_refused v) (h v refl) refl is
node_form (Err fault) book h is = absurd (cc)

pub book_of_text : (text : List ℕ) (book : Lock) → lock_read text ≡ Ok book → IsBook book
unfolding lock_read node_read
book_of_text text book is = node_form (parse text) book (read_printable text) is

pub book_set : (book : Lock) (name : List ℕ) (e : Entry) → IsBook book → IsEntry e → IsBook (set book name e)
book_set book name e h k = record { names = set_names book name e h.names; entries = set_entries book name e h.entries k }
