-- What a text is read as.
--     lock_again, track_again, entry_again      a text whose node is that of a value in form is read as this value
use Rattle.std.proofs.Common.{◌≡◌, ℕ, List, [], None, Result, Ok, Err, ap, ◌∙◌, IfOk}
use Rattle.dvc_base.specs.declared.node.Node.{Node}
use Rattle.yaml_nodes.specs.Document.{parse}
use Rattle.lock_files.specs.declared.entry.Entry.{Entry}
use Rattle.lock_files.specs.declared.entry.Track.{Track}
use Rattle.lock_files.specs.Book.{Lock}
use Rattle.lock_files.specs.Refused.{Refusal, lock_refused, track_refused, entry_refused}
use Rattle.lock_files.specs.Value.{lock_in, track_in, entry_in}
use Rattle.lock_files.specs.Nodes.{lock_node, track_node, entry_node}
use Rattle.lock_files.specs.Form.{IsEntry, IsTrack, IsBook}
use Rattle.lock_files.specs.Read.{value_unless, node_or, node_read, read_by, lock_read, track_read, entry_read}
use Rattle.lock_files.proofs.EntryBack.{entry_free, entry_back, track_free, track_back, lock_free, lock_back}

pub ok_then : {T E : Type 0} (r : Result T E) (P Q : T → Type 0) → ((x : T) → P x → Q x) → IfOk r P → IfOk r Q
ok_then (Ok x) P Q f h = f x h
ok_then (Err e) P Q f h = tt

read_again : {A : Type 0} (refused : Node → Refusal) (value : Node → A) (text : List ℕ) (v : Node) (x : A) → parse text ≡ Ok v → refused v ≡ None → value v ≡ x → read_by refused value (node_read text) ≡ Ok x
unfolding node_read
read_again refused value text v x is free back =
    ap (λ r. read_by refused value (node_or r)) is ∙ ap (λ d. value_unless d (value v)) free ∙ ap Ok back

pub lock_again : (book : Lock) (text : List ℕ) → IsBook book → parse text ≡ Ok (lock_node book) → lock_read text ≡ Ok book
unfolding lock_read
lock_again book text h is = read_again lock_refused lock_in text (lock_node book) book is (lock_free book h) (lock_back book h)

pub track_again : (t : Track) (text : List ℕ) → IsTrack t → parse text ≡ Ok (track_node t) → track_read text ≡ Ok t
unfolding track_read
track_again t text h is = read_again track_refused track_in text (track_node t) t is (track_free t h) (track_back t h)

pub entry_again : (e : Entry) (text : List ℕ) → IsEntry e → parse text ≡ Ok (entry_node e) → entry_read text ≡ Ok e
unfolding entry_read
entry_again e text h is = read_again (entry_refused []) entry_in text (entry_node e) e is (entry_free [] e h) (entry_back e h)
