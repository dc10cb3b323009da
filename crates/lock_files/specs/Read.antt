-- What a text is read as, and what an answer has to do with it.
--     lock_read text, track_read text, entry_read text     the value, or the first refusal: why the text has no node, or what is
--                                                          refused of its node
--     IsAnswer got due      the answer is the one that is due, unless memory ran out
--     IsCheck got due       the check answers the refusal that is due, unless memory ran out
use Rattle.std.specs.Prelude.{◌≡◌, ℕ, List, [], Some, None, Result, Ok, Err}
use Rattle.dvc_base.specs.declared.node.Node.{Node}
use Rattle.dvc_base.specs.declared.node.YamlFault.{YamlFault}
use Rattle.yaml_nodes.specs.Document.{parse}
use Rattle.lock_files.specs.declared.fault.LockFault.{LockFault}
use Rattle.lock_files.specs.declared.fault.LockFault.TheVariants.{NoMemory, Yaml}
use Rattle.lock_files.specs.declared.entry.Entry.{Entry}
use Rattle.lock_files.specs.declared.entry.Track.{Track}
use Rattle.lock_files.specs.Book.{Lock}
use Rattle.lock_files.specs.Refused.{Refusal, lock_refused, track_refused, entry_refused}
use Rattle.lock_files.specs.Value.{lock_in, track_in, entry_in}

abbrev pub value_unless : {A : Type 0} → Refusal → A → Result A LockFault
value_unless None value = Ok value
value_unless (Some fault) value = Err fault

-- the node of a text, or why it has none
abbrev pub node_or : Result Node YamlFault → Result Node LockFault
node_or (Ok v) = Ok v
node_or (Err fault) = Err (Yaml fault)

unfoldable pub node_read : List ℕ → Result Node LockFault
node_read text = node_or (parse text)

abbrev pub read_by : {A : Type 0} → (Node → Refusal) → (Node → A) → Result Node LockFault → Result A LockFault
read_by refused value (Ok v) = value_unless (refused v) (value v)
read_by refused value (Err fault) = Err fault

unfoldable pub lock_read : List ℕ → Result Lock LockFault
lock_read text = read_by lock_refused lock_in (node_read text)

unfoldable pub track_read : List ℕ → Result Track LockFault
track_read text = read_by track_refused track_in (node_read text)

unfoldable pub entry_read : List ℕ → Result Entry LockFault
entry_read text = read_by (entry_refused []) entry_in (node_read text)

-- ---- answers

abbrev pub Ends : {A : Type 0} → LockFault → Result A LockFault → Type 0
Ends NoMemory due = Unit {0}
Ends fault due = due ≡ Err fault

abbrev pub IsAnswer : {A : Type 0} → Result A LockFault → Result A LockFault → Type 0
IsAnswer (Ok value) due = due ≡ Ok value
IsAnswer (Err fault) due = Ends fault due

abbrev pub Refuses : LockFault → Refusal → Type 0
Refuses NoMemory due = Unit {0}
Refuses fault due = due ≡ Some fault

abbrev pub IsCheck : {A : Type 0} → Result A LockFault → Refusal → Type 0
IsCheck (Ok done) due = due ≡ None
IsCheck (Err fault) due = Refuses fault due
