-- What is read of the workspace's two files.
--     root_at item          the node of `dvc.yaml`
--     book_at item          what `dvc.lock` remembers
use Rattle.std.specs.Prelude.{ℕ, List, [], Option, Some, None, Result, Ok, Err}
use Rattle.dvc_base.specs.declared.fault.Fault.{Fault}
use Rattle.dvc_base.specs.declared.fault.Fault.TheVariants as f
use Rattle.dvc_base.specs.declared.node.Node.{Node}
use Rattle.dvc_base.specs.declared.node.Node.TheVariants.{Null}
use Rattle.dvc_base.specs.declared.node.YamlFault.{YamlFault}
use Rattle.world_api.specs.Tree.{Item}
use Rattle.world_api.specs.Layout.{lock_path, yaml_path}
use Rattle.yaml_nodes.specs.Document.{parse}
use Rattle.lock_files.specs.Book.{Lock}
use Rattle.lock_files.specs.Read.{lock_read}
use Rattle.lock_files.specs.declared.fault.LockFault.{LockFault}
use Rattle.lock_files.specs.declared.fault.LockFault.TheVariants as l
use Rattle.workspace_files.specs.Read.{text_at}

-- ---- `dvc.yaml`

abbrev pub node_or : Result Node YamlFault → Result Node Fault
node_or (Ok root) = Ok root
node_or (Err why) = Err (f.Yaml yaml_path why)

-- a file that is missing says what an empty one does
abbrev pub root_of : Result (Option (List ℕ)) Fault → Result Node Fault
root_of (Ok None) = Ok Null
root_of (Ok (Some text)) = node_or (parse text)
root_of (Err fault) = Err fault

abbrev pub root_at : Option Item → Result Node Fault
root_at item = root_of (text_at yaml_path item)

-- ---- `dvc.lock`

abbrev pub lock_answer : LockFault → Fault
lock_answer (l.Yaml why) = f.Yaml lock_path why
lock_answer (l.Schema key) = f.Schema lock_path key
lock_answer (l.Unsupported key) = f.Unsupported lock_path key
lock_answer l.Legacy = f.Legacy lock_path
lock_answer l.NoMemory = f.NoMemory

abbrev pub lock_or : Result Lock LockFault → Result Lock Fault
lock_or (Ok lock) = Ok lock
lock_or (Err why) = Err (lock_answer why)

-- nothing is remembered where no file stands
abbrev pub lock_by_text : Result (Option (List ℕ)) Fault → Result Lock Fault
lock_by_text (Ok None) = Ok []
lock_by_text (Ok (Some text)) = lock_or (lock_read text)
lock_by_text (Err fault) = Err fault

abbrev pub book_at : Option Item → Result Lock Fault
book_at item = lock_by_text (text_at lock_path item)
