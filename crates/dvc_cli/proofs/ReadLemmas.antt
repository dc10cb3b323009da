-- The lock of a tree, from what was read of its file.
--     remembered      what was read is the tree's lock
use Rattle.std.proofs.Common.{◌≡◌, ℕ, Bool, true, false, List, [], length, Option, Some, None, Result, Ok, Err, nat_lt, cond}
use Rattle.std.specs.Result.{result_ok}
use Rattle.dvc_base.specs.Limits.{limit_of}
use Rattle.dvc_base.specs.declared.limits.What.TheVariants.{YamlText}
use Rattle.dvc_base.specs.declared.fault.Fault.{Fault}
use Rattle.dvc_base.specs.declared.fault.Fault.TheVariants.{NoFile, TooLarge}
use Rattle.world_api.specs.Tree.{Tree, Item, folder, file, item_at}
use Rattle.world_api.specs.Layout.{lock_path}
use Rattle.lock_files.specs.Book.{Lock}
use Rattle.lock_files.specs.Read.{lock_read}
use Rattle.lock_files.specs.declared.fault.LockFault.{LockFault}
use Rattle.repro_laws.specs.Sound.{lock_by, lock_of}
use Rattle.dvc_cli.specs.Read.{lock_answer, lock_or, lock_by_text, book_at}

err_lock : (fault : Fault) (lock : Lock) → Err fault ≡ Ok lock → ⊥
err_lock fault lock e = cc

ok_lock : (a b : Lock) → ◌≡◌ {A = Result Lock Fault} (Ok a) (Ok b) → Some a ≡ Some b
ok_lock a b e = cc

by_reading : (found : Result Lock LockFault) (lock : Lock) → lock_or found ≡ Ok lock → result_ok found ≡ Some lock
by_reading (Ok found) lock e = ok_lock found lock e
by_reading (Err why) lock e = absurd (err_lock (lock_answer why) lock e)

by_length : (long : Bool) (text : List ℕ) (lock : Lock)
    → lock_by_text (cond long (Err (TooLarge YamlText (limit_of YamlText))) (Ok (Some text))) ≡ Ok lock → result_ok (lock_read text) ≡ Some lock
by_length true text lock e = absurd (err_lock (TooLarge YamlText (limit_of YamlText)) lock e)
by_length false text lock e = by_reading (lock_read text) lock e

by_item : (item : Option Item) (lock : Lock) → book_at item ≡ Ok lock → lock_by item ≡ Some lock
by_item None lock e = ok_lock [] lock e
by_item (Some folder) lock e = absurd (err_lock (NoFile lock_path) lock e)
by_item (Some (file text)) lock e = by_length (nat_lt (limit_of YamlText) (length text)) text lock e

pub remembered : (t : Tree) (lock : Lock) → book_at (item_at t lock_path) ≡ Ok lock → lock_of t ≡ Some lock
remembered t lock e = by_item (item_at t lock_path) lock e
