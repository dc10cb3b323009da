-- What must stand for a lock to be written, from what reading the workspace has found.
--     can_write      no folder stands at the lock's path, and no file at the folder of the tool's own
use Rattle.std.proofs.Common.{◌≡◌, ◌≢◌, Some, None, refl, sym, ap, ◌∙◌}
use Rattle.dvc_base.specs.declared.fault.Fault.{Fault}
use Rattle.dvc_base.specs.declared.fault.Fault.TheVariants.{NotFolder}
use Rattle.world_api.specs.Tree.{Tree, folder, item_at}
use Rattle.world_api.specs.Calls.{parent}
use Rattle.world_api.specs.Writes.{IsNoFileAt, CanWrite}
use Rattle.world_api.specs.Layout.{dvc_path, lock_path}
use Rattle.lock_files.specs.Book.{Lock}
use Rattle.repro_laws.specs.Sound.{lock_by, lock_of}
use Rattle.dvc_cli.specs.Workspace.{place_fault}

root_above_lock : (t : Tree) → item_at t (parent lock_path) ≡ Some folder
unfolding lock_path
root_above_lock t = refl

none_is_some : (lock : Lock) → None ≡ Some lock → ⊥
none_is_some lock e = cc

fault_is_none : (fault : Fault) → Some fault ≡ None → ⊥
fault_is_none fault e = cc

no_lock_folder : (t : Tree) (lock : Lock) → lock_of t ≡ Some lock → item_at t lock_path ≢ Some folder
no_lock_folder t lock e f = none_is_some lock (sym (ap lock_by f) ∙ e)

pub no_dvc_file : (t : Tree) → place_fault (item_at t dvc_path) ≡ None → IsNoFileAt t dvc_path
no_dvc_file t e bytes f = fault_is_none (NotFolder dvc_path) (sym (ap place_fault f) ∙ e)

pub can_write : (t : Tree) (lock : Lock) → place_fault (item_at t dvc_path) ≡ None → lock_of t ≡ Some lock → CanWrite lock_path t
can_write t lock m e = record {
  room = record { above = root_above_lock t; no_folder = no_lock_folder t lock e };
  no_file = no_dvc_file t m;
}
