-- A file's bytes copied into the lane, and watched on the way.
--     IsCopy H tells h bytes     just these bytes were copied
--     IsCopied H item n          all of a file was copied, and the lane is on the disk
-- H are the bytes that were watched.
use Rattle.std.specs.Prelude.{◌≡◌, ℕ, Bool, true, List, ◌++◌, Option, Some, None, IsTrue}
use Rattle.std.specs.List.{AllByRecursion}
use Rattle.dvc_base.specs.Path.{Path}
use Rattle.file_hash.specs.declared.listing.Member.{Member}
use Rattle.dvc_base.specs.Name.{ObjectName}
use Rattle.world_api.specs.Tree.{Tree, Item, file, item_at}
use Rattle.world_api.specs.History.{Moment, History, IsFirm}
use Rattle.world_api.specs.Outside.{tree_of}
use Rattle.world_api.specs.Layout.{lane_path}
use Rattle.object_cache.specs.Objects.{has_name, object_at}
use Rattle.object_cache.specs.Due.{size_fault}

abbrev pub IsCopy : (List ℕ → Type 0) → Bool → History → List ℕ → Type 0
IsCopy H tells h bytes = H bytes × (IsTrue tells → item_at (tree_of h) (lane_path 0) ≡ Some (file bytes))

-- a file with these bytes is in the lane, and on the disk
pub record IsInLane (bytes : List ℕ) (n : Moment) : Type 0 where
  pub stands : item_at n.tree (lane_path 0) ≡ Some (file bytes)
  pub firm : IsFirm (lane_path 0) n

pub record IsCopied (H : List ℕ → Type 0) (item : Option Item) (n : Moment) : Type 0 where
  pub bytes : List ℕ
  pub there : item ≡ Some (file bytes)
  pub lane : IsInLane bytes n
  pub held : H bytes

-- the object's bytes are in the lane
pub record HasObject (t : Tree) (name : ObjectName) (n : Moment) : Type 0 where
  pub bytes : List ℕ
  pub whole : object_at t name ≡ Some bytes
  pub lane : IsInLane bytes n

-- a file whose bytes have the name, and aren't too many
pub record HasNamed (name : ObjectName) (item : Option Item) : Type 0 where
  pub bytes : List ℕ
  pub there : item ≡ Some (file bytes)
  pub named : has_name name bytes ≡ true
  pub small : size_fault item ≡ None

-- each member's file, below the path, has the bytes of the member's name
abbrev pub AreKnown : Tree → Path → List Member → Type 0
AreKnown t at ms = AllByRecursion (λ (m : Member). HasNamed m.name (item_at t (at ++ m.path))) ms
