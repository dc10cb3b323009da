-- What an edit and a run make of a tree.
--     put_files at es t      the files of the entries below the path, with the folders between
--     place at v t           the value at the path, where the folder above it stands
--     edited_tree at v t     the value stands at the path, in place of what stood there, and folders above it
--     is_edited at v t p     whether the edit writes at p: at or below its path, or a folder above that didn't stand
--     left_tree at v t       the same, where the folder above stands; else nothing changes
--     made_tree at t         a folder in place of a file or of nothing, where the folder above stands
--     published_tree o at v t     the value moved from the path o
use Rattle.std.specs.Prelude.{ℕ, zero, suc, ◌-◌, Bool, true, false, not, ◌&&◌, ◌||◌, List, [], ◌∷◌, ◌++◌, length, Option, Some, if◌then◌else◌}
use Rattle.std.specs.FinMap.{insert, retain_keys, entries}
use Rattle.dvc_base.specs.Path.{Path, under}
use Rattle.world_api.specs.Tree.{Tree, Item, folder, file, item_at}
use Rattle.world_api.specs.Calls.{parent}
use Rattle.sim_world.specs.declared.value.Value.{Value}
use Rattle.sim_world.specs.declared.value.Value.TheVariants.{Nothing, File, Files}
pub use Rattle.sim_world.specs.Root.{is_root}

-- without what stands at or below the path
abbrev pub without : Path → Tree → Tree
without at t = retain_keys t (λ p. not (under at p))

-- a folder at the path, and at those above it: n of them in all; a file there gives way
abbrev pub with_folders : ℕ → Path → Tree → Tree
with_folders zero at t = t
with_folders (suc n) at t = insert (with_folders n (parent at) t) at folder

abbrev pub folders_above : Path → Tree → Tree
folders_above at t = with_folders (length (parent at)) (parent at) t

-- a file below the path, and the folders between the two
abbrev pub put_member : Path → Path → List ℕ → Tree → Tree
put_member at p bytes t = insert (with_folders (length p - 1) (parent (at ++ p)) t) (at ++ p) (file bytes)

abbrev pub put_files : Path → List (Path × List ℕ) → Tree → Tree
put_files at [] t = t
put_files at (e ∷ es) t = put_files at es (put_member at e.0 e.1 t)

-- an empty map leaves an empty folder
abbrev pub place : Path → Value → Tree → Tree
place at Nothing t = t
place at (File bytes) t = insert t at (file bytes)
place at (Files m) t = put_files at (entries m) (insert t at folder)

abbrev pub is_nothing : Value → Bool
is_nothing Nothing = true
is_nothing _ = false

abbrev pub put_value : Path → Value → Tree → Tree
put_value at value t = if is_nothing value then t else place at value (folders_above at t)

abbrev pub is_folder : Option Item → Bool
is_folder (Some folder) = true
is_folder _ = false

abbrev pub is_new_above : Path → Value → Tree → Path → Bool
is_new_above at value t p = not (is_nothing value) && (under p at && not (is_folder (item_at t p)))

abbrev pub is_edited : Path → Value → Tree → Path → Bool
is_edited at value t p = under at p || is_new_above at value t p

-- the root can't be edited
abbrev pub edited_tree : Path → Value → Tree → Tree
edited_tree at value t = if is_root at then t else put_value at value (without at t)

-- whether a path isn't the root, and the folder above it stands
abbrev pub has_place : Tree → Path → Bool
has_place t at = if is_root at then false else is_folder (item_at t (parent at))

abbrev pub left_tree : Path → Value → Tree → Tree
left_tree at value t = if has_place t at then place at value (without at t) else t

abbrev pub made_tree : Path → Tree → Tree
made_tree at t = if has_place t at then insert t at folder else t

abbrev pub published_tree : Path → Path → Value → Tree → Tree
published_tree origin at value t = without origin (left_tree at value t)
