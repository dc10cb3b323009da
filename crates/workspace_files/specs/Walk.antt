-- The files of a workspace that say what else there is: rules of paths to be ignored, and track files.
--     is_left_out p         p is `.dvc`, `.git` or `.hg` at the root, or lies in one of them
--     ignore_files t        the `.dvcignore` files of a tree outside these three
--     track_files t         its track files there: files whose name ends in `.dvc` and is longer
--     found_in t            both, or the refusal where the tree has more paths there than the tool takes
--     is_ignore_path p, is_track_path p     a file at the path would be such a file
--     IsFound found         what is found has such paths, over any world
-- Files are in the order of the texts of their paths, by bytes.
use Rattle.std.specs.Prelude.{◌≡◌, ℕ, ◌-◌, ◌≤◌, Bool, true, false, ◌&&◌, ◌||◌, not, nat_eq, nat_lt, bytes_eq, List, [], ◌∷◌, length, map, filter, count_by, codes, slice_get, if◌then◌else◌, Result, Ok, Err}
use Rattle.std.specs.Option.{option_map_or}
use Rattle.std.specs.List.{AllByRecursion, ends_with}
use Rattle.std.specs.Ordering.{nat_cmp, is_lt}
use Rattle.std.specs.Cmp.Lexicographic.{slice_cmp}
use Rattle.std.specs.FinMap.{entries}
use Rattle.dvc_base.specs.Path.{Path, path_text}
use Rattle.dvc_base.specs.Limits.{limit_of}
use Rattle.dvc_base.specs.declared.limits.What.TheVariants.{Paths}
use Rattle.dvc_base.specs.declared.fault.Fault.{Fault}
use Rattle.dvc_base.specs.declared.fault.Fault.TheVariants.{TooLarge}
use Rattle.dvc_base.specs.declared.fault.FaultKind.{FaultKind}
use Rattle.dvc_base.specs.declared.fault.FaultKind.TheVariants as k
use Rattle.world_api.specs.Tree.{Tree, Item, folder, file}
use Rattle.file_hash.specs.Listing.{in_order}
use Rattle.workspace_files.specs.declared.search.Found.{Found}

-- ---- paths

-- the folders of the tool, of Git and of Mercurial
abbrev pub is_tool_name : List ℕ → Bool
is_tool_name c = bytes_eq c (codes ".dvc") || bytes_eq c (codes ".git") || bytes_eq c (codes ".hg")

abbrev pub is_left_out : Path → Bool
is_left_out [] = false
is_left_out (c ∷ p) = is_tool_name c

-- a test of the last component
abbrev pub has_name : (List ℕ → Bool) → Path → Bool
has_name test p = option_map_or test (slice_get p (length p - 1)) false

abbrev pub is_ignore_name : List ℕ → Bool
is_ignore_name c = bytes_eq c (codes ".dvcignore")

abbrev pub is_track_name : List ℕ → Bool
is_track_name c = ends_with nat_eq c (codes ".dvc") && nat_lt 4 (length c)

abbrev pub is_ignore_path : Path → Bool
is_ignore_path p = not (is_left_out p) && has_name is_ignore_name p

abbrev pub is_track_path : Path → Bool
is_track_path p = not (is_left_out p) && has_name is_track_name p

-- the text of one path comes before that of the other
abbrev pub is_before : Path → Path → Bool
is_before p q = is_lt (slice_cmp nat_cmp (path_text p) (path_text q))

-- ---- what stands in a tree

abbrev pub is_file : Item → Bool
is_file folder = false
is_file (file bytes) = true

-- a file at a path that passes a test
abbrev pub is_file_with : (Path → Bool) → Path × Item → Bool
is_file_with test e = is_file e.1 && test e.0

abbrev pub paths_with : (Path → Bool) → List (Path × Item) → List Path
paths_with test es = map (λ e. e.0) (filter (is_file_with test) es)

abbrev pub ignore_files : Tree → List Path
ignore_files t = in_order is_before (paths_with is_ignore_path (entries t))

abbrev pub track_files : Tree → List Path
track_files t = in_order is_before (paths_with is_track_path (entries t))

-- a path that counts
abbrev pub is_seen : Path × Item → Bool
is_seen e = not (is_left_out e.0)

abbrev pub seen_in : List (Path × Item) → ℕ
seen_in es = count_by is_seen es

abbrev pub found_in : Tree → Result Found Fault
found_in t =
    if nat_lt (limit_of Paths) (seen_in (entries t))
    then Err (TooLarge Paths (limit_of Paths))
    else Ok (record { ignores = ignore_files t; tracks = track_files t })

-- ---- over any world

pub record IsFound (found : Found) : Type 0 where
  pub few : length found.tracks ≤ limit_of Paths
  pub ignores : AllByRecursion (λ p. is_ignore_path p ≡ true) found.ignores
  pub tracks : AllByRecursion (λ p. is_track_path p ≡ true) found.tracks

-- which faults may come
abbrev pub find_kinds : List FaultKind
find_kinds = k.NoMemory ∷ k.WorldFault ∷ k.TooLarge ∷ []
