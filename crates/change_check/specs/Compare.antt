-- How what is seen of a stage differs from what its entry tells.
--     how_of same told found    how a thing is: what is told of it, if something is, and what is there, if something is
--     tracked ps lost           the tracked keys of parameter files in order, each with its value where it is present
--     compare e s g             the differences: of the commands, of dependencies by their paths, of parameters by their files and keys,
--                               and of outputs by their paths. Where there is no entry, nothing is told
--     is_unchanged e s g        there is an entry that tells just what is seen, and nothing is lost or absent
--     AreInOrder e s            the parameter files are in order
use Rattle.std.specs.Prelude.{ℕ, Bool, true, false, ◌&&◌, not, if◌then◌else◌, List, [], ◌∷◌, ◌++◌, map, filter, Option, Some, None, IsTrue, bytes_eq}
use Rattle.std.specs.List.{flat_map, list_all}
use Rattle.std.specs.Option.{option_or, option_and_then, option_to_list}
use Rattle.std.specs.declared.cmp.Ordering.{Ordering}
use Rattle.std.specs.Ordering.{nat_cmp, ordering_then}
use Rattle.std.specs.Cmp.Lexicographic.{pointwise, slice_cmp}
use Rattle.dvc_base.specs.declared.data.ParamFile.{ParamFile}
use Rattle.dvc_base.specs.declared.node.Node.{Node}
use Rattle.dvc_base.specs.declared.node.Pair.{Pair}
use Rattle.yaml_nodes.specs.Part.{key_of}
use Rattle.yaml_print.specs.Print.{value_of}
use Rattle.file_hash.specs.declared.named.Named.{Named}
use Rattle.lock_files.specs.declared.entry.Entry.{Entry}
use Rattle.lock_files.specs.declared.entry.PathEntry.{PathEntry}
use Rattle.lock_files.specs.Form.{file_at}
use Rattle.lock_files.specs.Order.{is_rising}
use Rattle.lock_files.specs.Refused.{is_among}
use Rattle.params.specs.Canonical.{canonical}
use Rattle.change_check.specs.Same.{told_of, same_named, same_node, same_entry}
use Rattle.change_check.specs.Sides.{pairs}
use Rattle.change_check.specs.declared.seen.SeenPath.{SeenPath}
use Rattle.change_check.specs.declared.seen.Seen.{Seen}
use Rattle.change_check.specs.declared.diff.How.{How}
use Rattle.change_check.specs.declared.diff.How.TheVariants.{New, Modified, Deleted, NotInCache}
use Rattle.change_check.specs.declared.diff.Diff.{Diff}
use Rattle.change_check.specs.declared.diff.Diff.TheVariants as d
use Rattle.change_check.specs.declared.diff.LostKey.{LostKey}
use Rattle.change_check.specs.declared.diff.Gaps.{Gaps}

-- ---- how a thing is

abbrev pub how_of : {A B : Type 0} → (A → B → Bool) → Option A → Option B → Option How
how_of same told None = Some Deleted
how_of same None (Some found) = Some New
how_of same (Some told) (Some found) = if same told found then None else Some Modified

-- what is listed of it
abbrev pub listed : (How → Diff) → Option How → List Diff
listed diff None = []
listed diff (Some how) = diff how ∷ []

-- ---- paths

abbrev pub path_order : PathEntry → SeenPath → Ordering
path_order told seen = slice_cmp nat_cmp told.path seen.path

abbrev pub path_of : Option PathEntry → Option SeenPath → List ℕ
path_of (Some told) seen = told.path
path_of None (Some seen) = seen.path
path_of None None = []

abbrev pub named_at : Option SeenPath → Option Named
named_at seen = option_and_then (λ s. s.named) seen

abbrev pub how_path : Option PathEntry → Option SeenPath → Option How
how_path told seen = how_of (λ p n. same_named (told_of p) n) told (named_at seen)

abbrev pub dep_diff : Option PathEntry × Option SeenPath → List Diff
dep_diff p = listed (d.Dep (path_of p.0 p.1)) (how_path p.0 p.1)

-- an output that is the same may be absent from the cache
abbrev pub or_absent : Bool → Option How → Option How
or_absent absent None = if absent then Some NotInCache else None
or_absent absent (Some how) = Some how

abbrev pub how_out : List (List ℕ) → Option PathEntry → Option SeenPath → Option How
how_out absent told seen = or_absent (is_among (path_of told seen) absent) (how_path told seen)

abbrev pub out_diff : List (List ℕ) → Option PathEntry × Option SeenPath → List Diff
out_diff absent p = listed (d.Out (path_of p.0 p.1)) (how_out absent p.0 p.1)

-- ---- parameters

-- a tracked key of a parameter file, with its value where it is present
pub record Tracked : Type 0 where
  pub file : List ℕ
  pub key : List ℕ
  pub value : Option Node

abbrev pub present_key : List ℕ → Pair → Tracked
present_key file p = record { file = file; key = key_of p; value = Some (value_of p) }

abbrev pub present_in : ParamFile → List Tracked
present_in f = map (present_key f.file) f.keys

abbrev pub present : List ParamFile → List Tracked
present files = flat_map present_in files

abbrev pub lost_key : LostKey → Tracked
lost_key k = record { file = k.file; key = k.key; value = None }

abbrev pub key_order : Tracked → Tracked → Ordering
key_order a b = ordering_then (slice_cmp nat_cmp a.file b.file) (slice_cmp nat_cmp a.key b.key)

-- the second of two that tie
abbrev pub last_of : Option Tracked × Option Tracked → List Tracked
last_of p = option_to_list (option_or p.1 p.0)

abbrev pub tracked : List ParamFile → List LostKey → List Tracked
tracked files lost = flat_map last_of (pairs key_order (present files) (map lost_key lost))

-- an entry's values may be written in other ways than canonical ones are
abbrev pub same_value : Node → Node → Bool
same_value told found = same_node 64 (canonical 64 told) found

abbrev pub value_at : Option Tracked → Option Node
value_at key = option_and_then (λ k. k.value) key

abbrev pub how_key : Option Tracked → Option Tracked → Option How
how_key told seen = how_of same_value (value_at told) (value_at seen)

abbrev pub param_diff_of : Option Tracked → Option How → List Diff
param_diff_of None how = []
param_diff_of (Some k) how = listed (d.Param k.file k.key) how

abbrev pub param_diff : Option Tracked × Option Tracked → List Diff
param_diff p = param_diff_of (option_or p.0 p.1) (how_key p.0 p.1)

-- ---- all differences

abbrev pub deps_of : Option Entry → List PathEntry
deps_of None = []
deps_of (Some e) = e.deps

abbrev pub params_of : Option Entry → List ParamFile
params_of None = []
params_of (Some e) = e.params

abbrev pub outs_of : Option Entry → List PathEntry
outs_of None = []
outs_of (Some e) = e.outs

abbrev pub has_commands : Option Entry → Seen → Bool
has_commands None s = false
has_commands (Some e) s = pointwise bytes_eq e.commands s.commands

abbrev pub command_diffs : Option Entry → Seen → List Diff
command_diffs e s = if has_commands e s then [] else d.Command ∷ []

abbrev pub dep_diffs : List PathEntry → List SeenPath → List Diff
dep_diffs told seen = flat_map dep_diff (pairs path_order told seen)

abbrev pub param_diffs : List Tracked → List Tracked → List Diff
param_diffs told seen = flat_map param_diff (pairs key_order told seen)

abbrev pub out_diffs : List (List ℕ) → List PathEntry → List SeenPath → List Diff
out_diffs absent told seen = flat_map (out_diff absent) (pairs path_order told seen)

abbrev pub compare : Option Entry → Seen → Gaps → List Diff
compare e s g =
    command_diffs e s
    ++ (dep_diffs (deps_of e) s.deps
    ++ (param_diffs (present (params_of e)) (tracked s.params g.lost)
    ++ out_diffs g.absent (outs_of e) s.outs))

-- ---- no differences

abbrev pub is_empty : {A : Type 0} → List A → Bool
is_empty [] = true
is_empty (x ∷ xs) = false

abbrev pub has_keys : ParamFile → Bool
has_keys f = not (is_empty f.keys)

-- the same of an entry, and of what is seen, without the parameter files of which no key is tracked
abbrev pub keyed_entry : Entry → Entry
keyed_entry e = record e { params = filter has_keys e.params }

abbrev pub keyed_seen : Seen → Seen
keyed_seen s = record s { params = filter has_keys s.params }

abbrev pub are_whole : List (List ℕ) → List SeenPath → Bool
are_whole absent outs = list_all (λ o. not (is_among o.path absent)) outs

abbrev pub is_unchanged : Option Entry → Seen → Gaps → Bool
is_unchanged None s g = false
is_unchanged (Some e) s g =
    same_entry (keyed_entry e) (keyed_seen s) && (is_empty g.lost && are_whole g.absent s.outs)

-- the parameter files that are told of, and those that are seen, stand in the order of their names' bytes, and none twice
abbrev pub AreInOrder : Option Entry → Seen → Type 0
AreInOrder e s = IsTrue (is_rising (map file_at (params_of e))) × IsTrue (is_rising (map file_at s.params))
