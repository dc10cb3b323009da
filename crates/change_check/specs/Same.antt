-- What is seen of a stage, and what an entry that is remembered has to do with it.
--     canonical_files ps     parameters with canonical values: they count by value
--     seen_of e              what an entry tells
--     same_entry e s         the entry tells just what is seen
--     agrees e s             the same, but for the names of outputs
use Rattle.std.specs.Prelude.{ℕ, zero, suc, Bool, true, false, ◌&&◌, not, List, map, Option, Some, None, bytes_eq, ◌==◌}
use Rattle.std.specs.Ordering.{int_eq}
use Rattle.std.specs.Cmp.Lexicographic.{pointwise}
use Rattle.dvc_base.specs.declared.data.ParamFile.{ParamFile}
use Rattle.dvc_base.specs.declared.node.Node.{Node, out-Node}
use Rattle.dvc_base.specs.declared.node.Node.TheOpen.{Node-F}
use Rattle.dvc_base.specs.declared.node.Pair.{Pair, roll-Pair}
use Rattle.yaml_nodes.specs.Part.{key_of}
use Rattle.yaml_print.specs.ScalarText.{Layer}
use Rattle.yaml_print.specs.Print.{value_of}
use Rattle.file_hash.specs.declared.named.Named.{Named}
use Rattle.lock_files.specs.declared.entry.Entry.{Entry}
use Rattle.lock_files.specs.declared.entry.PathEntry.{PathEntry}
use Rattle.params.specs.Canonical.{canonical}
use Rattle.change_check.specs.declared.seen.SeenPath.{SeenPath}
use Rattle.change_check.specs.declared.seen.Seen.{Seen}

-- ---- canonical values

-- a tracked value has fewer collections in one another than the most that there may be
abbrev pub canonical_pair : Pair → Pair
canonical_pair p = roll-Pair (record { key = key_of p; value = canonical 64 (value_of p) })

abbrev pub canonical_file : ParamFile → ParamFile
canonical_file file = record { file = file.file; keys = map canonical_pair file.keys }

abbrev pub canonical_files : List ParamFile → List ParamFile
canonical_files ps = map canonical_file ps

-- ---- what an entry tells

-- what a path entry tells of a value
abbrev pub told_of : PathEntry → Named
told_of p = record { name = p.name; size = p.size; nfiles = p.nfiles }

abbrev pub seen_path : PathEntry → SeenPath
seen_path p = record { path = p.path; named = Some (told_of p) }

abbrev pub seen_of : Entry → Seen
seen_of e = record {
  commands = e.commands;
  deps = map seen_path e.deps;
  params = canonical_files e.params;
  outs = map seen_path e.outs;
}

-- ---- comparisons

abbrev pub same_truth : Bool → Bool → Bool
same_truth true b = b
same_truth false b = not b

abbrev pub same_count : Option ℕ → Option ℕ → Bool
same_count None None = true
same_count None (Some n) = false
same_count (Some m) None = false
same_count (Some m) (Some n) = m == n

abbrev pub same_named : Named → Named → Bool
same_named a b =
    bytes_eq a.name.digits b.name.digits
    && (same_truth a.name.dir b.name.dir && ((a.size == b.size) && same_count a.nfiles b.nfiles))

abbrev pub is_named : Named → Option Named → Bool
is_named a None = false
is_named a (Some b) = same_named a b

abbrev pub same_path : PathEntry → SeenPath → Bool
same_path a b = bytes_eq a.path b.path && is_named (told_of a) b.named

-- nodes, of at most d collections in one another
abbrev pub same_layer : (Node → Node → Bool) → Layer → Layer → Bool
same_layer inner Node-F.Null Node-F.Null = true
same_layer inner (Node-F.Bool a) (Node-F.Bool b) = same_truth a b
same_layer inner (Node-F.Whole m t) (Node-F.Whole n u) = int_eq m n && bytes_eq t u
same_layer inner (Node-F.Decimal t) (Node-F.Decimal u) = bytes_eq t u
same_layer inner (Node-F.Text t) (Node-F.Text u) = bytes_eq t u
same_layer inner (Node-F.Items xs) (Node-F.Items ys) = pointwise inner xs ys
same_layer inner (Node-F.Pairs ps) (Node-F.Pairs qs) =
    pointwise (λ p q. bytes_eq (key_of p) (key_of q) && inner (value_of p) (value_of q)) ps qs
same_layer inner _ _ = false

unfoldable pub same_node : ℕ → Node → Node → Bool
same_node zero a b = same_layer (λ x y. false) (out-Node a) (out-Node b)
same_node (suc d) a b = same_layer (same_node d) (out-Node a) (out-Node b)

abbrev pub same_pair : Pair → Pair → Bool
same_pair p q = bytes_eq (key_of p) (key_of q) && same_node 64 (value_of p) (value_of q)

abbrev pub same_file : ParamFile → ParamFile → Bool
same_file a b = bytes_eq a.file b.file && pointwise same_pair a.keys b.keys

abbrev pub same_inputs : Entry → Seen → Bool
same_inputs e s =
    pointwise bytes_eq e.commands s.commands
    && (pointwise same_path e.deps s.deps && pointwise same_file (canonical_files e.params) s.params)

abbrev pub same_entry : Entry → Seen → Bool
same_entry e s = same_inputs e s && pointwise same_path e.outs s.outs

abbrev pub agrees : Entry → Seen → Bool
agrees e s = same_inputs e s && pointwise (λ p o. bytes_eq p.path o.path) e.outs s.outs
