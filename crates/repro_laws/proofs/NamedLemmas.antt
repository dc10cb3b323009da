-- The names of what is seen of a stage, and its entry.
--     named_front                the first path's entry, and those of the others
--     deps_named, outs_named     values that are there have names
--     named_deps                 each dependency has one where none is refused
--     named_outs                 and each output where none is missing
--     entry_made                 the entry with these
use Rattle.std.proofs.Common.{◌≡◌, ℕ, false, List, [], ◌∷◌, map, refl, ap, ◌∙◌, Option, Some, None, IsTrue}
use Rattle.std.specs.List.{AllByRecursion}
use Rattle.dvc_base.specs.declared.data.ParamFile.{ParamFile}
use Rattle.world_api.specs.Tree.{Tree, Value, nothing, content, members, value_at}
use Rattle.file_hash.specs.Naming.{named_bytes, named_files, named_of}
use Rattle.file_hash.specs.declared.named.Named.{Named}
use Rattle.lock_files.specs.Order.{in_order, is_rising}
use Rattle.lock_files.specs.declared.entry.PathEntry.{PathEntry}
use Rattle.repro_laws.specs.Stage.{dep_value, is_nothing, dep_text, out_text}
use Rattle.repro_laws.specs.Entries.{seen_dep, seen_out, path_named, in_front, all_named, entry_from, entry_at}
use Rattle.repro_laws.specs.Refusals.{refused_dep, deps_fault, missing_fault}
use Rattle.repro_laws.specs.declared.stage.Dep.{Dep}
use Rattle.repro_laws.specs.declared.stage.Out.{Out}
use Rattle.repro_laws.specs.declared.stage.Stage.{Stage}
use Rattle.repro_laws.proofs.AlikeLemmas.{each_on}
use Rattle.repro_laws.proofs.RefusalLemmas.{deps_each, missing_each}

-- ---- names

named_some : (v : Value) → is_nothing v ≡ false → (n : Named) × (named_of v ≡ Some n)
named_some nothing there = absurd (cc)
named_some (content bytes) there = (named_bytes bytes, refl)
named_some (members m) there = (named_files m, refl)

abbrev pub entry_with : List ℕ → Named → PathEntry
entry_with text n = record { path = text; name = n.name; size = n.size; nfiles = n.nfiles }

pub named_front : (text : List ℕ) (v : Value) (n : Named) (more : Option (List PathEntry)) (es : List PathEntry) → named_of v ≡ Some n → more ≡ Some es → in_front (path_named text (named_of v)) more ≡ Some (entry_with text n ∷ es)
named_front text v n more es named rest =
    ap (λ o. in_front (path_named text o) more) named ∙ ap (in_front (Some (entry_with text n))) rest

pub deps_named : (t : Tree) (ds : List Dep) → AllByRecursion (λ d. is_nothing (dep_value t d) ≡ false) ds → (es : List PathEntry) × (all_named (map (seen_dep t) ds) ≡ Some es)
deps_named t [] all = ([], refl)
deps_named t (d ∷ ds) all =
    let first = named_some (dep_value t d) all.0 in
    let more = deps_named t ds all.1 in
    (entry_with d.text first.0 ∷ more.0, named_front d.text (dep_value t d) first.0 (all_named (map (seen_dep t) ds)) more.0 first.1 more.1)

pub outs_named : (t : Tree) (os : List Out) → AllByRecursion (λ o. is_nothing (value_at t o.path) ≡ false) os → (es : List PathEntry) × (all_named (map (seen_out t) os) ≡ Some es)
outs_named t [] all = ([], refl)
outs_named t (o ∷ os) all =
    let first = named_some (value_at t o.path) all.0 in
    let more = outs_named t os all.1 in
    (entry_with o.text first.0 ∷ more.0, named_front o.text (value_at t o.path) first.0 (all_named (map (seen_out t) os)) more.0 first.1 more.1)

-- ---- where nothing is refused

dep_there : (name : List ℕ) (d : Dep) (v : Value) → refused_dep name d v ≡ None → is_nothing v ≡ false
dep_there name d nothing e = absurd (cc)
dep_there name d (content bytes) e = refl
dep_there name d (members m) e = refl

pub named_deps : (s : Stage) (t : Tree) → s.deps ≡ in_order dep_text s.looks → deps_fault s t ≡ None → (es : List PathEntry) × (all_named (map (seen_dep t) s.deps) ≡ Some es)
named_deps s t e none =
    deps_named t s.deps (each_on (λ d. refused_dep s.name d (dep_value t d) ≡ None) (λ d. is_nothing (dep_value t d) ≡ false) s.deps (λ d h. dep_there s.name d (dep_value t d) h) (deps_each s t e none))

pub named_outs : (s : Stage) (t : Tree) (vs : List Value) → s.made ≡ in_order out_text s.outs → IsTrue (is_rising (map out_text s.made)) → vs ≡ map (λ o. value_at t o.path) s.made → missing_fault s vs ≡ None → (es : List PathEntry) × (all_named (map (seen_out t) s.made) ≡ Some es)
named_outs s t vs e up is none = outs_named t s.made (missing_each (λ o. value_at t o.path) s vs e up is none)

-- ---- the entry

pub entry_made : (s : Stage) (ps : List ParamFile) (t : Tree) (deps outs : List PathEntry) → all_named (map (seen_dep t) s.deps) ≡ Some deps → all_named (map (seen_out t) s.made) ≡ Some outs → entry_at s ps t ≡ Some (record { commands = s.commands; deps = deps; params = ps; outs = outs })
entry_made s ps t deps outs e f =
    ap (λ o. entry_from s.commands ps o (all_named (map (seen_out t) s.made))) e ∙ ap (entry_from s.commands ps (Some deps)) f
