-- What a stage reads, in trees that have the same files.
--     outside_own          what lies below a path that a stage reads
--     seen_deps, seen_outs, stood_deps     something stands at each of a stage's paths
--     stay_value           a value stays where nothing changes but folders that are made elsewhere
--     same_given           equal values give a stage's job the same
use Rattle.std.proofs.Common.{◌≡◌, ℕ, Bool, true, false, List, [], ◌∷◌, ◌++◌, map, refl, sym, ap, subst, ◌∙◌, inl, inr, Option, Some, None, is_some, IsSome}
use Rattle.std.specs.List.{AllByRecursion, list_any, list_all}
use Rattle.std.proofs.lemmas.Bool.{false≢true, and_parts, or_parts, or_from, both_ways, false_from_ne_true}
use Rattle.dvc_base.specs.Path.{Path, under, overlap}
use Rattle.dvc_base.specs.declared.fault.Fault.{Fault}
use Rattle.dvc_base.specs.declared.data.ParamFile.{ParamFile}
use Rattle.dvc_base.proofs.PathLemmas.{under-append, under-refl, under-overlap}
use Rattle.world_api.specs.Tree.{Tree, Value, nothing, content, members, IsTree, item_at, value_at}
use Rattle.world_api.specs.Effect.{Invocation, path_or_root, path_from, given_values, invocation_of, is_in_any}
use Rattle.file_hash.specs.Naming.{named_of}
use Rattle.lock_files.specs.declared.entry.Entry.{Entry}
use Rattle.lock_files.specs.declared.entry.PathEntry.{PathEntry}
use Rattle.change_check.specs.Same.{canonical_files, seen_path}
use Rattle.change_check.specs.declared.seen.SeenPath.{SeenPath}
use Rattle.change_check.specs.declared.seen.Seen.{Seen}
use Rattle.repro_laws.specs.Stage.{out_path, dep_text, out_text, stage_outs, value_inside, dep_value, is_nothing, job_with, Names, IsStage}
use Rattle.repro_laws.specs.Entries.{seen_dep, seen_out, IsPresent}
use Rattle.repro_laws.specs.Refusals.{first_fault, first_of, refused_dep, see_fault, deps_fault}
use Rattle.repro_laws.specs.Turns.{IsLeftAt}
use Rattle.repro_laws.specs.Headline.{IsApart}
use Rattle.repro_laws.specs.declared.stage.Dep.{Dep}
use Rattle.repro_laws.specs.declared.stage.Out.{Out}
use Rattle.repro_laws.specs.declared.stage.Stage.{Stage}
use Rattle.repro_laws.proofs.ListLemmas.{each_map, each_in_order, any_parts}
use Rattle.repro_laws.proofs.FileLemmas.{only_file, file_at, file_by_item, rootless_file, value_kept, absent}

-- ---- paths that overlap no output

pub outside_outs : (p q : Path) (outs : List Path) → list_any (overlap p) outs ≡ false → under p q ≡ true → is_in_any outs q ≡ false
outside_outs p q [] h u = refl
outside_outs p q (out ∷ outs) h u =
    let parts = or_parts (overlap p out) (list_any (overlap p) outs) h in
    or_from (under out q) (is_in_any outs q) (false_from_ne_true (under out q) (λ e. both_ways (overlap p out) parts.0 (under-overlap p out q u e))) (outside_outs p q outs parts.1 u)

-- what overlaps none of two lists of outputs overlaps none of the second
pub later_reads : (xs ys ps : List Path) → list_any (λ p. list_any (overlap p) (xs ++ ys)) ps ≡ false → list_any (λ p. list_any (overlap p) ys) ps ≡ false
later_reads xs ys [] h = refl
later_reads xs ys (p ∷ ps) h =
    let parts = or_parts (list_any (overlap p) (xs ++ ys)) (list_any (λ q. list_any (overlap q) (xs ++ ys)) ps) h in
    or_from (list_any (overlap p) ys) (list_any (λ q. list_any (overlap q) ys) ps) (any_parts (overlap p) xs ys parts.0).1 (later_reads xs ys ps parts.1)

-- ---- something stands there

-- a value that isn't nothing, as an output tells it, isn't nothing
pub stands_inside : (inside : Bool) (v : Value) → is_nothing (value_inside inside v) ≡ false → is_nothing v ≡ false
stands_inside true nothing h = h
stands_inside false nothing h = h
stands_inside inside (content bytes) h = refl
stands_inside inside (members m) h = refl

named_stands : (v : Value) → is_some (named_of v) ≡ true → is_nothing v ≡ false
named_stands nothing h = absurd (false≢true h)
named_stands (content bytes) h = refl
named_stands (members m) h = refl

abbrev all_named : List SeenPath → Bool
all_named ps = list_all (λ (p : SeenPath). is_some p.named) ps

all_told : (es : List PathEntry) → all_named (map seen_path es) ≡ true
all_told [] = refl
all_told (e ∷ es) = all_told es

deps_named : (t : Tree) (ds : List Dep) → all_named (map (seen_dep t) ds) ≡ true → AllByRecursion (λ d. is_nothing (dep_value t d) ≡ false) ds
deps_named t [] h = tt
deps_named t (d ∷ ds) h =
    let parts = and_parts (is_some (named_of (dep_value t d))) (all_named (map (seen_dep t) ds)) h in
    (named_stands (dep_value t d) parts.0, deps_named t ds parts.1)

outs_named : (t : Tree) (os : List Out) → all_named (map (seen_out t) os) ≡ true → AllByRecursion (λ o. is_nothing (value_at t o.path) ≡ false) os
outs_named t [] h = tt
outs_named t (o ∷ os) h =
    let parts = and_parts (is_some (named_of (value_at t o.path))) (all_named (map (seen_out t) os)) h in
    (named_stands (value_at t o.path) parts.0, outs_named t os parts.1)

pub seen_deps : (e : Entry) (s : Stage) (t : Tree) → IsPresent e s t → AllByRecursion (λ d. is_nothing (dep_value t d) ≡ false) s.deps
seen_deps e s t present =
    deps_named t s.deps (ap all_named (sym (ap (λ (x : Seen). x.deps) present.same)) ∙ all_told e.deps)

pub seen_outs : (e : Entry) (s : Stage) (t : Tree) → IsPresent e s t → AllByRecursion (λ p. is_nothing (value_at t p) ≡ false) (stage_outs s)
seen_outs e s t present =
    each_map out_path (λ p. is_nothing (value_at t p) ≡ false) s.made (outs_named t s.made (ap all_named (sym (ap (λ (x : Seen). x.outs) present.same)) ∙ all_told e.outs))

none_first : (a b : Option Fault) → first_fault a b ≡ None → (a ≡ None) × (b ≡ None)
none_first None b e = (refl, e)
none_first (Some fault) b e = absurd (cc)

dep_stood : (name : List ℕ) (d : Dep) (v : Value) → refused_dep name d v ≡ None → is_nothing v ≡ false
dep_stood name d nothing e = absurd (cc)
dep_stood name d (content bytes) e = refl
dep_stood name d (members m) e = refl

looks_stood : (name : List ℕ) (t : Tree) (ds : List Dep) → first_of (λ d. refused_dep name d (dep_value t d)) ds ≡ None → AllByRecursion (λ d. is_nothing (dep_value t d) ≡ false) ds
looks_stood name t [] e = tt
looks_stood name t (d ∷ ds) e =
    let parts = none_first (refused_dep name d (dep_value t d)) (first_of (λ x. refused_dep name x (dep_value t x)) ds) e in
    (dep_stood name d (dep_value t d) parts.0, looks_stood name t ds parts.1)

-- nothing that a stage's turn refuses means that each dependency stands
pub stood_deps : (s : Stage) (t : Tree) → IsStage s → see_fault s t ≡ None → AllByRecursion (λ d. is_nothing (dep_value t d) ≡ false) s.deps
stood_deps s t stage none =
    let looks = looks_stood s.name t s.looks (none_first (deps_fault s t) _ none).0 in
    subst (AllByRecursion (λ (d : Dep). is_nothing (dep_value t d) ≡ false)) (sym stage.deps) (each_in_order dep_text (λ d. is_nothing (dep_value t d) ≡ false) s.looks looks)

-- ---- what stays

pub left_files : (way : Path → Bool) (m n : Tree) (q : Path) → IsTree m → IsTree n → IsLeftAt way m n q → file_at n q ≡ file_at m q
left_files way m n q a b (inl e) =
    file_by_item n q (rootless_file n b) ∙ ap only_file e ∙ sym (file_by_item m q (rootless_file m a))
left_files way m n q a b (inr made) =
    file_by_item n q (rootless_file n b) ∙ ap only_file made.1.1 ∙ sym (file_by_item m q (rootless_file m a) ∙ ap only_file made.1.0)

pub left_some : (way : Path → Bool) (m n : Tree) (q : Path) → IsLeftAt way m n q → IsSome (item_at m q) → item_at n q ≡ item_at m q
left_some way m n q (inl e) some = e
left_some way m n q (inr made) some = absurd (absent (item_at m q) made.1.0 some)

abbrev pub Stay : (Path → Bool) → (Path → Bool) → List Path → Tree → Tree → Type 0
Stay own way outs m n = (p : Path) → is_in_any outs p ≡ false → own p ≡ false → IsLeftAt way m n p

pub stay_value : (own way : Path → Bool) (outs : List Path) (m n : Tree) (p : Path) → IsTree m → IsTree n → Stay own way outs m n → list_any (overlap p) outs ≡ false → IsApart own p → IsSome (item_at m p) → value_at n p ≡ value_at m p
stay_value own way outs m n p a b stay out apart some =
    let at : (q : Path) → under p q ≡ true → IsLeftAt way m n q = λ q u. stay q (outside_outs p q outs out u) (apart q u) in
    value_kept m n p (left_some way m n p (at p (under-refl p)) some) (λ r. left_files way m n (p ++ r) a b (at (p ++ r) (under-append p r)))

-- ---- the job

given_same : (t u : Tree) (dir : Path) (ds : List Dep) → AllByRecursion (λ d. Names dir d.text d.path) ds → AllByRecursion (λ d. value_at u d.path ≡ value_at t d.path) ds → given_values u dir (map dep_text ds) ≡ given_values t dir (map dep_text ds)
given_same t u dir [] names same = refl
given_same t u dir (d ∷ ds) names same =
    let at : path_from dir d.text ≡ d.path = ap path_or_root names.0 in
    let one : value_at u (path_from dir d.text) ≡ value_at t (path_from dir d.text) =
    ap (value_at u) at ∙ same.0 ∙ sym (ap (value_at t) at) in
    ap (λ (v : Value). (d.text, v) ∷ given_values u dir (map dep_text ds)) one ∙ ap (λ (vs : List (List ℕ × Value)). (d.text, value_at t (path_from dir d.text)) ∷ vs) (given_same t u dir ds names.1 same.1)

abbrev invocation_with : Stage → List ParamFile → List (List ℕ × Value) → Invocation
invocation_with s ps given = record { commands = s.commands; deps = given; params = canonical_files ps; outs = map out_text s.made }

pub same_given : (s : Stage) (ps : List ParamFile) (t u : Tree) → IsStage s → AllByRecursion (λ d. value_at u d.path ≡ value_at t d.path) s.deps → invocation_of (job_with s ps) u ≡ invocation_of (job_with s ps) t
same_given s ps t u stage same =
    ap (invocation_with s ps) (given_same t u s.dir s.deps stage.dep_names same)
