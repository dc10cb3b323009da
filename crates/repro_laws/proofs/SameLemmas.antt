-- An entry is the same as what is seen exactly where it tells just that.
--     inputs_same    the inputs that are the same
--     seen_same      what is the same
--     seen_found     and where it is, of parameters that can be compared
use Rattle.std.proofs.Common.{◌≡◌, ℕ, Bool, true, false, ◌&&◌, List, [], ◌∷◌, map, refl, sym, ap, subst, ◌∙◌, Option, Some, None, Decides, eqb}
use Rattle.std.specs.Prelude.{bytes_eq}
use Rattle.std.specs.Cmp.Lexicographic.{pointwise}
use Rattle.std.proofs.lemmas.Bool.{and_parts, and_from, false≢true, not-true, eqb-true, eq-eqb}
use Rattle.std.proofs.lemmas.Slice.Eq.{bytes_eq-Decides, slice_eq-Decides}
use Rattle.dvc_base.specs.Name.{ObjectName}
use Rattle.dvc_base.specs.declared.data.ParamFile.{ParamFile}
use Rattle.dvc_base.specs.declared.node.Pair.{Pair}
use Rattle.file_hash.specs.declared.named.Named.{Named}
use Rattle.lock_files.specs.declared.entry.Entry.{Entry}
use Rattle.lock_files.specs.declared.entry.PathEntry.{PathEntry}
use Rattle.yaml_nodes.specs.Part.{key_of}
use Rattle.yaml_print.specs.Print.{value_of}
use Rattle.yaml_print.specs.Sound.{Each}
use Rattle.params.proofs.PairLemmas.{same_pair as pair_fields}
use Rattle.change_check.specs.Same.{canonical_files, told_of, seen_path, seen_of, same_truth, same_count, same_named, is_named, same_path, same_node, same_pair, same_file, same_inputs, same_entry}
use Rattle.change_check.specs.Sound.{IsCanonicalPair, AreCanonical}
use Rattle.change_check.specs.declared.seen.SeenPath.{SeenPath}
use Rattle.change_check.specs.declared.seen.Seen.{Seen}
use Rattle.change_check.proofs.NodeLemmas.{list_same, list_itself, node_same, node_decides}

pub bytes_same : (a b : List ℕ) → bytes_eq a b ≡ true → a ≡ b
bytes_same a b e = (bytes_eq-Decides a b).0 e

pub bytes_itself : (a : List ℕ) → bytes_eq a a ≡ true
bytes_itself a = (bytes_eq-Decides a a).1 refl

truth_same : (a b : Bool) → same_truth a b ≡ true → a ≡ b
truth_same true b e = sym e
truth_same false b e = sym (not-true b e)

truth_itself : (a : Bool) → same_truth a a ≡ true
truth_itself true = refl
truth_itself false = refl

count_same : (a b : Option ℕ) → same_count a b ≡ true → a ≡ b
count_same None None e = refl
count_same None (Some n) e = absurd (false≢true e)
count_same (Some m) None e = absurd (false≢true e)
count_same (Some m) (Some n) e = ap (λ (k : ℕ). Some k) (eqb-true m n e)

count_itself : (a : Option ℕ) → same_count a a ≡ true
count_itself None = refl
count_itself (Some n) = eq-eqb n n refl

name_same : (a b : List ℕ) (d e : Bool) → a ≡ b → d ≡ e → ◌≡◌ {A = ObjectName} (record { digits = a; dir = d }) (record { digits = b; dir = e })
name_same a b d e p q =
    ap (λ (x : List ℕ). record { digits = x; dir = d }) p ∙ ap (λ (x : Bool). record { digits = b; dir = x }) q

named_fields : (m n : ObjectName) (a b : ℕ) (x y : Option ℕ) → m ≡ n → a ≡ b → x ≡ y → ◌≡◌ {A = Named} (record { name = m; size = a; nfiles = x }) (record { name = n; size = b; nfiles = y })
named_fields m n a b x y f g h =
    ap (λ (z : ObjectName). record { name = z; size = a; nfiles = x }) f ∙ ap (λ (z : ℕ). record { name = n; size = z; nfiles = x }) g ∙ ap (λ (z : Option ℕ). record { name = n; size = b; nfiles = z }) h

named_same : (a b : Named) → same_named a b ≡ true → a ≡ b
named_same a b e =
    let digits = bytes_eq a.name.digits b.name.digits in
    let dirs = same_truth a.name.dir b.name.dir in
    let sizes = eqb a.size b.size in
    let counts = same_count a.nfiles b.nfiles in
    let first = and_parts digits (dirs && (sizes && counts)) e in
    let next = and_parts dirs (sizes && counts) first.1 in
    let last = and_parts sizes counts next.1 in
    named_fields a.name b.name a.size b.size a.nfiles b.nfiles (name_same a.name.digits b.name.digits a.name.dir b.name.dir (bytes_same a.name.digits b.name.digits first.0) (truth_same a.name.dir b.name.dir next.0)) (eqb-true a.size b.size last.0) (count_same a.nfiles b.nfiles last.1)

named_itself : (a : Named) → same_named a a ≡ true
named_itself a =
    let digits = bytes_eq a.name.digits a.name.digits in
    let dirs = same_truth a.name.dir a.name.dir in
    let sizes = eqb a.size a.size in
    let counts = same_count a.nfiles a.nfiles in
    and_from digits (dirs && (sizes && counts)) (bytes_itself a.name.digits) (and_from dirs (sizes && counts) (truth_itself a.name.dir) (and_from sizes counts (eq-eqb a.size a.size refl) (count_itself a.nfiles)))

pub is_named_same : (a : Named) (o : Option Named) → is_named a o ≡ true → Some a ≡ o
is_named_same a None e = absurd (false≢true e)
is_named_same a (Some b) e = ap (λ (n : Named). Some n) (named_same a b e)

pub is_named_found : (a : Named) (o : Option Named) → Some a ≡ o → is_named a o ≡ true
is_named_found a o e = subst (λ (x : Option Named). is_named a x ≡ true) e (named_itself a)

-- ---- paths

pub path_fields : (p q : List ℕ) (x y : Option Named) → p ≡ q → x ≡ y → ◌≡◌ {A = SeenPath} (record { path = p; named = x }) (record { path = q; named = y })
path_fields p q x y e f =
    ap (λ (z : List ℕ). record { path = z; named = x }) e ∙ ap (λ (z : Option Named). record { path = q; named = z }) f

path_same : (a : PathEntry) (b : SeenPath) → same_path a b ≡ true → seen_path a ≡ b
path_same a b e =
    let parts = and_parts (bytes_eq a.path b.path) (is_named (told_of a) b.named) e in
    path_fields a.path b.path (Some (told_of a)) b.named (bytes_same a.path b.path parts.0) (is_named_same (told_of a) b.named parts.1)

path_itself : (a : PathEntry) → same_path a (seen_path a) ≡ true
path_itself a =
    and_from (bytes_eq a.path a.path) (same_named (told_of a) (told_of a)) (bytes_itself a.path) (named_itself (told_of a))

paths_same : (as' : List PathEntry) (bs : List SeenPath) → pointwise same_path as' bs ≡ true → map seen_path as' ≡ bs
paths_same [] [] e = refl
paths_same [] (b ∷ bs) e = absurd (false≢true e)
paths_same (a ∷ as') [] e = absurd (false≢true e)
paths_same (a ∷ as') (b ∷ bs) e =
    let parts = and_parts (same_path a b) (pointwise same_path as' bs) e in
    ap (λ (x : SeenPath). x ∷ map seen_path as') (path_same a b parts.0) ∙ ap (λ (xs : List SeenPath). b ∷ xs) (paths_same as' bs parts.1)

paths_itself : (as' : List PathEntry) → pointwise same_path as' (map seen_path as') ≡ true
paths_itself [] = refl
paths_itself (a ∷ as') =
    and_from (same_path a (seen_path a)) (pointwise same_path as' (map seen_path as')) (path_itself a) (paths_itself as')

-- ---- parameters

pair_same : (p q : Pair) → same_pair p q ≡ true → p ≡ q
pair_same p q e =
    let parts = and_parts (bytes_eq (key_of p) (key_of q)) (same_node 64 (value_of p) (value_of q)) e in
    pair_fields p q (bytes_same (key_of p) (key_of q) parts.0) (node_same 64 (value_of p) (value_of q) parts.1)

pair_itself : (p : Pair) → IsCanonicalPair p → same_pair p p ≡ true
pair_itself p h =
    and_from (bytes_eq (key_of p) (key_of p)) (same_node 64 (value_of p) (value_of p)) (bytes_itself (key_of p)) ((node_decides 64 (value_of p) (value_of p) h.0).1 refl)

file_fields : (a b : List ℕ) (ps qs : List Pair) → a ≡ b → ps ≡ qs → ◌≡◌ {A = ParamFile} (record { file = a; keys = ps }) (record { file = b; keys = qs })
file_fields a b ps qs e f =
    ap (λ (z : List ℕ). record { file = z; keys = ps }) e ∙ ap (λ (z : List Pair). record { file = b; keys = z }) f

file_same : (f g : ParamFile) → same_file f g ≡ true → f ≡ g
file_same f g e =
    let parts = and_parts (bytes_eq f.file g.file) (pointwise same_pair f.keys g.keys) e in
    file_fields f.file g.file f.keys g.keys (bytes_same f.file g.file parts.0) (list_same same_pair pair_same f.keys g.keys parts.1)

file_itself : (f : ParamFile) → Each IsCanonicalPair f.keys → same_file f f ≡ true
file_itself f h =
    and_from (bytes_eq f.file f.file) (pointwise same_pair f.keys f.keys) (bytes_itself f.file) (list_itself same_pair IsCanonicalPair pair_itself f.keys h)

-- ---- entries

texts-Decides : (a b : List (List ℕ)) → Decides (pointwise bytes_eq a b) (a ≡ b)
texts-Decides a b = slice_eq-Decides bytes_eq-Decides a b (pointwise bytes_eq a b) refl

pub seen_fields : (a b : List (List ℕ)) (c d e f : List SeenPath) (g h : List ParamFile) → a ≡ b → c ≡ d → e ≡ f → g ≡ h → ◌≡◌ {A = Seen} (record { commands = a; deps = c; params = g; outs = e }) (record { commands = b; deps = d; params = h; outs = f })
seen_fields a b c d e f g h x y z w =
    ap (λ (v : List (List ℕ)). record { commands = v; deps = c; params = g; outs = e }) x ∙ ap (λ (v : List SeenPath). record { commands = b; deps = v; params = g; outs = e }) y ∙ ap (λ (v : List SeenPath). record { commands = b; deps = d; params = g; outs = v }) z ∙ ap (λ (v : List ParamFile). record { commands = b; deps = d; params = v; outs = f }) w

-- the inputs of an entry are those that are seen
pub record AreInputs (e : Entry) (s : Seen) : Type 0 where
  pub commands : e.commands ≡ s.commands
  pub deps : map seen_path e.deps ≡ s.deps
  pub params : canonical_files e.params ≡ s.params

pub inputs_same : (e : Entry) (s : Seen) → same_inputs e s ≡ true → AreInputs e s
inputs_same e s h =
    let commands = pointwise bytes_eq e.commands s.commands in
    let deps = pointwise same_path e.deps s.deps in
    let params = pointwise same_file (canonical_files e.params) s.params in
    let first = and_parts commands (deps && params) h in
    let next = and_parts deps params first.1 in
    record {
      commands = (texts-Decides e.commands s.commands).0 first.0;
      deps = paths_same e.deps s.deps next.0;
      params = list_same same_file file_same (canonical_files e.params) s.params next.1;
    }

pub seen_same : (e : Entry) (s : Seen) → same_entry e s ≡ true → seen_of e ≡ s
seen_same e s h =
    let whole = and_parts (same_inputs e s) (pointwise same_path e.outs s.outs) h in
    let ins = inputs_same e s whole.0 in
    seen_fields e.commands s.commands (map seen_path e.deps) s.deps (map seen_path e.outs) s.outs (canonical_files e.params) s.params ins.commands ins.deps (paths_same e.outs s.outs whole.1) ins.params

seen_itself : (e : Entry) → AreCanonical (canonical_files e.params) → same_entry e (seen_of e) ≡ true
seen_itself e canonical =
    let commands = pointwise bytes_eq e.commands e.commands in
    let deps = pointwise same_path e.deps (map seen_path e.deps) in
    let params = pointwise same_file (canonical_files e.params) (canonical_files e.params) in
    let outs = pointwise same_path e.outs (map seen_path e.outs) in
    and_from (commands && (deps && params)) outs (and_from commands (deps && params) ((texts-Decides e.commands e.commands).1 refl) (and_from deps params (paths_itself e.deps) (list_itself same_file (λ f. Each IsCanonicalPair f.keys) file_itself (canonical_files e.params) canonical))) (paths_itself e.outs)

pub seen_found : (e : Entry) (s : Seen) → AreCanonical s.params → seen_of e ≡ s → same_entry e s ≡ true
seen_found e s canonical same =
    subst (λ (x : Seen). same_entry e x ≡ true) same (seen_itself e (subst AreCanonical (sym (ap (λ (x : Seen). x.params) same)) canonical))
