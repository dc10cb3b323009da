-- Entries, and the values that they tell of.
--     outs_values    the values at a stage's outputs, by its outputs and by their paths
--     present_of     the entry that a stage has in a tree is present there
--     skip_law       where a true entry is present, the values that stand are the effect's
--     run_true       a present entry is true where the effect made what stands there
--     true_told      so is an entry that tells what a true one tells
use Rattle.std.proofs.Common.{◌≡◌, ◌≢◌, ℕ, Bool, true, false, cond, ◌&&◌, List, [], ◌∷◌, map, refl, sym, ap, ◌∙◌, Option, Some, None, Ok}
use Rattle.std.specs.List.{AllByRecursion}
use Rattle.std.proofs.lemmas.Option.{same_Some}
use Rattle.dvc_base.specs.Path.{Path}
use Rattle.dvc_base.specs.declared.data.ParamFile.{ParamFile}
use Rattle.world_api.specs.Tree.{Tree, Value, nothing, content, members, value_at}
use Rattle.world_api.specs.Effect.{Effect, Invocation, gives, path_or_root, path_from, given_values, invocation_of}
use Rattle.world_api.specs.History.{Book}
use Rattle.file_hash.specs.Naming.{named_of}
use Rattle.file_hash.specs.declared.named.Named.{Named}
use Rattle.lock_files.specs.declared.entry.Entry.{Entry}
use Rattle.lock_files.specs.declared.entry.PathEntry.{PathEntry}
use Rattle.change_check.specs.Same.{canonical_files, told_of, seen_path, seen_of}
use Rattle.change_check.specs.declared.seen.SeenPath.{SeenPath}
use Rattle.change_check.specs.declared.seen.Seen.{Seen}
use Rattle.repro_laws.specs.Book.{IsBooks, IsCovered}
use Rattle.repro_laws.specs.Stage.{dep_path, out_path, tracked_path, dep_text, out_text, has_no_files, dep_value, params_at, job_with, Names, IsStage}
use Rattle.repro_laws.specs.Entries.{seen_dep, seen_out, IsPresent, path_named, in_front, all_named, entry_from, entry_at, IsMade, StandFor, with_values, IsTrueEntry}
use Rattle.repro_laws.specs.Headline.{Covers}
use Rattle.repro_laws.specs.declared.stage.Dep.{Dep}
use Rattle.repro_laws.specs.declared.stage.Out.{Out}
use Rattle.repro_laws.specs.declared.stage.Stage.{Stage}
use Rattle.repro_laws.proofs.ListLemmas.{each_from, each_mapped, each_first}
use Rattle.repro_laws.proofs.NameLaw.{name_law}
use Rattle.repro_laws.proofs.ParamLemmas.{read_same}
use Rattle.repro_laws.proofs.SameLemmas.{seen_fields}

-- ---- lists

heads : (a b : SeenPath) (as' bs : List SeenPath) → a ∷ as' ≡ b ∷ bs → a ≡ b
heads a b as' bs e = cc

tails : (a b : SeenPath) (as' bs : List SeenPath) → a ∷ as' ≡ b ∷ bs → as' ≡ bs
tails a b as' bs e = cc

same_both : {A : Type 0} (v w : A) (vs ws : List A) → v ≡ w → vs ≡ ws → v ∷ vs ≡ w ∷ ws
same_both v w vs ws e f = cc

same_pair : (a b : List ℕ) (v w : Value) → a ≡ b → v ≡ w → ◌≡◌ {A = List ℕ × Value} (a, v) (b, w)
same_pair a b v w e f = ap (λ (x : List ℕ). (x, v)) e ∙ ap (λ (x : Value). (b, x)) f

-- ---- the entry of a stage is present

front_parts : (a : Option PathEntry) (b : Option (List PathEntry)) (all : List PathEntry) → in_front a b ≡ Some all → ((x : PathEntry) × (xs : List PathEntry) × (a ≡ Some x) × (b ≡ Some xs) × (all ≡ x ∷ xs))
front_parts None b all e = absurd (cc)
front_parts (Some x) None all e = absurd (cc)
front_parts (Some x) (Some xs) all e = (x, xs, refl, refl, cc)

named_seen : (text : List ℕ) (o : Option Named) (p : PathEntry) → path_named text o ≡ Some p → ◌≡◌ {A = SeenPath} (seen_path p) (record { path = text; named = o })
named_seen text None p e = absurd (cc)
named_seen text (Some n) p e =
    ap seen_path (sym (same_Some (record { path = text; name = n.name; size = n.size; nfiles = n.nfiles }) p e))

all_seen : (seen : List SeenPath) (entries : List PathEntry) → all_named seen ≡ Some entries → map seen_path entries ≡ seen
all_seen [] entries e = ap (map seen_path) (sym (same_Some [] entries e))
all_seen (p ∷ ps) entries e =
    let parts = front_parts (path_named p.path p.named) (all_named ps) entries e in
    ap (map seen_path) parts.4 ∙ same_both (seen_path parts.0) p (map seen_path parts.1) ps (named_seen p.path p.named parts.0 parts.2) (all_seen ps parts.1 parts.3)

record IsFrom (cs : List (List ℕ)) (ps : List ParamFile) (a b : Option (List PathEntry)) (e : Entry) : Type 0 where
  commands : e.commands ≡ cs
  params : e.params ≡ ps
  deps : a ≡ Some e.deps
  outs : b ≡ Some e.outs

from_parts : (commands : List (List ℕ)) (ps : List ParamFile) (a b : Option (List PathEntry)) (e : Entry) → entry_from commands ps a b ≡ Some e → IsFrom commands ps a b e
from_parts commands ps None b e h = absurd (cc)
from_parts commands ps (Some deps) None e h = absurd (cc)
from_parts commands ps (Some deps) (Some outs) e h =
    let same : record { commands = commands; deps = deps; params = ps; outs = outs } ≡ e = same_Some _ _ h in
    record {
      commands = ap (λ (x : Entry). x.commands) (sym same);
      params = ap (λ (x : Entry). x.params) (sym same);
      deps = ap (λ (x : Entry). Some x.deps) same;
      outs = ap (λ (x : Entry). Some x.outs) same;
    }

pub present_of : (s : Stage) (t : Tree) (ps : List ParamFile) (e : Entry) → params_at s t ≡ Ok ps → entry_at s ps t ≡ Some e → IsPresent e s t
present_of s t ps e read h =
    let parts = from_parts s.commands ps (all_named (map (seen_dep t) s.deps)) (all_named (map (seen_out t) s.made)) e h in
    record {
      params = ps;
      read = read;
      same =
          seen_fields e.commands s.commands (map seen_path e.deps) (map (seen_dep t) s.deps) (map seen_path e.outs) (map (seen_out t) s.made) (canonical_files e.params) (canonical_files ps) parts.commands (all_seen (map (seen_dep t) s.deps) e.deps parts.deps) (all_seen (map (seen_out t) s.made) e.outs parts.outs) (ap canonical_files parts.params);
    }

-- ---- entries and values

-- a value of which something is told isn't nothing
some_told : (o : Option Named) (n : Named) → Some n ≡ o → o ≢ None
some_told o n e none = absurd (cc)

books_of : (book : Book) (v : Value) (n : Named) → IsCovered book v → named_of v ≡ Some n → IsBooks book v
books_of book nothing n covered e = absurd (cc)
books_of book (content bytes) n covered e = covered
books_of book (members m) n covered e = covered

-- paths with texts, and a value at each of them
module _ {A : Type 0} (text : A → List ℕ) (value : A → Value) where
  abbrev seen_item : A → SeenPath
  seen_item x = record { path = text x; named = named_of (value x) }

  abbrev AreTold : List PathEntry → List A → Type 0
  AreTold es xs = map seen_path es ≡ map seen_item xs

  told_head : (e : PathEntry) (es : List PathEntry) (x : A) (xs : List A) → AreTold (e ∷ es) (x ∷ xs) → seen_path e ≡ seen_item x
  told_head e es x xs h = heads (seen_path e) (seen_item x) (map seen_path es) (map seen_item xs) h

  told_tail : (e : PathEntry) (es : List PathEntry) (x : A) (xs : List A) → AreTold (e ∷ es) (x ∷ xs) → AreTold es xs
  told_tail e es x xs h = tails (seen_path e) (seen_item x) (map seen_path es) (map seen_item xs) h

  pub told_texts : (es : List PathEntry) (xs : List A) → AreTold es xs → map (λ p. p.path) es ≡ map text xs
  told_texts [] [] h = refl
  told_texts [] (x ∷ xs) h = absurd (cc)
  told_texts (e ∷ es) [] h = absurd (cc)
  told_texts (e ∷ es) (x ∷ xs) h =
      same_both e.path (text x) (map (λ p. p.path) es) (map text xs) (ap (λ (p : SeenPath). p.path) (told_head e es x xs h)) (told_texts es xs (told_tail e es x xs h))

  pub told_there : (es : List PathEntry) (xs : List A) → AreTold es xs → AllByRecursion (λ x. named_of (value x) ≢ None) xs
  told_there es [] h = tt
  told_there [] (x ∷ xs) h = absurd (cc)
  told_there (e ∷ es) (x ∷ xs) h =
      (some_told (named_of (value x)) (told_of e) (ap (λ (p : SeenPath). p.named) (told_head e es x xs h)), told_there es xs (told_tail e es x xs h))

  -- covered values that are told of are stood for by their entries
  pub told_stand : (book : Book) (es : List PathEntry) (xs : List A) → AreTold es xs → AllByRecursion (λ x. IsCovered book (value x)) xs → StandFor book es (map value xs)
  told_stand book [] [] h covered = tt
  told_stand book [] (x ∷ xs) h covered = absurd (cc)
  told_stand book (e ∷ es) [] h covered = absurd (cc)
  told_stand book (e ∷ es) (x ∷ xs) h covered =
      let named : named_of (value x) ≡ Some (told_of e) = sym (ap (λ (p : SeenPath). p.named) (told_head e es x xs h)) in
      ((books_of book (value x) (told_of e) covered.0 named, named), told_stand book es xs (told_tail e es x xs h) covered.1)

  pub told_given : (es : List PathEntry) (xs : List A) → AreTold es xs → with_values es (map value xs) ≡ map (λ x. (text x, value x)) xs
  told_given [] [] h = refl
  told_given [] (x ∷ xs) h = absurd (cc)
  told_given (e ∷ es) [] h = absurd (cc)
  told_given (e ∷ es) (x ∷ xs) h =
      same_both (e.path, value x) (text x, value x) (with_values es (map value xs)) (map (λ y. (text y, value y)) xs) (same_pair e.path (text x) (value x) (value x) (ap (λ (p : SeenPath). p.path) (told_head e es x xs h)) refl) (told_given es xs (told_tail e es x xs h))

  -- entries that stand for values of the book, and tell of covered ones, stand for just these
  pub told_values : (book : Book) (es : List PathEntry) (xs : List A) (vs : List Value) → AreTold es xs → AllByRecursion (λ x. IsCovered book (value x)) xs → StandFor book es vs → vs ≡ map value xs
  told_values book [] [] [] h covered stand = refl
  told_values book [] [] (v ∷ vs) h covered stand = absurd stand
  told_values book [] (x ∷ xs) vs h covered stand = absurd (cc)
  told_values book (e ∷ es) [] vs h covered stand = absurd (cc)
  told_values book (e ∷ es) (x ∷ xs) [] h covered stand = absurd stand
  told_values book (e ∷ es) (x ∷ xs) (v ∷ vs) h covered stand =
      let named : named_of (value x) ≡ Some (told_of e) = sym (ap (λ (p : SeenPath). p.named) (told_head e es x xs h)) in
      let same : value x ≡ v = name_law book (value x) v covered.0 stand.0.0 (named ∙ sym stand.0.1) (some_told (named_of v) (told_of e) (sym stand.0.1)) in
      same_both v (value x) vs (map value xs) (sym same) (told_values book es xs vs (told_tail e es x xs h) covered.1 stand.1)

-- ---- dependencies

covered_if : (book : Book) (b : Bool) (v : Value) → IsCovered book v → IsCovered book (cond b nothing v)
covered_if book true v covered = tt
covered_if book false v covered = covered

-- a dependency of which something is told is the value that stands there
there_if : (b : Bool) (v : Value) → named_of (cond b nothing v) ≢ None → cond b nothing v ≡ v
there_if true v there = absurd (there refl)
there_if false v there = refl

pub dep_there : (t : Tree) (d : Dep) → named_of (dep_value t d) ≢ None → dep_value t d ≡ value_at t d.path
dep_there t d there = there_if (d.inside && has_no_files (value_at t d.path)) (value_at t d.path) there

from_names : (dir : Path) (text : List ℕ) (p : Path) → Names dir text p → path_from dir text ≡ p
from_names dir text p names = ap path_or_root names

deps_given : (t : Tree) (dir : Path) (ds : List Dep) → AllByRecursion (λ d. Names dir d.text d.path) ds → AllByRecursion (λ d. named_of (dep_value t d) ≢ None) ds → map (λ d. (d.text, dep_value t d)) ds ≡ given_values t dir (map dep_text ds)
deps_given t dir [] names there = refl
deps_given t dir (d ∷ ds) names there =
    same_both (d.text, dep_value t d) (d.text, value_at t (path_from dir d.text)) (map (λ x. (x.text, dep_value t x)) ds) (given_values t dir (map dep_text ds)) (same_pair d.text d.text (dep_value t d) (value_at t (path_from dir d.text)) refl (dep_there t d there.0 ∙ ap (value_at t) (sym (from_names dir d.text d.path names.0)))) (deps_given t dir ds names.1 there.1)

pub outs_values : (t : Tree) (os : List Out) → map (λ o. value_at t o.path) os ≡ map (value_at t) (map out_path os)
outs_values t [] = refl
outs_values t (o ∷ os) =
    same_both (value_at t o.path) (value_at t o.path) (map (λ x. value_at t x.path) os) (map (value_at t) (map out_path os)) refl (outs_values t os)

-- ---- what a present entry tells

pub deps_told : (e : Entry) (s : Stage) (t : Tree) → IsPresent e s t → map seen_path e.deps ≡ map (seen_dep t) s.deps
deps_told e s t present = ap (λ (x : Seen). x.deps) present.same

pub outs_told : (e : Entry) (s : Stage) (t : Tree) → IsPresent e s t → map seen_path e.outs ≡ map (seen_out t) s.made
outs_told e s t present = ap (λ (x : Seen). x.outs) present.same

pub deps_there : (e : Entry) (s : Stage) (t : Tree) → IsPresent e s t → AllByRecursion (λ d. named_of (dep_value t d) ≢ None) s.deps
deps_there e s t present = told_there dep_text (dep_value t) e.deps s.deps (deps_told e s t present)

pub outs_there : (e : Entry) (s : Stage) (t : Tree) → IsPresent e s t → AllByRecursion (λ o. named_of (value_at t o.path) ≢ None) s.made
outs_there e s t present = told_there out_text (λ o. value_at t o.path) e.outs s.made (outs_told e s t present)

deps_covered : (book : Book) (s : Stage) (t : Tree) → Covers book t s → AllByRecursion (λ d. IsCovered book (dep_value t d)) s.deps
deps_covered book s t covers =
    each_from (λ d. IsCovered book (value_at t d.path)) (λ d. IsCovered book (dep_value t d)) s.deps (λ d c. covered_if book (d.inside && has_no_files (value_at t d.path)) (value_at t d.path) c) (each_mapped dep_path (λ p. IsCovered book (value_at t p)) s.deps (each_first (λ p. IsCovered book (value_at t p)) (map dep_path s.deps) (map tracked_path s.params) covers.reads))

outs_covered : (book : Book) (s : Stage) (t : Tree) → Covers book t s → AllByRecursion (λ o. IsCovered book (value_at t o.path)) s.made
outs_covered book s t covers = each_mapped out_path (λ p. IsCovered book (value_at t p)) s.made covers.outs

same_run : (a b : List (List ℕ)) (c d : List (List ℕ × Value)) (f g : List ParamFile) (h k : List (List ℕ)) → a ≡ b → c ≡ d → f ≡ g → h ≡ k → ◌≡◌ {A = Invocation} (record { commands = a; deps = c; params = f; outs = h }) (record { commands = b; deps = d; params = g; outs = k })
same_run a b c d f g h k x y z w =
    ap (λ (v : List (List ℕ)). record { commands = v; deps = c; params = f; outs = h }) x ∙ ap (λ (v : List (List ℕ × Value)). record { commands = b; deps = v; params = f; outs = h }) y ∙ ap (λ (v : List ParamFile). record { commands = b; deps = d; params = v; outs = h }) z ∙ ap (λ (v : List (List ℕ)). record { commands = b; deps = d; params = g; outs = v }) w

-- what the commands of the entry are given is what those of the stage are
given_same : (e : Entry) (s : Stage) (t : Tree) (present : IsPresent e s t) (ins : List Value) → IsStage s → ins ≡ map (dep_value t) s.deps → ◌≡◌ {A = Invocation} (record { commands = e.commands; deps = with_values e.deps ins; params = canonical_files e.params; outs = map (λ p. p.path) e.outs }) (invocation_of (job_with s present.params) t)
given_same e s t present ins is same =
    let told = deps_told e s t present in
    let deps = ap (with_values e.deps) same ∙ told_given dep_text (dep_value t) e.deps s.deps told ∙ deps_given t s.dir s.deps is.dep_names (deps_there e s t present) in
    same_run e.commands s.commands (with_values e.deps ins) (given_values t s.dir (map dep_text s.deps)) (canonical_files e.params) (canonical_files present.params) (map (λ p. p.path) e.outs) (map out_text s.made) (ap (λ (x : Seen). x.commands) present.same) deps (ap (λ (x : Seen). x.params) present.same) (told_texts out_text (λ o. value_at t o.path) e.outs s.made (outs_told e s t present))

pub skip_law : (book : Book) (effect : Effect) (e : Entry) (s : Stage) (t : Tree) → IsStage s → IsTrueEntry book effect e → IsPresent e s t → Covers book t s → IsMade effect s t
skip_law book effect e s t is told present covers =
    let ins = told_values dep_text (dep_value t) book e.deps s.deps told.ins (deps_told e s t present) (deps_covered book s t covers) told.read in
    let outs = told_values out_text (λ o. value_at t o.path) book e.outs s.made told.outs (outs_told e s t present) (outs_covered book s t covers) told.wrote in
    record {
      params = present.params;
      read = present.read;
      made = ap effect (sym (given_same e s t present told.ins is ins)) ∙ told.ran ∙ ap gives (outs ∙ outs_values t s.made);
    }

pub run_true : (book : Book) (effect : Effect) (e : Entry) (s : Stage) (t : Tree) → IsStage s → IsPresent e s t → Covers book t s → IsMade effect s t → IsTrueEntry book effect e
run_true book effect e s t is present covers made =
    let ps : present.params ≡ made.params = read_same present.params made.params (sym present.read ∙ made.read) in
    record {
      ins = map (dep_value t) s.deps;
      outs = map (λ o. value_at t o.path) s.made;
      read = told_stand dep_text (dep_value t) book e.deps s.deps (deps_told e s t present) (deps_covered book s t covers);
      ran =
          ap effect (given_same e s t present (map (dep_value t) s.deps) is refl ∙ ap (λ (x : List ParamFile). invocation_of (job_with s x) t) ps) ∙ made.made ∙ ap gives (sym (outs_values t s.made));
      wrote = told_stand out_text (λ o. value_at t o.path) book e.outs s.made (outs_told e s t present) (outs_covered book s t covers);
    }

-- ---- entries that tell the same

stand_told : (book : Book) (as' bs : List PathEntry) (vs : List Value) → map seen_path as' ≡ map seen_path bs → StandFor book as' vs → StandFor book bs vs
stand_told book [] [] vs e h = h
stand_told book [] (b ∷ bs) vs e h = absurd (cc)
stand_told book (a ∷ as') [] vs e h = absurd (cc)
stand_told book (a ∷ as') (b ∷ bs) [] e h = absurd h
stand_told book (a ∷ as') (b ∷ bs) (v ∷ vs) e h =
    let same = heads (seen_path a) (seen_path b) (map seen_path as') (map seen_path bs) e in
    ((h.0.0, h.0.1 ∙ ap (λ (p : SeenPath). p.named) same), stand_told book as' bs vs (tails (seen_path a) (seen_path b) (map seen_path as') (map seen_path bs) e) h.1)

values_told : (as' bs : List PathEntry) (vs : List Value) → map seen_path as' ≡ map seen_path bs → with_values as' vs ≡ with_values bs vs
values_told [] [] vs e = refl
values_told [] (b ∷ bs) vs e = absurd (cc)
values_told (a ∷ as') [] vs e = absurd (cc)
values_told (a ∷ as') (b ∷ bs) [] e = refl
values_told (a ∷ as') (b ∷ bs) (v ∷ vs) e =
    let same = heads (seen_path a) (seen_path b) (map seen_path as') (map seen_path bs) e in
    same_both (a.path, v) (b.path, v) (with_values as' vs) (with_values bs vs) (same_pair a.path b.path v v (ap (λ (p : SeenPath). p.path) same) refl) (values_told as' bs vs (tails (seen_path a) (seen_path b) (map seen_path as') (map seen_path bs) e))

paths_told : (as' bs : List PathEntry) → map seen_path as' ≡ map seen_path bs → map (λ p. p.path) as' ≡ map (λ p. p.path) bs
paths_told [] [] e = refl
paths_told [] (b ∷ bs) e = absurd (cc)
paths_told (a ∷ as') [] e = absurd (cc)
paths_told (a ∷ as') (b ∷ bs) e =
    same_both a.path b.path (map (λ p. p.path) as') (map (λ p. p.path) bs) (ap (λ (p : SeenPath). p.path) (heads (seen_path a) (seen_path b) (map seen_path as') (map seen_path bs) e)) (paths_told as' bs (tails (seen_path a) (seen_path b) (map seen_path as') (map seen_path bs) e))

-- an entry that tells what a true one tells is true
pub true_told : (book : Book) (effect : Effect) (a b : Entry) → seen_of a ≡ seen_of b → IsTrueEntry book effect a → IsTrueEntry book effect b
true_told book effect a b e told =
    let deps : map seen_path a.deps ≡ map seen_path b.deps = ap (λ (x : Seen). x.deps) e in
    let outs : map seen_path a.outs ≡ map seen_path b.outs = ap (λ (x : Seen). x.outs) e in
    record {
      ins = told.ins;
      outs = told.outs;
      read = stand_told book a.deps b.deps told.ins deps told.read;
      ran =
          ap effect (sym (same_run a.commands b.commands (with_values a.deps told.ins) (with_values b.deps told.ins) (canonical_files a.params) (canonical_files b.params) (map (λ p. p.path) a.outs) (map (λ p. p.path) b.outs) (ap (λ (x : Seen). x.commands) e) (values_told a.deps b.deps told.ins deps) (ap (λ (x : Seen). x.params) e) (paths_told a.outs b.outs outs))) ∙ told.ran;
      wrote = stand_told book a.outs b.outs told.outs outs told.wrote;
    }
