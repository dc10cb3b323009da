-- What stays of a stage's turn in the turns of later stages.
--     left_then         what stays in two turns, one after the other
--     lefts_stay        what all of them leave alone
--     entry_moves       a stage's entry, in a tree that has the same values and files where the stage looks
--     entry_stays       the entry that a stage's turn has left stands after the later turns
--     entries_stand     each stage has its entry at the end
--     lefts_others      entries under other names stay
use Rattle.std.proofs.Common.{◌≡◌, ℕ, Bool, true, false, ◌||◌, not, List, [], ◌∷◌, map, refl, sym, ap, subst, ◌∙◌, inl, inr, bytes_eq}
use Rattle.std.specs.List.{AllByRecursion, list_any, flat_map}
use Rattle.std.proofs.lemmas.Bool.{and_parts, or_left, or_right, not-true}
use Rattle.std.proofs.lemmas.Slice.Eq.{bytes_eq-Decides}
use Rattle.dvc_base.specs.Path.{Path, under, overlap}
use Rattle.dvc_base.specs.declared.data.ParamFile.{ParamFile}
use Rattle.dvc_base.proofs.PathLemmas.{under-refl}
use Rattle.world_api.specs.Tree.{Tree, folder, Value, IsTree, item_at, value_at}
use Rattle.world_api.specs.Effect.{Effect}
use Rattle.world_api.specs.Calls.{are_apart}
use Rattle.file_hash.specs.Naming.{named_of}
use Rattle.lock_files.specs.Book.{Lock, entry_of}
use Rattle.change_check.specs.Same.{canonical_files}
use Rattle.change_check.specs.declared.seen.SeenPath.{SeenPath}
use Rattle.change_check.specs.declared.seen.Seen.{Seen}
use Rattle.repro_laws.specs.Stage.{out_path, read_paths, stage_outs, value_inside, dep_value, is_nothing, params_at}
use Rattle.repro_laws.specs.Entries.{seen_dep, seen_out, seen_at}
use Rattle.repro_laws.specs.Lock.{is_among, others_of, HasEntry}
use Rattle.repro_laws.specs.Turns.{State, is_way, IsLeftAt, Lefts}
use Rattle.repro_laws.specs.Headline.{IsApart, IsKept, have_names, is_ordered, is_any_way}
use Rattle.repro_laws.specs.declared.stage.Dep.{Dep}
use Rattle.repro_laws.specs.declared.stage.Stage.{Stage}
use Rattle.repro_laws.proofs.ListLemmas.{each_from, each_both, each_mapped, map_same, any_parts}
use Rattle.repro_laws.proofs.RoadLemmas.{apart_later, apart_overlap}
use Rattle.repro_laws.proofs.FileLemmas.{file_at, some_value}
use Rattle.repro_laws.proofs.FolderLemmas.{some_none}
use Rattle.repro_laws.proofs.ParamLemmas.{params_by_files}
use Rattle.repro_laws.proofs.ReadLemmas.{outside_outs, later_reads, stands_inside, seen_deps, seen_outs, left_files, Stay, stay_value}
use Rattle.repro_laws.proofs.StepLaw.{outside_deps, reads_params}
use Rattle.repro_laws.proofs.LockLaw.{entry_kept, others_wider}

-- ---- paths that are left alone

pub left_then : (a b : Path → Bool) (t u v : Tree) (p : Path) → IsLeftAt a t u p → IsLeftAt b u v p → IsLeftAt (λ q. a q || b q) t v p
left_then a b t u v p (inl x) (inl y) = inl (y ∙ x)
left_then a b t u v p (inl x) (inr y) = inr (or_right (a p) (b p) y.0, (sym x ∙ y.1.0, y.1.1))
left_then a b t u v p (inr x) (inl y) = inr (or_left (a p) (b p) x.0, (x.1.0, y ∙ x.1.1))
left_then a b t u v p (inr x) (inr y) = absurd (some_none folder (sym x.1.1 ∙ y.1.0))

pub lefts_stand : (own : Path → Bool) (effect : Effect) (ss : List Stage) (m n : State) → IsTree m.tree → Lefts own effect ss m n → IsTree n.tree
lefts_stand own effect [] m n tree lefts = subst (λ (x : State). IsTree x.tree) (sym lefts) tree
lefts_stand own effect (s ∷ ss) m n tree lefts = let left = lefts.1 in lefts_stand own effect ss lefts.0 n left.stands lefts.2

pub lefts_stay : (own : Path → Bool) (effect : Effect) (ss : List Stage) (m n : State) → Lefts own effect ss m n → Stay own (is_any_way ss) (flat_map stage_outs ss) m.tree n.tree
lefts_stay own effect [] m n lefts p out kept = inl (ap (λ (x : State). item_at x.tree p) lefts)
lefts_stay own effect (s ∷ ss) m n lefts p out kept =
    let parts = any_parts (λ o. under o p) (stage_outs s) (flat_map stage_outs ss) out in
    let left = lefts.1 in
    left_then (is_way s) (is_any_way ss) m.tree lefts.0.tree n.tree p (left.others p parts.0 kept) (lefts_stay own effect ss lefts.0 n lefts.2 p parts.1 kept)

-- ---- entries under other names

pub lefts_others : (own : Path → Bool) (effect : Effect) (names : List (List ℕ)) (ss : List Stage) (m n : State) → AllByRecursion (λ s. is_among names s.name ≡ true) ss → Lefts own effect ss m n → others_of names n.lock ≡ others_of names m.lock
lefts_others own effect names [] m n among lefts = ap (λ (x : State). others_of names x.lock) lefts
lefts_others own effect names (s ∷ ss) m n among lefts =
    let left = lefts.1 in
    lefts_others own effect names ss lefts.0 n among.1 lefts.2 ∙ others_wider names s.name m.lock lefts.0.lock among.0 left.other_entries

pub names_among : (ss : List Stage) → AllByRecursion (λ s. is_among (map (λ x. x.name) ss) s.name ≡ true) ss
names_among [] = tt
names_among (s ∷ ss) =
    let names : List (List ℕ) = map (λ (x : Stage). x.name) ss in (
      or_left (bytes_eq s.name s.name) (is_among names s.name) ((bytes_eq-Decides s.name s.name).1 refl),
      each_from (λ (x : Stage). is_among names x.name ≡ true) (λ (x : Stage). is_among (s.name ∷ names) x.name ≡ true) ss (λ x h. or_right (bytes_eq s.name x.name) (is_among names x.name) h) (names_among ss),
    )

-- ---- the present entry

abbrev seen_with : Stage → List ParamFile → List SeenPath → List SeenPath → Seen
seen_with s ps deps outs = record { commands = s.commands; deps = deps; params = canonical_files ps; outs = outs }

abbrev seen_value : List ℕ → Value → SeenPath
seen_value text v = record { path = text; named = named_of v }

seen_same : (s : Stage) (ps : List ParamFile) (t u : Tree) → AllByRecursion (λ d. dep_value u d ≡ dep_value t d) s.deps → AllByRecursion (λ p. value_at u p ≡ value_at t p) (stage_outs s) → seen_at s ps u ≡ seen_at s ps t
seen_same s ps t u deps outs =
    let one : map (seen_dep u) s.deps ≡ map (seen_dep t) s.deps =
    map_same (seen_dep u) (seen_dep t) s.deps (each_from (λ d. dep_value u d ≡ dep_value t d) (λ d. seen_dep u d ≡ seen_dep t d) s.deps (λ d e. ap (seen_value d.text) e) deps) in
    let two : map (seen_out u) s.made ≡ map (seen_out t) s.made =
    map_same (seen_out u) (seen_out t) s.made (each_from (λ o. value_at u o.path ≡ value_at t o.path) (λ o. seen_out u o ≡ seen_out t o) s.made (λ o e. ap (seen_value o.text) e) (each_mapped out_path (λ p. value_at u p ≡ value_at t p) s.made outs)) in
    ap (λ (ds : List SeenPath). seen_with s ps ds (map (seen_out u) s.made)) one ∙ ap (seen_with s ps (map (seen_dep t) s.deps)) two

pub entry_moves : (lock : Lock) (s : Stage) (t u : Tree) → HasEntry lock t s → AllByRecursion (λ d. dep_value u d ≡ dep_value t d) s.deps → AllByRecursion (λ p. value_at u p ≡ value_at t p) (stage_outs s) → params_at s u ≡ params_at s t → HasEntry lock u s
entry_moves lock s t u has deps outs params =
    record {
      entry = has.entry;
      there = has.there;
      present = record {
        params = has.present.params;
        read = params ∙ has.present.read;
        same = has.present.same ∙ sym (seen_same s has.present.params t u deps outs);
      };
    }

-- ---- what a stage looks at, in the turns of later stages

-- nothing that a stage reads or makes overlaps an output of a later one
pub record IsApartLater (own : Path → Bool) (later : List Path) (s : Stage) : Type 0 where
  pub kept : IsKept own s
  pub reads : list_any (λ p. list_any (overlap p) later) (read_paths s) ≡ false
  pub outs : AllByRecursion (λ p. list_any (overlap p) later ≡ false) (stage_outs s)

module _ (own way : Path → Bool) (later : List Path) (s : Stage) (t u : Tree) (a : IsTree t) (b : IsTree u) (stay : Stay own way later t u) (apart : IsApartLater own later s) where
  stays_at : (p : Path) → list_any (overlap p) later ≡ false → IsApart own p → is_nothing (value_at t p) ≡ false → value_at u p ≡ value_at t p
  stays_at p out kept some = stay_value own way later t u p a b stay out kept (some_value t p some)

  file_stays : (p : Path) → list_any (overlap p) later ≡ false → IsApart own p → file_at u p ≡ file_at t p
  file_stays p out kept =
      left_files way t u p a b (stay p (outside_outs p p later out (under-refl p)) (kept p (under-refl p)))

  deps_stay : AllByRecursion (λ d. is_nothing (dep_value t d) ≡ false) s.deps → AllByRecursion (λ d. dep_value u d ≡ dep_value t d) s.deps
  deps_stay some =
      each_both (λ (d : Dep). (list_any (overlap d.path) later ≡ false) × IsApart own d.path) (λ d. is_nothing (dep_value t d) ≡ false) (λ d. dep_value u d ≡ dep_value t d) s.deps (λ d x h. ap (value_inside d.inside) (stays_at d.path x.0 x.1 (stands_inside d.inside (value_at t d.path) h))) (outside_deps own later s apart.kept apart.reads) some

  outs_stay : AllByRecursion (λ p. is_nothing (value_at t p) ≡ false) (stage_outs s) → AllByRecursion (λ p. value_at u p ≡ value_at t p) (stage_outs s)
  outs_stay some =
      let places = each_both (λ p. list_any (overlap p) later ≡ false) (IsApart own) (λ p. (list_any (overlap p) later ≡ false) × IsApart own p) (stage_outs s) (λ p x y. (x, y)) apart.outs apart.kept.outs in
      each_both (λ p. (list_any (overlap p) later ≡ false) × IsApart own p) (λ p. is_nothing (value_at t p) ≡ false) (λ p. value_at u p ≡ value_at t p) (stage_outs s) (λ p x h. stays_at p x.0 x.1 h) places some

  params_stay : params_at s u ≡ params_at s t
  params_stay =
      params_by_files s t u (each_from (λ w. (list_any (overlap w.path) later ≡ false) × IsApart own w.path) (λ w. file_at u w.path ≡ file_at t w.path) s.params (λ w x. file_stays w.path x.0 x.1) (reads_params own later s apart.kept apart.reads))

  pub entry_stays : (lock : Lock) → HasEntry lock t s → HasEntry lock u s
  entry_stays lock has =
      entry_moves lock s t u has (deps_stay (seen_deps has.entry s t has.present)) (outs_stay (seen_outs has.entry s t has.present)) params_stay

-- ---- each stage has its entry at the end

abbrev pub later_outs : List Stage → List Path
later_outs ss = flat_map stage_outs ss

pub apart_from_later : (own : Path → Bool) (s : Stage) (ss : List Stage) → IsKept own s → is_ordered (s ∷ ss) ≡ true → are_apart (later_outs (s ∷ ss)) ≡ true → IsApartLater own (later_outs ss) s
apart_from_later own s ss kept order apart =
    let first = and_parts (not (list_any (λ p. list_any (overlap p) (later_outs (s ∷ ss))) (read_paths s))) (is_ordered ss) order in
    record {
      kept = kept;
      reads = later_reads (stage_outs s) (later_outs ss) (read_paths s) (not-true (list_any (λ p. list_any (overlap p) (later_outs (s ∷ ss))) (read_paths s)) first.0);
      outs = apart_overlap (stage_outs s) (later_outs ss) apart;
    }

entry_over : (own : Path → Bool) (effect : Effect) (s : Stage) (ss : List Stage) (k n : State) → IsApartLater own (later_outs ss) s → is_among (map (λ x. x.name) ss) s.name ≡ false → IsTree k.tree → Lefts own effect ss k n → HasEntry k.lock k.tree s → HasEntry n.lock n.tree s
entry_over own effect s ss k n apart name tree lefts has =
    let moved = entry_stays own (is_any_way ss) (later_outs ss) s k.tree n.tree tree (lefts_stand own effect ss k n tree lefts) (lefts_stay own effect ss k n lefts) apart k.lock has in
    let names : List (List ℕ) = map (λ (x : Stage). x.name) ss in
    let same : entry_of n.lock s.name ≡ entry_of k.lock s.name =
    entry_kept names k.lock n.lock s.name name (lefts_others own effect names ss k n (names_among ss) lefts) in
    record { entry = moved.entry; there = same ∙ moved.there; present = moved.present }

pub entries_stand : (own : Path → Bool) (effect : Effect) (ss : List Stage) (m n : State) → AllByRecursion (IsKept own) ss → is_ordered ss ≡ true → have_names ss ≡ true → are_apart (later_outs ss) ≡ true → Lefts own effect ss m n → AllByRecursion (HasEntry n.lock n.tree) ss
entries_stand own effect [] m n kept order names apart lefts = tt
entries_stand own effect (s ∷ ss) m n kept order names apart lefts =
    let left = lefts.1 in
    let first = and_parts (not (list_any (λ p. list_any (overlap p) (later_outs (s ∷ ss))) (read_paths s))) (is_ordered ss) order in
    let name = and_parts (not (is_among (map (λ x. x.name) ss) s.name)) (have_names ss) names in (
      entry_over own effect s ss lefts.0 n (apart_from_later own s ss kept.0 order apart) (not-true (is_among (map (λ x. x.name) ss) s.name) name.0) left.stands lefts.2 left.entry,
      entries_stand own effect ss lefts.0 n kept.1 first.1 name.1 (apart_later (stage_outs s) (later_outs ss) apart) lefts.2,
    )
