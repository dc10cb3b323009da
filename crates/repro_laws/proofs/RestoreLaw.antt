-- What a restore leaves, and the truth of a lock after turns of any kind.
--     restored_from       a restore is from the lock's entry, which is present afterwards
--     truthful_by_runs    a lock stays truthful in turns, where the entries of runs are true
-- By names alone: nothing is asked of the book but for the runs.
use Rattle.std.proofs.Common.{◌≡◌, ℕ, Bool, true, false, cond, ◌||◌, List, [], ◌∷◌, map, refl, sym, ap, subst, ◌∙◌, Option, Some, None, Ok}
use Rattle.std.specs.Prelude.{bytes_eq}
use Rattle.std.specs.Option.{option_or}
use Rattle.std.specs.List.{AllByRecursion}
use Rattle.std.specs.Cmp.Lexicographic.{pointwise}
use Rattle.std.proofs.lemmas.Bool.{and_parts}
use Rattle.std.proofs.lemmas.Option.{same_Some, cond_some}
use Rattle.dvc_base.specs.Path.{Path}
use Rattle.dvc_base.specs.declared.data.ParamFile.{ParamFile}
use Rattle.world_api.specs.Tree.{Tree, Value, IsTree, value_at}
use Rattle.world_api.specs.Effect.{Effect}
use Rattle.world_api.specs.History.{Book}
use Rattle.file_hash.specs.Naming.{named_of}
use Rattle.lock_files.specs.declared.entry.Entry.{Entry}
use Rattle.lock_files.specs.declared.entry.PathEntry.{PathEntry}
use Rattle.lock_files.specs.Book.{Lock, entry_of, set}
use Rattle.change_check.specs.Same.{canonical_files, told_of, seen_path, seen_of, same_inputs, agrees}
use Rattle.change_check.specs.declared.seen.SeenPath.{SeenPath}
use Rattle.change_check.specs.declared.seen.Seen.{Seen}
use Rattle.repro_laws.specs.Stage.{value_inside, params_at, IsStage}
use Rattle.repro_laws.specs.Entries.{seen_dep, seen_out, seen_at, IsPresent, IsTrueEntry}
use Rattle.repro_laws.specs.Lock.{IsTruthful, HasEntry}
use Rattle.repro_laws.specs.Stored.{Stored, stored_in}
use Rattle.repro_laws.specs.Choices.{is_same_as, can_have_all, is_restorable, if_restorable, entry_to_restore, restore_or_run}
use Rattle.repro_laws.specs.Refusals.{see_fault}
use Rattle.repro_laws.specs.Due.{Due, standing_of, choice_at}
use Rattle.repro_laws.specs.Turns.{State, Fit, Restores, Leaves, Turn, Turns, stages_of}
use Rattle.repro_laws.specs.Headline.{IsKept, is_ordered}
use Rattle.repro_laws.specs.declared.stage.Dep.{Dep}
use Rattle.repro_laws.specs.declared.stage.Out.{Out}
use Rattle.repro_laws.specs.declared.stage.Stage.{Stage}
use Rattle.repro_laws.specs.declared.stage.Flags.{Flags}
use Rattle.repro_laws.specs.declared.stage.Choice.{Choice}
use Rattle.repro_laws.specs.declared.stage.Choice.TheVariants.{Skip, Restore, Run}
use Rattle.repro_laws.proofs.EntryLaw.{true_told}
use Rattle.repro_laws.proofs.ListLemmas.{each_from, map_same}
use Rattle.repro_laws.proofs.ParamLemmas.{read_same}
use Rattle.repro_laws.proofs.SameLemmas.{bytes_same, path_fields, seen_fields, inputs_same}
use Rattle.repro_laws.proofs.SetLemmas.{entry_of-set_same, truthful_set}
use Rattle.repro_laws.proofs.TurnLaw.{chosen_first, turn_read, turn_entry, deps_kept}
use Rattle.repro_laws.proofs.TurnsLaw.{IsLine, turns_keep_entry}

-- ---- the entry that is restored from

second_of : (a : Choice × Option Entry) (c : Choice) (from : Option Entry) → a ≡ (c, from) → a.1 ≡ from
second_of a c from e = ap (λ (x : Choice × Option Entry). x.1) e

restored_some : (o from : Option Entry) → restore_or_run o ≡ (Restore, from) → o ≡ from
restored_some None from e = absurd (cc (chosen_first (Run, None) Restore from e))
restored_some (Some x) from e = second_of (Restore, Some x) Restore from e

restored : (forced same cached : Bool) (o from : Option Entry) → cond forced (Run, None) (cond same (Skip, None) (cond cached (restore_or_run o) (Run, None))) ≡ (Restore, from) → o ≡ from
restored true same cached o from e = absurd (cc (chosen_first (Run, None) Restore from e))
restored false true cached o from e = absurd (cc (chosen_first (Skip, None) Restore from e))
restored false false true o from e = restored_some o from e
restored false false false o from e = absurd (cc (chosen_first (Run, None) Restore from e))

first_only : (o : Option Entry) (from : Entry) → option_or o None ≡ Some from → o ≡ Some from
first_only None from e = e
first_only (Some x) from e = e

restorable : (stored : Stored) (s : Stage) (seen : Seen) (o : Option Entry) (from : Entry) → if_restorable stored s seen o ≡ Some from → (o ≡ Some from) × (is_restorable stored s seen from ≡ true)
restorable stored s seen None from e = absurd (cc)
restorable stored s seen (Some x) from e =
    let parts = cond_some (is_restorable stored s seen x) x from e in
    (ap (λ (y : Entry). Some y) parts.1, subst (λ (y : Entry). is_restorable stored s seen y ≡ true) parts.1 parts.0)

fit_told : (m n : Tree) (os : List Out) (es : List PathEntry) → pointwise (λ (p : PathEntry) (o : SeenPath). bytes_eq p.path o.path) es (map (seen_out m) os) ≡ true → Fit n os es → map seen_path es ≡ map (seen_out n) os
fit_told m n [] [] e fit = refl
fit_told m n [] (p ∷ ps) e fit = absurd fit
fit_told m n (o ∷ os) [] e fit = absurd fit
fit_told m n (o ∷ os) (p ∷ ps) e fit =
    let parts = and_parts (bytes_eq p.path o.text) (pointwise (λ (x : PathEntry) (y : SeenPath). bytes_eq x.path y.path) ps (map (seen_out m) os)) e in
    let one : seen_path p ≡ seen_out n o = path_fields p.path o.text (Some (told_of p)) (named_of (value_at n o.path)) (bytes_same p.path o.text parts.0) (sym fit.0) in
    ap (λ (x : SeenPath). x ∷ map seen_path ps) one ∙ ap (λ (xs : List SeenPath). seen_out n o ∷ xs) (fit_told m n os ps parts.1 fit.1)

abbrev seen_value : List ℕ → Value → SeenPath
seen_value text v = record { path = text; named = named_of v }

deps_same : (m n : Tree) (ds : List Dep) → AllByRecursion (λ d. value_at n d.path ≡ value_at m d.path) ds → map (seen_dep m) ds ≡ map (seen_dep n) ds
deps_same m n ds same =
    map_same (seen_dep m) (seen_dep n) ds (each_from (λ d. value_at n d.path ≡ value_at m d.path) (λ d. seen_dep m d ≡ seen_dep n d) ds (λ d e. ap (λ (v : Value). seen_value d.text (value_inside d.inside v)) (sym e)) same)

pub record IsRestoredFrom (s : Stage) (from : Entry) (m n : State) : Type 0 where
  pub there : entry_of m.lock s.name ≡ Some from
  pub present : IsPresent from s n.tree

pub restored_from : (own : Path → Bool) (flags : Flags) (s : Stage) (ps : List ParamFile) (from : Entry) (m n : State) → IsStage s → IsKept own s → is_ordered (s ∷ []) ≡ true → IsTree m.tree → IsTree n.tree → params_at s m.tree ≡ Ok ps → params_at s n.tree ≡ Ok ps → see_fault s m.tree ≡ None → choice_at flags s ps (standing_of m.tree m.lock) ≡ (Restore, Some from) → Restores own s ps from m n → IsRestoredFrom s from m n
restored_from own flags s ps from m n is kept order old new read again none chosen left =
    let seen = seen_at s ps m.tree in
    let stored = stored_in m.tree in
    let whole = restored (flags.force || s.always) (is_same_as (entry_of m.lock s.name) seen) flags.run_cache (entry_to_restore stored s seen m.lock) (Some from) chosen in
    let found = restorable stored s seen (entry_of m.lock s.name) from (first_only (if_restorable stored s seen (entry_of m.lock s.name)) from whole) in
    let paths = pointwise (λ (p : PathEntry) (o : SeenPath). bytes_eq p.path o.path) from.outs (map (seen_out m.tree) s.made) in
    let agreed = (and_parts (agrees from seen) (can_have_all stored s.made seen.outs from.outs) found.1).0 in
    let parts = and_parts (same_inputs from seen) paths agreed in
    let ins = inputs_same from seen parts.0 in
    record {
      there = found.0;
      present = record {
        params = ps;
        read = again;
        same =
            seen_fields from.commands s.commands (map seen_path from.deps) (map (seen_dep n.tree) s.deps) (map seen_path from.outs) (map (seen_out n.tree) s.made) (canonical_files from.params) (canonical_files ps) ins.commands (ins.deps ∙ deps_same m.tree n.tree s.deps (deps_kept own s m n is kept order old new none left.others)) (fit_told m.tree n.tree s.made from.outs parts.1 left.fit) ins.params;
      };
    }

-- ---- the truth of a lock

-- two entries that are present tell the same
both_present : (a b : Entry) (s : Stage) (t : Tree) → IsPresent a s t → IsPresent b s t → seen_of a ≡ seen_of b
both_present a b s t x y =
    x.same ∙ ap (λ (ps : List ParamFile). seen_at s ps t) (read_same x.params y.params (sym x.read ∙ y.read)) ∙ sym y.same

-- the entry that the lock has is true
abbrev pub HasTrue : Book → Effect → Lock → Stage → Type 0
HasTrue book effect lock s = (e : Entry) → entry_of lock s.name ≡ Some e → IsTrueEntry book effect e

set_true : (book : Book) (effect : Effect) (s : Stage) (entry : Entry) (old new : Lock) → IsTruthful book effect old → new ≡ set old s.name entry → HasTrue book effect new s → IsTruthful book effect new
set_true book effect s entry old new truthful e holds =
    subst (IsTruthful book effect) (sym e) (truthful_set book effect old s.name entry truthful (holds entry (ap (λ (l : Lock). entry_of l s.name) e ∙ entry_of-set_same old s.name entry)))

restore_true : (book : Book) (effect : Effect) (s : Stage) (from : Entry) (m n : State) → IsTruthful book effect m.lock → IsRestoredFrom s from m n → HasEntry n.lock n.tree s → HasTrue book effect n.lock s
restore_true book effect s from m n truthful found has e there =
    let mine = true_told book effect from has.entry (both_present from has.entry s n.tree found.present has.present) (truthful s.name from found.there) in
    subst (IsTrueEntry book effect) (same_Some has.entry e (sym has.there ∙ there)) mine

leaves_true : (own : Path → Bool) (flags : Flags) (book : Book) (effect : Effect) (s : Stage) (ps : List ParamFile) (c : Choice) (from : Option Entry) (m n : State) → IsStage s → IsKept own s → is_ordered (s ∷ []) ≡ true → IsTree m.tree → IsTree n.tree → IsTruthful book effect m.lock → params_at s m.tree ≡ Ok ps → params_at s n.tree ≡ Ok ps → see_fault s m.tree ≡ None → choice_at flags s ps (standing_of m.tree m.lock) ≡ (c, from) → HasEntry n.lock n.tree s → Leaves own effect s ps c from m n → (c ≡ Run → HasTrue book effect n.lock s) → IsTruthful book effect n.lock
leaves_true own flags book effect s ps Skip from m n is kept order old new truthful read again none chosen has left runs =
    subst (IsTruthful book effect) (sym left.lock) truthful
leaves_true own flags book effect s ps Restore None m n is kept order old new truthful read again none chosen has left runs = absurd left
leaves_true own flags book effect s ps Restore (Some from) m n is kept order old new truthful read again none chosen has left runs =
    set_true book effect s left.entry m.lock n.lock truthful left.lock (restore_true book effect s from m n truthful (restored_from own flags s ps from m n is kept order old new read again none chosen left) has)
leaves_true own flags book effect s ps Run from m n is kept order old new truthful read again none chosen has left runs =
    set_true book effect s left.entry m.lock n.lock truthful left.lock (runs refl)

pub truthful_by_run : (own : Path → Bool) (flags : Flags) (book : Book) (effect : Effect) (d : Due) (m n : State) → IsStage d.stage → IsKept own d.stage → is_ordered (d.stage ∷ []) ≡ true → IsTree m.tree → IsTruthful book effect m.lock → Turn own flags effect d m n → (d.choice ≡ Run → HasTrue book effect n.lock d.stage) → IsTruthful book effect n.lock
truthful_by_run own flags book effect d m n is kept order old truthful turn runs =
    leaves_true own flags book effect d.stage turn.params d.choice turn.from m n is kept order old turn.stands truthful turn.read (turn_read own flags effect d m n kept order old turn) turn.seen turn.chosen (turn_entry own flags effect d m n is kept order old turn) turn.left runs

-- the entries of the runs among the turns are true, as the lock has them at the end
pub truthful_by_runs : (own : Path → Bool) (flags : Flags) (book : Book) (effect : Effect) (ds : List Due) (m n : State) → IsLine own (stages_of ds) → IsTree m.tree → IsTruthful book effect m.lock → Turns own flags effect ds m n → AllByRecursion (λ d. d.choice ≡ Run → HasTrue book effect n.lock d.stage) ds → IsTruthful book effect n.lock
truthful_by_runs own flags book effect [] m n line tree truthful turns runs =
    subst (λ (x : State). IsTruthful book effect x.lock) (sym turns) truthful
truthful_by_runs own flags book effect (d ∷ ds) m n line tree truthful turns runs =
    let k = turns.0 in
    let turn = turns.1 in
    let before = line.0 in
    let kept : entry_of n.lock d.stage.name ≡ entry_of k.lock d.stage.name = turns_keep_entry own flags effect ds k n turns.2 d.stage.name before.name in
    let here = truthful_by_run own flags book effect d m k before.is before.kept before.order tree truthful turn (λ run e there. runs.0 run e (kept ∙ there)) in
    truthful_by_runs own flags book effect ds k n line.1 turn.stands here turns.2 runs.1
