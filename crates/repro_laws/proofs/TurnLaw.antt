-- What a turn leaves, by its choice.
--     not_restored         without a run cache nothing is restored
--     turn_stays           each path outside its outputs and the tool's own is left
--     turn_entry           the lock has the stage's present entry
--     left_of_turn         what a skip and a run leave, whichever it was
--     truthful_of_turn     and the lock stays truthful
use Rattle.std.proofs.Common.{◌≡◌, ◌≢◌, inl, ℕ, Bool, true, false, cond, ◌||◌, List, [], ◌∷◌, refl, sym, ap, subst, ◌∙◌, Option, Some, None, Ok}
use Rattle.std.specs.Prelude.{bytes_eq}
use Rattle.std.specs.List.{AllByRecursion, list_any}
use Rattle.std.proofs.lemmas.Bool.{or_left}
use Rattle.std.proofs.lemmas.Option.{same_Some}
use Rattle.dvc_base.specs.Path.{Path, overlap}
use Rattle.dvc_base.specs.declared.data.ParamFile.{ParamFile}
use Rattle.world_api.specs.Tree.{IsTree, value_at}
use Rattle.world_api.specs.Effect.{Effect}
use Rattle.world_api.specs.History.{Book}
use Rattle.lock_files.specs.declared.entry.Entry.{Entry}
use Rattle.lock_files.specs.Book.{Lock, entry_of, set}
use Rattle.repro_laws.specs.Stage.{stage_outs, dep_value, is_nothing, params_at, IsStage}
use Rattle.repro_laws.specs.Entries.{seen_at, entry_at, IsMade, IsTrueEntry}
use Rattle.repro_laws.specs.Lock.{others_of, is_among, IsTruthful, HasEntry}
use Rattle.repro_laws.specs.Stored.{stored_in}
use Rattle.repro_laws.specs.Choices.{is_same_as, restore_or_run, entry_to_restore}
use Rattle.repro_laws.specs.Refusals.{see_fault}
use Rattle.repro_laws.specs.Due.{Due, standing_of, choice_at}
use Rattle.repro_laws.specs.Turns.{State, OthersStay, is_way, Skips, Leaves, Runs, Turn, Left}
use Rattle.repro_laws.specs.Headline.{IsOwn, IsApart, IsKept, is_ordered, Covers}
use Rattle.repro_laws.specs.declared.stage.Stage.{Stage}
use Rattle.repro_laws.specs.declared.stage.Flags.{Flags}
use Rattle.repro_laws.specs.declared.stage.Choice.{Choice}
use Rattle.repro_laws.specs.declared.stage.Choice.TheVariants.{Skip, Restore, Run}
use Rattle.repro_laws.proofs.CoverLemmas.{apart_none, apart_own, read_stays}
use Rattle.repro_laws.proofs.EntryLaw.{present_of, skip_law, run_true}
use Rattle.repro_laws.proofs.FileLemmas.{some_value}
use Rattle.repro_laws.proofs.ListLemmas.{each_both}
use Rattle.repro_laws.proofs.ReadLemmas.{stands_inside, stood_deps, stay_value, same_given}
use Rattle.repro_laws.proofs.SameLemmas.{bytes_itself}
use Rattle.repro_laws.proofs.SetLemmas.{entry_of-set_same, entry_of-set_other, others_of-set, truthful_set}
use Rattle.repro_laws.proofs.SkipLaw.{skip_parts}
use Rattle.repro_laws.proofs.StayLaw.{entry_stays}
use Rattle.repro_laws.proofs.StepLaw.{outside_deps}

-- ---- nothing is restored

never_restores : (forced same cached : Bool) (o : Option Entry) → cached ≡ false → (cond forced (Run, None) (cond same (Skip, None) (cond cached (restore_or_run o) (Run, None)))).0 ≡ Restore → ⊥
never_restores true same cached o none e = absurd (cc)
never_restores false true cached o none e = absurd (cc)
never_restores false false true o none e = absurd (cc)
never_restores false false false o none e = absurd (cc)

pub chosen_first : (a : Choice × Option Entry) (c : Choice) (from : Option Entry) → a ≡ (c, from) → a.0 ≡ c
chosen_first a c from e = ap (λ (x : Choice × Option Entry). x.0) e

pub not_restored : (own : Path → Bool) (flags : Flags) (effect : Effect) (d : Due) (m n : State) → Turn own flags effect d m n → flags.run_cache ≡ false → d.choice ≢ Restore
not_restored own flags effect d m n turn none e =
    let s = d.stage in
    let seen = seen_at s turn.params m.tree in
    never_restores (flags.force || s.always) (is_same_as (entry_of m.lock s.name) seen) flags.run_cache (entry_to_restore (stored_in m.tree) s seen m.lock) none (chosen_first (choice_at flags s turn.params (standing_of m.tree m.lock)) d.choice turn.from turn.chosen ∙ e)

-- ---- paths and the lock

leaves_stay : (own : Path → Bool) (effect : Effect) (s : Stage) (ps : List ParamFile) (c : Choice) (from : Option Entry) (m n : State) → Leaves own effect s ps c from m n → OthersStay own s m.tree n.tree
leaves_stay own effect s ps Skip from m n left p out kept = inl (left.others p kept)
leaves_stay own effect s ps Restore None m n left p out kept = absurd left
leaves_stay own effect s ps Restore (Some e) m n left p out kept = left.others p out kept
leaves_stay own effect s ps Run from m n left p out kept = left.others p out kept

pub turn_stays : (own : Path → Bool) (flags : Flags) (effect : Effect) (d : Due) (m n : State) → Turn own flags effect d m n → OthersStay own d.stage m.tree n.tree
turn_stays own flags effect d m n turn p out kept =
    leaves_stay own effect d.stage turn.params d.choice turn.from m n turn.left p out kept

-- the lock is as it was, or an entry was set
pub data LockLeft (name : List ℕ) (old new : Lock) : Type 0 where
  as_it_was : new ≡ old → LockLeft name old new
  was_set : (entry : Entry) → new ≡ set old name entry → LockLeft name old new

pub leaves_lock : (own : Path → Bool) (effect : Effect) (s : Stage) (ps : List ParamFile) (c : Choice) (from : Option Entry) (m n : State) → Leaves own effect s ps c from m n → LockLeft s.name m.lock n.lock
leaves_lock own effect s ps Skip from m n left = as_it_was left.lock
leaves_lock own effect s ps Restore None m n left = absurd left
leaves_lock own effect s ps Restore (Some e) m n left = was_set left.entry left.lock
leaves_lock own effect s ps Run from m n left = was_set left.entry left.lock

lock_other : (name : List ℕ) (old new : Lock) → LockLeft name old new → (k : List ℕ) → bytes_eq name k ≡ false → entry_of new k ≡ entry_of old k
lock_other name old new (as_it_was e) k other = ap (λ (l : Lock). entry_of l k) e
lock_other name old new (was_set entry e) k other = ap (λ (l : Lock). entry_of l k) e ∙ entry_of-set_other old name entry k other

lock_others : (name : List ℕ) (old new : Lock) → LockLeft name old new → (names : List (List ℕ)) → is_among names name ≡ true → others_of names new ≡ others_of names old
lock_others name old new (as_it_was e) names among = ap (others_of names) e
lock_others name old new (was_set entry e) names among = ap (others_of names) e ∙ others_of-set names old name entry among

pub turn_keeps_entry : (own : Path → Bool) (flags : Flags) (effect : Effect) (d : Due) (m n : State) → Turn own flags effect d m n → (name : List ℕ) → bytes_eq d.stage.name name ≡ false → entry_of n.lock name ≡ entry_of m.lock name
turn_keeps_entry own flags effect d m n turn name other =
    lock_other d.stage.name m.lock n.lock (leaves_lock own effect d.stage turn.params d.choice turn.from m n turn.left) name other

pub turn_keeps_others : (own : Path → Bool) (flags : Flags) (effect : Effect) (d : Due) (m n : State) → Turn own flags effect d m n → (names : List (List ℕ)) → is_among names d.stage.name ≡ true → others_of names n.lock ≡ others_of names m.lock
turn_keeps_others own flags effect d m n turn names among =
    lock_others d.stage.name m.lock n.lock (leaves_lock own effect d.stage turn.params d.choice turn.from m n turn.left) names among

-- ---- the entry of the stage

set_entry : (s : Stage) (ps : List ParamFile) (m n : State) (entry : Entry) → params_at s n.tree ≡ Ok ps → entry_at s ps n.tree ≡ Some entry → n.lock ≡ set m.lock s.name entry → HasEntry n.lock n.tree s
set_entry s ps m n entry read present lock =
    record {
      entry = entry;
      there = ap (λ (l : Lock). entry_of l s.name) lock ∙ entry_of-set_same m.lock s.name entry;
      present = present_of s n.tree ps entry read present;
    }

nowhere : Path → Bool
nowhere p = false

skip_entry : (own : Path → Bool) (s : Stage) (m n : State) → IsKept own s → IsTree m.tree → IsTree n.tree → Skips own s m n → HasEntry m.lock m.tree s → HasEntry n.lock n.tree s
skip_entry own s m n kept old new skip has =
    subst (λ (l : Lock). HasEntry l n.tree s) (sym skip.lock) (entry_stays own nowhere [] s m.tree n.tree old new (λ p out k. inl (skip.others p k)) (apart_none own s kept) m.lock has)

leaves_entry : (own : Path → Bool) (flags : Flags) (effect : Effect) (s : Stage) (ps : List ParamFile) (c : Choice) (from : Option Entry) (m n : State) → IsStage s → IsKept own s → IsTree m.tree → IsTree n.tree → params_at s m.tree ≡ Ok ps → params_at s n.tree ≡ Ok ps → choice_at flags s ps (standing_of m.tree m.lock) ≡ (c, from) → Leaves own effect s ps c from m n → HasEntry n.lock n.tree s
leaves_entry own flags effect s ps Skip from m n is kept old new read again chosen left =
    skip_entry own s m n kept old new left (skip_parts flags s ps m.tree m.lock is read (chosen_first (choice_at flags s ps (standing_of m.tree m.lock)) Skip from chosen)).1
leaves_entry own flags effect s ps Restore None m n is kept old new read again chosen left = absurd left
leaves_entry own flags effect s ps Restore (Some e) m n is kept old new read again chosen left =
    set_entry s ps m n left.entry again left.present left.lock
leaves_entry own flags effect s ps Run from m n is kept old new read again chosen left =
    set_entry s ps m n left.entry again left.present left.lock

-- the parameters are the same after the turn
pub turn_read : (own : Path → Bool) (flags : Flags) (effect : Effect) (d : Due) (m n : State) → IsKept own d.stage → is_ordered (d.stage ∷ []) ≡ true → IsTree m.tree → (turn : Turn own flags effect d m n) → params_at d.stage n.tree ≡ Ok turn.params
turn_read own flags effect d m n kept order old turn =
    read_stays own (is_way d.stage) (stage_outs d.stage) d.stage m.tree n.tree kept (apart_own d.stage order) old turn.stands (turn_stays own flags effect d m n turn) ∙ turn.read

pub turn_entry : (own : Path → Bool) (flags : Flags) (effect : Effect) (d : Due) (m n : State) → IsStage d.stage → IsKept own d.stage → is_ordered (d.stage ∷ []) ≡ true → IsTree m.tree → Turn own flags effect d m n → HasEntry n.lock n.tree d.stage
turn_entry own flags effect d m n is kept order old turn =
    leaves_entry own flags effect d.stage turn.params d.choice turn.from m n is kept old turn.stands turn.read (turn_read own flags effect d m n kept order old turn) turn.chosen turn.left

-- ---- the effect has made what stands

-- a run leaves what it read
pub deps_kept : (own : Path → Bool) (s : Stage) (m n : State) → IsStage s → IsKept own s → is_ordered (s ∷ []) ≡ true → IsTree m.tree → IsTree n.tree → see_fault s m.tree ≡ None → OthersStay own s m.tree n.tree → AllByRecursion (λ d. value_at n.tree d.path ≡ value_at m.tree d.path) s.deps
deps_kept own s m n is kept order old new seen others =
    each_both (λ d. (list_any (overlap d.path) (stage_outs s) ≡ false) × IsApart own d.path) (λ d. is_nothing (dep_value m.tree d) ≡ false) (λ d. value_at n.tree d.path ≡ value_at m.tree d.path) s.deps (λ d x some. stay_value own (is_way s) (stage_outs s) m.tree n.tree d.path old new others x.0 x.1 (some_value m.tree d.path (stands_inside d.inside (value_at m.tree d.path) some))) (outside_deps own (stage_outs s) s kept (apart_own s order)) (stood_deps s m.tree is seen)

run_made : (own : Path → Bool) (effect : Effect) (s : Stage) (ps : List ParamFile) (m n : State) → IsStage s → IsKept own s → is_ordered (s ∷ []) ≡ true → IsTree m.tree → IsTree n.tree → params_at s n.tree ≡ Ok ps → see_fault s m.tree ≡ None → Runs own effect s ps m n → IsMade effect s n.tree
run_made own effect s ps m n is kept order old new again seen run =
    record {
      params = ps;
      read = again;
      made = ap effect (same_given s ps m.tree n.tree is (deps_kept own s m n is kept order old new seen run.others)) ∙ run.values;
    }

leaves_made : (own : Path → Bool) (flags : Flags) (book : Book) (effect : Effect) (s : Stage) (ps : List ParamFile) (c : Choice) (from : Option Entry) (m n : State) → IsStage s → IsKept own s → is_ordered (s ∷ []) ≡ true → IsTree m.tree → IsTree n.tree → IsTruthful book effect m.lock → params_at s n.tree ≡ Ok ps → see_fault s m.tree ≡ None → c ≢ Restore → Covers book n.tree s → HasEntry n.lock n.tree s → Leaves own effect s ps c from m n → IsMade effect s n.tree
leaves_made own flags book effect s ps Skip from m n is kept order old new truthful read seen apart covers has left =
    skip_law book effect has.entry s n.tree is (truthful s.name has.entry (ap (λ (l : Lock). entry_of l s.name) (sym left.lock) ∙ has.there)) has.present covers
leaves_made own flags book effect s ps Restore from m n is kept order old new truthful read seen apart covers has left = absurd (apart refl)
leaves_made own flags book effect s ps Run from m n is kept order old new truthful read seen apart covers has left =
    run_made own effect s ps m n is kept order old new read seen left

pub turn_made : (own : Path → Bool) (flags : Flags) (book : Book) (effect : Effect) (d : Due) (m n : State) → IsStage d.stage → IsKept own d.stage → is_ordered (d.stage ∷ []) ≡ true → IsTree m.tree → IsTruthful book effect m.lock → Turn own flags effect d m n → d.choice ≢ Restore → Covers book n.tree d.stage → IsMade effect d.stage n.tree
turn_made own flags book effect d m n is kept order old truthful turn apart covers =
    leaves_made own flags book effect d.stage turn.params d.choice turn.from m n is kept order old turn.stands truthful (turn_read own flags effect d m n kept order old turn) turn.seen apart covers (turn_entry own flags effect d m n is kept order old turn) turn.left

-- ---- whatever was chosen

pub left_of_turn : (own : Path → Bool) (flags : Flags) (book : Book) (effect : Effect) (d : Due) (m n : State) → IsOwn own → IsStage d.stage → IsKept own d.stage → is_ordered (d.stage ∷ []) ≡ true → IsTree m.tree → IsTruthful book effect m.lock → Turn own flags effect d m n → d.choice ≢ Restore → Covers book n.tree d.stage → Left own effect d.stage m n
left_of_turn own flags book effect d m n area is kept order old truthful turn apart covers =
    record {
      seen = turn.seen;
      made = turn_made own flags book effect d m n is kept order old truthful turn apart covers;
      entry = turn_entry own flags effect d m n is kept order old turn;
      other_entries = turn_keeps_others own flags effect d m n turn (d.stage.name ∷ []) (or_left (bytes_eq d.stage.name d.stage.name) false (bytes_itself d.stage.name));
      others = λ p out k. turn_stays own flags effect d m n turn p out k;
      stands = turn.stands;
    }

truthful_left : (book : Book) (effect : Effect) (s : Stage) (old new : Lock) → IsTruthful book effect old → LockLeft s.name old new → ((e : Entry) → entry_of new s.name ≡ Some e → IsTrueEntry book effect e) → IsTruthful book effect new
truthful_left book effect s old new truthful (as_it_was e) own = subst (IsTruthful book effect) (sym e) truthful
truthful_left book effect s old new truthful (was_set entry e) own =
    subst (IsTruthful book effect) (sym e) (truthful_set book effect old s.name entry truthful (own entry (ap (λ (l : Lock). entry_of l s.name) e ∙ entry_of-set_same old s.name entry)))

pub truthful_of_turn : (own : Path → Bool) (flags : Flags) (book : Book) (effect : Effect) (d : Due) (m n : State) → IsOwn own → IsStage d.stage → IsKept own d.stage → is_ordered (d.stage ∷ []) ≡ true → IsTree m.tree → IsTruthful book effect m.lock → Turn own flags effect d m n → d.choice ≢ Restore → Covers book n.tree d.stage → IsTruthful book effect n.lock
truthful_of_turn own flags book effect d m n area is kept order old truthful turn apart covers =
    let has = turn_entry own flags effect d m n is kept order old turn in
    let made = turn_made own flags book effect d m n is kept order old truthful turn apart covers in
    let holds = run_true book effect has.entry d.stage n.tree is has.present covers made in
    truthful_left book effect d.stage m.lock n.lock truthful (leaves_lock own effect d.stage turn.params d.choice turn.from m n turn.left) (λ e there. subst (IsTrueEntry book effect) (same_Some has.entry e (sym has.there ∙ there)) holds)
