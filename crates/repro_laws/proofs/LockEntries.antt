-- The lock of a moment, and where its entries come from.
--     lock_of_same, lock_of_new     where the file of the lock is as it was, and where a lock was written
--     entry_kept                    a set leaves the entries under other names
--     entry_from_turns              an entry is one of a run, or stood before the turns
use Rattle.std.proofs.Common.{◌≡◌, ◌≢◌, ◌⊎◌, ℕ, Bool, true, false, cond, ◌||◌, List, [], ◌∷◌, inl, inr, refl, sym, ap, subst, ◌∙◌, Option, Some, None}
use Rattle.std.specs.Prelude.{bytes_eq}
use Rattle.std.specs.List.{AllByRecursion}
use Rattle.std.specs.Result.{result_ok}
use Rattle.std.proofs.lemmas.Bool.{cases_Bool, cond-true, cond-false}
use Rattle.std.proofs.lemmas.Slice.Eq.{bytes_eq-Decides}
use Rattle.dvc_base.specs.Path.{Path}
use Rattle.dvc_base.specs.declared.data.ParamFile.{ParamFile}
use Rattle.dvc_base.proofs.PathLemmas.{under-refl}
use Rattle.world_api.specs.Effect.{Effect}
use Rattle.world_api.specs.History.{Moment}
use Rattle.world_api.specs.Writes.{IsSameUnder}
use Rattle.world_api.specs.Layout.{lock_path}
use Rattle.lock_files.specs.declared.entry.Entry.{Entry}
use Rattle.lock_files.specs.Book.{Lock, entry_of, set}
use Rattle.repro_laws.specs.Entries.{seen_at}
use Rattle.repro_laws.specs.Stored.{stored_in}
use Rattle.repro_laws.specs.Choices.{is_same_as}
use Rattle.repro_laws.specs.Due.{Due}
use Rattle.repro_laws.specs.Turns.{State, Leaves, Turn, Turns}
use Rattle.repro_laws.specs.Moments.{IsNewLock, IsJobOf}
use Rattle.repro_laws.specs.Sound.{lock_by, lock_of}
use Rattle.repro_laws.specs.declared.stage.Stage.{Stage}
use Rattle.repro_laws.specs.declared.stage.Flags.{Flags}
use Rattle.repro_laws.specs.declared.stage.Choice.{Choice}
use Rattle.repro_laws.specs.declared.stage.Choice.TheVariants.{Skip, Restore, Run}
use Rattle.repro_laws.proofs.SeenLemmas.{plain_choice, choice_plain}
use Rattle.repro_laws.proofs.DueLaw.{none_restored}

pub lock_of_same : (m n : Moment) → IsSameUnder lock_path m n → lock_of n.tree ≡ lock_of m.tree
lock_of_same m n same = ap lock_by (same.items lock_path (under-refl lock_path))

pub lock_of_new : (lock : Lock) (n : Moment) → IsNewLock lock n → lock_of n.tree ≡ Some lock
lock_of_new lock n new =
    let file = new.file in
    ap lock_by file.stands ∙ ap result_ok new.read_back

-- ---- a set

bytes_itself : (a : List ℕ) → bytes_eq a a ≡ true
bytes_itself a = (bytes_eq-Decides a a).1 refl

pub same_bytes : (a b : List ℕ) → bytes_eq a b ≡ true → a ≡ b
same_bytes a b e = (bytes_eq-Decides a b).0 e

not_both : (a b k : List ℕ) → bytes_eq a b ≡ false → bytes_eq b k ≡ false → a ≡ k → bytes_eq a k ≡ true
not_both a b k h e s = subst (λ (x : List ℕ). bytes_eq a x ≡ true) s (bytes_itself a)

pub entry_kept : (lock : Lock) (name : List ℕ) (x : Entry) (k : List ℕ) → bytes_eq name k ≡ false → entry_of (set lock name x) k ≡ entry_of lock k
entry_kept [] name x k h = cond-false (bytes_eq name k) (Some x) None h
entry_kept (e ∷ es) name x k h =
    elim (cases_Bool (bytes_eq e.0 name)) [
      | inl same ↦
          ap (λ (l : Lock). entry_of l k) (cond-true (bytes_eq e.0 name) ((name, x) ∷ es) (e ∷ set es name x) same)
          ∙ cond-false (bytes_eq name k) (Some x) (entry_of es k) h
          ∙ sym (cond-false (bytes_eq e.0 k) (Some e.1) (entry_of es k) (ap (λ (y : List ℕ). bytes_eq y k) (same_bytes e.0 name same) ∙ h))
      | inr other ↦
          ap (λ (l : Lock). entry_of l k) (cond-false (bytes_eq e.0 name) ((name, x) ∷ es) (e ∷ set es name x) other)
          ∙ ap (cond (bytes_eq e.0 k) (Some e.1)) (entry_kept es name x k h)
    ]

-- ---- turns

pub never_restored : (own : Path → Bool) (flags : Flags) (effect : Effect) (d : Due) (m n : State) → flags.run_cache ≡ false → Turn own flags effect d m n → d.choice ≢ Restore
unfolding plain_choice
never_restored own flags effect d m n none turn e =
    let s = d.stage in
    let seen = seen_at s turn.params m.tree in
    none_restored (flags.force || s.always) (is_same_as (entry_of m.lock s.name) seen) turn.from (sym (choice_plain flags s seen (stored_in m.tree) m.lock none) ∙ turn.chosen ∙ ap (λ (c : Choice). (c, turn.from)) e)

-- the entry under a name was made by a run of the turns, or stood before them
pub record IsRunUnder (P : Due → Type 0) (name : List ℕ) : Type 0 where
  pub turn : Due
  pub holds : P turn
  pub run : turn.choice ≡ Run
  pub its : bytes_eq turn.stage.name name ≡ true

left_entry : (own : Path → Bool) (effect : Effect) (s : Stage) (ps : List ParamFile) (c : Choice) (from : Option Entry) (m n : State) (name : List ℕ) → c ≢ Restore → Leaves own effect s ps c from m n → ((c ≡ Run) × (bytes_eq s.name name ≡ true)) ⊎ (entry_of n.lock name ≡ entry_of m.lock name)
left_entry own effect s ps Skip from m n name plain left = inr (ap (λ (l : Lock). entry_of l name) left.lock)
left_entry own effect s ps Restore from m n name plain left = absurd (plain refl)
left_entry own effect s ps Run from m n name plain left =
    elim (cases_Bool (bytes_eq s.name name)) [
      | inl same ↦ inl (refl, same)
      | inr other ↦ inr (ap (λ (l : Lock). entry_of l name) left.lock ∙ entry_kept m.lock s.name left.entry name other)
    ]

pub entry_from_turns : (own : Path → Bool) (flags : Flags) (effect : Effect) (P : Due → Type 0) (ds : List Due) (m n : State) (name : List ℕ) → flags.run_cache ≡ false → AllByRecursion P ds → Turns own flags effect ds m n → IsRunUnder P name ⊎ (entry_of n.lock name ≡ entry_of m.lock name)
entry_from_turns own flags effect P [] m n name none all turns = inr (ap (λ (x : State). entry_of x.lock name) turns)
entry_from_turns own flags effect P (d ∷ ds) m n name none all turns =
    let k = turns.0 in
    let turn = turns.1 in
    elim (entry_from_turns own flags effect P ds k n name none all.1 turns.2) [
      | inl later ↦ inl later
      | inr same ↦
          elim (left_entry own effect d.stage turn.params d.choice turn.from m k name (never_restored own flags effect d m k none turn) turn.left) [
            | inl here ↦ inl (record { turn = d; holds = all.0; run = here.0; its = here.1 })
            | inr before ↦ inr (same ∙ before)
          ]
    ]

-- the job of each turn is one of its stage
pub jobs_of_turns : (own : Path → Bool) (flags : Flags) (effect : Effect) (ds : List Due) (m n : State) → Turns own flags effect ds m n → AllByRecursion (λ d. IsJobOf d.stage d.job) ds
jobs_of_turns own flags effect [] m n turns = tt
jobs_of_turns own flags effect (d ∷ ds) m n turns =
    let turn = turns.1 in
    ((turn.params, turn.job), jobs_of_turns own flags effect ds turns.0 n turns.2)
