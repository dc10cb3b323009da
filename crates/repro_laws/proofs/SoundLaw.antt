-- Each moment of turns that begin at a sound one is sound.
--     RunLaw      what is asked of a run's entry: where the effect made what stands there, it is true
--     sound       where no two contents met share an MD5
use Rattle.std.proofs.Common.{◌≡◌, ◌≢◌, ◌⊎◌, ℕ, true, false, ◌||◌, ◌==◌, List, [], ◌∷◌, ◌++◌, length, drop, inl, inr, refl, sym, ap, subst, ◌∙◌, arith, append-nil, Some}
use Rattle.std.specs.List.{AllByRecursion, flat_map}
use Rattle.std.proofs.lemmas.Bool.{false≢true, cases_Bool, or_from, and_parts, false_from_ne_true, both_ways, eqb-true}
use Rattle.std.proofs.lemmas.Option.{same_Some}
use Rattle.std.proofs.lemmas.List.Folds.{list_any-append}
use Rattle.dvc_base.specs.Path.{Path, under, overlap}
use Rattle.dvc_base.specs.Name.{ObjectName}
use Rattle.dvc_base.proofs.PathLemmas.{under-append, under-split, under-overlap}
use Rattle.world_api.specs.Tree.{Tree}
use Rattle.world_api.specs.Effect.{Effect, is_in_any}
use Rattle.world_api.specs.History.{Moment, Book}
use Rattle.world_api.specs.Writes.{is_at, in_scratch, IsMade, IsSameUnder}
use Rattle.world_api.specs.Layout.{dvc_path, tmp_path, lock_path, yaml_path}
use Rattle.world_api.proofs.TreeLemmas.{path_cases}
use Rattle.world_api.proofs.LaneLemmas.{not_at}
use Rattle.lock_files.specs.declared.entry.Entry.{Entry}
use Rattle.lock_files.specs.Book.{Lock, entry_of}
use Rattle.object_cache.specs.Objects.{object_path}
use Rattle.object_cache.specs.Store.{shelf_path, is_cache_folder, IsKeptPlace}
use Rattle.repro_laws.specs.Stage.{stage_outs, IsStage}
use Rattle.repro_laws.specs.Entries.{IsPresent, IsTrueEntry, IsMade as IsAnew}
use Rattle.repro_laws.specs.Lock.{IsTruthful}
use Rattle.repro_laws.specs.Due.{Due}
use Rattle.repro_laws.specs.Turns.{stages_of}
use Rattle.repro_laws.specs.Headline.{Covers}
use Rattle.repro_laws.specs.Moments.{is_own, IsRunOf, IsRecorded, IsJobOf, has_place, in_places, in_turns, InTurns}
use Rattle.repro_laws.specs.Sound.{lock_of, HasRunFor, IsKnown, IsMetSince, IsOutside, TurnsAreSound}
use Rattle.repro_laws.specs.declared.stage.Stage.{Stage}
use Rattle.repro_laws.specs.declared.stage.Flags.{Flags}
use Rattle.repro_laws.specs.declared.stage.Choice.TheVariants.{Run}
use Rattle.repro_laws.proofs.AlikeLemmas.{each_two, each_front, each_mapped}
use Rattle.repro_laws.proofs.LockEntries.{lock_of_same, lock_of_new, same_bytes, entry_from_turns, jobs_of_turns}

abbrev pub RunLaw : Type 0
RunLaw =
    (book : Book) (effect : Effect) (e : Entry) (s : Stage) (t : Tree)
    → IsStage s → IsPresent e s t → Covers book t s → IsAnew effect s t → IsTrueEntry book effect e

-- ---- entries of runs are true

-- what is known of a turn of which the lock of a moment tells
record IsTold (book : Book) (effect : Effect) (lock : Lock) (m end : Moment) (d : Due) : Type 0 where
  stage : IsStage d.stage
  job : IsJobOf d.stage d.job
  met : HasRunFor d.stage m end ⊎ IsKnown end d.stage → Covers book end.tree d.stage
  runs : d.choice ≡ Run → IsRunOf effect lock m end d

told_true : (law : RunLaw) (book : Book) (effect : Effect) (lock : Lock) (m end : Moment) (d : Due) (name : List ℕ) (e : Entry) → IsTold book effect lock m end d → d.choice ≡ Run → d.stage.name ≡ name → entry_of lock name ≡ Some e → IsTrueEntry book effect e
told_true law book effect lock m end d name e told run its there =
    let r = told.runs run in
    let has = r.entry in
    let covers = told.met (inl (record { job = d.job; own = told.job; ran = r.ran })) in
    let same : has.entry ≡ e =
    same_Some has.entry e (sym has.there ∙ ap (entry_of lock) its ∙ there) in
    subst (IsTrueEntry book effect) same (law book effect has.entry d.stage end.tree told.stage has.present covers r.made)

each_stage : (P : Stage → Type 0) (ds : List Due) (others stages : List Stage) → stages ≡ stages_of ds ++ others → AllByRecursion P stages → AllByRecursion (λ d. P d.stage) ds
each_stage P ds others stages cut all =
    each_mapped (λ d. d.stage) P ds (each_front P (stages_of ds) others (subst (λ (l : List Stage). AllByRecursion P l) cut all)).0

module _ (law : RunLaw) (flags : Flags) (book : Book) (effect : Effect) (stages : List Stage) (lock : Lock) (m end n : Moment) (none : flags.run_cache ≡ false) where
  all_told : (r : IsRecorded flags effect stages lock m end n) → AllByRecursion IsStage stages → IsMetSince book stages m end → AllByRecursion (IsTold book effect r.reached.lock m end) r.ended
  all_told r each met =
      let Met : Stage → Type 0 = λ s. HasRunFor s m end ⊎ IsKnown end s → Covers book end.tree s in
      let jobs = jobs_of_turns is_own flags effect r.ended _ r.reached r.turns in
      let first : AllByRecursion (λ d. IsStage d.stage × IsJobOf d.stage d.job) r.ended =
      each_two (λ d. IsStage d.stage) (λ d. IsJobOf d.stage d.job) (λ d. IsStage d.stage × IsJobOf d.stage d.job) r.ended (λ d a b. (a, b)) (each_stage IsStage r.ended r.others stages r.cut each) jobs in
      let second : AllByRecursion (λ d. Met d.stage × (d.choice ≡ Run → IsRunOf effect r.reached.lock m end d)) r.ended =
      each_two (λ d. Met d.stage) (λ d. d.choice ≡ Run → IsRunOf effect r.reached.lock m end d) (λ d. Met d.stage × (d.choice ≡ Run → IsRunOf effect r.reached.lock m end d)) r.ended (λ d a b. (a, b)) (each_stage Met r.ended r.others stages r.cut met) r.runs in
      each_two (λ d. IsStage d.stage × IsJobOf d.stage d.job) (λ d. Met d.stage × (d.choice ≡ Run → IsRunOf effect r.reached.lock m end d)) (IsTold book effect r.reached.lock m end) r.ended (λ d a b. record { stage = a.0; job = a.1; met = b.0; runs = b.1 }) first second

  recorded_true : (new : Lock) (r : IsRecorded flags effect stages lock m end n) → AllByRecursion IsStage stages → IsMetSince book stages m end → IsTruthful book effect lock → lock_of n.tree ≡ Some new → IsTruthful book effect new
  recorded_true new r each met truthful found name e there =
      let told = all_told r each met in
      let same : r.reached.lock ≡ new = same_Some r.reached.lock new (sym (lock_of_new r.reached.lock n r.stands) ∙ found) in
      let here : entry_of r.reached.lock name ≡ Some e = ap (λ (l : Lock). entry_of l name) same ∙ there in
      elim (entry_from_turns is_own flags effect (IsTold book effect r.reached.lock m end) r.ended _ r.reached name none told r.turns) [
        | inl run ↦ told_true law book effect r.reached.lock m end run.turn name e run.holds run.run (same_bytes run.turn.stage.name name run.its) here
        | inr kept ↦ truthful name e (sym kept ∙ here)
      ]

  stays_true : (new : Lock) → AllByRecursion IsStage stages → IsMetSince book stages m end → lock_of m.tree ≡ Some lock → IsTruthful book effect lock → lock_of n.tree ≡ Some new → (IsSameUnder lock_path m n ⊎ IsRecorded flags effect stages lock m end n) → IsTruthful book effect new
  stays_true new each met read truthful found (inl same) =
      subst (IsTruthful book effect) (same_Some lock new (sym read ∙ sym (lock_of_same m n same) ∙ found)) truthful
  stays_true new each met read truthful found (inr r) = recorded_true new r each met truthful found

-- ---- what the tool keeps lies apart from the outputs

outside_all : (stages : List Stage) (p : Path) → ((s : Stage) → IsOutside s → is_in_any (stage_outs s) p ≡ false) → AllByRecursion IsOutside stages → is_in_any (flat_map stage_outs stages) p ≡ false
outside_all [] p f outside = refl
outside_all (s ∷ ss) p f outside =
    list_any-append (λ out. under out p) (stage_outs s) (flat_map stage_outs ss) ∙ or_from (is_in_any (stage_outs s) p) (is_in_any (flat_map stage_outs ss) p) (f s outside.0) (outside_all ss p f outside.1)

yaml_outside : (in_scratch yaml_path || (is_cache_folder yaml_path || (in_places yaml_path || under lock_path yaml_path))) ≡ false
unfolding yaml_path lock_path dvc_path tmp_path
yaml_outside = refl

yaml_kept : (stages : List Stage) → AllByRecursion IsOutside stages → in_turns stages yaml_path ≡ false
yaml_kept stages outside =
    or_from (is_in_any (flat_map stage_outs stages) yaml_path) (in_scratch yaml_path || (is_cache_folder yaml_path || (in_places yaml_path || under lock_path yaml_path))) (outside_all stages yaml_path (λ s o. o.yaml) outside) yaml_outside

dvc_apart_lock : overlap dvc_path lock_path ≡ false
unfolding lock_path dvc_path
dvc_apart_lock = refl

dvc_kept : (stages : List Stage) (p : Path) → AllByRecursion IsOutside stages → dvc_path ≢ p → under dvc_path p ≡ true → under tmp_path p ≡ false → is_cache_folder p ≡ false → in_places p ≡ false → in_turns stages p ≡ false
dvc_kept stages p outside other below tmp no_folder no_place =
    let no_lock : under lock_path p ≡ false =
    false_from_ne_true (under lock_path p) (λ e. both_ways (overlap dvc_path lock_path) dvc_apart_lock (under-overlap dvc_path lock_path p below e)) in
    let scratch : in_scratch p ≡ false = or_from (is_at dvc_path p) (under tmp_path p) (not_at dvc_path p other) tmp in
    or_from (is_in_any (flat_map stage_outs stages) p) (in_scratch p || (is_cache_folder p || (in_places p || under lock_path p))) (outside_all stages p (λ s o. o.dvc p below) outside)
    (or_from (in_scratch p) (is_cache_folder p || (in_places p || under lock_path p)) scratch
    (or_from (is_cache_folder p) (in_places p || under lock_path p) no_folder (or_from (in_places p) (under lock_path p) no_place no_lock)))

-- ---- places of objects

pub record IsPlace (p : Path) : Type 0 where
  pub name : ObjectName
  pub below : under (object_path name) p ≡ true

too_long : (n : ℕ) → (n == 2) ≡ true → n ≡ 2
too_long n e = eqb-true n 2 e

place_by : (c d : List ℕ) (rest : Path) → (length c == 2) ≡ true → IsPlace (shelf_path ++ (c ∷ d ∷ rest))
place_by [] d rest h = absurd (omega (arith, too_long (length {A = ℕ} []) h))
place_by (a ∷ []) d rest h = absurd (omega (arith, too_long (length (a ∷ [])) h))
place_by (a ∷ b ∷ []) d rest h =
    let at : Path = shelf_path ++ ((a ∷ b ∷ []) ∷ d ∷ []) in
    let named : object_path (record { digits = a ∷ b ∷ d; dir = false }) ≡ at =
    ap (λ (x : List ℕ). shelf_path ++ ((a ∷ b ∷ []) ∷ x ∷ [])) (append-nil d) in
    record {
      name = record { digits = a ∷ b ∷ d; dir = false };
      below = ap (λ (x : Path). under x (shelf_path ++ ((a ∷ b ∷ []) ∷ d ∷ rest))) named ∙ under-append at rest;
    }
place_by (a ∷ b ∷ x ∷ xs) d rest h = absurd (omega (arith, too_long (length (a ∷ b ∷ x ∷ xs)) h))

place_in : (p rest : Path) → p ≡ shelf_path ++ rest → has_place rest ≡ true → IsPlace p
place_in p [] cut h = absurd (false≢true h)
place_in p (c ∷ []) cut h = absurd (false≢true h)
place_in p (c ∷ d ∷ rest) cut h = subst IsPlace (sym cut) (place_by c d rest h)

pub place_at : (p : Path) → in_places p ≡ true → IsPlace p
place_at p h =
    let parts = and_parts (under shelf_path p) (has_place (drop (length shelf_path) p)) h in
    place_in p (drop (length shelf_path) p) (under-split shelf_path p parts.0) parts.1

-- ---- what a stop may change

pub made_firm : (q : Path) (m n : Moment) → IsMade q m n → m.loose q ≡ false → n.loose q ≡ false
made_firm q m n (inl same) firm = same.loose ∙ firm
made_firm q m n (inr new) firm = new.1.firm

place_firm : (q p : Path) (m n : Moment) → IsKeptPlace q m n → under q p ≡ true → m.loose p ≡ false → n.loose p ≡ false
place_firm q p m n (inl same) u firm = same.loose p u ∙ firm
place_firm q p m n (inr (inl new)) u firm = let file = new.file in file.firm p u
place_firm q p m n (inr (inr gives)) u firm = gives.firm p u firm

lock_stays_firm : (flags : Flags) (effect : Effect) (stages : List Stage) (lock : Lock) (m end n : Moment) (p : Path) → under lock_path p ≡ true → m.loose p ≡ false → (IsSameUnder lock_path m n ⊎ IsRecorded flags effect stages lock m end n) → n.loose p ≡ false
lock_stays_firm flags effect stages lock m end n p below firm (inl same) = same.loose p below ∙ firm
lock_stays_firm flags effect stages lock m end n p below firm (inr r) =
    let new = r.stands in
    let file = new.file in
    file.firm p below

dvc_stays_firm : (flags : Flags) (effect : Effect) (stages : List Stage) (lock : Lock) (m end n : Moment) (p : Path) → AllByRecursion IsOutside stages → InTurns flags effect stages lock m end n → under dvc_path p ≡ true → under tmp_path p ≡ false → m.loose p ≡ false → n.loose p ≡ false
dvc_stays_firm flags effect stages lock m end n p outside h below tmp firm =
    elim (path_cases dvc_path p) [
      | inl same ↦ subst (λ (q : Path). n.loose q ≡ false) same (made_firm dvc_path m n h.dvc (ap m.loose same ∙ firm))
      | inr other ↦ elim (cases_Bool (is_cache_folder p)) [
        | inl folder ↦ made_firm p m n (h.folders p folder) firm
        | inr no_folder ↦ elim (cases_Bool (in_places p)) [
          | inl placed ↦ let at = place_at p placed in place_firm (object_path at.name) p m n (h.places at.name) at.below firm
          | inr no_place ↦ made_firm p m n (h.ways p (dvc_kept stages p outside other below tmp no_folder no_place)) firm
        ]
      ]
    ]

pub sound : RunLaw → TurnsAreSound
sound law flags book effect stages lock m end n none plan outside read before met h =
    record {
      truthful = λ new found. stays_true law flags book effect stages lock m end n none new plan.each met read (before.truthful lock read) found h.remembered;
      lock_firm = λ p below. lock_stays_firm flags effect stages lock m end n p below (before.lock_firm p below) h.remembered;
      yaml_firm = made_firm yaml_path m n (h.ways yaml_path (yaml_kept stages outside)) before.yaml_firm;
      dvc_firm = λ p below tmp. dvc_stays_firm flags effect stages lock m end n p outside h below tmp (before.dvc_firm p below tmp);
    }
