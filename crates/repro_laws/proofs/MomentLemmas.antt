-- The moments of turns, one after another.
--     turns_itself     the moment at which turns begin
--     turns_wider      a moment of turns is one of the turns of more stages
--     have_run_.., run_..     jobs that have run since
--     kept_place_then  an object's place, over one stretch of moments after another
use Rattle.std.proofs.Common.{◌≡◌, ◌⊎◌, ℕ, Bool, false, ◌||◌, List, [], ◌∷◌, ◌++◌, inl, inr, refl, sym, ap, ◌∙◌, append_assoc, append-nil, Some, None}
use Rattle.std.specs.List.{flat_map}
use Rattle.std.proofs.lemmas.Bool.{or_parts, or_from}
use Rattle.std.proofs.lemmas.List.Folds.{list_any-append}
use Rattle.dvc_base.specs.Path.{Path, under}
use Rattle.dvc_base.proofs.PathLemmas.{under-refl}
use Rattle.world_api.specs.Tree.{folder, file, item_at}
use Rattle.world_api.specs.Effect.{Effect, is_in_any}
use Rattle.world_api.specs.History.{Fixed, Moment}
use Rattle.world_api.specs.Writes.{in_scratch, IsSameUnder, IsNewFile}
use Rattle.world_api.specs.Layout.{dvc_path, lock_path}
use Rattle.world_api.specs.declared.job.Job.{Job}
use Rattle.world_api.proofs.HistoryLemmas.{keeps_paths_itself, keeps_paths_in}
use Rattle.world_api.proofs.WriteLemmas.{same_at_itself, same_under_itself, same_under_then}
use Rattle.object_cache.specs.Objects.{object_path}
use Rattle.object_cache.specs.Store.{is_cache_folder, IsKeptPlace}
use Rattle.lock_files.specs.Book.{Lock}
use Rattle.repro_laws.specs.Stage.{stage_outs}
use Rattle.repro_laws.specs.Turns.{state, Turns, stages_of, AreStored}
use Rattle.repro_laws.specs.Headline.{is_any_way}
use Rattle.repro_laws.specs.Moments.{AreJobsOf, HaveRun, HasRun, IsRecorded, in_places, in_turns, InTurns}
use Rattle.repro_laws.specs.declared.stage.Stage.{Stage}
use Rattle.repro_laws.specs.declared.stage.Flags.{Flags}

-- ---- jobs

jobs_wider : (js : List Job) (xs ys : List Stage) → AreJobsOf js xs → AreJobsOf js (xs ++ ys)
jobs_wider [] xs ys h = tt
jobs_wider (j ∷ js) [] ys h = absurd h
jobs_wider (j ∷ js) (x ∷ xs) ys (inl h) = inl (h.0, jobs_wider js xs ys h.1)
jobs_wider (j ∷ js) (x ∷ xs) ys (inr h) = inr (jobs_wider (j ∷ js) xs ys h)

jobs_later : (js : List Job) (xs ys : List Stage) → AreJobsOf js ys → AreJobsOf js (xs ++ ys)
jobs_later [] xs ys h = tt
jobs_later (j ∷ js) [] ys h = h
jobs_later (j ∷ js) (x ∷ xs) ys h = inr (jobs_later (j ∷ js) xs ys h)

jobs_then : (is js : List Job) (xs ys : List Stage) → AreJobsOf is xs → AreJobsOf js ys → AreJobsOf (is ++ js) (xs ++ ys)
jobs_then [] js xs ys a b = jobs_later js xs ys b
jobs_then (i ∷ is) js [] ys a b = absurd a
jobs_then (i ∷ is) js (x ∷ xs) ys (inl a) b = inl (a.0, jobs_then is js xs ys a.1 b)
jobs_then (i ∷ is) js (x ∷ xs) ys (inr a) b = inr (jobs_then (i ∷ is) js xs ys a b)

with_jobs : Fixed → List Job → Fixed
with_jobs f js = record f { ran = f.ran ++ js }

abbrev ran_of : Fixed → List Job
ran_of f = f.ran

with_ran : Fixed → List Job → Fixed
with_ran f l = record f { ran = l }

pub have_run_itself : (stages : List Stage) (m : Moment) → HaveRun stages m m
unfolding with_ran
have_run_itself stages m =
    record {
      jobs = [];
      some = tt;
      aside = record { fixed = ap (with_ran m.aside.fixed) (sym (append-nil m.aside.fixed.ran)); book = λ d x e. e };
    }

pub have_run_wider : (xs ys : List Stage) (m n : Moment) → HaveRun xs m n → HaveRun (xs ++ ys) m n
have_run_wider xs ys m n h = record { jobs = h.jobs; some = jobs_wider h.jobs xs ys h.some; aside = h.aside }

pub have_run_then : (xs ys : List Stage) (m k n : Moment) → HaveRun xs m k → HaveRun ys k n → HaveRun (xs ++ ys) m n
unfolding with_jobs with_ran
have_run_then xs ys m k n a b =
    record {
      jobs = a.jobs ++ b.jobs;
      some = jobs_then a.jobs b.jobs xs ys a.some b.some;
      aside = record {
        fixed = b.aside.fixed ∙ ap (λ f. with_jobs f b.jobs) a.aside.fixed ∙ ap (with_ran m.aside.fixed) (append_assoc m.aside.fixed.ran a.jobs b.jobs);
        book = λ d x e. b.aside.book d x (a.aside.book d x e);
      };
    }

ran_since : (stages : List Stage) (m n : Moment) → (h : HaveRun stages m n) → n.aside.fixed.ran ≡ m.aside.fixed.ran ++ h.jobs
ran_since stages m n h = ap ran_of h.aside.fixed

pub run_later : (stages : List Stage) (job : Job) (m k n : Moment) → HaveRun stages k n → HasRun job m k → HasRun job m n
run_later stages job m k n more h =
    record {
      before = h.before;
      after = h.after ++ more.jobs;
      ran = ran_since stages k n more ∙ ap (λ (l : List Job). l ++ more.jobs) h.ran ∙ append_assoc (m.aside.fixed.ran ++ h.before) (job ∷ h.after) more.jobs;
    }

pub run_sooner : (stages : List Stage) (job : Job) (m k n : Moment) → HaveRun stages m k → HasRun job k n → HasRun job m n
run_sooner stages job m k n so h =
    let rest = job ∷ h.after in
    record {
      before = so.jobs ++ h.before;
      after = h.after;
      ran = h.ran ∙ ap (λ (l : List Job). (l ++ h.before) ++ rest) (ran_since stages m k so) ∙ ap (λ (l : List Job). l ++ rest) (append_assoc m.aside.fixed.ran so.jobs h.before);
    }

-- ---- places of objects

clash : (bytes : List ℕ) → Some folder ≡ Some (file bytes) → ⊥
clash bytes e = absurd (cc)

pub new_file_stays : (q : Path) (bytes : List ℕ) (k n : Moment) → IsSameUnder q k n → IsNewFile q bytes k → IsNewFile q bytes n
new_file_stays q bytes k n same new =
    record { stands = same.items q (under-refl q) ∙ new.stands; firm = λ p u. same.loose p u ∙ new.firm p u }

gone_then : (m k n : Moment) (q : Path) → (item_at k.tree q ≡ item_at m.tree q) ⊎ (item_at k.tree q ≡ None) → (item_at n.tree q ≡ item_at k.tree q) ⊎ (item_at n.tree q ≡ None) → (item_at n.tree q ≡ item_at m.tree q) ⊎ (item_at n.tree q ≡ None)
gone_then m k n q a (inr none) = inr none
gone_then m k n q (inl same) (inl b) = inl (b ∙ same)
gone_then m k n q (inr none) (inl b) = inr (b ∙ none)

pub kept_place_then : (q : Path) (m k n : Moment) → IsKeptPlace q m k → IsKeptPlace q k n → IsKeptPlace q m n
kept_place_then q m k n a (inr (inl new)) = inr (inl new)
kept_place_then q m k n (inl a) (inl b) = inl (same_under_then q m k n a b)
kept_place_then q m k n (inl a) (inr (inr b)) =
    inr (inr (record {
      stood = sym (a.items q (under-refl q)) ∙ b.stood;
      gone = λ p u. gone_then m k n p (inl (a.items p u)) (b.gone p u);
      firm = λ p u f. b.firm p u (a.loose p u ∙ f);
    }))
kept_place_then q m k n (inr (inl a)) (inl b) =
    inr (inl (record { name = a.name; bytes = a.bytes; place = a.place; named = a.named; file = new_file_stays q a.bytes k n b a.file }))
kept_place_then q m k n (inr (inl a)) (inr (inr b)) = let file = a.file in absurd (clash a.bytes (sym b.stood ∙ file.stands))
kept_place_then q m k n (inr (inr a)) (inl b) =
    inr (inr (record {
      stood = a.stood;
      gone = λ p u. gone_then m k n p (a.gone p u) (inl (b.items p u));
      firm = λ p u f. b.loose p u ∙ a.firm p u f;
    }))
kept_place_then q m k n (inr (inr a)) (inr (inr b)) =
    inr (inr (record {
      stood = a.stood;
      gone = λ p u. gone_then m k n p (a.gone p u) (b.gone p u);
      firm = λ p u f. b.firm p u (a.firm p u f);
    }))

-- ---- what turns may touch

abbrev rest_of_turns : Path → Bool
rest_of_turns p = in_scratch p || (is_cache_folder p || (in_places p || under lock_path p))

pub outs_parts : (xs ys : List Stage) (p : Path) → is_in_any (flat_map stage_outs (xs ++ ys)) p ≡ false → (is_in_any (flat_map stage_outs xs) p ≡ false) × (is_in_any (flat_map stage_outs ys) p ≡ false)
outs_parts [] ys p h = (refl, h)
outs_parts (x ∷ xs) ys p h =
    let under_it : Path → Bool = λ out. under out p in
    let parts = or_parts (is_in_any (stage_outs x) p) (is_in_any (flat_map stage_outs (xs ++ ys)) p) (sym (list_any-append under_it (stage_outs x) (flat_map stage_outs (xs ++ ys))) ∙ h) in
    let rest = outs_parts xs ys p parts.1 in
    (list_any-append under_it (stage_outs x) (flat_map stage_outs xs) ∙ or_from (is_in_any (stage_outs x) p) (is_in_any (flat_map stage_outs xs) p) parts.0 rest.0, rest.1)

pub turns_area : (xs ys : List Stage) (p : Path) → in_turns (xs ++ ys) p ≡ false → (in_turns xs p ≡ false) × (in_turns ys p ≡ false)
turns_area xs ys p h =
    let parts = or_parts (is_in_any (flat_map stage_outs (xs ++ ys)) p) (rest_of_turns p) h in
    let both = outs_parts xs ys p parts.0 in
    (or_from (is_in_any (flat_map stage_outs xs) p) (rest_of_turns p) both.0 parts.1, or_from (is_in_any (flat_map stage_outs ys) p) (rest_of_turns p) both.1 parts.1)

abbrev pub whole_area : List Stage → Path → Bool
whole_area stages p = in_turns stages p || is_any_way stages p

pub whole_parts : (xs ys : List Stage) (p : Path) → whole_area (xs ++ ys) p ≡ false → (whole_area xs p ≡ false) × (whole_area ys p ≡ false)
whole_parts xs ys p h =
    let parts = or_parts (in_turns (xs ++ ys) p) (is_any_way (xs ++ ys) p) h in
    let both = turns_area xs ys p parts.0 in
    let ways = or_parts (is_any_way xs p) (is_any_way ys p) (sym (list_any-append (λ s. Rattle.repro_laws.specs.Turns.is_way s p) xs ys) ∙ parts.1) in
    (or_from (in_turns xs p) (is_any_way xs p) both.0 ways.0, or_from (in_turns ys p) (is_any_way ys p) both.1 ways.1)

-- ---- moments

pub turns_itself : (flags : Flags) (effect : Effect) (stages : List Stage) (lock : Lock) (m end : Moment) → InTurns flags effect stages lock m end m
turns_itself flags effect stages lock m end =
    record {
      paths = keeps_paths_itself (whole_area stages) m;
      ways = λ p out. inl (same_at_itself p m);
      dvc = inl (same_at_itself dvc_path m);
      folders = λ p in'. inl (same_at_itself p m);
      places = λ name. inl (same_under_itself (object_path name) m);
      objects = λ name bytes e. e;
      ran = have_run_itself stages m;
      remembered = inl (same_under_itself lock_path m);
    }

-- the same moment of more stages, and up to another end
pub turns_with : (flags : Flags) (effect : Effect) (xs ys : List Stage) (lock : Lock) (m k n x : Moment) → (IsRecorded flags effect xs lock m k x → IsRecorded flags effect (xs ++ ys) lock m n x) → InTurns flags effect xs lock m k x → InTurns flags effect (xs ++ ys) lock m n x
turns_with flags effect xs ys lock m k n x f h =
    record {
      paths = keeps_paths_in (whole_area xs) (whole_area (xs ++ ys)) m x (λ p out. (whole_parts xs ys p out).0) h.paths;
      ways = λ p out. h.ways p (turns_area xs ys p out).0;
      dvc = h.dvc;
      folders = h.folders;
      places = h.places;
      objects = h.objects;
      ran = have_run_wider xs ys m x h.ran;
      remembered = elim h.remembered [ inl same ↦ inl same | inr r ↦ inr (f r) ];
    }

pub turns_wider : (flags : Flags) (effect : Effect) (xs ys : List Stage) (lock : Lock) (m n x : Moment) → InTurns flags effect xs lock m n x → InTurns flags effect (xs ++ ys) lock m n x
turns_wider flags effect xs ys lock m n x h =
    turns_with flags effect xs ys lock m n n x
    (λ r. record {
      ended = r.ended;
      others = r.others ++ ys;
      cut = ap (λ (l : List Stage). l ++ ys) r.cut ∙ append_assoc (stages_of r.ended) r.others ys;
      reached = r.reached;
      turns = r.turns;
      runs = r.runs;
      held = r.held;
      stands = r.stands;
    }) h
