-- What stands outside the tool's own paths and the outputs, while a run goes on and its lock is written.
--     item_stored, item_recorded, item_then      outside the tool's own nothing changes while outputs are put and a lock is written
--     left_worked, left_then                     what a run's work leaves, and what it still leaves then
--     apart_value, each_value                    values apart from the tool's own stay with it
--     is_free_folder, is_free_place              the lock and the lanes lie apart from the cache
use Rattle.std.proofs.Common.{◌≡◌, ◌≢◌, ℕ, true, false, ◌||◌, List, [], ◌∷◌, ◌++◌, inl, inr, refl, sym, ap, ◌∙◌}
use Rattle.std.specs.List.{AllByRecursion}
use Rattle.std.proofs.lemmas.Bool.{false≢true, cases_Bool, or_parts, or_from, or_cases, and_parts, false_from_ne_true}
use Rattle.dvc_base.specs.Path.{Path, under, overlap}
use Rattle.dvc_base.specs.Name.{ObjectName, place_of}
use Rattle.dvc_base.proofs.PathLemmas.{under-refl, under-trans, under-append, under-overlap}
use Rattle.world_api.specs.Tree.{Tree, item_at, value_at}
use Rattle.world_api.specs.Effect.{is_in_any}
use Rattle.world_api.specs.History.{Moment}
use Rattle.world_api.specs.Writes.{is_at, in_scratch, IsMade}
use Rattle.world_api.specs.Layout.{dvc_path, tmp_path, lock_path}
use Rattle.world_api.specs.declared.job.Job.{Job}
use Rattle.object_cache.specs.Objects.{cache_path, object_path}
use Rattle.object_cache.specs.Store.{shelf_path, is_cache_folder}
use Rattle.lock_files.specs.Book.{Lock}
use Rattle.repro_laws.specs.Stage.{stage_outs}
use Rattle.repro_laws.specs.Turns.{is_way, IsLeftAt, OthersStay}
use Rattle.repro_laws.specs.Headline.{IsApart}
use Rattle.repro_laws.specs.Moments.{is_own, in_places}
use Rattle.repro_laws.specs.declared.stage.Stage.{Stage}
use Rattle.repro_laws.proofs.FileLemmas.{only_file, file_at}
use Rattle.repro_laws.proofs.AlikeLemmas.{each_on, value_kept, apart_below}
use Rattle.repro_laws.proofs.StayLemmas.{not_in_turns}
use Rattle.repro_core.specs.Steps.{in_work, InWork, in_stored, InStored, is_record, InRecord}

-- ---- the root, and paths that aren't the tool's own

some_path : (c : List ℕ) (p : Path) → (c ∷ p) ≢ []
some_path c p e = absurd (cc)

-- a stage that makes nothing
abbrev bare : Stage → Stage
bare s = record s { made = [] }

record IsFree (p : Path) : Type 0 where
  scratch : in_scratch p ≡ false
  folder : is_cache_folder p ≡ false
  place : in_places p ≡ false
  lock : under lock_path p ≡ false

free_of : (s : Stage) (p : Path) → p ≢ [] → is_own p ≡ false → IsFree p
free_of s p ne own =
    let rest = or_parts false (in_scratch p || (is_cache_folder p || (in_places p || under lock_path p))) (not_in_turns (bare s) p ne own refl) in
    let scratch = or_parts (in_scratch p) (is_cache_folder p || (in_places p || under lock_path p)) rest.1 in
    let folders = or_parts (is_cache_folder p) (in_places p || under lock_path p) scratch.1 in
    let places = or_parts (in_places p) (under lock_path p) folders.1 in
    record { scratch = scratch.0; folder = folders.0; place = places.0; lock = places.1 }

free_stored : (p : Path) → IsFree p → in_stored p ≡ false
free_stored p free =
    or_from (in_scratch p) (is_cache_folder p || in_places p) free.scratch (or_from (is_cache_folder p) (in_places p) free.folder free.place)

free_record : (p : Path) → IsFree p → is_record p ≡ false
free_record p free = or_from (under lock_path p) (in_scratch p) free.lock free.scratch

-- nothing of the tree changes but what is the tool's own
abbrev pub OnlyOwn : Tree → Tree → Type 0
OnlyOwn t u = (p : Path) → is_own p ≡ false → item_at u p ≡ item_at t p

pub item_stored : (s : Stage) (m n : Moment) → InStored m n → OnlyOwn m.tree n.tree
item_stored s m n h [] own = refl
item_stored s m n h (c ∷ p) own =
    let others = h.others in
    others.paths.items (c ∷ p) (free_stored (c ∷ p) (free_of s (c ∷ p) (some_path c p) own))

pub item_recorded : (s : Stage) (lock : Lock) (m n : Moment) → InRecord lock m n → OnlyOwn m.tree n.tree
item_recorded s lock m n h [] own = refl
item_recorded s lock m n h (c ∷ p) own =
    let others = h.others in
    others.paths.items (c ∷ p) (free_record (c ∷ p) (free_of s (c ∷ p) (some_path c p) own))

pub item_then : (t u v : Tree) → OnlyOwn t u → OnlyOwn u v → OnlyOwn t v
item_then t u v a b p own = b p own ∙ a p own

-- ---- what a run's work leaves

left_by : (s : Stage) (m n : Moment) (p : Path) → (is_way s p ≡ false → item_at n.tree p ≡ item_at m.tree p) → IsMade p m n → IsLeftAt (is_way s) m.tree n.tree p
left_by s m n p stays (inl same) = inl same.item
left_by s m n p stays (inr made) =
    elim (cases_Bool (is_way s p)) [
      | inl way ↦ inr (way, (made.0, made.1.stands))
      | inr no_way ↦ inl (stays no_way)
    ]

pub left_worked : (s : Stage) (jobs : List Job) (m n : Moment) → InWork s jobs m n → OthersStay is_own s m.tree n.tree
left_worked s jobs m n h [] out own = inl refl
left_worked s jobs m n h (c ∷ p) out own =
    let free = free_stored (c ∷ p) (free_of s (c ∷ p) (some_path c p) own) in
    let area : in_work s (c ∷ p) ≡ false = or_from (is_in_any (stage_outs s) (c ∷ p)) (in_stored (c ∷ p)) out free in
    left_by s m n (c ∷ p) (λ no_way. h.paths.items (c ∷ p) (or_from (in_work s (c ∷ p)) (is_way s (c ∷ p)) area no_way)) (h.ways (c ∷ p) area)

left_on : (s : Stage) (t u v : Tree) (p : Path) → item_at v p ≡ item_at u p → IsLeftAt (is_way s) t u p → IsLeftAt (is_way s) t v p
left_on s t u v p e (inl same) = inl (e ∙ same)
left_on s t u v p e (inr made) = inr (made.0, (made.1.0, e ∙ made.1.1))

pub left_then : (s : Stage) (t u v : Tree) → OthersStay is_own s t u → OnlyOwn u v → OthersStay is_own s t v
left_then s t u v a b p out own = left_on s t u v p (b p own) (a p out own)

-- ---- values apart from the tool's own

own_root : is_own dvc_path ≡ true
unfolding dvc_path lock_path
own_root = refl

file_by : (t u : Tree) (c : List ℕ) (p : Path) → item_at u (c ∷ p) ≡ item_at t (c ∷ p) → file_at u (c ∷ p) ≡ file_at t (c ∷ p)
file_by t u c p e = ap only_file e

pub apart_value : (t u : Tree) (p : Path) → OnlyOwn t u → IsApart is_own p → value_at u p ≡ value_at t p
apart_value t u [] only apart = absurd (false≢true (sym (apart dvc_path refl) ∙ own_root))
apart_value t u (c ∷ p) only apart =
    value_kept t u (c ∷ p) (only (c ∷ p) (apart (c ∷ p) (under-refl (c ∷ p))))
    (λ r. file_by t u c (p ++ r) (only (c ∷ (p ++ r)) (apart_below is_own (c ∷ p) r apart)))

pub each_value : (t u : Tree) (ps : List Path) → OnlyOwn t u → AllByRecursion (IsApart is_own) ps → AllByRecursion (λ p. value_at u p ≡ value_at t p) ps
each_value t u ps only apart =
    each_on (IsApart is_own) (λ p. value_at u p ≡ value_at t p) ps (λ p a. apart_value t u p only a) apart

-- ---- the cache lies apart from the lock and the lanes

apart_by : (a b p : Path) → overlap a b ≡ false → under a p ≡ true → under b p ≡ false
apart_by a b p apart u =
    false_from_ne_true (under b p) (λ e. false≢true (sym apart ∙ under-overlap a b p u e))

folder_outside : (q p : Path) → under q shelf_path ≡ false → overlap shelf_path q ≡ false → is_cache_folder p ≡ true → under q p ≡ false
folder_outside q p above apart h =
    elim (or_cases (under p shelf_path) _ h) [
      | inl e ↦ false_from_ne_true (under q p) (λ u. false≢true (sym above ∙ under-trans q p shelf_path u e))
      | inr e ↦ apart_by shelf_path q p apart (and_parts (under shelf_path p) _ e).0
    ]

tmp_above : under tmp_path shelf_path ≡ false
unfolding tmp_path
tmp_above = refl

tmp_apart : overlap shelf_path tmp_path ≡ false
unfolding tmp_path
tmp_apart = refl

lock_above : under lock_path shelf_path ≡ false
unfolding lock_path
lock_above = refl

lock_apart : overlap shelf_path lock_path ≡ false
unfolding lock_path
lock_apart = refl

pub is_free_folder : (p : Path) → is_at dvc_path p ≡ false → is_cache_folder p ≡ true → is_record p ≡ false
is_free_folder p other h =
    or_from (under lock_path p) (in_scratch p) (folder_outside lock_path p lock_above lock_apart h)
    (or_from (is_at dvc_path p) (under tmp_path p) other (folder_outside tmp_path p tmp_above tmp_apart h))

cache_no_tmp : overlap cache_path tmp_path ≡ false
unfolding tmp_path
cache_no_tmp = refl

cache_no_lock : overlap cache_path lock_path ≡ false
unfolding lock_path
cache_no_lock = refl

cache_below : under cache_path dvc_path ≡ false
unfolding dvc_path
cache_below = refl

pub is_free_place : (name : ObjectName) (p : Path) → under (object_path name) p ≡ true → is_record p ≡ false
is_free_place name p u =
    let in' = under-trans cache_path (object_path name) p (under-append cache_path (place_of name)) u in
    or_from (under lock_path p) (in_scratch p) (apart_by cache_path lock_path p cache_no_lock in')
    (or_from (is_at dvc_path p) (under tmp_path p) (false_from_ne_true (is_at dvc_path p) (λ e. false≢true (sym cache_below ∙ under-trans cache_path p dvc_path in' (and_parts (under dvc_path p) (under p dvc_path) e).1))) (apart_by cache_path tmp_path p cache_no_tmp in'))
