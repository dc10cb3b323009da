-- Laws of replayed changes: what the last change does, that each moment has a tree, and what a list of changes passes.
use Rattle.std.proofs.Common.{◌≡◌, ◌≢◌, ℕ, ◌+◌, ◌-◌, ◌≤◌, ◌^◌, min, nat_lt, arith, Bool, true, not, ◌&&◌, List, [], ◌∷◌, ◌++◌, refl, sym, ap, ◌∙◌, inl, inr, subst, Result, Ok, Err, OnOk, MatchResult, IsErr}
use Rattle.std.proofs.lemmas.Bool.{cond_both, false≢true, true≢false, not_from_true, not_from_false}
use Rattle.dvc_base.specs.Path.{Path, under}
use Rattle.world_api.specs.Tree.{Tree}
use Rattle.world_api.specs.History.{Moment, History, Passes, HasCause, Rose}
use Rattle.world_api.specs.Calls.{IsCleared, InClear}
use Rattle.world_api.specs.declared.job.Job.{Job}
use Rattle.world_api.proofs.HistoryLemmas.{keeps_itself, stays_itself, passes_none, passes_same, passes_then}
use Rattle.world_api.proofs.TreeLemmas.{item_kept, item_gone}
use Rattle.sim_world.specs.Applied.{tree_changed, jobs_changed, tree_after, jobs_after}
use Rattle.sim_world.specs.Call.{Makes, IsSame, Counts, risen, Counted}
use Rattle.sim_world.specs.Change.{changed, cleared, grown, replay}
use Rattle.sim_world.specs.Stands.{changed_tree}
use Rattle.sim_world.specs.declared.change.Change.{Change}
use Rattle.sim_world.specs.declared.change.Change.TheVariants.{Edited, Cleared, Started, Left, Ran, FolderMade, Written, Settled, Published, Met}

pub replay-append : (h : History) (cs ds : List Change) → replay h (cs ++ ds) ≡ replay (replay h cs) ds
replay-append h [] ds = refl
replay-append h (c ∷ cs) ds = replay-append (grown (changed c) h) cs ds

pub replay-push : (h : History) (cs : List Change) (c : Change) → replay h (cs ++ c ∷ []) ≡ grown (changed c) (replay h cs)
replay-push h cs c = replay-append h cs (c ∷ [])

pub tree_after-push : (t : Tree) (cs : List Change) (c : Change) → tree_after t (cs ++ c ∷ []) ≡ tree_changed c (tree_after t cs)
tree_after-push t [] c = refl
tree_after-push t (d ∷ cs) c = tree_after-push (tree_changed d t) cs c

pub jobs_after-push : (jobs : List Job) (cs : List Change) (c : Change) → jobs_after jobs (cs ++ c ∷ []) ≡ jobs_changed c (jobs_after jobs cs)
jobs_after-push jobs [] c = refl
jobs_after-push jobs (d ∷ cs) c = jobs_after-push (jobs_changed d jobs) cs c

changed_jobs : (c : Change) (m : Moment) → (changed c m).aside.fixed.ran ≡ jobs_changed c m.aside.fixed.ran
changed_jobs (Edited at value) m = refl
changed_jobs (Cleared at) m = refl
changed_jobs (Started job) m = refl
changed_jobs (Left at value) m = refl
changed_jobs (Ran job) m = refl
changed_jobs (FolderMade at) m = refl
changed_jobs (Written lane value) m = refl
changed_jobs (Settled lane) m = refl
changed_jobs (Published lane at value) m = refl
changed_jobs (Met at) m = refl

pub replay_tree : (h : History) (cs : List Change) → (replay h cs).present.tree ≡ tree_after h.present.tree cs
replay_tree h [] = refl
replay_tree h (c ∷ cs) =
    replay_tree (grown (changed c) h) cs ∙ ap (λ (t : Tree). tree_after t cs) (changed_tree c h.present)

pub replay_jobs : (h : History) (cs : List Change) → (replay h cs).present.aside.fixed.ran ≡ jobs_after h.present.aside.fixed.ran cs
replay_jobs h [] = refl
replay_jobs h (c ∷ cs) =
    replay_jobs (grown (changed c) h) cs ∙ ap (λ (jobs : List Job). jobs_after jobs cs) (changed_jobs c h.present)

-- ---- what is passed

-- each moment on the way of the changes has P
abbrev pub Along : (Moment → Type 0) → Moment → List Change → Type 0
Along P m [] = P m
Along P m (c ∷ cs) = P m × Along P (changed c m) cs

along_start : (P : Moment → Type 0) (m : Moment) (cs : List Change) → Along P m cs → P m
along_start P m [] along = along
along_start P m (c ∷ cs) along = along.0

pub passes_one : (P : Moment → Type 0) (h : History) (change : Moment → Moment) → P h.present → P (change h.present) → Passes P h (grown change h)
passes_one P h change before after = record {
  since = h.present ∷ [];
  grown = refl;
  start = inr ([], refl);
  each = (before, tt);
  under = ([], refl);
  now = after;
}

pub passes_along : (P : Moment → Type 0) (h : History) (cs : List Change) → Along P h.present cs → Passes P h (replay h cs)
passes_along P h [] along = passes_none P h along
passes_along P h (c ∷ cs) along =
    passes_then P h (grown (changed c) h) (replay (grown (changed c) h) cs)
    (passes_one P h (changed c) along.0 (along_start P (changed c h.present) cs along.1))
    (passes_along P (grown (changed c) h) cs along.1)

-- ---- a clear

pub below_not_root : (at p : Path) → at ≢ [] → under at p ≡ true → p ≢ []
below_not_root [] p ne u s = ne refl
below_not_root (c ∷ at) p ne u s = true≢false (sym u ∙ ap (under (c ∷ at)) s)

pub is_cleared : (at : Path) (m : Moment) → at ≢ [] → IsCleared at (cleared at m)
is_cleared at m ne = record {
  gone = λ p u. item_gone m.tree (λ q. not (under at q)) p (below_not_root at p ne u) (not_from_true (under at p) u);
  settled = λ p u. ap (λ (b : Bool). not b && m.loose p) u;
}

clear_still : (at : Path) (m : Moment) → InClear at m m
clear_still at m = record {
  old_or_missing = λ p u. inl refl;
  firm = λ p u e. e;
  others = keeps_itself (under at) m;
}

clear_done : (at : Path) (m : Moment) → at ≢ [] → InClear at m (cleared at m)
clear_done at m ne = record {
  old_or_missing = λ p u. inr ((is_cleared at m ne).gone p u);
  firm = λ p u e. (is_cleared at m ne).settled p u;
  others = record {
    paths = record {
      items = λ p e. item_kept m.tree (λ q. not (under at q)) p (not_from_false (under at p) e);
      loose = λ p e. ap (λ (b : Bool). not b && m.loose p) e;
    };
    aside = stays_itself m.aside;
  };
}

-- ---- a call of one change

pub one_passes : {T E : Type 0} (r : Result T E) (P : Moment → Type 0) (change : Moment → Moment) (h h' : History) → P h.present → P (change h.present) → Makes r (grown change) IsSame h h' → Passes P h h'
one_passes (Ok x) P change h h' before after made = subst (λ (k : History). Passes P h k) (sym made) (passes_one P h change before after)
one_passes (Err x) P change h h' before after made = passes_same P h h' made before

pub one_left : {T E : Type 0} (r : Result T E) (P : Moment → Type 0) (change : Moment → Moment) (h h' : History) → P (change h.present) → Makes r (grown change) IsSame h h' → OnOk r (P h'.present)
one_left (Ok x) P change h h' after made = subst (λ (k : History). P k.present) (sym made) after
one_left (Err x) P change h h' after made = tt

pub makes_part : {T E : Type 0} (r : Result T E) (make : History → History) (Part : History → History → Type 0) (old new : History) → IsErr r → Part old new → Makes r make Part old new
makes_part (Ok x) make Part old new e part = absurd (false≢true e)
makes_part (Err x) make Part old new e part = part

-- ---- an answer that was counted

-- what the call made, where the call inside answered the same
pub makes_counted : {T E F : Type 0} (r : Result T E) (q : Result T F) (make : History → History) (Part : History → History → Type 0) (old new : History) → MatchResult r (λ value. q ≡ Ok value) (λ _. IsErr q) → Makes r make Part old new → Makes q make Part old new
makes_counted (Ok x) q make Part old new same made = subst (λ a. Makes a make Part old new) (sym same) made
makes_counted (Err e) (Ok x) make Part old new same made = absurd (false≢true same)
makes_counted (Err e) (Err f) make Part old new same made = made

later : (n : ℕ) → n ≤ risen n
later n = cond_both (nat_lt n (2 ^ 64 - 1)) (n + 1) n (λ k. n ≤ k) (λ _. omega arith) (λ _. omega arith)

rose : (n : ℕ) → Rose n (risen n)
rose n =
    cond_both (nat_lt n (2 ^ 64 - 1)) (n + 1) n (λ k. min (n + 1) (2 ^ 64 - 1) ≤ k) (λ _. omega arith)
    (λ e. grind (arith, e))

pub counted_cause : {T E : Type 0} (r : Result T E) (before now : Counts) → Counted r before now → HasCause (record { origin = []; count = before.failed }) (record { origin = []; count = now.failed }) r
counted_cause (Ok x) before now same = record {
  same = refl;
  later = subst (λ (c : Counts). before.failed ≤ c.failed) (sym same) (omega arith);
  cause = λ e. absurd (false≢true e);
}
counted_cause (Err x) before now more = record {
  same = refl;
  later = subst (λ (c : Counts). before.failed ≤ c.failed) (sym more) (later before.failed);
  cause = λ e. subst (λ (c : Counts). Rose before.failed c.failed) (sym more) (rose before.failed);
}

-- ---- a clear

pub clear_passes : {T E : Type 0} (r : Result T E) (at : Path) (h h' : History) → at ≢ [] → Makes r (grown (cleared at)) IsSame h h' → Passes (InClear at h.present) h h'
clear_passes r at h h' ne made = one_passes r (InClear at h.present) (cleared at) h h' (clear_still at h.present) (clear_done at h.present ne) made

pub clear_cleared : {T E : Type 0} (r : Result T E) (at : Path) (h h' : History) → at ≢ [] → Makes r (grown (cleared at)) IsSame h h' → OnOk r (IsCleared at h'.present)
clear_cleared r at h h' ne made = one_left r (IsCleared at) (cleared at) h h' (is_cleared at h.present ne) made
