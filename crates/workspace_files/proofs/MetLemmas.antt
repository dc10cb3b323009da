-- What a walk has met, entry by entry.
--     walks_then                             more entries
--     passes_on, passes_more, passes_then    entries that pass the limit, with others before or behind them
--     walks_left, left_below                 entries that are left out
--     visit_file                             a visit of a file
--     caused_then                            no failure in one more step
--     from_nothing                           a walk that begins with empty lists
use Rattle.std.proofs.Common.{◌≡◌, ℕ, ◌+◌, ◌≤◌, Bool, true, false, not, ◌&&◌, cond, List, [], ◌∷◌, ◌++◌, length, map, filter, refl, sym, ap, ◌∙◌, subst, arith, append_assoc, Option, Some, None}
use Rattle.std.specs.Prelude.{bytes_eq, nat_lt}
use Rattle.std.specs.List.{AllByRecursion}
use Rattle.std.proofs.lemmas.Bool.{false≢true, and_parts}
use Rattle.std.proofs.lemmas.List.{append-nil, map-append}
use Rattle.std.proofs.lemmas.List.Elements.{filter-append}
use Rattle.std.proofs.lemmas.List.Sums.{sum_by-append, sum_by-cons}
use Rattle.std.proofs.lemmas.Slice.Eq.{bytes_eq-Decides}
use Rattle.dvc_base.specs.Path.{Path, under, is_within}
use Rattle.dvc_base.specs.Limits.{limit_of}
use Rattle.dvc_base.specs.declared.limits.What.TheVariants as w
use Rattle.world_api.specs.Tree.{Item, folder, file}
use Rattle.world_api.specs.Calls.{kind_of}
use Rattle.world_api.specs.History.{Faults, IsCaused}
use Rattle.world_api.specs.declared.files.Kind.TheVariants.{File}
use Rattle.file_hash.specs.Walk.{below}
use Rattle.workspace_files.specs.Walk.{is_tool_name, is_left_out, is_ignore_name, is_track_name, has_name, is_ignore_path, is_track_path, is_file, is_file_with, paths_with, is_seen, seen_in}
use Rattle.workspace_files.specs.Met.{Walks, Passes, IsAdded, IsVisit, nothing_met}
use Rattle.workspace_files.specs.declared.walk.Met.{Met}
use Rattle.workspace_files.proofs.TreeOrder.{Entry}

-- ---- lists

paths-append : (test : Path → Bool) (es fs : List Entry) → paths_with test (es ++ fs) ≡ paths_with test es ++ paths_with test fs
paths-append test es fs =
    ap (map (λ (e : Entry). e.0)) (filter-append (is_file_with test) es fs)
    ∙ map-append (λ (e : Entry). e.0) (filter (is_file_with test) es) (filter (is_file_with test) fs)

seen-append : (es fs : List Entry) → seen_in (es ++ fs) ≡ seen_in es + seen_in fs
seen-append es fs = sum_by-append (λ (e : Entry). cond (is_seen e) 1 0) es fs

-- ---- walks

pub walks_then : (es fs : List Entry) (a b c : Met) → Walks es a b → Walks fs b c → Walks (es ++ fs) a c
walks_then es fs a b c h k =
    record {
      within = k.within;
      seen = omega (arith, k.seen, h.seen, seen-append es fs);
      ignores =
          k.ignores ∙ ap (λ x. x ++ paths_with is_ignore_path fs) h.ignores ∙ append_assoc a.ignores (paths_with is_ignore_path es) (paths_with is_ignore_path fs)
          ∙ ap (λ x. a.ignores ++ x) (sym (paths-append is_ignore_path es fs));
      tracks =
          k.tracks ∙ ap (λ x. x ++ paths_with is_track_path fs) h.tracks ∙ append_assoc a.tracks (paths_with is_track_path es) (paths_with is_track_path fs)
          ∙ ap (λ x. a.tracks ++ x) (sym (paths-append is_track_path es fs));
    }

-- entries that pass the limit, behind those that were walked
pub passes_on : (es fs gs : List Entry) (a b : Met) → Walks es a b → Passes fs b → Passes (es ++ (fs ++ gs)) a
passes_on es fs gs a b h p = omega (arith, h.seen, p, seen-append es (fs ++ gs), seen-append fs gs)

pub passes_more : (es fs : List Entry) (a : Met) → Passes es a → Passes (es ++ fs) a
passes_more es fs a p = omega (arith, p, seen-append es fs)

pub passes_then : (es fs : List Entry) (a b : Met) → Walks es a b → Passes fs b → Passes (es ++ fs) a
passes_then es fs a b h p = omega (arith, p, h.seen, seen-append es fs)

-- ---- what is left out

pub left_under : (q p : Path) → is_left_out q ≡ true → under q p ≡ true → is_left_out p ≡ true
left_under [] p h u = absurd (false≢true h)
left_under (c ∷ q) [] h u = absurd (false≢true u)
left_under (c ∷ q) (d ∷ p) h u =
    let parts = and_parts (bytes_eq c d) (under q p) u in
    subst (λ (x : List ℕ). is_tool_name x ≡ true) ((bytes_eq-Decides c d).0 parts.0) h

abbrev pub AreLeft : List Entry → Type 0
AreLeft es = AllByRecursion (λ e. is_left_out e.0 ≡ true) es

left_by : (b : Bool) (e : Entry) (es : List Entry) → (b ≡ true → is_left_out e.0 ≡ true) → AreLeft es → AreLeft (cond b (e ∷ es) es)
left_by true e es f h = (f refl, h)
left_by false e es f h = h

pub left_below : (q : Path) (es : List Entry) → is_left_out q ≡ true → AreLeft (below q es)
left_below q [] h = tt
left_below q (e ∷ es) h =
    left_by (is_within e.0 q) e (below q es)
    (λ u. left_under q e.0 h (and_parts (under q e.0) (nat_lt (length q) (length e.0)) u).0) (left_below q es h)

left_seen : (es : List Entry) → AreLeft es → seen_in es ≡ 0
left_seen [] h = refl
left_seen (e ∷ es) h =
    sum_by-cons (λ (e : Entry). cond (is_seen e) 1 0) e es ∙ ap (λ b. cond (not b) 1 0 + seen_in es) h.0 ∙ zero_more (seen_in es) ∙ left_seen es h.1
  where
    zero_more : (n : ℕ) → 0 + n ≡ n
    zero_more n = omega arith

both_false : (a b : Bool) → b ≡ false → (a && b) ≡ false
both_false true b h = h
both_false false b h = refl

left_paths : (test : Path → Bool) → ((p : Path) → is_left_out p ≡ true → test p ≡ false) → (es : List Entry) → AreLeft es → paths_with test es ≡ []
left_paths test never [] h = refl
left_paths test never (e ∷ es) h =
    ap (λ b. map (λ (e : Entry). e.0) (cond b (e ∷ filter (is_file_with test) es) (filter (is_file_with test) es))) (both_false (is_file e.1) (test e.0) (never e.0 h.0))
    ∙ left_paths test never es h.1

no_ignore : (p : Path) → is_left_out p ≡ true → is_ignore_path p ≡ false
no_ignore p h = ap (λ b. not b && has_name is_ignore_name p) h

no_track : (p : Path) → is_left_out p ≡ true → is_track_path p ≡ false
no_track p h = ap (λ b. not b && has_name is_track_name p) h

pub walks_left : (es : List Entry) (m : Met) → AreLeft es → m.seen ≤ limit_of w.Paths → Walks es m m
walks_left es m h l =
    record {
      within = l;
      seen = omega (arith, left_seen es h);
      ignores = sym (append-nil m.ignores) ∙ ap (λ x. m.ignores ++ x) (sym (left_paths is_ignore_path no_ignore es h));
      tracks = sym (append-nil m.tracks) ∙ ap (λ x. m.tracks ++ x) (sym (left_paths is_track_path no_track es h));
    }

-- ---- a visit

pub visit_file : (q : Path) (item : Option Item) (size : ℕ) (a b : Met) → File size ≡ kind_of item → IsAdded q a b → IsVisit q item a b None
visit_file q None size a b e h = absurd (cc)
visit_file q (Some folder) size a b e h = absurd (cc)
visit_file q (Some (file bytes)) size a b e h = record { walked = h.walked bytes; next = tt }

-- a step of a loop that goes on
pub caused_then : (a b c : Faults) → IsCaused a b ⊥ → c.origin ≡ b.origin → b.count ≤ c.count → IsCaused a c ⊥
caused_then a b c h same later = record { same = same ∙ h.same; later = omega (arith, h.later, later); cause = λ none. absurd none }

pub from_nothing : (P : Met → Type 0) (is ts : List Path) → is ≡ [] → ts ≡ [] → P (record { ignores = is; tracks = ts; seen = 0 }) → P nothing_met
from_nothing P is ts no_ignores no_tracks h =
    subst (λ (xs : List Path). P (record { ignores = []; tracks = xs; seen = 0 })) no_tracks
    (subst (λ (xs : List Path). P (record { ignores = xs; tracks = ts; seen = 0 })) no_ignores h)
