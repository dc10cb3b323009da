-- The track files of a tree.
--     sources_parts           they are those that the walk has found, as they are read
--     sources_named           each has the path of a track file
--     sources_read            each is what the text at its path says
--     sources_ready           they can be recorded, where no file stands at `.dvc` and the lock can be read
use Rattle.std.proofs.Common.{◌≡◌, ℕ, Bool, true, false, cond, not, List, [], ◌∷◌, Option, Some, None, is_some, IsSome, Result, Ok, Err, refl, sym, ap, ◌∙◌, subst, inl, inr, bytes_eq, codes}
use Rattle.std.specs.Cmp.{IsStrictWeakOrder}
use Rattle.std.specs.List.{AllByRecursion}
use Rattle.std.specs.FinMap.{entries}
use Rattle.std.proofs.lemmas.Bool.{false≢true, or_from, and_parts, false_from_ne_true}
use Rattle.std.proofs.lemmas.Cmp.{nat_list_cmp_total}
use Rattle.std.proofs.lemmas.List.MinMax.{ranks_by}
use Rattle.dvc_base.specs.Path.{Path, path_text, under}
use Rattle.dvc_base.specs.declared.fault.Fault.{Fault}
use Rattle.dvc_base.proofs.PathLemmas.{under-refl, under-antisym, under-overlap}
use Rattle.world_api.specs.Tree.{Tree, Item, folder, file, IsTree, item_at}
use Rattle.world_api.specs.Calls.{parent}
use Rattle.world_api.specs.Layout.{dvc_path, lock_path}
use Rattle.world_api.specs.Writes.{IsNoFileAt, CanWrite}
use Rattle.world_api.proofs.TreeLemmas.{under_parent, parent_apart}
use Rattle.file_hash.proofs.OrderLemmas.{order_each}
use Rattle.lock_files.specs.Book.{Lock}
use Rattle.lock_files.specs.Read.{track_read}
use Rattle.lock_files.specs.declared.entry.Track.{Track}
use Rattle.lock_files.specs.declared.fault.LockFault.{LockFault}
use Rattle.stage_graph.specs.declared.track.TrackFile.{TrackFile}
use Rattle.workspace_files.specs.Read.{text_at, short_text, with_first}
use Rattle.workspace_files.specs.Tracks.{track_or, track_by_text, track_at, tracks_of}
use Rattle.workspace_files.specs.Walk.{is_tool_name, is_track_path, is_before, is_file_with, paths_with, track_files, found_in}
use Rattle.workspace_files.specs.Ignores.{ignores_fault}
use Rattle.workspace_files.specs.declared.search.Found.{Found}
use Rattle.repro_laws.specs.Headline.{IsApart}
use Rattle.repro_laws.specs.Moments.{is_own}
use Rattle.repro_laws.specs.Sound.{lock_by, lock_of}
use Rattle.repro_laws.proofs.SameLemmas.{bytes_same}
use Rattle.repro_laws.proofs.TurnDue.{stand_above}
use Rattle.stage_plan.specs.declared.sources.Sources.{Sources}
use Rattle.track_record.specs.Records.{AreOneOrApart, AreReady}
use Rattle.dvc_cli.specs.Sources.{sources_by, sources_with, sources_of}
use Rattle.dvc_cli.proofs.RecordLemmas.{track_apart}

-- ---- where they come from

pub record IsFoundAs (t : Tree) (sources : Sources) : Type 0 where
  pub found : Found
  pub walked : found_in t ≡ Ok found
  pub read : tracks_of t found.tracks ≡ Ok sources.tracks

err_is_ok : {A : Type 0} (fault : Fault) (a : A) → ◌≡◌ {A = Result A Fault} (Err fault) (Ok a) → ⊥
err_is_ok fault a e = cc

by_parts : (ignores : List Path) (fault : Option Fault) (tracks : Result (List TrackFile) Fault) (sources : Sources) → sources_by ignores fault tracks ≡ Ok sources → tracks ≡ Ok sources.tracks
by_parts ignores (Some fault) tracks sources e = absurd (err_is_ok fault sources e)
by_parts ignores None (Err fault) sources e = absurd (err_is_ok fault sources e)
by_parts ignores None (Ok tracks) sources e = ap Ok (same (record { tracks = tracks; ignores = ignores }) sources e)
  where
    same : (a b : Sources) → ◌≡◌ {A = Result Sources Fault} (Ok a) (Ok b) → a.tracks ≡ b.tracks
    same a b e = cc

with_parts : (t : Tree) (walked : Result Found Fault) (sources : Sources) → found_in t ≡ walked → sources_with t walked ≡ Ok sources → IsFoundAs t sources
with_parts t (Err fault) sources is e = absurd (err_is_ok fault sources e)
with_parts t (Ok found) sources is e = record {
  found = found;
  walked = is;
  read = by_parts found.ignores (ignores_fault t found.ignores) (tracks_of t found.tracks) sources e;
}

pub sources_parts : (t : Tree) (sources : Sources) → sources_of t ≡ Ok sources → IsFoundAs t sources
unfolding sources_of
sources_parts t sources e = with_parts t (found_in t) sources refl e

-- ---- their paths

abbrev Named : Path → Type 0
Named p = is_track_path p ≡ true

named_by_test : (test : Bool) (e : Path × Item) (rest : List (Path × Item)) → is_file_with is_track_path e ≡ test → AllByRecursion Named (paths_with is_track_path rest) → AllByRecursion Named (paths_with is_track_path (e ∷ rest))
named_by_test true e rest is h = rw is ((and_parts _ (is_track_path e.0) is).1, h)
named_by_test false e rest is h = rw is h

named_in : (es : List (Path × Item)) → AllByRecursion Named (paths_with is_track_path es)
named_in [] = tt
named_in (e ∷ es) = named_by_test (is_file_with is_track_path e) e es refl (named_in es)

weak : IsStrictWeakOrder is_before
weak = ranks_by nat_list_cmp_total path_text

named_by : (many : Bool) (t : Tree) (fault : Fault) (all found : Found) → all.tracks ≡ track_files t → cond many (Err fault) (Ok all) ≡ Ok found → AllByRecursion Named found.tracks
named_by true t fault all found is e = absurd (err_is_ok fault found e)
named_by false t fault all found is e =
    subst (AllByRecursion Named) (sym is ∙ same all found e) (order_each is_before weak Named (paths_with is_track_path (entries t)) (named_in (entries t)))
  where
    same : (a b : Found) → ◌≡◌ {A = Result Found Fault} (Ok a) (Ok b) → a.tracks ≡ b.tracks
    same a b e = cc

found_named : (t : Tree) (found : Found) → found_in t ≡ Ok found → AllByRecursion Named found.tracks
found_named t found e = named_by _ t _ _ found refl e

-- ---- what they say

record IsReadAs (t : Tree) (f : TrackFile) : Type 0 where
  text : List ℕ
  stands : item_at t f.file ≡ Some (file text)
  said : track_at f.file (item_at t f.file) ≡ Ok f

ok_same : {A : Type 0} (a b : A) → ◌≡◌ {A = Result A Fault} (Ok a) (Ok b) → a ≡ b
ok_same a b e = cc

first_parts : {A : Type 0} (a : Result A Fault) (rest : Result (List A) Fault) (all : List A) → with_first a rest ≡ Ok all → (x : A) × (xs : List A) × ((a ≡ Ok x) × ((rest ≡ Ok xs) × (all ≡ x ∷ xs)))
first_parts (Err fault) rest all e = absurd (err_is_ok fault all e)
first_parts (Ok x) (Err fault) all e = absurd (err_is_ok fault all e)
first_parts (Ok x) (Ok xs) all e = (x, xs, (refl, (refl, sym (ok_same (x ∷ xs) all e))))

-- the track file at a path has that path
or_file : (at : Path) (read : Result Track LockFault) (f : TrackFile) → track_or at read ≡ Ok f → f.file ≡ at
or_file at (Ok track) f e = sym (ap (λ (x : TrackFile). x.file) (ok_same (record { file = at; track = track }) f e))
or_file at (Err why) f e = absurd (err_is_ok _ f e)

text_file : (at : Path) (text : Result (Option (List ℕ)) Fault) (f : TrackFile) → track_by_text at text ≡ Ok f → f.file ≡ at
text_file at (Ok None) f e = absurd (err_is_ok _ f e)
text_file at (Ok (Some text)) f e = or_file at (track_read text) f e
text_file at (Err fault) f e = absurd (err_is_ok fault f e)

read_as : (t : Tree) (at : Path) (item : Option Item) (f : TrackFile) → item_at t at ≡ item → track_at at item ≡ Ok f → IsReadAs t f
read_as t at None f is e = absurd (err_is_ok _ f e)
read_as t at (Some folder) f is e = absurd (err_is_ok _ f e)
read_as t at (Some (file text)) f is e =
    let here : f.file ≡ at = text_file at (short_text text) f e in
    record {
      text = text;
      stands = ap (item_at t) here ∙ is;
      said = ap (λ (p : Path). track_at p (item_at t p)) here ∙ ap (track_at at) is ∙ e;
    }

all_read : (t : Tree) (ps : List Path) (fs : List TrackFile) → tracks_of t ps ≡ Ok fs → AllByRecursion (IsReadAs t) fs
all_read t [] fs e = subst (AllByRecursion (IsReadAs t)) (ok_same [] fs e) tt
all_read t (p ∷ ps) fs e =
    let parts = first_parts (track_at p (item_at t p)) (tracks_of t ps) fs e in
    subst (AllByRecursion (IsReadAs t)) (sym parts.2.1.1)
    (read_as t p (item_at t p) parts.0 refl parts.2.0, all_read t ps parts.1 parts.2.1.0)

all_named : (t : Tree) (ps : List Path) (fs : List TrackFile) → tracks_of t ps ≡ Ok fs → AllByRecursion Named ps → AllByRecursion (λ f. is_track_path f.file ≡ true) fs
all_named t [] fs e h = subst (AllByRecursion (λ (f : TrackFile). is_track_path f.file ≡ true)) (ok_same [] fs e) tt
all_named t (p ∷ ps) fs e h =
    let parts = first_parts (track_at p (item_at t p)) (tracks_of t ps) fs e in
    let here : parts.0.file ≡ p = text_file p (text_at p (item_at t p)) parts.0 parts.2.0 in
    subst (AllByRecursion (λ (f : TrackFile). is_track_path f.file ≡ true)) (sym parts.2.1.1)
    (ap is_track_path here ∙ h.0, all_named t ps parts.1 parts.2.1.0 h.1)

pub sources_named : (t : Tree) (sources : Sources) → sources_of t ≡ Ok sources → AllByRecursion (λ f. is_track_path f.file ≡ true) sources.tracks
sources_named t sources e =
    let parts = sources_parts t sources e in
    let found = parts.found in
    all_named t found.tracks sources.tracks parts.read (found_named t found parts.walked)

-- ---- they can be recorded

lock_above : (p : Path) → is_track_path p ≡ true → under p lock_path ≡ false
unfolding lock_path
lock_above p named = track_apart (codes "dvc.lock") refl p named

dvc_above : (p : Path) → is_track_path p ≡ true → under p dvc_path ≡ false
unfolding dvc_path
dvc_above p named = track_apart (codes ".dvc") refl p named

-- what lies in `.dvc` is left out
pub dvc_below : (p : Path) → is_track_path p ≡ true → under dvc_path p ≡ false
unfolding dvc_path
dvc_below [] named = refl
dvc_below (c ∷ p) named = false_from_ne_true (under (codes ".dvc" ∷ []) (c ∷ p)) (λ u. clash (and_parts (bytes_eq (codes ".dvc") c) true u).0)
  where
    clash : bytes_eq (codes ".dvc") c ≡ true → ⊥
    clash e = false≢true (sym (subst (λ (x : List ℕ). not (is_tool_name x) ≡ false) (bytes_same (codes ".dvc") c e) refl) ∙ (and_parts (not (is_tool_name c)) _ named).0)

-- what lies at or below a path that is apart from another
far_of : (kept p q : Path) → under p q ≡ true → under kept p ≡ false → under p kept ≡ false → under kept q ≡ false
far_of kept p q below a b =
    false_from_ne_true (under kept q) (λ u. false≢true (sym (or_from (under kept p) (under p kept) a b) ∙ under-overlap kept p q u below))

no_parent : (p : Path) → is_track_path p ≡ true → parent p ≡ p → ⊥
no_parent [] named e = false≢true named
no_parent (c ∷ p) named e =
    false≢true (sym (parent_apart (c ∷ p) (λ x. absurd (cc))) ∙ (ap (under (c ∷ p)) e ∙ under-refl (c ∷ p)))

module _ (t : Tree) (tree : IsTree t) (lock : Lock) (place : IsNoFileAt t dvc_path) (read : lock_of t ≡ Some lock) where
  file_folder : (text : List ℕ) → Some (file text) ≡ Some folder → ⊥
  file_folder text e = absurd (cc)

  no_lock_folder : item_at t lock_path ≡ Some folder → ⊥
  no_lock_folder e = none_is_some (sym (ap lock_by e) ∙ read)
    where
      none_is_some : None ≡ Some lock → ⊥
      none_is_some e = cc

  some_there : (f : TrackFile) → IsReadAs t f → IsSome (item_at t f.file)
  some_there f is = ap is_some is.stands

  -- no folder stands at `dvc.lock`, so nothing lies below it
  far_lock : (f : TrackFile) → IsReadAs t f → under f.file lock_path ≡ false → under lock_path f.file ≡ false
  far_lock f is above =
      false_from_ne_true (under lock_path f.file)
      (λ u. no_lock_folder (stand_above t tree lock_path f.file u (λ e. false≢true (sym above ∙ (ap (λ (p : Path). under p lock_path) (sym e) ∙ under-refl lock_path))) (some_there f is)))

  apart : (f : TrackFile) → is_track_path f.file ≡ true → IsReadAs t f → IsApart is_own f.file
  apart f named is q below =
      let no_lock = lock_above f.file named in
      or_from (under dvc_path q) (under lock_path q)
      (far_of dvc_path f.file q below (dvc_below f.file named) (dvc_above f.file named))
      (far_of lock_path f.file q below (far_lock f is no_lock) no_lock)

  room : (f : TrackFile) → is_track_path f.file ≡ true → IsReadAs t f → CanWrite f.file t
  room f named is = record {
    room = record {
      above = stand_above t tree (parent f.file) f.file (under_parent f.file) (λ e. no_parent f.file named e) (some_there f is);
      no_folder = λ e. file_folder is.text (sym is.stands ∙ e);
    };
    no_file = place;
  }

  -- a file lies below no other
  not_below : (f g : TrackFile) → IsReadAs t f → IsReadAs t g → under f.file g.file ≡ true → under g.file f.file ≡ false → ⊥
  not_below f g isf isg u far =
      file_folder isf.text (sym isf.stands ∙ stand_above t tree f.file g.file u (λ e. false≢true (sym far ∙ (ap (λ (p : Path). under p f.file) (sym e) ∙ under-refl f.file))) (some_there g isg))

  -- one path has one track file
  one : (f g : TrackFile) → IsReadAs t f → IsReadAs t g → f.file ≡ g.file → g ≡ f
  one f g isf isg e =
      ok_same g f (sym isg.said ∙ (sym (ap (λ (p : Path). track_at p (item_at t p)) e) ∙ isf.said))

  one_or_apart : (f g : TrackFile) → IsReadAs t f → IsReadAs t g → AreOneOrApart f g
  one_or_apart f g isf isg = by (under f.file g.file) (under g.file f.file) refl refl
    where
      by : (a b : Bool) → under f.file g.file ≡ a → under g.file f.file ≡ b → AreOneOrApart f g
      by true true u v = inl (one f g isf isg (under-antisym f.file g.file u v))
      by true false u v = absurd (not_below f g isf isg u v)
      by false true u v = absurd (not_below g f isg isf v u)
      by false false u v = inr (or_from (under f.file g.file) (under g.file f.file) u v)

  each_room : (fs : List TrackFile) → AllByRecursion (λ f. is_track_path f.file ≡ true) fs → AllByRecursion (IsReadAs t) fs → AllByRecursion (λ f. IsApart is_own f.file) fs × AllByRecursion (λ f. CanWrite f.file t) fs
  each_room [] named is = (tt, tt)
  each_room (f ∷ fs) named is =
      let rest = each_room fs named.1 is.1 in
      ((apart f named.0 is.0, rest.0), (room f named.0 is.0, rest.1))

  each_beside : (f : TrackFile) (fs : List TrackFile) → IsReadAs t f → AllByRecursion (IsReadAs t) fs → AllByRecursion (AreOneOrApart f) fs
  each_beside f [] isf is = tt
  each_beside f (g ∷ fs) isf is = (one_or_apart f g isf is.0, each_beside f fs isf is.1)

  each_pair : (fs gs : List TrackFile) → AllByRecursion (IsReadAs t) fs → AllByRecursion (IsReadAs t) gs → AllByRecursion (λ f. AllByRecursion (AreOneOrApart f) gs) fs
  each_pair [] gs isf isg = tt
  each_pair (f ∷ fs) gs isf isg = (each_beside f gs isf.0 isg, each_pair fs gs isf.1 isg)

  pub sources_ready : (sources : Sources) → sources_of t ≡ Ok sources → AreReady sources.tracks t
  sources_ready sources e =
      let parts = sources_parts t sources e in
      let found = parts.found in
      let named = sources_named t sources e in
      let is = all_read t found.tracks sources.tracks parts.read in
      let room = each_room sources.tracks named is in
      record { apart = room.0; room = room.1; each = each_pair sources.tracks sources.tracks is is }
