-- The record of track files: what may be touched, and what is left.
--     AreTracked fs          what track files have to be, in every tree
--     AreReady fs t          what they have to be in a tree
--     InRecords fs m n       each moment while they are recorded
--     AreRecorded fs m n     all of them are recorded
--     .._kinds               which faults may come
use Rattle.std.specs.Prelude.{◌≡◌, ◌⊎◌, ℕ, Bool, true, false, ◌||◌, List, ◌∷◌, [], Option, Some, None, IsTrue, ⊤}
use Rattle.std.specs.List.{AllByRecursion, list_any}
use Rattle.dvc_base.specs.Path.{Path, under, overlap}
use Rattle.dvc_base.specs.Name.{ObjectName}
use Rattle.dvc_base.specs.Limits.{limit_of}
use Rattle.dvc_base.specs.Fault.{is_free}
use Rattle.dvc_base.specs.declared.fault.Fault.{Fault}
use Rattle.dvc_base.specs.declared.fault.Fault.TheVariants.{MissingSource, NotFolder, Changed, TooLarge}
use Rattle.dvc_base.specs.declared.fault.FaultKind.{FaultKind}
use Rattle.dvc_base.specs.declared.fault.FaultKind.TheVariants as k
use Rattle.world_api.specs.Tree.{Tree, item_at, value_at}
use Rattle.world_api.specs.History.{Moment, Keeps}
use Rattle.world_api.specs.Writes.{IsMade, IsSameUnder, IsNewFile, IsNoScratch, CanWrite}
use Rattle.lock_files.specs.Form.{IsTrack}
use Rattle.object_cache.specs.Objects.{object_path, object_at, is_stored}
use Rattle.object_cache.specs.Store.{shelf_path, is_cache_folder, IsKeptPlace}
use Rattle.stage_graph.specs.declared.track.TrackFile.{TrackFile}
use Rattle.repro_laws.specs.Headline.{IsApart}
use Rattle.repro_laws.specs.Moments.{is_own}
use Rattle.repro_core.specs.Steps.{in_stored}
use Rattle.track_record.specs.Sources.{source_paths, all_sources, is_same, text_now, file_now}

-- ---- what is asked

-- no out lies at or round a track file, or overlaps what the tool keeps
pub record AreTracked (fs : List TrackFile) : Type 0 where
  pub form : AllByRecursion (λ f. IsTrack f.track) fs
  pub files : AllByRecursion (λ f. IsNoScratch f.file) fs
  pub outs : AllByRecursion (IsApart is_own) (all_sources fs)
  pub far : AllByRecursion (λ f. AllByRecursion (λ p. overlap f.file p ≡ false) (all_sources fs)) fs

-- two track files stand apart, or are one
abbrev pub AreOneOrApart : TrackFile → TrackFile → Type 0
AreOneOrApart f g = (g ≡ f) ⊎ (overlap f.file g.file ≡ false)

pub record AreReady (fs : List TrackFile) (t : Tree) : Type 0 where
  pub apart : AllByRecursion (λ f. IsApart is_own f.file) fs
  pub room : AllByRecursion (λ f. CanWrite f.file t) fs
  pub each : AllByRecursion (λ f. AllByRecursion (AreOneOrApart f) fs) fs

-- ---- moments

abbrev pub in_files : List TrackFile → Path → Bool
in_files fs p = list_any (λ f. under f.file p) fs

-- what stood at each out in t is whole in the cache of u
abbrev pub AreHeld : Tree → Tree → TrackFile → Type 0
AreHeld t u f = AllByRecursion (λ p. is_stored u (value_at t p) ≡ true) (source_paths f)

-- the file has its new text, and what it names is in the cache
pub record IsPublished (t : Tree) (f : TrackFile) (n : Moment) : Type 0 where
  pub differs : is_same t f ≡ false
  pub text : IsNewFile f.file (text_now t f) n
  pub held : AreHeld t n.tree f

-- each track file is as it was, or has its new text, whose outs are in the cache; objects are put, and all else is as it was
pub record InRecords (fs : List TrackFile) (m n : Moment) : Type 0 where
  pub files : AllByRecursion (λ f. IsSameUnder f.file m n ⊎ IsPublished m.tree f n) fs
  pub folders : (p : Path) → is_cache_folder p ≡ true → IsMade p m n
  pub places : (name : ObjectName) → IsKeptPlace (object_path name) m n
  pub objects : (name : ObjectName) (bytes : List ℕ) → object_at m.tree name ≡ Some bytes → object_at n.tree name ≡ Some bytes
  pub others : Keeps (λ p. in_files fs p || in_stored p) m n

pub record AreRecorded (fs : List TrackFile) (m n : Moment) : Type 0 where
  pub files : AllByRecursion (λ f. item_at n.tree f.file ≡ file_now m.tree f) fs
  pub held : AllByRecursion (AreHeld m.tree n.tree) fs
  pub during : InRecords fs m n

-- ---- over any world

abbrev pub source_kinds : List FaultKind
source_kinds = k.NoMemory ∷ k.WorldFault ∷ k.MissingSource ∷ k.NotInCache ∷ k.NotFolder ∷ k.TooLarge ∷ k.Changed ∷ []

-- what a refusal tells of: an out, what lies in it, or the cache
abbrev pub TellsSource : Path → Option Fault → Type 0
TellsSource p (Some (MissingSource path)) = path ≡ p
TellsSource p (Some (NotFolder path)) = is_cache_folder path ≡ true
TellsSource p (Some (Changed path told found)) = (under p path ≡ true) ⊎ (under shelf_path path ≡ true)
TellsSource p (Some (TooLarge what limit)) = limit ≡ limit_of what
TellsSource p _ = ⊤

-- the same of one of some outs. A free refusal tells of none of them, and so may come without outs
abbrev pub TellsOfSource : List Path → Option Fault → Type 0
TellsOfSource [] None = ⊤
TellsOfSource [] (Some fault) = IsTrue (is_free fault)
TellsOfSource (p ∷ ps) got = TellsSource p got ⊎ TellsOfSource ps got
