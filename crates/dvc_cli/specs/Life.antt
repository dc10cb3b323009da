-- What may happen to a workspace: edits, commands and stops, in any order.
--     IsReached book effect n     the moment may be reached; the book has what the commands until then met
--     LivesAreSound               each moment that may be reached is sound
--     CoversCommand               the book has what a command met, from its start to its end
--     ToldBooksDo                 the book that a world tells is one that the headline's premise asks for, where it covers the command
-- One book stands for a whole life: it has one content under each digest.
use Rattle.std.specs.Prelude.{◌≡◌, ℕ, false, List, Option, Some, None}
use Rattle.std.specs.List.{AllByRecursion}
use Rattle.dvc_base.specs.Path.{Path}
use Rattle.dvc_base.specs.Name.{ObjectName}
use Rattle.world_api.specs.Tree.{item_at}
use Rattle.world_api.specs.Effect.{Effect}
use Rattle.world_api.specs.History.{Moment, Book}
use Rattle.world_api.specs.Layout.{lock_path}
use Rattle.object_cache.specs.Objects.{object_at}
use Rattle.repro_laws.specs.Book.{IsIn}
use Rattle.repro_laws.specs.Headline.{Covers}
use Rattle.repro_laws.specs.Sound.{IsSound, IsImage, IsMetSince}
use Rattle.dvc_cli.specs.declared.words.Request.{Request}
use Rattle.dvc_cli.specs.Command.{Work, work_due, IsReliable, InCommand}

-- nothing is remembered, and all that stands there is on the disk
pub record IsFresh (n : Moment) : Type 0 where
  pub none : item_at n.tree lock_path ≡ None
  pub firm : (p : Path) → n.loose p ≡ false

-- an edit leaves the lock as it is, and makes nothing loose that the tool relies upon
pub record IsEdit (m n : Moment) : Type 0 where
  pub lock : item_at n.tree lock_path ≡ item_at m.tree lock_path
  pub firm : (p : Path) → m.loose p ≡ false → n.loose p ≡ false

-- a stop leaves an image of the moment, and all of that is on the disk
pub record IsStop (m n : Moment) : Type 0 where
  pub image : IsImage m n.tree
  pub firm : (p : Path) → n.loose p ≡ false

-- what a command read and wrote, from its start to its end, is in the book: no two contents met share an MD5
pub record IsMet (request : Option Request) (book : Book) (m end : Moment) : Type 0 where
  pub met : (w : Work) → work_due request m.tree ≡ Some w → IsMetSince book w.stages m end

pub data IsReached (book : Book) (effect : Effect) : Moment → Type 0 where
  fresh : (n : Moment) → IsFresh n → IsReached book effect n
  edited : (m n : Moment) → IsReached book effect m → IsEdit m n → IsReached book effect n
  commanded : (request : Option Request) (m end n : Moment) → IsReached book effect m → IsMet request book m end → InCommand request effect m end n → IsReached book effect n
  stopped : (m n : Moment) → IsReached book effect m → IsStop m n → IsReached book effect n

abbrev pub LivesAreSound : Type 0
LivesAreSound = (book : Book) (effect : Effect) (n : Moment) → IsReached book effect n → IsSound book effect n

-- ---- the book that a world tells

-- no two contents that the command met share an MD5: the book has the values that the chosen stages name as they stand at the start,
-- and at the end those of each one whose job has run or whose entry is its present one; and each object that is whole there
pub record CoversCommand (request : Option Request) (book : Book) (m n : Moment) : Type 0 where
  pub before : (w : Work) → work_due request m.tree ≡ Some w → AllByRecursion (Covers book m.tree) w.stages
  pub objects_before : (name : ObjectName) (bytes : List ℕ) → object_at m.tree name ≡ Some bytes → IsIn book bytes
  pub after : (w : Work) → work_due request m.tree ≡ Some w → IsMetSince book w.stages m n
  pub objects_after : (name : ObjectName) (bytes : List ℕ) → object_at n.tree name ≡ Some bytes → IsIn book bytes

abbrev pub ToldBooksDo : Type 0
ToldBooksDo =
    (request : Option Request) (effect : Effect) (m n : Moment)
    → IsSound n.aside.book effect m → CoversCommand request n.aside.book m n → IsReliable request effect m n
