-- The places of objects, where objects of some names are stored.
--     kept_place_of     each is as it was, or has a new object that is whole, or a folder that gives way
use Rattle.std.proofs.Common.{List, ◌++◌, take, drop, inl, inr}
use Rattle.dvc_base.specs.Path.{Path}
use Rattle.dvc_base.specs.Name.{ObjectName, ending_of}
use Rattle.world_api.specs.History.{Moment}
use Rattle.object_cache.specs.Objects.{object_path}
use Rattle.object_cache.specs.Store.{IsKeptPlace, IsStoredPlace, InStore}

kept_of : (names : List ObjectName) (p : Path) (m n : Moment) → IsStoredPlace names p m n → IsKeptPlace p m n
kept_of names p m n (inl same) = inl same
kept_of names p m n (inr new) = new.1

pub kept_place_of : (names : List ObjectName) (m n : Moment) (name : ObjectName) → InStore names m n → IsKeptPlace (object_path name) m n
kept_place_of names m n name stored =
    kept_of names (object_path name) m n (stored.places (take 2 name.digits) (drop 2 name.digits ++ ending_of name.dir))
