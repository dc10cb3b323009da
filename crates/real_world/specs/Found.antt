-- What an error tells of a path.
--     SaysMissing e      nothing stands at the path: it is missing, a file stands above it, or a name in it is too long to be one
--     SaysTaken e        something stands at the path already
--     SaysMemory e       memory ran out
use Rattle.std.specs.Prelude.{◌≡◌, ◌⊎◌}
use Rattle.std.specs.IoError.{error_kind}
use Rattle.std.specs.declared.io.Error.{Error}
use Rattle.std.specs.declared.io.ErrorKind.TheVariants.{NotFound, NotADirectory, InvalidFilename, AlreadyExists, OutOfMemory}

abbrev pub SaysMissing : Error → Type 0
SaysMissing e = (error_kind e ≡ NotFound) ⊎ (error_kind e ≡ NotADirectory) ⊎ (error_kind e ≡ InvalidFilename)

abbrev pub SaysTaken : Error → Type 0
SaysTaken e = error_kind e ≡ AlreadyExists

abbrev pub SaysMemory : Error → Type 0
SaysMemory e = error_kind e ≡ OutOfMemory
