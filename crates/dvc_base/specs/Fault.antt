-- Faults: their kinds, the exit status of each, and the text that tells it.
--     kind_of fault              the fault without what it carries
--     MayBe kinds answer         Ok, or a fault of one of the kinds
--     IsHonest tells answer      what a fault carries beside its place is so
--     status_of                  the exit status
--     wording_of, text_of        the words with what the fault carries between them, and the text that they give
use Rattle.std.specs.Prelude.{◌≡◌, ◌≢◌, ℕ, pos, Bool, true, false, List, [], ◌∷◌, ◌++◌, Option, Some, None, IsTrue, ◌==◌, codes, ⊤, if◌then◌else◌}
use Rattle.std.specs.List.{list_any}
use Rattle.std.specs.Fmt.{decimal, signed_decimal}
use Rattle.dvc_base.specs.Path.{Path, path_text, is_one}
use Rattle.dvc_base.specs.Name.{ending_of}
use Rattle.dvc_base.specs.FaultParts.{walk_text, line_of, word_of, Wording, plain, with_one, with_two, with_three, spelled}
use Rattle.dvc_base.specs.declared.fault.Fault.{Fault}
use Rattle.dvc_base.specs.declared.fault.Fault.TheVariants as f
use Rattle.dvc_base.specs.declared.fault.FaultKind.{FaultKind}
use Rattle.dvc_base.specs.declared.fault.FaultKind.TheVariants as k

-- ---- kinds

abbrev pub kind_of : Fault → FaultKind
kind_of f.NoMemory = k.NoMemory
kind_of f.BadWords = k.BadWords
kind_of f.NotRepo = k.NotRepo
kind_of f.AlreadyRepo = k.AlreadyRepo
kind_of f.ScmLeftOut = k.ScmLeftOut
kind_of (f.BadConfig _) = k.BadConfig
kind_of (f.Yaml _ _) = k.Yaml
kind_of (f.Schema _ _) = k.Schema
kind_of (f.Unsupported _ _) = k.Unsupported
kind_of (f.Legacy _) = k.Legacy
kind_of (f.IgnoreRules _) = k.IgnoreRules
kind_of (f.NoVariable _) = k.NoVariable
kind_of (f.NotScalar _) = k.NotScalar
kind_of (f.NoKey _ _) = k.NoKey
kind_of (f.NoFile _) = k.NoFile
kind_of (f.Outside _ _) = k.Outside
kind_of (f.Reserved _ _) = k.Reserved
kind_of (f.Duplicate _ _ _) = k.Duplicate
kind_of (f.Overlap _ _) = k.Overlap
kind_of (f.VarsFromOutput _ _) = k.VarsFromOutput
kind_of (f.Cycle _) = k.Cycle
kind_of (f.NoStage _) = k.NoStage
kind_of (f.MissingSource _) = k.MissingSource
kind_of (f.MissingDependency _ _) = k.MissingDependency
kind_of (f.CommandFailed _ _) = k.CommandFailed
kind_of (f.MissingOutput _ _) = k.MissingOutput
kind_of (f.NotInCache _ _) = k.NotInCache
kind_of (f.Unsaved _) = k.Unsaved
kind_of (f.NotFolder _) = k.NotFolder
kind_of (f.NeedsForce _) = k.NeedsForce
kind_of (f.NoRemote _) = k.NoRemote
kind_of (f.UnknownListing _) = k.UnknownListing
kind_of (f.NotMoved _ _ _) = k.NotMoved
kind_of (f.Changed _ _ _) = k.Changed
kind_of (f.TooLarge _ _) = k.TooLarge
kind_of f.WorldFault = k.WorldFault
kind_of f.OutFault = k.OutFault

-- kinds are told apart by their places in the list of all
abbrev pub place_of_kind : FaultKind → ℕ
place_of_kind k.NoMemory = 0
place_of_kind k.BadWords = 1
place_of_kind k.NotRepo = 2
place_of_kind k.AlreadyRepo = 3
place_of_kind k.ScmLeftOut = 4
place_of_kind k.BadConfig = 5
place_of_kind k.Yaml = 6
place_of_kind k.Schema = 7
place_of_kind k.Unsupported = 8
place_of_kind k.Legacy = 9
place_of_kind k.IgnoreRules = 10
place_of_kind k.NoVariable = 11
place_of_kind k.NotScalar = 12
place_of_kind k.NoKey = 13
place_of_kind k.NoFile = 14
place_of_kind k.Outside = 15
place_of_kind k.Reserved = 16
place_of_kind k.Duplicate = 17
place_of_kind k.Overlap = 18
place_of_kind k.VarsFromOutput = 19
place_of_kind k.Cycle = 20
place_of_kind k.NoStage = 21
place_of_kind k.MissingSource = 22
place_of_kind k.MissingDependency = 23
place_of_kind k.CommandFailed = 24
place_of_kind k.MissingOutput = 25
place_of_kind k.NotInCache = 26
place_of_kind k.Unsaved = 27
place_of_kind k.NotFolder = 28
place_of_kind k.NeedsForce = 29
place_of_kind k.NoRemote = 30
place_of_kind k.UnknownListing = 31
place_of_kind k.NotMoved = 32
place_of_kind k.Changed = 33
place_of_kind k.TooLarge = 34
place_of_kind k.WorldFault = 35
place_of_kind k.OutFault = 36

abbrev pub is_one_of : List FaultKind → FaultKind → Bool
is_one_of kinds kind = list_any (λ k. place_of_kind k == place_of_kind kind) kinds

abbrev pub MayBe : List FaultKind → Option Fault → Type 0
MayBe kinds None = ⊤
MayBe kinds (Some fault) = IsTrue (is_one_of kinds (kind_of fault))

-- want of memory, and the failures of the world and of the output, which have causes of their own
abbrev pub is_free : Fault → Bool
is_free fault = is_one_of (k.NoMemory ∷ k.WorldFault ∷ k.OutFault ∷ []) (kind_of fault)

-- a change of size is told with two sizes that differ, and never where the world tells its tree; a code isn't 0
abbrev pub IsHonest : Bool → Option Fault → Type 0
IsHonest tells (Some (f.Changed path told found)) = (told ≢ found) × (IsTrue tells → ⊥)
IsHonest tells (Some (f.CommandFailed stage code)) = code ≢ pos 0
IsHonest tells _ = ⊤

-- ---- the exit status

abbrev pub status_of : Fault → ℕ
status_of f.BadWords = 254
status_of f.NotRepo = 253
status_of _ = 255

-- ---- the text

-- a name that the tool keeps for itself overlaps itself
abbrev pub reserved_wording : Path → Path → Wording
reserved_wording path near =
    if is_one path near
    then with_one (codes "'") (path_text path) (codes "' has a reserved name")
    else with_two (codes "'") (path_text path) (codes "' overlaps '") (path_text near) (codes "'")

abbrev pub wording_of : Fault → Wording
wording_of f.NoMemory = plain (codes "out of memory")
wording_of f.BadWords = plain (codes "the command line can't be read")
wording_of f.NotRepo = plain (codes "not inside a DVC repository")
wording_of f.AlreadyRepo = plain (codes "'.dvc' exists")
wording_of f.ScmLeftOut = plain (codes "only 'init --no-scm' is supported")
wording_of (f.BadConfig line) = with_one (codes "'.dvc/config' line ") (decimal line) (codes " can't be read")
wording_of (f.Yaml file fault) = with_three (codes "'") (path_text file) (codes "' line ") (decimal (line_of fault)) (codes ": ") (word_of fault) []
wording_of (f.Schema file key) = with_two (codes "'") (path_text file) (codes "': bad value at '") key (codes "'")
wording_of (f.Unsupported file key) = with_two (codes "'") (path_text file) (codes "': '") key (codes "' is not supported")
wording_of (f.Legacy file) = with_one (codes "'") (path_text file) (codes "' has an older format")
wording_of (f.IgnoreRules file) = with_one (codes "'") (path_text file) (codes "' has rules")
wording_of (f.NoVariable key) = with_one (codes "no variable '") key (codes "'")
wording_of (f.NotScalar key) = with_one (codes "'") key (codes "' is not a scalar")
wording_of (f.NoKey file key) = with_two (codes "'") (path_text file) (codes "' has no key '") key (codes "'")
wording_of (f.NoFile file) = with_one (codes "'") (path_text file) (codes "' is missing")
wording_of (f.Outside text why) = with_one (codes "'") text (codes "' is not a path of the workspace")
wording_of (f.Reserved path near) = reserved_wording path near
wording_of (f.Duplicate path first second) = with_three (codes "'") (path_text path) (codes "' is an output of '") first (codes "' and '") second (codes "'")
wording_of (f.Overlap first second) = with_two (codes "outputs '") (path_text first) (codes "' and '") (path_text second) (codes "' overlap")
wording_of (f.VarsFromOutput file out) = with_two (codes "variables in '") (path_text file) (codes "' come from output '") (path_text out) (codes "'")
wording_of (f.Cycle walk) = with_one (codes "cycle: ") (walk_text walk) []
wording_of (f.NoStage name) = with_one (codes "no stage or file '") name (codes "'")
wording_of (f.MissingSource path) = with_one (codes "missing data '") (path_text path) (codes "'")
wording_of (f.MissingDependency stage path) = with_two (codes "stage '") stage (codes "': missing dependency '") (path_text path) (codes "'")
wording_of (f.CommandFailed stage code) = with_two (codes "stage '") stage (codes "' failed with ") (signed_decimal code) []
wording_of (f.MissingOutput stage path) = with_two (codes "stage '") stage (codes "': missing output '") (path_text path) (codes "'")
wording_of (f.NotInCache path name) = with_three (codes "'") (path_text path) (codes "': '") name.digits [] (ending_of name.dir) (codes "' is not in cache")
wording_of (f.Unsaved path) = with_one (codes "'") (path_text path) (codes "' has unsaved changes")
wording_of (f.NotFolder path) = with_one (codes "'") (path_text path) (codes "' is not a folder")
wording_of (f.NeedsForce what) = with_one (codes "'") what (codes "' needs -f")
wording_of (f.NoRemote name) = with_one (codes "no remote '") name (codes "'")
wording_of (f.UnknownListing name) = with_two (codes "listing '") name.digits [] (ending_of name.dir) (codes "' is missing")
wording_of (f.NotMoved absent damaged failed) = with_three (codes "not moved: ") (decimal absent) (codes " absent, ") (decimal damaged) (codes " damaged, ") (decimal failed) (codes " failed")
wording_of (f.Changed path told found) = with_one (codes "'") (path_text path) (codes "' changed while it was read")
wording_of (f.TooLarge what limit) = with_one (codes "limit ") (decimal limit) (codes " passed")
wording_of f.WorldFault = plain (codes "a file or program call failed")
wording_of f.OutFault = plain (codes "the output can't be written")

abbrev pub text_of : Fault → List ℕ
text_of fault = spelled (wording_of fault)
