-- What a look at the paths of a stage finds.
--     AreSeen texts seen               each path that is seen has a name in form
--     IsGoodNamed named                a name with its numbers, in form
--     named_inside inside named        what counts of a name inside an output
--     TellsAt p got                    what a refusal of a look at a path tells of
use Rattle.std.specs.Prelude.{◌≡◌, ℕ, ◌^◌, Bool, true, false, ◌&&◌, List, Option, Some, None, IsTrue, nat_lt, ◌==◌, ⊤, if◌then◌else◌}
use Rattle.dvc_base.specs.Path.{Path, under}
use Rattle.dvc_base.specs.Name.{are_digits}
use Rattle.dvc_base.specs.Limits.{limit_of}
use Rattle.dvc_base.specs.declared.fault.Fault.{Fault}
use Rattle.dvc_base.specs.declared.fault.Fault.TheVariants.{Changed, TooLarge}
use Rattle.file_hash.specs.declared.named.Named.{Named}
use Rattle.lock_files.specs.declared.entry.PathEntry.{PathEntry}
use Rattle.lock_files.specs.Form.{is_count}
use Rattle.change_check.specs.declared.seen.SeenPath.{SeenPath}
use Rattle.repro_laws.specs.Entries.{all_named}
use Rattle.repro_core.specs.Steps.{AreNamed}

-- ---- names

-- each path that is seen has a name in form, and these are their texts
abbrev pub AreSeen : List (List ℕ) → List SeenPath → Type 0
AreSeen texts seen = (entries : List PathEntry) × ((all_named seen ≡ Some entries) × AreNamed texts entries)

-- as a path entry in form has it
abbrev pub IsGoodNamed : Named → Type 0
IsGoodNamed n = IsTrue (are_digits n.name.digits && (nat_lt n.size (2 ^ 64) && is_count n.name.dir n.nfiles))

abbrev pub is_no_file : Option ℕ → Bool
is_no_file None = false
is_no_file (Some n) = n == 0

-- inside an output a folder without files counts as nothing
abbrev pub named_inside : Bool → Option Named → Option Named
named_inside inside None = None
named_inside inside (Some n) = if inside && is_no_file n.nfiles then None else Some n

-- ---- refusals

-- what has changed while it was read lies at the path or below it
abbrev pub TellsAt : Path → Option Fault → Type 0
TellsAt p (Some (Changed path told found)) = under p path ≡ true
TellsAt p (Some (TooLarge what limit)) = limit ≡ limit_of what
TellsAt p _ = ⊤
