-- What is told of outputs that are put into the cache.
--     told_of name o why     a refusal of the cache, as it is told of an output of the stage of this name
--     look_of why            a look at an object that was refused: a refusal, or as if the object weren't whole
--     put_due name o v       the refusal that is due of an output with this value: nothing stands there, or it passes a limit
--     is_by_limit fault      a limit is passed
use Rattle.std.specs.Prelude.{ℕ, Bool, true, false, List, Option, Some, Result, Ok, Err}
use Rattle.dvc_base.specs.declared.fault.Fault.{Fault}
use Rattle.dvc_base.specs.declared.fault.Fault.TheVariants as f
use Rattle.world_api.specs.Tree.{Value, nothing}
use Rattle.object_cache.specs.declared.fault.CacheFault.{CacheFault}
use Rattle.object_cache.specs.declared.fault.CacheFault.TheVariants.{Absent, Missing, Changed, TooLarge, NotFolder, Failed, NoMemory}
use Rattle.repro_laws.specs.Limits.{limit_fault}
use Rattle.repro_laws.specs.declared.stage.Out.{Out}

abbrev pub told_of : List ℕ → Out → CacheFault → Fault
told_of name o (Absent object) = f.NotInCache o.path object
told_of name o Missing = f.MissingOutput name o.path
told_of name o (Changed path told found) = f.Changed path told found
told_of name o (TooLarge what limit) = f.TooLarge what limit
told_of name o (NotFolder path) = f.NotFolder path
told_of name o Failed = f.WorldFault
told_of name o NoMemory = f.NoMemory

-- what a look at an object comes to that was refused
abbrev pub look_of : CacheFault → Result Bool Fault
look_of (Changed path told found) = Err (f.Changed path told found)
look_of (TooLarge what limit) = Err (f.TooLarge what limit)
look_of Failed = Err f.WorldFault
look_of NoMemory = Err f.NoMemory
look_of _ = Ok false

abbrev pub put_due : List ℕ → Out → Value → Option Fault
put_due name o nothing = Some (f.MissingOutput name o.path)
put_due name o v = limit_fault v

abbrev pub is_by_limit : Fault → Bool
is_by_limit (f.TooLarge what limit) = true
is_by_limit _ = false
