-- What a refusal of one layer is in the next.
use Rattle.std.proofs.Common.{◌≡◌, ◌++◌, inl, inr, refl, arith, Err}
use Rattle.std.specs.Prelude.{IsErrOf}
use Rattle.dvc_base.specs.Path.{Path}
use Rattle.world_api.specs.History.{Faults, IsCaused}
use Rattle.file_hash.specs.Walk.{IsLong, IsLook}
use Rattle.file_hash.specs.declared.fault.HashFault.{HashFault}
use Rattle.file_hash.specs.declared.fault.HashFault.TheVariants.{Failed}
use Rattle.file_hash.proofs.PathsLemmas.{longer}

pub look_of_long : (path : Path) (why : HashFault) → IsLong path why → IsLook path why
look_of_long path why h = inr h

-- a path that is too long is too long from further up
pub long_up : (p q : Path) (why : HashFault) → IsLong q why → IsLong (p ++ q) why
long_up p q why (inl e) = inl e
long_up p q why (inr h) = inr (h.0, omega (arith, h.1, longer p q))

not_failed : (path : Path) (why : HashFault) → IsLong path why → why ≡ Failed → ⊥
not_failed path why (inl e) f = absurd (cc)
not_failed path why (inr h) f = let e = h.0 in absurd (cc)

err_of : (why : HashFault) {T : Type 0} → IsErrOf {T = T} (Err why) Failed → why ≡ Failed
err_of why e = cc

pub long_cause : {T : Type 0} (path : Path) (why : HashFault) (faults : Faults) → IsLong path why → IsCaused faults faults (IsErrOf {T = T} (Err why) Failed)
long_cause path why faults h = record { same = refl; later = omega arith; cause = λ e. absurd (not_failed path why h (err_of why e)) }
