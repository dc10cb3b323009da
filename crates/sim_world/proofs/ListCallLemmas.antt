-- What a listing answers, and that it blames the world for nothing.
use Rattle.std.proofs.Common.{◌≡◌, ◌≤◌, ℕ, List, [], refl, sym, subst, arith, Result, Ok, Err, IfOk}
use Rattle.std.specs.Prelude.{IfErr, IsErrOf}
use Rattle.dvc_base.specs.Path.{Path}
use Rattle.world_api.specs.Tree.{Tree, names_in, IsTree}
use Rattle.world_api.specs.History.{IsCaused}
use Rattle.world_api.specs.Calls.{AreNames}
use Rattle.world_api.specs.declared.files.ListFault.{ListFault}
use Rattle.world_api.specs.declared.files.ListFault.TheVariants.{Failed, NoMemory}
use Rattle.sim_world.specs.Call.{Counts}
use Rattle.sim_world.proofs.NamesLemmas.{are-names}

pub listed_good : {E : Type 0} (r : Result (List (List ℕ)) E) (t : Tree) (p : Path) → IsTree t → IfOk r (λ names. names ≡ names_in t p) → IfOk r AreNames
listed_good (Ok names) t p is e = subst AreNames (sym e) (are-names t p is)
listed_good (Err why) t p is e = tt

pub listed_cause : {T : Type 0} (r : Result T ListFault) (before now : Counts) → IfErr r (λ fault. fault ≡ NoMemory) → now ≡ before → IsCaused (record { origin = []; count = before.failed }) (record { origin = []; count = now.failed }) (IsErrOf r Failed)
listed_cause (Ok x) before now why same = record {
  same = refl;
  later = subst (λ (c : Counts). before.failed ≤ c.failed) (sym same) (omega arith);
  cause = λ e. absurd (cc);
}
listed_cause (Err NoMemory) before now why same = record {
  same = refl;
  later = subst (λ (c : Counts). before.failed ≤ c.failed) (sym same) (omega arith);
  cause = λ e. absurd (cc);
}
listed_cause (Err Failed) before now why same = absurd (cc)
