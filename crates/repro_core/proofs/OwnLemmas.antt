-- Paths that are the stage's own, and refusals that tell of them.
--     one_any                what lies at or below one of the paths
--     own_ordered, own_written     the paths of items in order, and of the same as they are written
--     own_at                 what holds of each item holds of the one at a place
--     dep_own, out_own       what a refusal of a dependency or an output tells is the stage's own
use Rattle.std.proofs.Common.{◌≡◌, ℕ, ◌<◌, zero, suc, true, List, [], ◌∷◌, length, get_or, map, inl, inr, refl, sym, ap, ◌∙◌, subst, arith, Option, Some, None}
use Rattle.std.specs.List.{AllByRecursion}
use Rattle.std.proofs.lemmas.Bool.{false≢true}
use Rattle.dvc_base.specs.Path.{Path, under}
use Rattle.dvc_base.specs.Fault.{MayBe}
use Rattle.dvc_base.specs.declared.fault.Fault.{Fault}
use Rattle.dvc_base.specs.declared.fault.Fault.TheVariants.{NoMemory, WorldFault, MissingDependency, Changed, TooLarge}
use Rattle.world_api.specs.Effect.{is_in_any}
use Rattle.world_api.proofs.ValueLemmas.{is_in_any-head, is_in_any-tail}
use Rattle.lock_files.specs.Order.{in_order}
use Rattle.repro_laws.specs.Stage.{dep_path, tracked_path, read_paths, stage_outs}
use Rattle.repro_laws.specs.declared.stage.Dep.{Dep}
use Rattle.repro_laws.specs.declared.stage.Stage.{Stage}
use Rattle.repro_laws.proofs.AlikeLemmas.{each_written}
use Rattle.repro_laws.proofs.ListLemmas.{any_first, any_second}
use Rattle.repro_core.specs.Looks.{TellsAt}
use Rattle.repro_core.specs.Steps.{dep_kinds, out_kinds}
use Rattle.repro_core.specs.Telling.{IsOneOf, TellsDep, TellsOwn}

pub one_any : (ps : List Path) (p q : Path) → IsOneOf ps p → under p q ≡ true → is_in_any ps q ≡ true
one_any [] p q none h = absurd none
one_any (r ∷ ps) p q (inl e) h = is_in_any-head r ps q (ap (λ (x : Path). under x q) (sym e) ∙ h)
one_any (r ∷ ps) p q (inr later) h = is_in_any-tail r ps q (one_any ps p q later h)

-- ---- the items of a list

module _ {A : Type 0} (path : A → Path) where
  each_one : (all : List Path) (xs : List A) → ((p : Path) → IsOneOf (map path xs) p → IsOneOf all p) → AllByRecursion (λ x. IsOneOf all (path x)) xs
  each_one all [] f = tt
  each_one all (x ∷ xs) f = (f (path x) (inl refl), each_one all xs (λ p h. f p (inr h)))

  pub own_ordered : (xs : List A) → AllByRecursion (λ x. IsOneOf (map path xs) (path x)) xs
  own_ordered xs = each_one (map path xs) xs (λ p h. h)

  pub own_written : (key : A → List ℕ) (written ordered : List A) → ordered ≡ in_order key written → AllByRecursion (λ x. IsOneOf (map path ordered) (path x)) written
  own_written key written ordered e =
      each_written key (λ x. IsOneOf (map path ordered) (path x)) written (subst (AllByRecursion (λ (x : A). IsOneOf (map path ordered) (path x))) e (own_ordered ordered))

pub own_at : {A : Type 0} (P : A → Type 0) (xs : List A) (i : ℕ) (x : A) → i < length xs → x ≡ get_or xs i x → AllByRecursion P xs → P x
own_at P [] i x l e all = absurd (omega arith)
own_at P (y ∷ xs) zero x l e all = subst P (sym e) all.0
own_at P (y ∷ xs) (suc i) x l e all = own_at P xs i x (omega arith) e all.1

-- ---- refusals

pub dep_own : (s : Stage) (d : Dep) (got : Option Fault) → IsOneOf (map dep_path s.deps) d.path → MayBe dep_kinds got → TellsDep s.name d got → TellsOwn s got
dep_own s d None own kind told = tt
dep_own s d (Some NoMemory) own kind told = tt
dep_own s d (Some WorldFault) own kind told = tt
dep_own s d (Some (MissingDependency stage path)) own kind told = (told.0, subst (IsOneOf (map dep_path s.deps)) (sym told.1) own)
dep_own s d (Some (TooLarge what limit)) own kind told = told
dep_own s d (Some (Changed path a b)) own kind told =
    let read = any_first (λ out. under out path) (map dep_path s.deps) (map tracked_path s.params) (one_any (map dep_path s.deps) d.path path own told) in
    inl (any_first (λ out. under out path) (read_paths s) (stage_outs s) read)
dep_own s d (Some _) own kind told = absurd (false≢true kind)

pub out_own : (s : Stage) (p : Path) (got : Option Fault) → IsOneOf (stage_outs s) p → MayBe out_kinds got → TellsAt p got → TellsOwn s got
out_own s p None own kind told = tt
out_own s p (Some NoMemory) own kind told = tt
out_own s p (Some WorldFault) own kind told = tt
out_own s p (Some (TooLarge what limit)) own kind told = told
out_own s p (Some (Changed path a b)) own kind told =
    inl (any_second (λ out. under out path) (read_paths s) (stage_outs s) (one_any (stage_outs s) p path own told))
out_own s p (Some _) own kind told = absurd (false≢true kind)
