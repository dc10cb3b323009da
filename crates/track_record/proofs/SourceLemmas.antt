-- What a single out of a track file is refused by.
--     source_answer     a refusal of an out that is put is due, or something is in the way of the cache
--     told_source       what such a refusal tells of
--     answer_none       Ok is answered only where nothing is due
use Rattle.std.proofs.Common.{◌≡◌, ◌⊎◌, Bool, true, false, [], length, inl, inr, refl, sym, ap, subst, ◌∙◌, Option, Some, None, IsTrue}
use Rattle.std.specs.Prelude.{option_map}
use Rattle.std.proofs.lemmas.Bool.{false≢true, cases_Bool}
use Rattle.dvc_base.specs.Path.{Path}
use Rattle.dvc_base.specs.Fault.{is_free}
use Rattle.dvc_base.specs.Limits.{limit_of}
use Rattle.dvc_base.specs.declared.limits.What.{What}
use Rattle.dvc_base.specs.declared.limits.What.TheVariants.{FileSize}
use Rattle.dvc_base.specs.declared.fault.Fault.{Fault}
use Rattle.dvc_base.specs.declared.fault.Fault.TheVariants as f
use Rattle.world_api.specs.Tree.{Tree, Value, nothing, content, members, value_at}
use Rattle.file_hash.specs.Naming.{if_over, files_limit, unless_over, named_bytes, named_files, naming_of}
use Rattle.file_hash.specs.declared.named.Named.{Named}
use Rattle.object_cache.specs.Objects.{object_names}
use Rattle.object_cache.specs.Due.{naming_fault, or_then, places_fault, put_fault, IsPutFault}
use Rattle.object_cache.specs.Due.{is_free as is_free_cache}
use Rattle.object_cache.specs.declared.fault.CacheFault.{CacheFault}
use Rattle.object_cache.specs.declared.fault.CacheFault.TheVariants as c
use Rattle.repro_laws.specs.Sound.{IsBarred, IsAnswerAt}
use Rattle.repro_laws.specs.declared.stage.Out.{Out}
use Rattle.repro_core.specs.Storing.{told_of}
use Rattle.repro_core.proofs.BarredLemmas.{barred}
use Rattle.track_record.specs.Sources.{source_due, source_told}
use Rattle.track_record.specs.Records.{TellsSource}

pub answer_none : (t : Tree) (due : Option Fault) → IsAnswerAt t None due → due ≡ None
answer_none t due (inl none) = none
answer_none t due (inr way) = absurd way

module _ (p : Path) where
  limit_due : (l : Option What) (n : Named) (why : CacheFault) → naming_fault (unless_over l n) ≡ Some why → option_map (λ what. f.TooLarge what (limit_of what)) l ≡ Some (source_told p why)
  limit_due None n why e = absurd (cc)
  limit_due (Some what) n why e =
      let same : c.TooLarge what (limit_of what) ≡ why = cc in
      ap (λ (x : CacheFault). Some (source_told p x)) same

  -- what refuses a name is due
  naming_due : (v : Value) (why : CacheFault) → naming_fault (naming_of v) ≡ Some why → source_due p v ≡ Some (source_told p why)
  naming_due nothing why e =
      let same : c.Missing ≡ why = cc in
      ap (λ (x : CacheFault). Some (source_told p x)) same
  naming_due (content bytes) why e = limit_due (if_over FileSize (length bytes)) (named_bytes bytes) why e
  naming_due (members m) why e = limit_due (files_limit m) (named_files m) why e

  freed : (why : CacheFault) (fault : Fault) → fault ≡ source_told p why → is_free_cache why ≡ true → IsTrue (is_free fault)
  freed c.Failed fault e free = ap is_free e
  freed c.NoMemory fault e free = ap is_free e
  freed _ fault e free = absurd (false≢true free)

  one_of : (a b : Option CacheFault) (why : CacheFault) → or_then a b ≡ Some why → (a ≡ Some why) ⊎ (b ≡ Some why)
  one_of None b why e = inr e
  one_of (Some x) b why e = inl e

  -- an output of a stage at the path: what is in the way of the one is in the way of the other
  abbrev as_out : Out
  as_out = record { text = []; path = p; cached = true }

  barred_as : (t : Tree) (why : CacheFault) → IsBarred t (Some (told_of [] as_out why)) → IsBarred t (Some (source_told p why))
  barred_as t (c.Absent object) h = h
  barred_as t c.Missing h = h
  barred_as t (c.Changed path told found) h = h
  barred_as t (c.TooLarge what limit) h = h
  barred_as t (c.NotFolder path) h = h
  barred_as t c.Failed h = h
  barred_as t c.NoMemory h = h

  pub source_answer : (tells : Bool) (t u : Tree) (why : CacheFault) (fault : Fault) → fault ≡ source_told p why → value_at u p ≡ value_at t p → (is_free_cache why ≡ false → put_fault u p ≡ Some why) → IsPutFault tells p why → IsAnswerAt u (Some fault) (source_due p (value_at t p))
  source_answer tells t u why fault e same refused told =
      elim (cases_Bool (is_free_cache why)) [
        | inl free ↦ inl (inl (freed why fault e free))
        | inr bound ↦
            elim (one_of (naming_fault (naming_of (value_at u p))) (places_fault u (object_names (value_at u p))) why (refused bound)) [
              | inl named ↦
                  inl (inr (ap (source_due p) (sym same) ∙ naming_due (value_at u p) why named ∙ ap (λ (x : Fault). Some x) (sym e)))
              | inr placed ↦
                  inr (subst (λ (x : Fault). IsBarred u (Some x)) (sym e) (barred_as u why (barred [] as_out tells p u (object_names (value_at u p)) why placed told)))
            ]
      ]

  told_by : (tells : Bool) (why : CacheFault) → IsPutFault tells p why → TellsSource p (Some (source_told p why))
  told_by tells (c.Absent object) told = tt
  told_by tells c.Missing told = refl
  told_by tells (c.Changed path a b) told = inl told.0
  told_by tells (c.TooLarge what limit) told = told
  told_by tells (c.NotFolder path) told = told
  told_by tells c.Failed told = tt
  told_by tells c.NoMemory told = tt

  pub told_source : (tells : Bool) (why : CacheFault) (fault : Fault) → fault ≡ source_told p why → IsPutFault tells p why → TellsSource p (Some fault)
  told_source tells why fault e told =
      subst (λ (x : Fault). TellsSource p (Some x)) (sym e) (told_by tells why told)
