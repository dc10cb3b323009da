-- What a single output is refused by.
--     name_answer       a name that is refused is refused as is due
--     barred            what refuses the places of objects is in the way of the cache
--     put_answer        a refusal of an output that is put is due, or something is in the way of the cache
--     large_barred      an object that is too large is in its own way
--     look_answer       a look at an object that is refused
--     told_out          what such a refusal tells of
--     put_outside       a path apart from the tool's own may be put
use Rattle.std.proofs.Common.{◌≡◌, ◌⊎◌, ℕ, Bool, true, false, ◌||◌, cond, List, [], ◌∷◌, ◌++◌, length, inl, inr, refl, sym, ap, subst, ◌∙◌, Option, Some, None, Err, nat_lt, IsTrue}
use Rattle.std.specs.Prelude.{option_map}
use Rattle.std.proofs.lemmas.Bool.{false≢true, cases_Bool, ltb-true, or_from, false_from_ne_true}
use Rattle.dvc_base.specs.Path.{Path, under, overlap}
use Rattle.dvc_base.specs.Name.{ObjectName}
use Rattle.dvc_base.specs.Answer.{fault_in, IsAnswer}
use Rattle.dvc_base.specs.Fault.{is_free}
use Rattle.dvc_base.specs.Limits.{limit_of}
use Rattle.dvc_base.specs.declared.limits.What.{What}
use Rattle.dvc_base.specs.declared.limits.What.TheVariants.{FileSize}
use Rattle.dvc_base.specs.declared.fault.Fault.{Fault}
use Rattle.dvc_base.specs.declared.fault.Fault.TheVariants as f
use Rattle.dvc_base.proofs.PathLemmas.{under-refl, under-trans}
use Rattle.world_api.specs.Tree.{Tree, Item, folder, file, Value, nothing, content, members, item_at, value_at}
use Rattle.world_api.specs.Calls.{IsFileAt, parent}
use Rattle.world_api.specs.Layout.{dvc_path, tmp_path, lock_path}
use Rattle.file_hash.specs.Naming.{if_over, files_limit, unless_over, named_bytes, named_files, naming_of}
use Rattle.file_hash.specs.Naming.{IsDue as IsNameDue}
use Rattle.file_hash.specs.declared.named.Named.{Named}
use Rattle.file_hash.specs.declared.fault.HashFault.{HashFault}
use Rattle.file_hash.specs.declared.fault.HashFault.TheVariants as h
use Rattle.object_cache.specs.Objects.{object_path, object_at, object_names}
use Rattle.object_cache.specs.Store.{files_path, is_cache_folder, IsOutside}
use Rattle.object_cache.specs.Due.{is_free as is_free_cache, is_file, first_file_from, first_file, not_folder_at, size_fault, has_fault, place_if, place_fault, places_fault, hash_fault, naming_fault, or_then, put_fault, IsPutFault}
use Rattle.object_cache.specs.Due.{IsDue as IsCacheDue}
use Rattle.object_cache.specs.declared.fault.CacheFault.{CacheFault}
use Rattle.object_cache.specs.declared.fault.CacheFault.TheVariants as c
use Rattle.repro_laws.specs.Headline.{IsApart}
use Rattle.repro_laws.specs.Moments.{is_own}
use Rattle.repro_laws.specs.Sound.{IsBarred, IsAnswerAt}
use Rattle.repro_laws.specs.declared.stage.Out.{Out}
use Rattle.repro_core.specs.Storing.{told_of, look_of, put_due}
use Rattle.repro_core.specs.Telling.{TellsOut}

-- ---- names

module _ (name : List ℕ) (o : Out) where
  limit_due : (l : Option What) (n : Named) (why : CacheFault) → naming_fault (unless_over l n) ≡ Some why → option_map (λ what. f.TooLarge what (limit_of what)) l ≡ Some (told_of name o why)
  limit_due None n why e = absurd (cc)
  limit_due (Some what) n why e =
      let same : c.TooLarge what (limit_of what) ≡ why = cc in
      ap (λ (x : CacheFault). Some (told_of name o x)) same

  -- what refuses a name is due
  pub naming_due : (v : Value) (why : CacheFault) → naming_fault (naming_of v) ≡ Some why → put_due name o v ≡ Some (told_of name o why)
  naming_due nothing why e =
      let same : c.Missing ≡ why = cc in
      ap (λ (x : CacheFault). Some (told_of name o x)) same
  naming_due (content bytes) why e = limit_due (if_over FileSize (length bytes)) (named_bytes bytes) why e
  naming_due (members m) why e = limit_due (files_limit m) (named_files m) why e

  freed : (why : CacheFault) (fault : Fault) → fault ≡ told_of name o why → is_free_cache why ≡ true → IsTrue (is_free fault)
  freed c.Failed fault e free = ap is_free e
  freed c.NoMemory fault e free = ap is_free e
  freed _ fault e free = absurd (false≢true free)

  due_by : (v : Value) (why : HashFault) (fault : Fault) → fault ≡ told_of name o (hash_fault why) → Err why ≡ naming_of v → IsAnswer (Some fault) (put_due name o v)
  due_by v why fault e due =
      inr (naming_due v (hash_fault why) (ap naming_fault (sym due)) ∙ ap (λ (x : Fault). Some x) (sym e))

  pub name_answer : (v : Value) (why : HashFault) (fault : Fault) → fault ≡ told_of name o (hash_fault why) → IsNameDue {A = Named} (Err why) (naming_of v) → IsAnswer (Some fault) (put_due name o v)
  name_answer v h.NoMemory fault e due = inl (freed c.NoMemory fault e refl)
  name_answer v h.Failed fault e due = inl (freed c.Failed fault e refl)
  name_answer v h.Missing fault e due = due_by v h.Missing fault e due
  name_answer v (h.Changed path told found) fault e due = due_by v (h.Changed path told found) fault e due
  name_answer v (h.TooLarge what limit) fault e due = due_by v (h.TooLarge what limit) fault e due

  -- ---- the places of objects

  -- what a refusal is told as
  abbrev IsBarredBy : Tree → CacheFault → Type 0
  IsBarredBy t why = IsBarred t (Some (told_of name o why))

  one_of : (a b : Option CacheFault) (why : CacheFault) → or_then a b ≡ Some why → (a ≡ Some why) ⊎ (b ≡ Some why)
  one_of None b why e = inr e
  one_of (Some x) b why e = inl e

  long_by : (t : Tree) (n : ObjectName) (bytes : List ℕ) (why : CacheFault) (long : Bool) → nat_lt (limit_of FileSize) (length bytes) ≡ long → item_at t (object_path n) ≡ Some (file bytes) → cond long (Some (c.TooLarge FileSize (limit_of FileSize))) None ≡ Some why → IsBarredBy t why
  long_by t n bytes why false is at e = absurd (cc)
  long_by t n bytes why true is at e =
      let same : c.TooLarge FileSize (limit_of FileSize) ≡ why = cc in
      subst (IsBarredBy t) same (n, bytes, (at, ltb-true (limit_of FileSize) (length bytes) is))

  size_barred : (t : Tree) (n : ObjectName) (item : Option Item) (why : CacheFault) → item_at t (object_path n) ≡ item → size_fault item ≡ Some why → IsBarredBy t why
  size_barred t n None why at e = absurd (cc)
  size_barred t n (Some folder) why at e = absurd (cc)
  size_barred t n (Some (file bytes)) why at e = long_by t n bytes why (nat_lt (limit_of FileSize) (length bytes)) refl at e

  file_there : (t : Tree) (q : Path) (item : Option Item) → item_at t q ≡ item → is_file item ≡ true → IsFileAt t q
  file_there t q None at e = absurd (false≢true e)
  file_there t q (Some folder) at e = absurd (false≢true e)
  file_there t q (Some (file bytes)) at e = (bytes, at)

  first_by : (t : Tree) (q : Path) (rest : Option Path) (path : Path) (here : Bool) → is_file (item_at t q) ≡ here → (rest ≡ Some path → IsFileAt t path) → cond here (Some q) rest ≡ Some path → IsFileAt t path
  first_by t q rest path true is more e =
      let same : q ≡ path = cc in
      subst (IsFileAt t) same (file_there t q (item_at t q) refl is)
  first_by t q rest path false is more e = more e

  first_there : (t : Tree) (p cs : Path) (path : Path) → first_file_from t p cs ≡ Some path → IsFileAt t path
  first_there t p [] path e = absurd (cc)
  first_there t p (d ∷ cs) path e =
      let q : Path = p ++ d ∷ [] in
      first_by t q (first_file_from t q cs) path (is_file (item_at t q)) refl (λ later. first_there t q cs path later) e

  way_barred : (tells : Bool) (at : Path) (t : Tree) (q : Path) (first : Option Path) (why : CacheFault) → first_file t q ≡ first → not_folder_at first ≡ Some why → IsPutFault tells at why → IsBarredBy t why
  way_barred tells at t q None why is e told = absurd (cc)
  way_barred tells at t q (Some path) why is e told =
      let same : c.NotFolder path ≡ why = cc in
      let mine : is_cache_folder path ≡ true = subst (IsPutFault tells at) (sym same) told in
      subst (IsBarredBy t) same (mine, first_there t [] q path is)

  place_barred : (tells : Bool) (at : Path) (t : Tree) (n : ObjectName) (whole : Option (List ℕ)) (why : CacheFault) → place_if whole t n ≡ Some why → IsPutFault tells at why → IsBarredBy t why
  place_barred tells at t n (Some bytes) why e told = absurd (cc)
  place_barred tells at t n None why e told =
      way_barred tells at t (parent (object_path n)) (first_file t (parent (object_path n))) why refl e told

  pub barred : (tells : Bool) (at : Path) (t : Tree) (names : List ObjectName) (why : CacheFault) → places_fault t names ≡ Some why → IsPutFault tells at why → IsBarred t (Some (told_of name o why))
  barred tells at t [] why e told = absurd (cc)
  barred tells at t (n ∷ names) why e told =
      elim (one_of (place_fault t n) (places_fault t names) why e) [
        | inl here ↦
            elim (one_of (has_fault t n) (place_if (object_at t n) t n) why here) [
              | inl large ↦ size_barred t n (item_at t (object_path n)) why refl large
              | inr way ↦ place_barred tells at t n (object_at t n) why way told
            ]
        | inr later ↦ barred tells at t names why later told
      ]

  -- an object that is too large is in the way by itself
  pub large_barred : (t : Tree) (n : ObjectName) (why : CacheFault) → has_fault t n ≡ Some why → IsBarred t (Some (told_of name o why))
  large_barred t n why e = size_barred t n (item_at t (object_path n)) why refl e

  -- ---- a look at an object

  pub look_answer : (t : Tree) (n : ObjectName) (why : CacheFault) → IsCacheDue (Some why) (has_fault t n) → IsAnswerAt t (fault_in (look_of why)) None
  look_answer t n (c.Changed path told found) (inl free) = absurd (false≢true free)
  look_answer t n (c.Changed path told found) (inr due) = inr (large_barred t n (c.Changed path told found) due)
  look_answer t n (c.TooLarge what limit) (inl free) = absurd (false≢true free)
  look_answer t n (c.TooLarge what limit) (inr due) = inr (large_barred t n (c.TooLarge what limit) due)
  look_answer t n c.Failed due = inl (inl refl)
  look_answer t n c.NoMemory due = inl (inl refl)
  look_answer t n _ due = inl refl

  -- ---- an output that is put

  pub put_answer : (tells : Bool) (t u : Tree) (why : CacheFault) (fault : Fault) → fault ≡ told_of name o why → value_at u o.path ≡ value_at t o.path → (is_free_cache why ≡ false → put_fault u o.path ≡ Some why) → IsPutFault tells o.path why → IsAnswerAt u (Some fault) (put_due name o (value_at t o.path))
  put_answer tells t u why fault e same refused told =
      elim (cases_Bool (is_free_cache why)) [
        | inl free ↦ inl (inl (freed why fault e free))
        | inr bound ↦
            elim (one_of (naming_fault (naming_of (value_at u o.path))) (places_fault u (object_names (value_at u o.path))) why (refused bound)) [
              | inl named ↦
                  inl (inr (ap (put_due name o) (sym same) ∙ naming_due (value_at u o.path) why named ∙ ap (λ (x : Fault). Some x) (sym e)))
              | inr placed ↦ inr (subst (λ (x : Fault). IsBarred u (Some x)) (sym e) (barred tells o.path u (object_names (value_at u o.path)) why placed told))
            ]
      ]

  told_by : (tells : Bool) (why : CacheFault) → IsPutFault tells o.path why → TellsOut name o (Some (told_of name o why))
  told_by tells (c.Absent object) told = refl
  told_by tells c.Missing told = (refl, refl)
  told_by tells (c.Changed path a b) told = inl told.0
  told_by tells (c.TooLarge what limit) told = told
  told_by tells (c.NotFolder path) told = told
  told_by tells c.Failed told = tt
  told_by tells c.NoMemory told = tt

  pub told_out : (tells : Bool) (why : CacheFault) (fault : Fault) → fault ≡ told_of name o why → IsPutFault tells o.path why → TellsOut name o (Some fault)
  told_out tells why fault e told = subst (λ (x : Fault). TellsOut name o (Some x)) (sym e) (told_by tells why told)

-- ---- apart from the tool's own

tmp_below : under dvc_path tmp_path ≡ true
unfolding dvc_path tmp_path
tmp_below = refl

files_below : under dvc_path files_path ≡ true
unfolding dvc_path
files_below = refl

in_dvc : (p : Path) → under dvc_path p ≡ true → is_own p ≡ true
in_dvc p u = ap (λ (b : Bool). b || under lock_path p) u

apart_from : (at q : Path) → IsApart is_own at → under dvc_path q ≡ true → overlap at q ≡ false
apart_from at q apart below =
    or_from (under at q) (under q at)
    (false_from_ne_true (under at q) (λ u. false≢true (sym (apart q u) ∙ in_dvc q below)))
    (false_from_ne_true (under q at) (λ u. false≢true (sym (apart at (under-refl at)) ∙ in_dvc at (under-trans dvc_path q at below u))))

pub put_outside : (at : Path) → IsApart is_own at → IsOutside at
put_outside at apart = record { no_lane = apart_from at tmp_path apart tmp_below; no_object = apart_from at files_path apart files_below }
