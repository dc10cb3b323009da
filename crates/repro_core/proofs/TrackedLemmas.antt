-- Tracked parameters: what their files and keys give, and what a refusal of them tells.
--     all_more, fault_here, answer_here     a list that is made item by item, up to the first refusal
--     whole_keys, chosen_keys, refused_keys     the keys of a file: all of them, or chosen ones
--     found_key, no_key                     a single key
--     file_..                               what a file's turn is by what its keys gave
--     why_..                                what it is by why the file holds no parameters
--     caused                                a cause that is blamed for less
--     ordered_answer, form_in_order         the refusal of files in order, and their form
--     file_made, each_push                  a file as such an item; one item more
use Rattle.std.proofs.Common.{◌≡◌, ℕ, ◌+◌, ◌<◌, Bool, true, false, List, [], ◌∷◌, ◌++◌, length, take, drop, get_or, map, inl, inr, refl, sym, ap, subst, ◌∙◌, Option, Some, None, Result, Ok, Err, IsTrue}
use Rattle.std.specs.Prelude.{◌⊎◌, IfOk, IsErrOf, MatchResult}
use Rattle.std.proofs.lemmas.Bool.{cases_Bool, cond-true, cond-false, false≢true}
use Rattle.std.proofs.lemmas.List.{take_more, drop_more, take-append-drop}
use Rattle.dvc_base.specs.Path.{Path, under}
use Rattle.dvc_base.specs.Answer.{fault_in, IsAnswer}
use Rattle.dvc_base.specs.Fault.{MayBe, IsHonest, is_free}
use Rattle.dvc_base.specs.declared.data.ParamFile.{ParamFile}
use Rattle.dvc_base.specs.declared.fault.Fault.{Fault}
use Rattle.dvc_base.specs.declared.fault.Fault.TheVariants as f
use Rattle.dvc_base.specs.declared.node.Node.{Node, out-Node}
use Rattle.dvc_base.specs.declared.node.Pair.{Pair, roll-Pair}
use Rattle.dvc_base.proofs.PathLemmas.{under-refl}
use Rattle.yaml_nodes.specs.Part.{key_of}
use Rattle.yaml_print.specs.Sound.{Each, IsPrintable}
use Rattle.world_api.specs.Tree.{Tree, item_at}
use Rattle.world_api.specs.History.{Faults, IsCaused}
use Rattle.lock_files.specs.Mapping.{pairs_in}
use Rattle.lock_files.specs.Order.{in_order}
use Rattle.lock_files.specs.Form.{IsKeyed, are_distinct, file_at}
use Rattle.lock_files.proofs.OrderLemmas.{each_in_order, rising_of_distinct}
use Rattle.params.specs.Lookup.{lookup}
use Rattle.params.specs.Read as reading
use Rattle.params.specs.Read.{refused_key, IsRead}
use Rattle.params.specs.declared.fault.ParamsFault.{ParamsFault}
use Rattle.params.specs.declared.fault.ParamsFault.TheVariants as p
use Rattle.repro_laws.specs.Params.{found_value, key_value, key_values, with_first, pairs_or_none, params_answer, file_with, file_keys, file_read, files_in_order, AreParams}
use Rattle.repro_laws.specs.Stage.{dep_path, tracked_path, tracked_text, read_paths, stage_outs}
use Rattle.repro_laws.specs.declared.stage.Tracked.{Tracked}
use Rattle.repro_laws.specs.declared.stage.Stage.{Stage}
use Rattle.repro_laws.proofs.ListLemmas.{any_first, any_second}
use Rattle.repro_core.specs.Steps.{tracked_kinds}
use Rattle.repro_core.specs.Telling.{IsOneOf, TellsOwn}
use Rattle.repro_core.proofs.OwnLemmas.{one_any}
use Rattle.repro_core.proofs.KeyedLemmas.{with_keys, ok_same, first_parts, file_keyed}

-- what was made is what is due, but for want of memory
abbrev pub Gives : {T : Type 0} → Result T Fault → Result T Fault → Type 0
Gives got due = MatchResult got (λ made. due ≡ Ok made) (λ fault. (fault ≡ f.NoMemory) ⊎ (due ≡ Err fault))

err_from : {T : Type 0} (r : Result T Fault) (fault : Fault) → fault_in r ≡ Some fault → r ≡ Err fault
err_from (Ok made) fault h = absurd (cc)
err_from (Err other) fault h = let same : other ≡ fault = cc in ap (λ (x : Fault). Err x) same

-- ---- a list that is made item by item

module _ {A B : Type 0} (make : A → Result B Fault) (all : List A → Result (List B) Fault) (none : all [] ≡ Ok []) (more : (x : A) (xs : List A) → all (x ∷ xs) ≡ with_first (make x) (all xs)) where
  push : (xs : List A) (ys : List B) (x : A) (y : B) → all xs ≡ Ok ys → make x ≡ Ok y → all (xs ++ x ∷ []) ≡ Ok (ys ++ y ∷ [])
  push [] ys x y h e =
      more x [] ∙ ap (λ (r : Result B Fault). with_first r (all [])) e ∙ ap (with_first (Ok y)) none
      ∙ ap (λ (zs : List B). Ok (zs ++ y ∷ [])) (ok_same [] ys (all []) none h)
  push (z ∷ xs) ys x y h e =
      let parts = first_parts (make z) (all xs) ys (sym (more z xs) ∙ h) in
      more z (xs ++ x ∷ []) ∙ ap (λ (r : Result B Fault). with_first r (all (xs ++ x ∷ []))) parts.1.1.0
      ∙ ap (with_first (Ok parts.0)) (push xs parts.1.0 x y parts.1.1.1.0 e)
      ∙ ap (λ (zs : List B). Ok (zs ++ y ∷ [])) parts.1.1.1.1

  stop : (xs rest : List A) (ys : List B) (x : A) (fault : Fault) → all xs ≡ Ok ys → make x ≡ Err fault → all (xs ++ x ∷ rest) ≡ Err fault
  stop [] rest ys x fault h e = more x rest ∙ ap (λ (r : Result B Fault). with_first r (all rest)) e
  stop (z ∷ xs) rest ys x fault h e =
      let parts = first_parts (make z) (all xs) ys (sym (more z xs) ∙ h) in
      more z (xs ++ x ∷ rest) ∙ ap (λ (r : Result B Fault). with_first r (all (xs ++ x ∷ rest))) parts.1.1.0
      ∙ ap (with_first (Ok parts.0)) (stop xs rest parts.1.0 x fault parts.1.1.1.0 e)

  module _ (xs : List A) (i : ℕ) (x : A) (before : i < length xs) (here : x ≡ get_or xs i x) (ys : List B) (so_far : all (take i xs) ≡ Ok ys) where
    pub all_more : (y : B) → make x ≡ Ok y → all (take (i + 1) xs) ≡ Ok (ys ++ y ∷ [])
    all_more y e =
        ap all (take_more xs i x before ∙ ap (λ (z : A). take i xs ++ z ∷ []) (sym here)) ∙ push (take i xs) ys x y so_far e

    pub fault_here : (fault : Fault) → make x ≡ Err fault → all xs ≡ Err fault
    fault_here fault e =
        let cut : xs ≡ take i xs ++ (x ∷ drop (i + 1) xs) =
        sym (take-append-drop i xs) ∙ ap (λ (zs : List A). take i xs ++ zs) (drop_more xs i x before ∙ ap (λ (z : A). z ∷ drop (i + 1) xs) (sym here)) in
        ap all cut ∙ stop (take i xs) (drop (i + 1) xs) ys x fault so_far e

    pub answer_here : (fault : Fault) → IsAnswer (Some fault) (fault_in (make x)) → IsAnswer (Some fault) (fault_in (all xs))
    answer_here fault (inl free) = inl free
    answer_here fault (inr due) = inr (ap fault_in (fault_here fault (err_from (make x) fault due)))

-- a file of parameters is such an item
abbrev pub file_made : Tree → Tracked → Result ParamFile Fault
file_made t w = file_read w (reading.params_at (item_at t w.path))

pub each_push : {A : Type 0} (P : A → Type 0) (xs : List A) (x : A) → Each P xs → P x → Each P (xs ++ x ∷ [])
each_push P [] x all here = (here, tt)
each_push P (y ∷ ys) x all here = (all.0, each_push P ys x all.1 here)

-- ---- the keys of a file

pub whole_keys : (w : Tracked) (root : Node) (keys : List Pair) → w.all ≡ true → keys ≡ in_order key_of (pairs_or_none (pairs_in root)) → file_keys w root ≡ Ok (with_keys w.text keys)
whole_keys w root keys all e =
    ap (file_with w.text) (cond-true w.all (Ok (pairs_or_none (pairs_in root))) (key_values w.path root w.keys) all)
    ∙ ap (λ (ps : List Pair). Ok (with_keys w.text ps)) (sym e)

chosen : (w : Tracked) (root : Node) → w.all ≡ false → file_keys w root ≡ file_with w.text (key_values w.path root w.keys)
chosen w root some =
    ap (file_with w.text) (cond-false w.all (Ok (pairs_or_none (pairs_in root))) (key_values w.path root w.keys) some)

pub chosen_keys : (w : Tracked) (root : Node) (ps keys : List Pair) → w.all ≡ false → key_values w.path root w.keys ≡ Ok ps → keys ≡ in_order key_of ps → file_keys w root ≡ Ok (with_keys w.text keys)
chosen_keys w root ps keys some found e =
    chosen w root some ∙ ap (file_with w.text) found ∙ ap (λ (qs : List Pair). Ok (with_keys w.text qs)) (sym e)

pub refused_keys : (w : Tracked) (root : Node) (fault : Fault) → w.all ≡ false → key_values w.path root w.keys ≡ Err fault → file_keys w root ≡ Err fault
refused_keys w root fault some h = chosen w root some ∙ ap (file_with w.text) h

pub found_key : (file : Path) (root : Node) (key : List ℕ) (v : Node) (pair : Pair) → lookup key root ≡ Some v → pair ≡ roll-Pair (record { key = key; value = v }) → key_value file root key ≡ Ok pair
found_key file root key v pair h e = ap (found_value file key) h ∙ ap (λ (q : Pair). Ok q) (sym e)

pub no_key : (file : Path) (root : Node) (key : List ℕ) → lookup key root ≡ None → key_value file root key ≡ Err (f.NoKey file key)
no_key file root key h = ap (found_value file key) h

-- a refusal tells the file and one of the keys
rest_fault : {B : Type 0} (x : B) (rest : Result (List B) Fault) (fault : Fault) → with_first (Ok x) rest ≡ Err fault → rest ≡ Err fault
rest_fault x (Err other) fault h = h
rest_fault x (Ok xs) fault h = absurd (cc)

key_fault : (file : Path) (root : Node) (keys : List (List ℕ)) (fault : Fault) → key_values file root keys ≡ Err fault → (key : List ℕ) × (fault ≡ f.NoKey file key)
key_fault file root [] fault h = absurd (cc)
key_fault file root (key ∷ keys) fault h = by (key_fault file root keys fault) (lookup key root) h
  where
    by : (key_values file root keys ≡ Err fault → (k : List ℕ) × (fault ≡ f.NoKey file k)) → (o : Option Node) → with_first (found_value file key o) (key_values file root keys) ≡ Err fault → (k : List ℕ) × (fault ≡ f.NoKey file k)
    by later None e = (key, cc)
    by later (Some v) e = later (rest_fault (roll-Pair (record { key = key; value = v })) (key_values file root keys) fault e)

with_fault : (text : List ℕ) (r : Result (List Pair) Fault) (fault : Fault) → file_with text r ≡ Err fault → r ≡ Err fault
with_fault text (Ok ps) fault h = absurd (cc)
with_fault text (Err other) fault h = let same : other ≡ fault = cc in ap (λ (x : Fault). Err x) same

file_fault : (w : Tracked) (root : Node) (fault : Fault) → file_keys w root ≡ Err fault → (key : List ℕ) × (fault ≡ f.NoKey w.path key)
file_fault w root fault h =
    elim (cases_Bool w.all) [
      | inl all ↦ let fine = whole_keys w root (in_order key_of (pairs_or_none (pairs_in root))) all refl in absurd (cc)
      | inr some ↦ key_fault w.path root w.keys fault (with_fault w.text (key_values w.path root w.keys) fault (sym (chosen w root some) ∙ h))
    ]

-- ---- one of two refusals

either : (P : Fault → Type 0) (fault due : Fault) → P f.NoMemory → P due → (fault ≡ f.NoMemory) ⊎ (fault ≡ due) → P fault
either P fault due a b (inl e) = subst P (sym e) a
either P fault due a b (inr e) = subst P (sym e) b

memory_free : (fault : Fault) → fault ≡ f.NoMemory → IsTrue (is_free fault)
memory_free fault e = subst (λ (x : Fault). IsTrue (is_free x)) (sym e) refl

pub caused : (before now : Faults) (P Q : Type 0) → (Q → P) → IsCaused before now P → IsCaused before now Q
caused before now P Q to h = record { same = h.same; later = h.later; cause = λ q. h.cause (to q) }

-- ---- a file by what its keys gave

module _ (w : Tracked) (root : Node) where
  module _ (due : Result Node ParamsFault) (is : due ≡ Ok root) where
    read_as : (r : Result ParamFile Fault) → file_keys w root ≡ r → file_read w due ≡ r
    read_as r e = ap (file_read w) is ∙ e

    pub file_answer : (r : Result ParamFile Fault) → Gives r (file_keys w root) → IsAnswer (fault_in r) (fault_in (file_read w due))
    file_answer (Ok file) e = ap fault_in (read_as (Ok file) e)
    file_answer (Err fault) (inl none) = inl (memory_free fault none)
    file_answer (Err fault) (inr e) = inr (ap fault_in (read_as (Err fault) e))

    pub file_value : (r : Result ParamFile Fault) → Gives r (file_keys w root) → IfOk r (λ file. file_read w due ≡ Ok file)
    file_value (Ok file) e = read_as (Ok file) e
    file_value (Err fault) e = tt

  module _ (printable : IsPrintable root) (fits : refused_key (out-Node root) ≡ None) (distinct : IsTrue (are_distinct [] w.keys)) where
    pub file_text : (r : Result ParamFile Fault) → Gives r (file_keys w root) → IfOk r (λ file. file.file ≡ w.text)
    file_text (Ok file) e = (file_keyed root printable fits w file distinct e).0
    file_text (Err fault) e = tt

    pub file_form : (r : Result ParamFile Fault) → Gives r (file_keys w root) → IfOk r (λ file. IsKeyed file.keys)
    file_form (Ok file) e = (file_keyed root printable fits w file distinct e).1
    file_form (Err fault) e = tt

  -- it is refused for want of memory, or of a key
  keyless : (P : Fault → Type 0) (fault : Fault) → P f.NoMemory → ((key : List ℕ) → P (f.NoKey w.path key)) → (fault ≡ f.NoMemory) ⊎ (file_keys w root ≡ Err fault) → P fault
  keyless P fault a b (inl e) = subst P (sym e) a
  keyless P fault a b (inr e) =
      let key = file_fault w root fault e in
      subst P (sym key.1) (b key.0)

  pub file_told : (s : Stage) (r : Result ParamFile Fault) → IsOneOf (map tracked_path s.params) w.path → Gives r (file_keys w root) → TellsOwn s (fault_in r)
  file_told s (Ok file) own e = tt
  file_told s (Err fault) own e = keyless (λ (x : Fault). TellsOwn s (Some x)) fault tt (λ key. own) e

  pub file_kinds : (r : Result ParamFile Fault) → Gives r (file_keys w root) → MayBe tracked_kinds (fault_in r)
  file_kinds (Ok file) e = tt
  file_kinds (Err fault) e = keyless (λ (x : Fault). MayBe tracked_kinds (Some x)) fault refl (λ key. refl) e

  pub file_honest : (tells : Bool) (r : Result ParamFile Fault) → Gives r (file_keys w root) → IsHonest tells (fault_in r)
  file_honest tells (Ok file) e = tt
  file_honest tells (Err fault) e = keyless (λ (x : Fault). IsHonest tells (Some x)) fault tt (λ key. tt) e

  pub file_blameless : (r : Result ParamFile Fault) → Gives r (file_keys w root) → IsErrOf r f.WorldFault → ⊥
  file_blameless (Ok file) e h = absurd (cc)
  file_blameless (Err fault) e h =
      let same : fault ≡ f.WorldFault = cc in
      keyless (λ (x : Fault). x ≡ f.WorldFault → ⊥) fault (λ k. absurd (cc)) (λ key k. absurd (cc)) e same

-- ---- a file by why it holds no parameters

free_why : (file : Path) (why : ParamsFault) → IsTrue (reading.is_free why) → IsTrue (is_free (params_answer file why))
free_why file p.Failed h = refl
free_why file p.NoMemory h = refl
free_why file p.NoFile h = absurd (false≢true h)
free_why file (p.Yaml why) h = absurd (false≢true h)
free_why file (p.Schema key) h = absurd (false≢true h)
free_why file (p.Changed told found) h = absurd (false≢true h)
free_why file p.TooLarge h = absurd (false≢true h)

tells_why : (s : Stage) (file : Path) (why : ParamsFault) → IsOneOf (map tracked_path s.params) file → TellsOwn s (Some (params_answer file why))
tells_why s file p.NoFile own = own
tells_why s file (p.Yaml why) own = own
tells_why s file (p.Schema key) own = own
tells_why s file (p.Changed told found) own =
    let read = any_second (λ out. under out file) (map dep_path s.deps) (map tracked_path s.params) (one_any (map tracked_path s.params) file file own (under-refl file)) in
    inl (any_first (λ out. under out file) (read_paths s) (stage_outs s) read)
tells_why s file p.TooLarge own = refl
tells_why s file p.Failed own = tt
tells_why s file p.NoMemory own = tt

pub why_told : (file : Path) (why : ParamsFault) (fault : Fault) → (fault ≡ f.NoMemory) ⊎ (fault ≡ params_answer file why) → (s : Stage) → IsOneOf (map tracked_path s.params) file → TellsOwn s (Some fault)
why_told file why fault is s own =
    either (λ (x : Fault). TellsOwn s (Some x)) fault (params_answer file why) tt (tells_why s file why own) is

pub why_answer : (w : Tracked) (why : ParamsFault) (fault : Fault) (due : Result Node ParamsFault) → (fault ≡ f.NoMemory) ⊎ (fault ≡ params_answer w.path why) → IsRead (Err why) due → IsAnswer (Some fault) (fault_in (file_read w due))
why_answer w why fault due (inl none) read = inl (memory_free fault none)
why_answer w why fault due (inr e) (inl free) = inl (subst (λ (x : Fault). IsTrue (is_free x)) (sym e) (free_why w.path why free))
why_answer w why fault due (inr e) (inr is) = inr (ap (λ (r : Result Node ParamsFault). fault_in (file_read w r)) is ∙ ap (λ (x : Fault). Some x) (sym e))

-- ---- all files

pub ordered_answer : (got : Option Fault) (r : Result (List ParamFile) Fault) → IsAnswer got (fault_in r) → IsAnswer got (fault_in (files_in_order r))
ordered_answer got (Ok made) h = h
ordered_answer got (Err fault) h = h

pub form_in_order : (ws : List Tracked) (made sorted : List ParamFile) → sorted ≡ in_order file_at made → map file_at made ≡ map tracked_text ws → IsTrue (are_distinct [] (map tracked_text ws)) → Each (λ file. IsKeyed file.keys) made → AreParams sorted
form_in_order ws made sorted e texts distinct keys =
    subst AreParams (sym e) (record {
      files = rising_of_distinct file_at made (ap (are_distinct []) texts ∙ distinct);
      keys = each_in_order file_at (λ file. IsKeyed file.keys) made keys;
    })
