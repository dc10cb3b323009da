-- What is read is in form.
--     entry_form, track_form, book_form      of a node that can be printed and isn't refused
use Rattle.std.proofs.Common.{◌≡◌, ℕ, zero, suc, ◌<◌, ◌^◌, Bool, true, false, not, cond, ◌&&◌, List, [], ◌∷◌, ◌++◌, length, map, filter, Option, Some, None, codes, refl, sym, ap, ◌∙◌, subst, bytes_eq, ◌==◌, arith, append_assoc, inl, inr, nat_lt}
use Rattle.std.specs.Prelude.{ℤ, pos, negsuc, option_and_then, is_some, unwrap_or, IsTrue}
use Rattle.std.specs.Option.{option_map_or}
use Rattle.std.specs.List.{list_all, filter_map, cons_option}
use Rattle.std.proofs.lemmas.Bool.{and_parts, and_from, or_parts, or_from, not-true, cond-true, cond-false, cases_Bool, false≢true}
use Rattle.std.proofs.lemmas.List.{append-nil}
use Rattle.std.proofs.lemmas.Slice.Eq.{bytes_eq-Decides}
use Rattle.dvc_base.specs.Name.{ObjectName, name_in, are_digits}
use Rattle.dvc_base.proofs.NameLemmas.{name_text-in}
use Rattle.dvc_base.specs.declared.data.ParamFile.{ParamFile}
use Rattle.dvc_base.specs.declared.node.Node.{Node, out-Node}
use Rattle.dvc_base.specs.declared.node.Node.TheOpen.{Node-F}
use Rattle.dvc_base.specs.declared.node.Pair.{Pair}
use Rattle.yaml_nodes.specs.Part.{key_of, has_key}
use Rattle.yaml_print.specs.ScalarText.{Layer}
use Rattle.yaml_print.specs.Print.{value_of}
use Rattle.yaml_print.specs.Sound.{Each, Inside, IsScalar, IsProper, are_new, IsSound}
use Rattle.yaml_print.proofs.SoundLemmas.{sound_more}
use Rattle.lock_files.specs.declared.entry.PathEntry.{PathEntry}
use Rattle.lock_files.specs.declared.entry.Entry.{Entry}
use Rattle.lock_files.specs.declared.fault.LockFault.TheVariants.{Schema}
use Rattle.lock_files.specs.Mapping.{pairs_of, pairs_in, items_in, text_in, scalar_at, text_at, number_at, value_at, has, unsigned, number_of, number_in}
use Rattle.lock_files.specs.Order.{in_order, is_rising}
use Rattle.lock_files.specs.Refused as refused
use Rattle.lock_files.specs.Refused.{name_at, is_among, is_new, has_count_by, or_then}
use Rattle.lock_files.specs.Value as value
use Rattle.lock_files.specs.Value.{path_at, is_other_key, pairs_or_none}
use Rattle.lock_files.specs.Book.{Lock, entry_of, set, is_lock}
use Rattle.lock_files.specs.Form.{is_count, is_path_entry, are_paths, are_distinct, IsKeyed, IsEntry, IsTrack, IsBook, file_at}
use Rattle.lock_files.proofs.BookLemmas.{swap}
use Rattle.lock_files.proofs.WithinLemmas.{sound_within_depth}
use Rattle.lock_files.proofs.TableLemmas.{some_none, unless_none, if_none, then_none, map_or_none}
use Rattle.lock_files.proofs.OrderLemmas.{all_in_order, each_in_order, rising_of_distinct}
use Rattle.lock_files.proofs.PrintableLemmas.{new_keys}

-- ---- what stands in a mapping can be printed

abbrev SoundAt : ℕ → Pair → Type 0
SoundAt d p = IsSound d (value_of p)

opened : (l : Layer) (ps : List Pair) → pairs_of l ≡ Some ps → l ≡ Node-F.Pairs ps
opened (Node-F.Pairs qs) ps h = let same : qs ≡ ps = cc in ap (λ x. Node-F.Pairs x) same
opened (Node-F.Items vs) ps h = absurd (cc)
opened Node-F.Null ps h = absurd (cc)
opened (Node-F.Bool b) ps h = absurd (cc)
opened (Node-F.Whole n t) ps h = absurd (cc)
opened (Node-F.Decimal t) ps h = absurd (cc)
opened (Node-F.Text t) ps h = absurd (cc)

-- distinct keys, and values that can be printed one level lower
pub sound_inside : (d : ℕ) (v : Node) (ps : List Pair) → IsSound (suc d) v → pairs_in v ≡ Some ps → (are_new [] ps ≡ true) × Each (SoundAt d) ps
unfolding IsSound
sound_inside d v ps h is =
    let l = opened (out-Node v) ps is in
    (subst IsProper l h.0, subst (Inside (IsSound d)) l h.1)

each_more : (d : ℕ) (ps : List Pair) → Each (SoundAt d) ps → Each (SoundAt (suc d)) ps
each_more d [] h = tt
each_more d (p ∷ ps) h = (sound_more d (value_of p) h.0, each_more d ps h.1)

no_pairs : (v : Node) (ps : List Pair) (o : Type 0) → IsSound 0 v → pairs_in v ≡ Some ps → o
unfolding IsSound
no_pairs v ps o h is = absurd (subst IsScalar (opened (out-Node v) ps is) h.1)

-- the same at one depth
sound_mapping : (d : ℕ) (v : Node) (ps : List Pair) → IsSound d v → pairs_in v ≡ Some ps → (are_new [] ps ≡ true) × Each (SoundAt d) ps
sound_mapping zero v ps h is = no_pairs v ps _ h is
sound_mapping (suc d) v ps h is = let parts = sound_inside d v ps h is in (parts.0, each_more d ps parts.1)

sound_value : (d : ℕ) (key : List ℕ) (ps : List Pair) (v : Node) → Each (SoundAt d) ps → value_at key ps ≡ Some v → IsSound d v
sound_value d key [] v h is = absurd (cc)
sound_value d key (p ∷ ps) v h is =
    elim (cases_Bool (bytes_eq (key_of p) key)) [
      | inl here ↦
          let whole : Some (value_of p) ≡ Some v = sym (cond-true (bytes_eq (key_of p) key) (Some (value_of p)) (value_at key ps) here) ∙ is in
          let same : value_of p ≡ v = cc in
          subst (IsSound d) same h.0
      | inr later ↦ sound_value d key ps v h.1 (sym (cond-false (bytes_eq (key_of p) key) (Some (value_of p)) (value_at key ps) later) ∙ is)
    ]

keys_distinct : (ps : List Pair) → are_new [] ps ≡ true → are_distinct [] (map key_of ps) ≡ true
keys_distinct ps h = sym (new_keys [] ps) ∙ h

-- ---- numbers

small_unsigned : (z : ℤ) (n : ℕ) → unsigned z ≡ Some n → nat_lt n (2 ^ 64) ≡ true
small_unsigned (pos m) n h =
    elim (cases_Bool (nat_lt m (2 ^ 64))) [
      | inl small ↦
          let whole : Some m ≡ Some n = sym (cond-true (nat_lt m (2 ^ 64)) (Some m) None small) ∙ h in
          let same : m ≡ n = cc in
          subst (λ (k : ℕ). nat_lt k (2 ^ 64) ≡ true) same small
      | inr large ↦ some_none _ n (sym h ∙ cond-false (nat_lt m (2 ^ 64)) (Some m) None large)
    ]
small_unsigned (negsuc m) n h = absurd (cc)

small_of : (l : Layer) (n : ℕ) → number_of l ≡ Some n → nat_lt n (2 ^ 64) ≡ true
small_of (Node-F.Whole z t) n h = small_unsigned z n h
small_of (Node-F.Pairs qs) n h = absurd (cc)
small_of (Node-F.Items vs) n h = absurd (cc)
small_of Node-F.Null n h = absurd (cc)
small_of (Node-F.Bool b) n h = absurd (cc)
small_of (Node-F.Decimal t) n h = absurd (cc)
small_of (Node-F.Text t) n h = absurd (cc)

small_by : (o : Option Node) (n : ℕ) → option_and_then number_in o ≡ Some n → nat_lt n (2 ^ 64) ≡ true
small_by None n h = absurd (cc)
small_by (Some v) n h = small_of (out-Node v) n h

small_at : (key : List ℕ) (ps : List Pair) (n : ℕ) → number_at key ps ≡ Some n → nat_lt n (2 ^ 64) ≡ true
small_at key ps n h = small_by (value_at key ps) n h

no_number : (o : Option Node) → not (is_some o) ≡ true → option_and_then number_in o ≡ None
no_number None h = refl
no_number (Some v) h = absurd (false≢true h)

some_of : {A : Type 0} (o : Option A) → is_some o ≡ true → (x : A) × (o ≡ Some x)
some_of None h = absurd (false≢true h)
some_of (Some x) h = (x, refl)

count_by : (dir : Bool) (ps : List Pair) → has_count_by dir ps ≡ true → is_count dir (number_at (codes "nfiles") ps) ≡ true
count_by true ps h =
    let found = some_of (number_at (codes "nfiles") ps) h in
    ap (is_count true) found.1 ∙ small_at (codes "nfiles") ps found.0 found.1
count_by false ps h = ap (is_count false) (no_number (value_at (codes "nfiles") ps) h)

-- ---- path entries

-- what is so of a path entry that isn't refused
record Read (before : List (List ℕ)) (ps : List Pair) : Type 0 where
  pub path : List ℕ
  pub name : ObjectName
  pub size : ℕ
  pub path_is : text_at (codes "path") ps ≡ Some path
  pub new : is_among path before ≡ false
  pub name_is : name_at ps ≡ Some name
  pub size_is : number_at (codes "size") ps ≡ Some size
  pub count : has_count_by name.dir ps ≡ true

new_path : (before : List (List ℕ)) (o : Option (List ℕ)) → is_new before o ≡ true → (path : List ℕ) × (o ≡ Some path) × (is_among path before ≡ false)
new_path before None h = absurd (false≢true h)
new_path before (Some path) h = (path, refl, not-true (is_among path before) h)

read_of : (before : List (List ℕ)) (ps : List Pair) → refused.path_entry_refused before ps ≡ None → Read before ps
read_of before ps h =
    let fields = (then_none _ _ ((then_none _ _ h).1)).1 in
    let path = then_none _ _ fields in
    let md5 = then_none _ _ path.1 in
    let size = then_none _ _ md5.1 in
    let found = new_path before (text_at (codes "path") ps) (unless_none _ _ path.0) in
    let name = some_of (name_at ps) (unless_none _ _ md5.0) in
    let number = some_of (number_at (codes "size") ps) (unless_none _ _ size.0) in
    record {
      path = found.0;
      name = name.0;
      size = number.0;
      path_is = found.1;
      new = found.2;
      name_is = name.1;
      size_is = number.1;
      count = ap (λ n. refused.has_count n ps) (sym name.1) ∙ unless_none _ _ size.1;
    }

abbrev read_entry : (before : List (List ℕ)) (ps : List Pair) → Read before ps → PathEntry
read_entry before ps r = record { path = r.path; name = r.name; size = r.size; nfiles = number_at (codes "nfiles") ps }

read_is : (before : List (List ℕ)) (ps : List Pair) (r : Read before ps) → value.path_entry_in ps ≡ Some (read_entry before ps r)
read_is before ps r =
    ap (λ p. value.path_entry_by p (name_at ps) (number_at (codes "size") ps) (number_at (codes "nfiles") ps)) r.path_is
    ∙ ap (λ n. value.path_entry_by (Some r.path) n (number_at (codes "size") ps) (number_at (codes "nfiles") ps)) r.name_is
    ∙ ap (λ n. value.path_entry_by (Some r.path) (Some r.name) n (number_at (codes "nfiles") ps)) r.size_is

name_digits : (o : Option (List ℕ)) (name : ObjectName) → option_and_then name_in o ≡ Some name → are_digits name.digits ≡ true
name_digits None name h = absurd (cc)
name_digits (Some t) name h = (name_text-in t name h).1

read_good : (before : List (List ℕ)) (ps : List Pair) (r : Read before ps) → is_path_entry (read_entry before ps r) ≡ true
read_good before ps r =
    let e = read_entry before ps r in
    and_from (are_digits r.name.digits) (nat_lt r.size (2 ^ 64) && is_count r.name.dir e.nfiles)
    (name_digits (scalar_at (codes "md5") ps) r.name r.name_is)
    (and_from (nat_lt r.size (2 ^ 64)) (is_count r.name.dir e.nfiles) (small_at (codes "size") ps r.size r.size_is) (count_by r.name.dir ps r.count))

-- ---- lists of path entries

abbrev AreGood : List (List ℕ) → List PathEntry → Type 0
AreGood before es = (list_all is_path_entry es ≡ true) × (are_distinct before (map path_at es) ≡ true)

good_more : (before : List (List ℕ)) (e : PathEntry) (es : List PathEntry) → is_path_entry e ≡ true → is_among e.path before ≡ false → AreGood (before ++ e.path ∷ []) es → AreGood before (e ∷ es)
good_more before e es h new rest = (
  and_from (is_path_entry e) (list_all is_path_entry es) h rest.0,
  and_from (not (is_among e.path before)) (are_distinct (before ++ e.path ∷ []) (map path_at es)) (ap not new) rest.1,
)

items_good : (key : List ℕ) (before : List (List ℕ)) (vs : List Node) → refused.items_refused key before vs ≡ None → AreGood before (filter_map value.item_in vs)
items_good key before [] h = (refl, refl)
items_good key before (v ∷ vs) h =
    let parts = then_none _ _ h in
    let found = map_or_none (refused.path_entry_refused before) (pairs_in v) (Schema key) parts.0 in
    let ps = found.0 in
    let r = read_of before ps found.2 in
    let e = read_entry before ps r in
    let item : value.item_in v ≡ Some e = ap (option_and_then value.path_entry_in) found.1 ∙ read_is before ps r in
    let path : refused.path_of v ≡ r.path =
    ap (λ o. option_map_or refused.path_or_none o []) found.1 ∙ ap (λ t. unwrap_or t []) r.path_is in
    let rest = items_good key (before ++ r.path ∷ []) vs (ap (λ p. refused.items_refused key (before ++ p ∷ []) vs) (sym path) ∙ parts.1) in
    subst (λ o. AreGood before (cons_option o (filter_map value.item_in vs))) (sym item)
    (good_more before e (filter_map value.item_in vs) (read_good before ps r) r.new rest)

list_good : (key : List ℕ) (v : Node) → refused.list_refused key v ≡ None → AreGood [] (filter_map value.item_in (unwrap_or (items_in v) []))
list_good key v h =
    let found = map_or_none (refused.items_refused key []) (items_in v) (Schema key) h in
    subst (λ o. AreGood [] (filter_map value.item_in (unwrap_or o []))) (sym found.1) (items_good key [] found.0 found.2)

listed_good : (key : List ℕ) (o : Option Node) → option_map_or (refused.list_refused key) o None ≡ None → AreGood [] (filter_map value.item_in (option_map_or value.items_or_none o []))
listed_good key None h = (refl, refl)
listed_good key (Some v) h = list_good key v h

sorted_good : (es : List PathEntry) → AreGood [] es → IsTrue (are_paths (in_order path_at es))
sorted_good es h =
    and_from (list_all is_path_entry (in_order path_at es)) (is_rising (map path_at (in_order path_at es)))
    (all_in_order path_at is_path_entry es h.0) (rising_of_distinct path_at es h.1)

-- ---- commands

texts_there : (vs : List Node) → refused.are_some_texts vs ≡ true → 0 < length (filter_map text_in vs)
texts_there [] h = absurd (false≢true h)
texts_there (v ∷ vs) h =
    let both = and_parts (not (length (v ∷ vs) == 0)) (list_all refused.is_command (v ∷ vs)) h in
    let found = some_of (text_in v) (and_parts (is_some (text_in v)) (list_all refused.is_command vs) both.1).0 in
    subst (λ o. 0 < length (cons_option o (filter_map text_in vs))) (sym found.1) (omega arith)

commands_of_there : (l : Layer) → refused.are_commands_of l ≡ true → 0 < length (value.commands_of l)
commands_of_there (Node-F.Text t) h = omega arith
commands_of_there (Node-F.Items vs) h = texts_there vs h
commands_of_there (Node-F.Pairs ps) h = absurd (false≢true h)
commands_of_there Node-F.Null h = absurd (false≢true h)
commands_of_there (Node-F.Bool b) h = absurd (false≢true h)
commands_of_there (Node-F.Whole n t) h = absurd (false≢true h)
commands_of_there (Node-F.Decimal t) h = absurd (false≢true h)

commands_there : (o : Option Node) → refused.are_commands o ≡ true → 0 < length (value.commands_at o)
commands_there None h = absurd (false≢true h)
commands_there (Some v) h = commands_of_there (out-Node v) h

-- ---- parameters

keys_sound : (d : ℕ) (ps : List Pair) → Each (SoundAt d) ps → refused.keys_refused ps ≡ None → Each (SoundAt 59) ps
keys_sound d [] h k = tt
keys_sound d (p ∷ ps) h k =
    let parts = then_none _ _ k in
    (sound_within_depth d 59 (value_of p) h.0 (unless_none _ _ parts.0), keys_sound d ps h.1 parts.1)

file_good : (d : ℕ) (p : Pair) → SoundAt d p → refused.file_refused p ≡ None → IsKeyed (value.keys_of (pairs_or_none (value_of p)))
file_good d p h k =
    let found = map_or_none refused.keys_refused (pairs_in (value_of p)) (Schema (key_of p)) k in
    let ps = found.0 in
    let inside = sound_mapping d (value_of p) ps h found.1 in
    subst (λ o. IsKeyed (value.keys_of (unwrap_or o []))) (sym found.1) (record {
      rising = rising_of_distinct key_of ps (keys_distinct ps inside.0);
      sound = each_in_order key_of (SoundAt 59) ps (keys_sound d ps inside.1 found.2);
    })

abbrev IsFile : Pair → Type 0
IsFile p = IsKeyed (value.keys_of (pairs_or_none (value_of p)))

files_good : (d : ℕ) (ps : List Pair) → Each (SoundAt d) ps → refused.files_refused ps ≡ None → Each IsFile ps
files_good d [] h k = tt
files_good d (p ∷ ps) h k =
    let parts = then_none _ _ k in
    (file_good d p h.0 parts.0, files_good d ps h.1 parts.1)

file_names : (ps : List Pair) → map file_at (map value.param_file ps) ≡ map key_of ps
file_names [] = refl
file_names (p ∷ ps) = ap (λ l. key_of p ∷ l) (file_names ps)

each_mapped : (ps : List Pair) → Each IsFile ps → Each (λ f. IsKeyed f.keys) (map value.param_file ps)
each_mapped [] h = tt
each_mapped (p ∷ ps) h = (h.0, each_mapped ps h.1)

abbrev AreFiles : List ParamFile → Type 0
AreFiles fs = IsTrue (is_rising (map file_at fs)) × Each (λ f. IsKeyed f.keys) fs

params_of_good : (d : ℕ) (ps : List Pair) → are_new [] ps ≡ true → Each (SoundAt d) ps → refused.files_refused ps ≡ None → AreFiles (value.params_of ps)
params_of_good d ps new h k = (
  ap is_rising (file_names (in_order key_of ps)) ∙ rising_of_distinct key_of ps (keys_distinct ps new),
  each_mapped (in_order key_of ps) (each_in_order key_of IsFile ps (files_good d ps h k)),
)

params_good : (d : ℕ) (o : Option Node) → ((v : Node) → o ≡ Some v → IsSound d v) → option_map_or refused.files_node_refused o None ≡ None → AreFiles (option_map_or (λ v. value.params_of (pairs_or_none v)) o [])
params_good d None h k = (refl, tt)
params_good d (Some v) h k =
    let found = map_or_none refused.files_refused (pairs_in v) (Schema (codes "params")) k in
    let inside = sound_mapping d v found.0 (h v refl) found.1 in
    subst (λ o. AreFiles (value.params_of (unwrap_or o []))) (sym found.1) (params_of_good d found.0 inside.0 inside.1 found.2)

-- ---- entries

parts_good : (d : ℕ) (ps : List Pair) → Each (SoundAt d) ps → refused.parts_refused ps ≡ None → IsEntry (value.entry_of ps)
parts_good d ps h k =
    let cmd = then_none _ _ k in
    let deps = then_none _ _ cmd.1 in
    let outs = then_none _ _ deps.1 in
    let files = params_good d (value_at (codes "params") ps) (λ v is. sound_value d (codes "params") ps v h is) outs.1 in
    record {
      commands = commands_there (value_at (codes "cmd") ps) (unless_none _ _ cmd.0);
      deps = sorted_good (value.path_entries (codes "deps") ps) (listed_good (codes "deps") (value_at (codes "deps") ps) deps.0);
      files = files.0;
      keys = files.1;
      outs = sorted_good (value.path_entries (codes "outs") ps) (listed_good (codes "outs") (value_at (codes "outs") ps) outs.0);
    }

pub entry_form : (d : ℕ) (name : List ℕ) (v : Node) → IsSound d v → refused.entry_refused name v ≡ None → IsEntry (value.entry_in v)
entry_form d name v h k =
    let found = map_or_none refused.parts_refused (pairs_in v) (Schema name) k in
    let inside = sound_mapping d v found.0 h found.1 in
    subst (λ o. IsEntry (value.entry_of (unwrap_or o []))) (sym found.1) (parts_good d found.0 inside.1 found.2)

-- ---- track files

others_pass : (ps : List Pair) → list_all is_other_key (filter is_other_key ps) ≡ true
others_pass [] = refl
others_pass (p ∷ ps) =
    elim (cases_Bool (is_other_key p)) [
      | inl h ↦
          ap (list_all is_other_key) (cond-true (is_other_key p) (p ∷ filter is_other_key ps) (filter is_other_key ps) h)
          ∙ and_from (is_other_key p) (list_all is_other_key (filter is_other_key ps)) h (others_pass ps)
      | inr h ↦ ap (list_all is_other_key) (cond-false (is_other_key p) (p ∷ filter is_other_key ps) (filter is_other_key ps) h) ∙ others_pass ps
    ]

others_each : (P : Pair → Type 0) (ps : List Pair) → Each P ps → Each P (filter is_other_key ps)
others_each P [] h = tt
others_each P (p ∷ ps) h =
    elim (is_other_key p) as (λ b. Each P (cond b (p ∷ filter is_other_key ps) (filter is_other_key ps))) [
      | true ↦ (h.0, others_each P ps h.1)
      | false ↦ others_each P ps h.1
    ]

lacks : (key : List ℕ) (p : Pair) (ps : List Pair) → has key (p ∷ ps) ≡ false → (bytes_eq (key_of p) key ≡ false) × (has key ps ≡ false)
lacks key p ps h =
    elim (cases_Bool (bytes_eq (key_of p) key)) [
      | inl here ↦ absurd (false≢true (sym h ∙ ap is_some (cond-true (bytes_eq (key_of p) key) (Some (value_of p)) (value_at key ps) here)))
      | inr later ↦ (later, ap is_some (sym (cond-false (bytes_eq (key_of p) key) (Some (value_of p)) (value_at key ps) later)) ∙ h)
    ]

others_lack : (key : List ℕ) (ps : List Pair) → has key ps ≡ false → has key (filter is_other_key ps) ≡ false
others_lack key [] h = refl
others_lack key (p ∷ ps) h =
    let both = lacks key p ps h in
    let rest = others_lack key ps both.1 in
    elim (cases_Bool (is_other_key p)) [
      | inl k ↦
          ap (has key) (cond-true (is_other_key p) (p ∷ filter is_other_key ps) (filter is_other_key ps) k)
          ∙ ap is_some (cond-false (bytes_eq (key_of p) key) (Some (value_of p)) (value_at key (filter is_other_key ps)) both.0) ∙ rest
      | inr k ↦ ap (has key) (cond-false (is_other_key p) (p ∷ filter is_other_key ps) (filter is_other_key ps) k) ∙ rest
    ]

fewer_found : (key : List ℕ) (p : Pair) (found more : List Pair) → has_key key (found ++ p ∷ more) ≡ false → has_key key (found ++ more) ≡ false
fewer_found key p [] more h = (or_parts (bytes_eq (key_of p) key) (has_key key more) h).1
fewer_found key p (q ∷ found) more h =
    let both = or_parts (bytes_eq (key_of q) key) (has_key key (found ++ p ∷ more)) h in
    or_from (bytes_eq (key_of q) key) (has_key key (found ++ more)) both.0 (fewer_found key p found more both.1)

-- one pair fewer before them
fewer_before : (p : Pair) (found more ps : List Pair) → are_new (found ++ p ∷ more) ps ≡ true → are_new (found ++ more) ps ≡ true
fewer_before p found more [] h = refl
fewer_before p found more (q ∷ ps) h =
    let both = and_parts (not (has_key (key_of q) (found ++ p ∷ more))) (are_new ((found ++ p ∷ more) ++ q ∷ []) ps) h in
    let tail : are_new (found ++ p ∷ (more ++ q ∷ [])) ps ≡ true = ap (λ l. are_new l ps) (sym (append_assoc found (p ∷ more) (q ∷ []))) ∙ both.1 in
    and_from (not (has_key (key_of q) (found ++ more))) (are_new ((found ++ more) ++ q ∷ []) ps)
    (ap not (fewer_found (key_of q) p found more (not-true (has_key (key_of q) (found ++ p ∷ more)) both.0)))
    (ap (λ l. are_new l ps) (append_assoc found more (q ∷ [])) ∙ fewer_before p found (more ++ q ∷ []) ps tail)

others_new : (found ps : List Pair) → are_new found ps ≡ true → are_new found (filter is_other_key ps) ≡ true
others_new found [] h = refl
others_new found (p ∷ ps) h =
    let both = and_parts (not (has_key (key_of p) found)) (are_new (found ++ p ∷ []) ps) h in
    elim (cases_Bool (is_other_key p)) [
      | inl k ↦
          ap (are_new found) (cond-true (is_other_key p) (p ∷ filter is_other_key ps) (filter is_other_key ps) k)
          ∙ and_from (not (has_key (key_of p) found)) (are_new (found ++ p ∷ []) (filter is_other_key ps)) both.0 (others_new (found ++ p ∷ []) ps both.1)
      | inr k ↦
          ap (are_new found) (cond-false (is_other_key p) (p ∷ filter is_other_key ps) (filter is_other_key ps) k)
          ∙ others_new found ps (ap (λ l. are_new l ps) (sym (append-nil found)) ∙ fewer_before p found [] ps both.1)
    ]

filled_there : (o : Option (List Node)) → refused.is_filled_by o ≡ true → (vs : List Node) × (o ≡ Some vs) × (not (length vs == 0) ≡ true)
filled_there None h = absurd (false≢true h)
filled_there (Some vs) h = (vs, refl, h)

-- an item that isn't refused is a path entry
some_items : (key : List ℕ) (vs : List Node) → not (length vs == 0) ≡ true → refused.items_refused key [] vs ≡ None → 0 < length (filter_map value.item_in vs)
some_items key [] h k = absurd (false≢true h)
some_items key (v ∷ vs) h k =
    let found = map_or_none (refused.path_entry_refused []) (pairs_in v) (Schema key) (then_none _ _ k).0 in
    let r = read_of [] found.0 found.2 in
    let item : value.item_in v ≡ Some (read_entry [] found.0 r) = ap (option_and_then value.path_entry_in) found.1 ∙ read_is [] found.0 r in
    subst (λ o. 0 < length (cons_option o (filter_map value.item_in vs))) (sym item) (omega arith)

record Outs (es : List PathEntry) : Type 0 where
  pub some : 0 < length es
  pub good : AreGood [] es

outs_good : (o : Option Node) → option_map_or refused.outs_by o (Some (Schema (codes "outs"))) ≡ None → Outs (filter_map value.item_in (option_map_or value.items_or_none o []))
outs_good None h = some_none _ (Schema (codes "outs")) h
outs_good (Some v) h =
    let parts = then_none _ _ h in
    let list = parts.1 in
    let filled = filled_there (items_in v) (unless_none _ _ parts.0) in
    let items : refused.items_refused (codes "outs") [] filled.0 ≡ None =
    ap (λ o. option_map_or (refused.items_refused (codes "outs") []) o (Some (Schema (codes "outs")))) (sym filled.1) ∙ list in
    record {
      some = subst (λ o. 0 < length (filter_map value.item_in (unwrap_or o []))) (sym filled.1) (some_items (codes "outs") filled.0 filled.2 items);
      good = list_good (codes "outs") v list;
    }

track_pairs_good : (ps : List Pair) → are_new [] ps ≡ true → Each (SoundAt 63) ps → refused.track_pairs_refused ps ≡ None → IsTrack (value.track_of ps)
track_pairs_good ps new sound h =
    let outs = then_none _ _ h in
    let deps = then_none _ _ outs.1 in
    let found = outs_good (value_at (codes "outs") ps) outs.0 in
    record {
      some = found.some;
      outs = found.good.0;
      paths = found.good.1;
      others = others_pass ps;
      no_deps = others_lack (codes "deps") ps (if_none _ _ deps.0);
      no_wdir = others_lack (codes "wdir") ps (if_none _ _ deps.1);
      keys = others_new [] ps new;
      sound = others_each (SoundAt 63) ps sound;
    }

pub track_form : (v : Node) → IsSound 64 v → refused.track_refused v ≡ None → IsTrack (value.track_in v)
track_form v h k =
    let found = map_or_none refused.track_pairs_refused (pairs_in v) (Schema []) k in
    let inside = sound_inside 63 v found.0 h found.1 in
    subst (λ o. IsTrack (value.track_of (unwrap_or o []))) (sym found.1) (track_pairs_good found.0 inside.0 inside.1 found.2)

-- ---- books

abbrev AreStages : Lock → Type 0
AreStages book = Each (λ s. IsEntry s.1) book

-- a book that lacks a stage has another one first, and lacks it behind that
first_other : (s : List ℕ × Entry) (book : Lock) (stage : List ℕ) → is_some (entry_of (s ∷ book) stage) ≡ false → (bytes_eq s.0 stage ≡ false) × (is_some (entry_of book stage) ≡ false)
first_other s book stage h =
    elim (cases_Bool (bytes_eq s.0 stage)) [
      | inl is ↦ absurd (false≢true (sym h ∙ ap is_some (cond-true (bytes_eq s.0 stage) (Some s.1) (entry_of book stage) is)))
      | inr is ↦ (is, ap is_some (sym (cond-false (bytes_eq s.0 stage) (Some s.1) (entry_of book stage) is)) ∙ h)
    ]

other_entry : (book : Lock) (name stage : List ℕ) (e : Entry) → bytes_eq name stage ≡ false → is_some (entry_of book stage) ≡ false → is_some (entry_of (set book name e) stage) ≡ false
other_entry [] name stage e apart h = ap is_some (cond-false (bytes_eq name stage) (Some e) None apart)
other_entry (s ∷ book) name stage e apart h =
    elim (cases_Bool (bytes_eq s.0 name)) [
      | inl here ↦
          let same : s.0 ≡ name = (bytes_eq-Decides s.0 name).0 here in
          let other : bytes_eq s.0 stage ≡ false = subst (λ (n : List ℕ). bytes_eq n stage ≡ false) (sym same) apart in
          ap (λ b. is_some (entry_of b stage)) (cond-true (bytes_eq s.0 name) ((name, e) ∷ book) (s ∷ set book name e) here)
          ∙ ap is_some (cond-false (bytes_eq name stage) (Some e) (entry_of book stage) apart)
          ∙ ap is_some (sym (cond-false (bytes_eq s.0 stage) (Some s.1) (entry_of book stage) other)) ∙ h
      | inr later ↦
          let both = first_other s book stage h in
          ap (λ b. is_some (entry_of b stage)) (cond-false (bytes_eq s.0 name) ((name, e) ∷ book) (s ∷ set book name e) later)
          ∙ ap is_some (cond-false (bytes_eq s.0 stage) (Some s.1) (entry_of (set book name e) stage) both.0)
          ∙ other_entry book name stage e apart both.1
    ]

pub set_names : (book : Lock) (name : List ℕ) (e : Entry) → is_lock book ≡ true → is_lock (set book name e) ≡ true
set_names [] name e h = refl
set_names (s ∷ book) name e h =
    let both = and_parts (not (is_some (entry_of book s.0))) (is_lock book) h in
    elim (cases_Bool (bytes_eq s.0 name)) [
      | inl here ↦
          let same : s.0 ≡ name = (bytes_eq-Decides s.0 name).0 here in
          ap is_lock (cond-true (bytes_eq s.0 name) ((name, e) ∷ book) (s ∷ set book name e) here)
          ∙ and_from (not (is_some (entry_of book name))) (is_lock book) (subst (λ (n : List ℕ). not (is_some (entry_of book n)) ≡ true) same both.0) both.1
      | inr later ↦
          ap is_lock (cond-false (bytes_eq s.0 name) ((name, e) ∷ book) (s ∷ set book name e) later)
          ∙ and_from (not (is_some (entry_of (set book name e) s.0))) (is_lock (set book name e))
          (ap not (other_entry book name s.0 e (swap name s.0 ∙ later) (not-true (is_some (entry_of book s.0)) both.0))) (set_names book name e both.1)
    ]

pub set_entries : (book : Lock) (name : List ℕ) (e : Entry) → AreStages book → IsEntry e → AreStages (set book name e)
set_entries [] name e h k = (k, tt)
set_entries (s ∷ book) name e h k =
    elim (bytes_eq s.0 name) as (λ b. AreStages (cond b ((name, e) ∷ book) (s ∷ set book name e))) [
      | true ↦ (k, h.1)
      | false ↦ (h.0, set_entries book name e h.1 k)
    ]

stages_good : (d : ℕ) (book : Lock) (ps : List Pair) → IsBook book → Each (SoundAt d) ps → refused.entries_refused ps ≡ None → IsBook (value.with_stages book ps)
stages_good d book [] b h k = b
stages_good d book (p ∷ ps) b h k =
    let parts = then_none _ _ k in
    let entry = entry_form d (key_of p) (value_of p) h.0 parts.0 in
    let next : IsBook (value.with_stage book p) = record {
      names = set_names book (key_of p) (value.entry_in (value_of p)) b.names;
      entries = set_entries book (key_of p) (value.entry_in (value_of p)) b.entries entry;
    } in
    stages_good d (value.with_stage book p) ps next h.1 parts.1

empty_book : IsBook []
empty_book = record { names = refl; entries = tt }

-- the stages by what stands under their key
stages_by_good : (d : ℕ) (v : Node) (l : Layer) → out-Node v ≡ l → IsSound d v → refused.stages_by l ≡ None → IsBook (value.with_stages [] (unwrap_or (pairs_of l) []))
stages_by_good d v (Node-F.Pairs ps) is h k =
    let inside = sound_mapping d v ps h (ap pairs_of is) in
    stages_good d [] ps empty_book inside.1 k
stages_by_good d v Node-F.Null is h k = empty_book
stages_by_good d v (Node-F.Items vs) is h k = some_none _ (Schema (codes "stages")) k
stages_by_good d v (Node-F.Bool b) is h k = some_none _ (Schema (codes "stages")) k
stages_by_good d v (Node-F.Whole n t) is h k = some_none _ (Schema (codes "stages")) k
stages_by_good d v (Node-F.Decimal t) is h k = some_none _ (Schema (codes "stages")) k
stages_by_good d v (Node-F.Text t) is h k = some_none _ (Schema (codes "stages")) k

stages_at_good : (d : ℕ) (o : Option Node) → ((v : Node) → o ≡ Some v → IsSound d v) → option_map_or refused.stages_node_refused o (Some (Schema (codes "stages"))) ≡ None → IsBook (value.with_stages [] (option_map_or pairs_or_none o []))
stages_at_good d None h k = some_none _ (Schema (codes "stages")) k
stages_at_good d (Some v) h k = stages_by_good d v (out-Node v) refl (h v refl) k

lock_by_good : (d : ℕ) (v : Node) (l : Layer) → out-Node v ≡ l → IsSound d v → refused.lock_by l ≡ None → IsBook (value.with_stages [] (value.stages_in (unwrap_or (pairs_of l) [])))
lock_by_good d v (Node-F.Pairs ps) is h k =
    let inside = sound_mapping d v ps h (ap pairs_of is) in
    let stages = (then_none _ _ ((then_none _ _ k).1)).1 in
    stages_at_good d (value_at (codes "stages") ps) (λ w found. sound_value d (codes "stages") ps w inside.1 found) stages
lock_by_good d v Node-F.Null is h k = empty_book
lock_by_good d v (Node-F.Items vs) is h k = some_none _ (Schema []) k
lock_by_good d v (Node-F.Bool b) is h k = some_none _ (Schema []) k
lock_by_good d v (Node-F.Whole n t) is h k = some_none _ (Schema []) k
lock_by_good d v (Node-F.Decimal t) is h k = some_none _ (Schema []) k
lock_by_good d v (Node-F.Text t) is h k = some_none _ (Schema []) k

pub book_form : (d : ℕ) (v : Node) → IsSound d v → refused.lock_refused v ≡ None → IsBook (value.lock_in v)
book_form d v h k = lock_by_good d v (out-Node v) refl h k
