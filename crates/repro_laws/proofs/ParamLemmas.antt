-- The parameters that a stage tracks.
--     reads_each         what holds of each path that a stage reads, of its dependencies and its files of parameters
--     params_by_files    they are what the files at their paths say
--     tracked_same, params_same                   and so the same where the same values stand
--     read_same          what is read is one
--     params_stand       where something is read, each file stands
--     params_form        and what is read is in form
--     sound_of_params, canonical_of_params        and can be compared
--     sound_of_entry     as the parameters of an entry can
use Rattle.std.proofs.Common.{◌≡◌, ℕ, Bool, true, false, cond, List, [], ◌∷◌, length, map, Option, Some, None, Result, Ok, Err, refl, sym, ap, subst, ◌∙◌, nat_lt}
use Rattle.std.specs.Prelude.{IsTrue}
use Rattle.std.specs.List.{AllByRecursion}
use Rattle.dvc_base.specs.Path.{Path}
use Rattle.dvc_base.specs.Limits.{limit_of}
use Rattle.dvc_base.specs.declared.limits.What.TheVariants.{YamlText}
use Rattle.dvc_base.specs.declared.data.ParamFile.{ParamFile}
use Rattle.dvc_base.specs.declared.fault.Fault.{Fault}
use Rattle.dvc_base.specs.declared.fault.Fault.TheVariants.{NoKey}
use Rattle.dvc_base.specs.declared.node.Node.{Node}
use Rattle.dvc_base.specs.declared.node.Pair.{Pair, roll-Pair}
use Rattle.world_api.specs.Tree.{Tree, Item, folder, file, Value, content, item_at, value_of, value_at}
use Rattle.yaml_nodes.specs.Part.{key_of}
use Rattle.yaml_print.specs.Print.{value_of as value_in}
use Rattle.yaml_print.specs.Sound.{Each, IsSound}
use Rattle.lock_files.specs.declared.entry.Entry.{Entry}
use Rattle.lock_files.specs.Mapping.{pairs_of, pairs_in}
use Rattle.lock_files.specs.Order.{in_order}
use Rattle.lock_files.specs.Form.{are_distinct, IsKeyed, IsEntry, file_at as file_text}
use Rattle.lock_files.proofs.OrderLemmas.{each_in_order, rising_of_distinct}
use Rattle.params.specs.Lookup.{lookup}
use Rattle.params.specs.Read.{params_at as params_of_item, params_in}
use Rattle.params.specs.declared.fault.ParamsFault.{ParamsFault}
use Rattle.params.specs.declared.fault.ParamsFault.TheVariants.{NoFile, TooLarge}
use Rattle.params.proofs.PairLemmas.{distinct_keys}
use Rattle.params.proofs.FoundLemmas.{IsRoot, root_read, found_sound}
use Rattle.change_check.specs.Same.{canonical_files}
use Rattle.change_check.specs.Sound.{AreSound, AreCanonical}
use Rattle.change_check.proofs.ValueLemmas.{are_canonical, keyed_sound, entry_sound}
use Rattle.repro_laws.specs.Params.{found_value, key_value, with_first, key_values, pairs_or_none, params_answer, file_with, file_read, tracked_at, files_in_order, AreParams}
use Rattle.repro_laws.specs.Stage.{dep_path, tracked_path, tracked_text, read_paths, is_nothing, params_at, IsStage}
use Rattle.repro_laws.specs.declared.stage.Tracked.{Tracked}
use Rattle.repro_laws.specs.declared.stage.Stage.{Stage}
use Rattle.repro_laws.proofs.FileLemmas.{only_file, file_at}
use Rattle.repro_laws.proofs.AlikeLemmas.{each_on, each_front, each_mapped, only_item}

-- ---- what a stage reads

pub reads_each : (P : Path → Type 0) (s : Stage) → AllByRecursion P (read_paths s) → AllByRecursion (λ d. P d.path) s.deps × AllByRecursion (λ w. P w.path) s.params
reads_each P s all =
    let parts = each_front P (map dep_path s.deps) (map tracked_path s.params) all in
    (each_mapped dep_path P s.deps parts.0, each_mapped tracked_path P s.params parts.1)

-- ---- parameters are what files say

abbrev read_only : Option (List ℕ) → Result Node ParamsFault
read_only None = Err NoFile
read_only (Some text) = cond (nat_lt (limit_of YamlText) (length text)) (Err TooLarge) (params_in text)

-- a folder is no file of parameters, and neither is nothing
read_by : (o : Option Item) → params_of_item o ≡ read_only (only_file o)
read_by None = refl
read_by (Some folder) = refl
read_by (Some (file bytes)) = refl

tracked_by : (t u : Tree) (ws : List Tracked) → AllByRecursion (λ w. only_file (item_at u w.path) ≡ only_file (item_at t w.path)) ws → tracked_at u ws ≡ tracked_at t ws
tracked_by t u [] same = refl
tracked_by t u (w ∷ ws) same =
    let here : params_of_item (item_at u w.path) ≡ params_of_item (item_at t w.path) =
    read_by (item_at u w.path) ∙ ap read_only same.0 ∙ sym (read_by (item_at t w.path)) in
    ap (λ (r : Result Node ParamsFault). with_first (file_read w r) (tracked_at u ws)) here ∙ ap (with_first (file_read w (params_of_item (item_at t w.path)))) (tracked_by t u ws same.1)

pub params_by_files : (s : Stage) (t u : Tree) → AllByRecursion (λ w. file_at u w.path ≡ file_at t w.path) s.params → params_at s u ≡ params_at s t
params_by_files s t u same =
    ap files_in_order (tracked_by t u s.params (each_on (λ w. file_at u w.path ≡ file_at t w.path) (λ w. only_file (item_at u w.path) ≡ only_file (item_at t w.path)) s.params (λ w e. only_item t u w.path e) same))

-- ---- and values tell files

abbrev bytes_in : Value → Option (List ℕ)
bytes_in (content bytes) = Some bytes
bytes_in _ = None

told : (t : Tree) (p : Path) (o : Option Item) → bytes_in (value_of t p o) ≡ only_file o
told t p None = refl
told t p (Some folder) = refl
told t p (Some (file bytes)) = refl

value_tells : (t u : Tree) (p : Path) → value_at u p ≡ value_at t p → only_file (item_at u p) ≡ only_file (item_at t p)
value_tells t u p e = sym (told u p (item_at u p)) ∙ ap bytes_in e ∙ told t p (item_at t p)

pub tracked_same : (t u : Tree) (ws : List Tracked) → AllByRecursion (λ w. value_at u w.path ≡ value_at t w.path) ws → tracked_at u ws ≡ tracked_at t ws
tracked_same t u ws same =
    tracked_by t u ws (each_on (λ w. value_at u w.path ≡ value_at t w.path) (λ w. only_file (item_at u w.path) ≡ only_file (item_at t w.path)) ws (λ w e. value_tells t u w.path e) same)

pub params_same : (s : Stage) (t u : Tree) → AllByRecursion (λ w. value_at u w.path ≡ value_at t w.path) s.params → params_at s u ≡ params_at s t
params_same s t u same = ap files_in_order (tracked_same t u s.params same)

-- ---- answers

refused : {A : Type 0} (fault : Fault) (x : A) → ◌≡◌ {A = Result A Fault} (Err fault) (Ok x) → ⊥
refused fault x e = absurd (cc)

ok_same : {A : Type 0} (x y : A) → ◌≡◌ {A = Result A Fault} (Ok x) (Ok y) → x ≡ y
ok_same x y e = cc

pub read_same : (ps qs : List ParamFile) → ◌≡◌ {A = Result (List ParamFile) Fault} (Ok ps) (Ok qs) → ps ≡ qs
read_same ps qs e = ok_same ps qs e

-- the first of a list that was answered, and the others
record IsFirst {A : Type 0} (first : Result A Fault) (rest : Result (List A) Fault) (all : List A) : Type 0 where
  x : A
  xs : List A
  here : first ≡ Ok x
  more : rest ≡ Ok xs
  whole : x ∷ xs ≡ all

first_of : {A : Type 0} (first : Result A Fault) (rest : Result (List A) Fault) (all : List A) → with_first first rest ≡ Ok all → IsFirst first rest all
first_of (Err fault) rest all e = absurd (refused fault all e)
first_of (Ok x) (Err fault) all e = absurd (refused fault all e)
first_of (Ok x) (Ok xs) all e = record { x = x; xs = xs; here = refl; more = refl; whole = ok_same (x ∷ xs) all e }

item_stands : (t : Tree) (w : Tracked) (o : Option Item) (f : ParamFile) → file_read w (params_of_item o) ≡ Ok f → is_nothing (value_of t w.path o) ≡ false
item_stands t w None f e = absurd (refused (params_answer w.path NoFile) f e)
item_stands t w (Some folder) f e = refl
item_stands t w (Some (file bytes)) f e = refl

tracked_stand : (t : Tree) (ws : List Tracked) (fs : List ParamFile) → tracked_at t ws ≡ Ok fs → AllByRecursion (λ w. is_nothing (value_at t w.path) ≡ false) ws
tracked_stand t [] fs e = tt
tracked_stand t (w ∷ ws) fs e =
    let first = first_of (file_read w (params_of_item (item_at t w.path))) (tracked_at t ws) fs e in
    (item_stands t w (item_at t w.path) first.x first.here, tracked_stand t ws first.xs first.more)

pub params_stand : (s : Stage) (t : Tree) (ps : List ParamFile) → params_at s t ≡ Ok ps → AllByRecursion (λ w. is_nothing (value_at t w.path) ≡ false) s.params
params_stand s t ps e = by (tracked_at t s.params) refl e
  where
    by : (o : Result (List ParamFile) Fault) → tracked_at t s.params ≡ o → files_in_order o ≡ Ok ps → AllByRecursion (λ w. is_nothing (value_at t w.path) ≡ false) s.params
    by (Err fault) at e = absurd (refused fault ps e)
    by (Ok fs) at e = tracked_stand t s.params fs at

-- ---- keys

abbrev AreSoundAt : List Pair → Type 0
AreSoundAt ps = Each (λ p. IsSound 59 (value_in p)) ps

key_form : (path : Path) (root : Node) (key : List ℕ) (p : Pair) → IsRoot root → key_value path root key ≡ Ok p → (key_of p ≡ key) × IsSound 59 (value_in p)
key_form path root key p is e = by (lookup key root) refl e
  where
    by : (o : Option Node) → lookup key root ≡ o → found_value path key o ≡ Ok p → (key_of p ≡ key) × IsSound 59 (value_in p)
    by None at e = absurd (refused (NoKey path key) p e)
    by (Some value) at e =
        let same : roll-Pair (record { key = key; value = value }) ≡ p = ok_same (roll-Pair (record { key = key; value = value })) p e in
        (ap key_of (sym same), subst (λ (q : Pair). IsSound 59 (value_in q)) same (found_sound key root value is at))

keys_form : (path : Path) (root : Node) (keys : List (List ℕ)) (ps : List Pair) → IsRoot root → key_values path root keys ≡ Ok ps → (map key_of ps ≡ keys) × AreSoundAt ps
keys_form path root [] ps is e =
    subst (λ (qs : List Pair). (map key_of qs ≡ []) × AreSoundAt qs) (ok_same [] ps e) (refl, tt)
keys_form path root (key ∷ keys) ps is e =
    let first = first_of (key_value path root key) (key_values path root keys) ps e in
    let here = key_form path root key first.x is first.here in
    let more = keys_form path root keys first.xs is first.more in
    subst (λ (qs : List Pair). (map key_of qs ≡ key ∷ keys) × AreSoundAt qs) first.whole
    (ap (λ k. k ∷ map key_of first.xs) here.0 ∙ ap (λ ks. key ∷ ks) more.0, (here.1, more.1))

-- ---- files

-- distinct keys, each with a value that can be printed there
abbrev AreKept : List Pair → Type 0
AreKept ps = (are_distinct [] (map key_of ps) ≡ true) × AreSoundAt ps

kept_form : (text : List ℕ) (o : Result (List Pair) Fault) (f : ParamFile) → ((ps : List Pair) → o ≡ Ok ps → AreKept ps) → file_with text o ≡ Ok f → (f.file ≡ text) × IsKeyed f.keys
kept_form text (Err fault) f kept e = absurd (refused fault f e)
kept_form text (Ok ps) f kept e =
    let made : ParamFile = record { file = text; keys = in_order key_of ps } in
    let parts = kept ps refl in
    subst (λ (g : ParamFile). (g.file ≡ text) × IsKeyed g.keys) (ok_same made f e) (
      refl,
      record {
        rising = rising_of_distinct key_of ps parts.0;
        sound = each_in_order key_of (λ p. IsSound 59 (value_in p)) ps parts.1;
      },
    )

whole_kept : (root : Node) → IsRoot root → AreKept (pairs_or_none (pairs_in root))
whole_kept root is =
    let same : pairs_or_none (pairs_in root) ≡ is.pairs = ap (λ l. pairs_or_none (pairs_of l)) is.layer in
    subst AreKept (sym same) (distinct_keys is.pairs is.new, is.sound)

keys_kept : (w : Tracked) (root : Node) → IsRoot root → IsTrue (are_distinct [] w.keys) → (all : Bool) (ps : List Pair) → cond all (Ok (pairs_or_none (pairs_in root))) (key_values w.path root w.keys) ≡ Ok ps → AreKept ps
keys_kept w root is distinct true ps e = subst AreKept (ok_same (pairs_or_none (pairs_in root)) ps e) (whole_kept root is)
keys_kept w root is distinct false ps e =
    let form = keys_form w.path root w.keys ps is e in
    (ap (are_distinct []) form.0 ∙ distinct, form.1)

file_form : (w : Tracked) (r : Result Node ParamsFault) (f : ParamFile) → ((root : Node) → r ≡ Ok root → IsRoot root) → IsTrue (are_distinct [] w.keys) → file_read w r ≡ Ok f → (f.file ≡ w.text) × IsKeyed f.keys
file_form w (Err why) f is distinct e = absurd (refused (params_answer w.path why) f e)
file_form w (Ok root) f is distinct e =
    kept_form w.text (cond w.all (Ok (pairs_or_none (pairs_in root))) (key_values w.path root w.keys)) f (λ ps h. keys_kept w root (is root refl) distinct w.all ps h) e

tracked_form : (t : Tree) (ws : List Tracked) (fs : List ParamFile) → AllByRecursion (λ w. IsTrue (are_distinct [] w.keys)) ws → tracked_at t ws ≡ Ok fs → (map file_text fs ≡ map tracked_text ws) × Each (λ f. IsKeyed f.keys) fs
tracked_form t [] fs distinct e =
    subst (λ (gs : List ParamFile). (map file_text gs ≡ []) × Each (λ f. IsKeyed f.keys) gs) (ok_same [] fs e) (refl, tt)
tracked_form t (w ∷ ws) fs distinct e =
    let read = params_of_item (item_at t w.path) in
    let first = first_of (file_read w read) (tracked_at t ws) fs e in
    let here = file_form w read first.x (λ root h. root_read (item_at t w.path) root h) distinct.0 first.here in
    let more = tracked_form t ws first.xs distinct.1 first.more in
    subst (λ (gs : List ParamFile). (map file_text gs ≡ map tracked_text (w ∷ ws)) × Each (λ f. IsKeyed f.keys) gs) first.whole
    (ap (λ k. k ∷ map file_text first.xs) here.0 ∙ ap (λ ks. w.text ∷ ks) more.0, (here.1, more.1))

ordered_form : (fs : List ParamFile) → are_distinct [] (map file_text fs) ≡ true → Each (λ f. IsKeyed f.keys) fs → AreParams (in_order file_text fs)
ordered_form fs distinct keyed =
    record { files = rising_of_distinct file_text fs distinct; keys = each_in_order file_text (λ f. IsKeyed f.keys) fs keyed }

pub params_form : (s : Stage) (t : Tree) (ps : List ParamFile) → IsStage s → params_at s t ≡ Ok ps → AreParams ps
params_form s t ps is e = by (tracked_at t s.params) refl e
  where
    by : (o : Result (List ParamFile) Fault) → tracked_at t s.params ≡ o → files_in_order o ≡ Ok ps → AreParams ps
    by (Err fault) at e = absurd (refused fault ps e)
    by (Ok fs) at e =
        let form = tracked_form t s.params fs is.param_keys at in
        subst AreParams (ok_same (in_order file_text fs) ps e) (ordered_form fs (ap (are_distinct []) form.0 ∙ is.param_texts) form.1)

-- ---- what can be compared

pub sound_of_params : (ps : List ParamFile) → AreParams ps → AreSound ps
sound_of_params ps form = keyed_sound ps form.keys

pub canonical_of_params : (ps : List ParamFile) → AreParams ps → AreCanonical (canonical_files ps)
canonical_of_params ps form = are_canonical ps (sound_of_params ps form)

pub sound_of_entry : (e : Entry) → IsEntry e → AreSound e.params
sound_of_entry e form = entry_sound e form
