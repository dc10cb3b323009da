-- What is so of the stages that a `dvc.yaml` comes to.
--     IsWritten s                  the stage has a command, and no dependency, file of parameters or key of one stands twice
--     good_stages, few_stages      such are the stages of a file, and there are few of them
--     stage_names                  no two of them share a name
use Rattle.std.proofs.Common.{◌≡◌, ℕ, suc, ◌+◌, ◌<◌, ◌≤◌, Bool, true, false, not, ◌||◌, ◌==◌, List, [], ◌∷◌, ◌++◌, length, map, refl, sym, ap, ◌∙◌, subst, arith, bytes_eq, codes, cond, inl, inr, Option, Some, None, Ok, Err, nat_lt, length-append}
use Rattle.std.specs.Prelude.{fold}
use Rattle.std.specs.Option.{option_or, option_map}
use Rattle.std.specs.List.{AllByRecursion, list_any, flat_map}
use Rattle.std.proofs.lemmas.Bool.{and_parts, and_from, or_from, both_ways, false≢true, false_from_ne_true, cases_Bool, cond-true, cond-false, ltb-true}
use Rattle.std.proofs.lemmas.List.{length-map, map-append}
use Rattle.std.proofs.lemmas.List.Folds.{list_any-append}
use Rattle.std.proofs.lemmas.Slice.Eq.{bytes_eq-Decides}
use Rattle.dvc_base.specs.declared.node.Node.{Node, out-Node}
use Rattle.dvc_base.specs.declared.node.Node.TheOpen.{Node-F}
use Rattle.dvc_base.specs.declared.node.Node.TheVariants as nd
use Rattle.dvc_base.specs.declared.node.Pair.{Pair, out-Pair, roll-Pair}
use Rattle.dvc_base.specs.declared.limits.What.TheVariants.{Stages}
use Rattle.dvc_base.specs.Limits.{limit_of}
use Rattle.yaml_print.proofs.NodeCases.{out_text, out_items}
use Rattle.stage_schema.specs.Node.{Layer, key_of, value_of, text_of, pairs_of, items_of, has_key, value_at}
use Rattle.stage_schema.specs.Params.{with_text, each_once, texts_of, item_wants, no_want, joined, with_file, with_want}
use Rattle.stage_schema.specs.Refusal.{first_in, unless, schema_at}
use Rattle.stage_schema.specs.Schema.{are_commands, are_texts, value_fault, stage_at, do_at, is_stage_name, path_fault, command_missing, plain_value_fault, plain_fault, do_fault, each_value_fault, each_fault, keys_fault, body_fault, stage_fault, root_fault}
use Rattle.stage_schema.specs.Stages.{commands_of, stage_with}
use Rattle.stage_schema.specs.declared.fault.ExpandFault.{ExpandFault}
use Rattle.stage_schema.specs.declared.fault.ExpandFault.TheVariants as e
use Rattle.stage_schema.specs.declared.stage.ParamWant.{ParamWant}
use Rattle.stage_schema.specs.declared.stage.Stage.{Stage as Written}
use Rattle.stage_schema.proofs.WantLemmas.{files, files_with_want}
use Rattle.template_expand.specs.Answer.{Answer, then_by, all_by, folded_by}
use Rattle.template_expand.specs.Fill.{filled_text, filled_item, filled_value_layer, filled_value, pair_with, is_filled_key, filled_pair, filled_pairs}
use Rattle.template_expand.specs.Made.{mades}
use Rattle.template_expand.specs.Vars.{top_vars}
use Rattle.template_expand.specs.Expansion.{unless_refused, group_of, filled_stage, stage_made, with_made, body_of, own_vars, with_mades, with_stage, with_written, has_name, second_name, names_fault, stages_of, expansion}
use Rattle.template_expand.specs.declared.files.VarFile.{VarFile}
use Rattle.template_expand.specs.declared.made.Made.{Made}
use Rattle.template_expand.specs.declared.vars.Vars.{Vars}
use Rattle.repro_laws.specs.Lock.{is_among}
use Rattle.repro_laws.proofs.ListLemmas.{each_all}
use Rattle.stage_plan.proofs.DistinctLemmas.{are_distinct, text_swap, distinct-more}

-- ---- refusals

some_fault : {A : Type 0} (a : A) → Some a ≡ None → ⊥
some_fault a h = cc

none_first : (a b : Option ExpandFault) → option_or a b ≡ None → (a ≡ None) × (b ≡ None)
none_first None b h = (refl, h)
none_first (Some x) b h = absurd (some_fault x h)

none_unless : (b : Bool) (fault : ExpandFault) → unless b fault ≡ None → b ≡ true
none_unless true fault h = refl
none_unless false fault h = absurd (some_fault fault h)

none_if : {A : Type 0} (b : Bool) (x : A) (rest : Option A) → cond b (Some x) rest ≡ None → (b ≡ false) × (rest ≡ None)
none_if true x rest h = absurd (some_fault x h)
none_if false x rest h = (refl, h)

none_mapped : {A B : Type 0} (g : A → B) (o : Option A) → option_map g o ≡ None → o ≡ None
none_mapped g None h = refl
none_mapped g (Some x) h = absurd (some_fault (g x) h)

none_else : {A : Type 0} (b : Bool) (x : A) (rest : Option A) → cond b rest (Some x) ≡ None → rest ≡ None
none_else true x rest h = h
none_else false x rest h = absurd (some_fault x h)

-- ---- answers that are Ok

err_ok : {A : Type 0} (why : ExpandFault) (x : A) → ◌≡◌ {A = Answer A} (Err why) (Ok x) → ⊥
err_ok why x h = cc

ok_same : {A : Type 0} (x y : A) → ◌≡◌ {A = Answer A} (Ok x) (Ok y) → x ≡ y
ok_same x y h = cc

-- what came first, and what followed it
came : {A B : Type 0} (next : A → Answer B) (got : Answer A) (made : B) → then_by next got ≡ Ok made → (x : A) × ((got ≡ Ok x) × (next x ≡ Ok made))
came next (Ok x) made h = (x, (refl, h))
came next (Err why) made h = absurd (err_ok why made h)

not_refused : {A : Type 0} (due : Option ExpandFault) (answer : Answer A) (x : A) → unless_refused due answer ≡ Ok x → (due ≡ None) × (answer ≡ Ok x)
not_refused None answer x h = (refl, h)
not_refused (Some why) answer x h = absurd (err_ok why x h)

-- what each step keeps
each_step : {A B : Type 0} (P : B → Type 0) (step : B → A → Answer B) → ((before : B) (x : A) (after : B) → P before → step before x ≡ Ok after → P after) →
    (xs : List A) (before after : B) → P before → folded_by step before xs ≡ Ok after → P after
each_step P step keeps [] before after p h = subst P (ok_same before after h) p
each_step {A} {B} P step keeps (x ∷ xs) before after p h =
    let first = came {A = B} {B = B} (λ next. folded_by step next xs) (step before x) after h in
    each_step P step keeps xs first.0 after (keeps before x first.0 p first.1.0) first.1.1

all_length : {A B : Type 0} (f : A → Answer B) (xs : List A) (ys : List B) → all_by f xs ≡ Ok ys → length xs ≡ length ys
all_length {A} {B} f [] ys h = ap length (ok_same [] ys h)
all_length {A} {B} f (x ∷ xs) ys h =
    let first = came {A = B} {B = List B} (λ y. then_by (λ (more : List B). Ok (y ∷ more)) (all_by f xs)) (f x) ys h in
    let rest = came {A = List B} {B = List B} (λ more. Ok (first.0 ∷ more)) (all_by f xs) ys first.1.1 in
    ap suc (all_length f xs rest.0 rest.1.0) ∙ ap length (ok_same (first.0 ∷ rest.0) ys rest.1.1)

-- ---- the command of a written stage

abbrev HasCommands : List Pair → Type 0
HasCommands pairs = are_commands (value_at (codes "cmd") pairs) ≡ true

value_here : (key : List ℕ) (p : Pair) (pairs : List Pair) → bytes_eq (key_of p) key ≡ true → value_at key (p ∷ pairs) ≡ value_of p
value_here key p pairs h = cond-true (bytes_eq (key_of p) key) (value_of p) (value_at key pairs) h

value_later : (key : List ℕ) (p : Pair) (pairs : List Pair) → bytes_eq (key_of p) key ≡ false → value_at key (p ∷ pairs) ≡ value_at key pairs
value_later key p pairs h = cond-false (bytes_eq (key_of p) key) (value_of p) (value_at key pairs) h

-- what holds of the value of each pair with a key, in which nothing is refused, holds of the value at the key
found_value : (P : Layer → Type 0) (key : List ℕ) (fault : Pair → Option ExpandFault) → ((p : Pair) → key_of p ≡ key → fault p ≡ None → P (value_of p)) →
    (pairs : List Pair) → first_in fault pairs ≡ None → has_key key pairs ≡ true → P (value_at key pairs)
found_value P key fault each [] h has = absurd (false≢true has)
found_value P key fault each (p ∷ pairs) h has =
    let parts = none_first (fault p) (first_in fault pairs) h in
    elim (cases_Bool (bytes_eq (key_of p) key)) [
      | inl here ↦ subst P (sym (value_here key p pairs here)) (each p ((bytes_eq-Decides (key_of p) key).0 here) parts.0)
      | inr later ↦
          let rest : has_key key pairs ≡ true = sym (ap (λ (b : Bool). b || has_key key pairs) later) ∙ has in
          subst P (sym (value_later key p pairs later)) (found_value P key fault each pairs parts.1 rest)
    ]

good_value : (name place : List ℕ) (p : Pair) → key_of p ≡ codes "cmd" → value_fault name place p ≡ None → are_commands (value_of p) ≡ true
good_value name place p same h =
    let told : unless (are_commands (value_of p)) (schema_at (place ∷ codes "cmd" ∷ [])) ≡ None = rw same at h in
    none_unless (are_commands (value_of p)) (schema_at (place ∷ codes "cmd" ∷ [])) told

good_plain : (name : List ℕ) (p : Pair) → key_of p ≡ codes "cmd" → plain_value_fault name p ≡ None → are_commands (value_of p) ≡ true
good_plain name p same h =
    let told : unless (are_commands (value_of p)) (schema_at (stage_at name ∷ codes "cmd" ∷ [])) ≡ None = rw same at h in
    none_unless (are_commands (value_of p)) (schema_at (stage_at name ∷ codes "cmd" ∷ [])) told

good_do : (name : List ℕ) (p : Pair) → key_of p ≡ codes "do" → each_value_fault name p ≡ None → do_fault name (value_of p) ≡ None
good_do name p same h =
    let told : do_fault name (value_of p) ≡ None = rw same at h in
    told

in_plain : (name : List ℕ) (pairs : List Pair) → plain_fault name pairs ≡ None → HasCommands pairs
in_plain name pairs h =
    let parts = none_first (first_in (plain_value_fault name) pairs) (command_missing (stage_at name) pairs) h in
    found_value (λ v. are_commands v ≡ true) (codes "cmd") (plain_value_fault name) (good_plain name) pairs parts.0
    (none_unless (has_key (codes "cmd") pairs) (schema_at (stage_at name ∷ codes "cmd" ∷ [])) parts.1)

in_do : (name : List ℕ) (v : Layer) → do_fault name v ≡ None → HasCommands (pairs_of v)
in_do name (Node-F.Pairs pairs) h =
    let parts = none_first (first_in (value_fault name (do_at name)) pairs) (command_missing (do_at name) pairs) h in
    found_value (λ v. are_commands v ≡ true) (codes "cmd") (value_fault name (do_at name)) (good_value name (do_at name)) pairs parts.0
    (none_unless (has_key (codes "cmd") pairs) (schema_at (do_at name ∷ codes "cmd" ∷ [])) parts.1)
in_do name Node-F.Null h = absurd (some_fault (e.Schema (do_at name)) h)
in_do name (Node-F.Bool b) h = absurd (some_fault (e.Schema (do_at name)) h)
in_do name (Node-F.Whole value t) h = absurd (some_fault (e.Schema (do_at name)) h)
in_do name (Node-F.Decimal t) h = absurd (some_fault (e.Schema (do_at name)) h)
in_do name (Node-F.Text t) h = absurd (some_fault (e.Schema (do_at name)) h)
in_do name (Node-F.Items items) h = absurd (some_fault (e.Schema (do_at name)) h)

in_each : (name : List ℕ) (pairs : List Pair) → each_fault name pairs ≡ None → HasCommands (pairs_of (value_at (codes "do") pairs))
in_each name pairs h =
    let parts = none_first (first_in (each_value_fault name) pairs) (unless (has_key (codes "do") pairs) (e.Schema (do_at name))) h in
    in_do name (value_at (codes "do") pairs)
    (found_value (λ v. do_fault name v ≡ None) (codes "do") (each_value_fault name) (good_do name) pairs parts.0
    (none_unless (has_key (codes "do") pairs) (e.Schema (do_at name)) parts.1))

in_either : (b : Bool) (name : List ℕ) (pairs : List Pair) → cond b (each_fault name pairs) (plain_fault name pairs) ≡ None →
    HasCommands (cond b (pairs_of (value_at (codes "do") pairs)) pairs)
in_either true name pairs h = in_each name pairs h
in_either false name pairs h = in_plain name pairs h

in_body : (name : List ℕ) (v : Layer) → body_fault name v ≡ None → HasCommands (body_of (pairs_of v))
in_body name (Node-F.Pairs pairs) h =
    in_either (has_key (codes "foreach") pairs) name pairs (none_else (is_stage_name name) (e.Schema (stage_at name)) (keys_fault name pairs) h)
in_body name Node-F.Null h = absurd (some_fault (e.Schema (stage_at name)) h)
in_body name (Node-F.Bool b) h = absurd (some_fault (e.Schema (stage_at name)) h)
in_body name (Node-F.Whole value t) h = absurd (some_fault (e.Schema (stage_at name)) h)
in_body name (Node-F.Decimal t) h = absurd (some_fault (e.Schema (stage_at name)) h)
in_body name (Node-F.Text t) h = absurd (some_fault (e.Schema (stage_at name)) h)
in_body name (Node-F.Items items) h = absurd (some_fault (e.Schema (stage_at name)) h)

-- ---- its commands, with variables put into them

some_items : (items : List Node) → not (length items == 0) ≡ true → 0 < length items
some_items [] h = absurd (false≢true h)
some_items (item ∷ items) h = omega arith

some_filled : (scope : List Pair) (v : Node) (layer : Layer) (made : Node) → are_commands layer ≡ true → filled_value_layer scope layer v ≡ Ok made →
    0 < length (commands_of (out-Node made))
some_filled scope v (Node-F.Text t) made h told =
    let text = came {A = List ℕ} {B = Node} (λ x. Ok (nd.Text x)) (filled_text scope t) made told in
    let one : 0 < length (commands_of (Node-F.Text text.0)) = omega arith in
    subst (λ (l : Layer). 0 < length (commands_of l)) (sym (out_text text.0) ∙ ap out-Node (ok_same (nd.Text text.0) made text.1.1)) one
some_filled scope v (Node-F.Items items) made h told =
    let all = came {A = List Node} {B = Node} (λ xs. Ok (nd.Items xs)) (all_by (filled_item scope) items) made told in
    let same : length items ≡ length all.0 = all_length (filled_item scope) items all.0 all.1.0 in
    let count : length (texts_of all.0) ≡ length all.0 = length-map all.0 (λ item. text_of (out-Node item)) in
    let some : 0 < length items = some_items items (and_parts (not (length items == 0)) (are_texts (Node-F.Items items)) h).0 in
    let more : 0 < length (texts_of all.0) = omega (arith, same, count, some) in
    subst (λ (l : Layer). 0 < length (commands_of l)) (sym (out_items all.0) ∙ ap out-Node (ok_same (nd.Items all.0) made all.1.1)) more
some_filled scope v Node-F.Null made h told = absurd (false≢true h)
some_filled scope v (Node-F.Bool b) made h told = absurd (false≢true h)
some_filled scope v (Node-F.Whole value t) made h told = absurd (false≢true h)
some_filled scope v (Node-F.Decimal t) made h told = absurd (false≢true h)
some_filled scope v (Node-F.Pairs pairs) made h told = absurd (false≢true h)

abbrev pair_at : List ℕ → Node → Pair
pair_at key v = roll-Pair (record { key = key; value = v })

same_key : (b : Bool) (p q : Pair) (value : Answer Node) → cond b (pair_with (key_of p) value) (Ok p) ≡ Ok q → key_of q ≡ key_of p
same_key true p q value h =
    let made = came {A = Node} {B = Pair} (λ v. Ok (pair_at (key_of p) v)) value q h in
    sym (ap key_of (ok_same (pair_at (key_of p) made.0) q made.1.1))
same_key false p q value h = sym (ap key_of (ok_same p q h))

filled_command : (scope : List Pair) (p q : Pair) → key_of p ≡ codes "cmd" → filled_pair scope p ≡ Ok q → are_commands (value_of p) ≡ true → 0 < length (commands_of (value_of q))
filled_command scope p q same h some =
    let value : Node = (out-Pair p).value in
    let all : Answer Pair = pair_with (key_of p) (filled_value scope value) in
    let told : all ≡ Ok q = sym (cond-true (is_filled_key (key_of p)) all (Ok p) (ap is_filled_key same)) ∙ h in
    let made = came {A = Node} {B = Pair} (λ v. Ok (pair_at (key_of p) v)) (filled_value scope value) q told in
    subst (λ (x : Pair). 0 < length (commands_of (value_of x))) (ok_same (pair_at (key_of p) made.0) q made.1.1)
    (some_filled scope value (out-Node value) made.0 some made.1.0)

filled_commands : (scope body pairs : List Pair) → all_by (filled_pair scope) body ≡ Ok pairs → HasCommands body → 0 < length (commands_of (value_at (codes "cmd") pairs))
filled_commands scope [] pairs h some = absurd (false≢true some)
filled_commands scope (p ∷ body) pairs h some =
    let first = came {A = Pair} {B = List Pair} (λ q. then_by (λ (more : List Pair). Ok (q ∷ more)) (all_by (filled_pair scope) body)) (filled_pair scope p) pairs h in
    let rest = came {A = List Pair} {B = List Pair} (λ more. Ok (first.0 ∷ more)) (all_by (filled_pair scope) body) pairs first.1.1 in
    let q = first.0 in
    let qs = rest.0 in
    let kept : key_of q ≡ key_of p = same_key (is_filled_key (key_of p)) p q (filled_value scope (out-Pair p).value) first.1.0 in
    let tested : bytes_eq (key_of q) (codes "cmd") ≡ bytes_eq (key_of p) (codes "cmd") = ap (λ (k : List ℕ). bytes_eq k (codes "cmd")) kept in
    let found : 0 < length (commands_of (value_at (codes "cmd") (q ∷ qs))) =
    elim (cases_Bool (bytes_eq (key_of p) (codes "cmd"))) [
      | inl here ↦
          subst (λ (v : Layer). 0 < length (commands_of v)) (sym (value_here (codes "cmd") q qs (tested ∙ here)))
          (filled_command scope p q ((bytes_eq-Decides (key_of p) (codes "cmd")).0 here) first.1.0 (sym (ap are_commands (value_here (codes "cmd") p body here)) ∙ some))
      | inr later ↦
          subst (λ (v : Layer). 0 < length (commands_of v)) (sym (value_later (codes "cmd") q qs (tested ∙ later)))
          (filled_commands scope body qs rest.1.0 (sym (ap are_commands (value_later (codes "cmd") p body later)) ∙ some))
    ] in
    subst (λ (ps : List Pair). 0 < length (commands_of (value_at (codes "cmd") ps))) (ok_same (q ∷ qs) pairs rest.1.1) found

-- ---- texts that stand once

met_swap : (text : List ℕ) (texts : List (List ℕ)) → list_any (bytes_eq text) texts ≡ is_among texts text
met_swap text [] = refl
met_swap text (t ∷ texts) =
    ap (λ (b : Bool). b || list_any (bytes_eq text) texts) (text_swap text t) ∙ ap (λ (b : Bool). bytes_eq t text || b) (met_swap text texts)

with_text-distinct : (texts : List (List ℕ)) (text : List ℕ) → are_distinct texts ≡ true → are_distinct (with_text texts text) ≡ true
with_text-distinct texts text h =
    elim (cases_Bool (list_any (bytes_eq text) texts)) [
      | inl met ↦ ap are_distinct (cond-true (list_any (bytes_eq text) texts) texts (texts ++ text ∷ []) met) ∙ h
      | inr new ↦
          ap are_distinct (cond-false (list_any (bytes_eq text) texts) texts (texts ++ text ∷ []) new)
          ∙ distinct-more texts text h (sym (met_swap text texts) ∙ new)
    ]

all_once : (found texts : List (List ℕ)) → are_distinct found ≡ true → are_distinct (fold with_text found texts) ≡ true
all_once found [] h = h
all_once found (text ∷ texts) h = all_once (with_text found text) texts (with_text-distinct found text h)

once-distinct : (texts : List (List ℕ)) → are_distinct (each_once texts) ≡ true
once-distinct texts = all_once [] texts refl

-- ---- files of parameters

among_files : (wants : List ParamWant) (file : List ℕ) → is_among (files wants) file ≡ list_any (λ (want : ParamWant). bytes_eq file want.file) wants
among_files [] file = refl
among_files (want ∷ wants) file =
    ap (λ (b : Bool). b || is_among (files wants) file) (text_swap want.file file)
    ∙ ap (λ (b : Bool). bytes_eq file want.file || b) (among_files wants file)

with_file-distinct : (wants : List ParamWant) (file : List ℕ) → are_distinct (files wants) ≡ true → are_distinct (files (with_file wants file)) ≡ true
with_file-distinct wants file h =
    let met : Bool = list_any (λ (want : ParamWant). bytes_eq file want.file) wants in
    elim (cases_Bool met) [
      | inl there ↦ ap (λ (ws : List ParamWant). are_distinct (files ws)) (cond-true met wants (wants ++ no_want file ∷ []) there) ∙ h
      | inr new ↦
          ap (λ (ws : List ParamWant). are_distinct (files ws)) (cond-false met wants (wants ++ no_want file ∷ []) new)
          ∙ ap are_distinct (map-append (λ (want : ParamWant). want.file) wants (no_want file ∷ []))
          ∙ distinct-more (files wants) file h (among_files wants file ∙ new)
    ]

all_files : (found wants : List ParamWant) → are_distinct (files found) ≡ true → are_distinct (files (fold with_want found wants)) ≡ true
all_files found [] h = h
all_files found (want ∷ wants) h =
    all_files (with_want found want) wants (ap are_distinct (files_with_want found want) ∙ with_file-distinct found want.file h)

abbrev pub HasKeysOnce : ParamWant → Type 0
HasKeysOnce want = are_distinct want.keys ≡ true

joined-once : (b : Bool) (have want : ParamWant) → HasKeysOnce have →
    HasKeysOnce (cond b (record have { keys = []; all = true }) (record have { keys = fold with_text have.keys want.keys }))
joined-once true have want h = refl
joined-once false have want h = all_once have.keys want.keys h

keys_with_want : (wants : List ParamWant) (want : ParamWant) → AllByRecursion HasKeysOnce wants → AllByRecursion HasKeysOnce (with_want wants want)
keys_with_want [] want h = (joined-once (want.all) (no_want want.file) want refl, tt)
keys_with_want (have ∷ wants) want h =
    let same : Bool = bytes_eq want.file have.file in
    elim (cases_Bool same) [
      | inl here ↦
          subst (AllByRecursion HasKeysOnce) (sym (cond-true same (joined have want ∷ wants) (have ∷ with_want wants want) here))
          (joined-once (have.all || want.all) have want h.0, h.1)
      | inr later ↦
          subst (AllByRecursion HasKeysOnce) (sym (cond-false same (joined have want ∷ wants) (have ∷ with_want wants want) later))
          (h.0, keys_with_want wants want h.1)
    ]

all_keys : (found wants : List ParamWant) → AllByRecursion HasKeysOnce found → AllByRecursion HasKeysOnce (fold with_want found wants)
all_keys found [] h = h
all_keys found (want ∷ wants) h = all_keys (with_want found want) wants (keys_with_want found want h)

-- ---- a stage

pub record IsWritten (s : Written) : Type 0 where
  pub commands : 0 < length s.commands
  pub deps : are_distinct s.deps ≡ true
  pub param_files : are_distinct (files s.params) ≡ true
  pub param_keys : AllByRecursion HasKeysOnce s.params

written_with : (name group : List ℕ) (pairs : List Pair) → 0 < length (commands_of (value_at (codes "cmd") pairs)) → IsWritten (stage_with name group pairs)
written_with name group pairs some =
    let wants : List ParamWant = flat_map (λ item. item_wants (out-Node item)) (items_of (value_at (codes "params") pairs)) in
    record {
      commands = some;
      deps = once-distinct (texts_of (items_of (value_at (codes "deps") pairs)));
      param_files = all_files [] wants refl;
      param_keys = all_keys [] wants tt;
    }

good_made : (name : List ℕ) (vars body : List Pair) (made : Made) (s : Written) → HasCommands body → stage_made name vars body made ≡ Ok s → IsWritten s
good_made name vars body made s some h =
    let filled = came {A = List Pair} {B = Written} (filled_stage name made) (filled_pairs (made.hiding ++ vars) body) s h in
    let stage : Written = stage_with (name ++ made.suffix) (group_of name made) filled.0 in
    let told = not_refused (first_in (path_fault name) filled.0) (Ok stage) s filled.1.1 in
    subst IsWritten (ok_same stage s told.1)
    (written_with (name ++ made.suffix) (group_of name made) filled.0 (filled_commands (made.hiding ++ vars) body filled.0 filled.1.0 some))

-- ---- a file

-- what is so of the stages that were made so far
record AreGood (limit : ℕ) (ss : List Written) : Type 0 where
  each : AllByRecursion IsWritten ss
  few : length ss ≤ limit

one_more : (limit : ℕ) (before : List Written) (s : Written) → nat_lt (length before) limit ≡ true → AreGood limit before → IsWritten s → AreGood limit (before ++ s ∷ [])
one_more limit before s below good it =
    let room : length before < limit = ltb-true (length before) limit below in
    let size : length (before ++ s ∷ []) ≡ length before + 1 = length-append before (s ∷ []) in
    record {
      each = each_all IsWritten before (s ∷ []) good.each (it, tt);
      few = omega (arith, room, size);
    }

with_one : (limit : ℕ) (name : List ℕ) (vars body : List Pair) → HasCommands body →
    (before : List Written) (made : Made) (after : List Written) → AreGood limit before → with_made limit name vars body before made ≡ Ok after → AreGood limit after
with_one limit name vars body some before made after good h = by (nat_lt (length before) limit) refl h
  where
    by : (b : Bool) → nat_lt (length before) limit ≡ b →
        cond b (then_by (λ (s : Written). Ok (before ++ s ∷ [])) (stage_made name vars body made)) (Err (e.TooMany (limit + 1))) ≡ Ok after → AreGood limit after
    by true below told =
        let one = came {A = Written} {B = List Written} (λ s. Ok (before ++ s ∷ [])) (stage_made name vars body made) after told in
        subst (AreGood limit) (ok_same (before ++ one.0 ∷ []) after one.1.1) (one_more limit before one.0 below good (good_made name vars body made one.0 some one.1.0))
    by false past told = absurd (err_ok (e.TooMany (limit + 1)) after told)

with_all : (limit : ℕ) (var_files : List VarFile) (top : Vars) (name : List ℕ) (pairs : List Pair) → HasCommands (body_of pairs) →
    (before after : List Written) → AreGood limit before → with_stage limit var_files top before name pairs ≡ Ok after → AreGood limit after
with_all limit var_files top name pairs some before after good h =
    let body : List Pair = body_of pairs in
    let own = came {A = Vars} {B = List Written} (λ own. with_mades limit before name own.variables body (mades name top.variables own.variables pairs))
    (own_vars var_files name top body) after h in
    let vars : List Pair = own.0.variables in
    let all = came {A = List Made} {B = List Written} (folded_by (with_made limit name vars body) before) (mades name top.variables vars pairs) after own.1.1 in
    each_step (AreGood limit) (with_made limit name vars body) (with_one limit name vars body some) all.0 before after good all.1.1

with_next : (limit : ℕ) (var_files : List VarFile) (top : Vars) (before : List Written) (s : Pair) (after : List Written) → AreGood limit before →
    with_written limit var_files top before s ≡ Ok after → AreGood limit after
with_next limit var_files top before s after good h =
    let told = not_refused (stage_fault s) (with_stage limit var_files top before (key_of s) (pairs_of (value_of s))) after h in
    with_all limit var_files top (key_of s) (pairs_of (value_of s)) (in_body (key_of s) (value_of s) told.0) before after good told.1

-- such are the stages of a file, and no name stands twice
record AreSaid (ss : List Written) : Type 0 where
  good : AreGood (limit_of Stages) ss
  once : second_name [] ss ≡ None

are_said : (root : Node) (var_files : List VarFile) (ss : List Written) → expansion root var_files ≡ Ok ss → AreSaid ss
are_said root var_files ss h =
    let layer : Layer = out-Node root in
    let limit : ℕ = limit_of Stages in
    let written : List Pair = pairs_of (value_at (codes "stages") (pairs_of layer)) in
    let told = not_refused (root_fault layer) (then_by (λ (said : List Written). unless_refused (names_fault said) (Ok said)) (stages_of var_files layer)) ss h in
    let said = came {A = List Written} {B = List Written} (λ said. unless_refused (names_fault said) (Ok said)) (stages_of var_files layer) ss told.1 in
    let named = not_refused (names_fault said.0) (Ok said.0) ss said.1.1 in
    let once = none_mapped (λ (name : List ℕ). schema_at (codes "stages" ∷ name ∷ [])) (second_name [] said.0) named.0 in
    let top = came {A = Vars} {B = List Written} (λ top. folded_by (with_written limit var_files top) [] written) (top_vars var_files layer) said.0 said.1.0 in
    let good = each_step (AreGood limit) (with_written limit var_files top.0) (with_next limit var_files top.0) written [] said.0 (record { each = tt; few = omega arith }) top.1.1 in
    subst AreSaid (ok_same said.0 ss named.1) (record { good = good; once = once })

pub good_stages : (root : Node) (var_files : List VarFile) (ss : List Written) → expansion root var_files ≡ Ok ss → AllByRecursion IsWritten ss
good_stages root var_files ss h = (are_said root var_files ss h).good.each

pub few_stages : (root : Node) (var_files : List VarFile) (ss : List Written) → expansion root var_files ≡ Ok ss → length ss ≤ limit_of Stages
few_stages root var_files ss h = (are_said root var_files ss h).good.few

-- ---- names

abbrev names : List Written → List (List ℕ)
names ss = map (λ (s : Written). s.name) ss

none_later : (name : List ℕ) (before ss : List Written) → second_name before ss ≡ None → has_name name before ≡ true → is_among (names ss) name ≡ false
none_later name before [] h has = refl
none_later name before (s ∷ ss) h has =
    let parts = none_if (has_name s.name before) s.name (second_name (before ++ s ∷ []) ss) h in
    let other : bytes_eq s.name name ≡ false =
    false_from_ne_true (bytes_eq s.name name) (λ same.
    both_ways (has_name s.name before) parts.0 (ap (λ (x : List ℕ). has_name x before) ((bytes_eq-Decides s.name name).0 same) ∙ has)) in
    let more : has_name name (before ++ s ∷ []) ≡ true =
    list_any-append (λ (x : Written). bytes_eq name x.name) before (s ∷ []) ∙ ap (λ (b : Bool). b || has_name name (s ∷ [])) has in
    or_from (bytes_eq s.name name) (is_among (names ss) name) other (none_later name (before ++ s ∷ []) ss parts.1 more)

ends : (a : Bool) → (a || (true || false)) ≡ true
ends true = refl
ends false = refl

last_name : (before : List Written) (s : Written) → has_name s.name (before ++ s ∷ []) ≡ true
last_name before s =
    list_any-append (λ (x : Written). bytes_eq s.name x.name) before (s ∷ [])
    ∙ ap (λ (b : Bool). has_name s.name before || (b || false)) ((bytes_eq-Decides s.name s.name).1 refl)
    ∙ ends (has_name s.name before)

distinct_names : (before ss : List Written) → second_name before ss ≡ None → are_distinct (names ss) ≡ true
distinct_names before [] h = refl
distinct_names before (s ∷ ss) h =
    let parts = none_if (has_name s.name before) s.name (second_name (before ++ s ∷ []) ss) h in
    let first = none_later s.name (before ++ s ∷ []) ss parts.1 (last_name before s) in
    and_from (not (is_among (names ss) s.name)) (are_distinct (names ss)) (ap not first) (distinct_names (before ++ s ∷ []) ss parts.1)

pub stage_names : (root : Node) (var_files : List VarFile) (ss : List Written) → expansion root var_files ≡ Ok ss → are_distinct (map (λ s. s.name) ss) ≡ true
stage_names root var_files ss h = distinct_names [] ss (are_said root var_files ss h).once
