-- What is in form can be printed.
--     entry_printable, key_printable, track_printable, book_printable
use Rattle.std.proofs.Common.{◌≡◌, ℕ, ◌+◌, ◌-◌, ◌*◌, ◌<◌, ◌≤◌, ◌^◌, Bool, true, false, not, cond, ◌&&◌, ◌||◌, List, [], ◌∷◌, ◌++◌, length, map, Option, Some, None, Ok, codes, refl, sym, ap, ◌∙◌, subst, bytes_eq, ◌==◌, arith, inl, inr, nat_lt, nat_le, drop, rules}
use Rattle.std.specs.Prelude.{pos, is_some, IsTrue}
use Rattle.std.specs.List.{list_all, fold}
use Rattle.std.specs.Char.{is_ascii_digit}
use Rattle.std.specs.Fmt.{decimal}
use Rattle.std.proofs.lemmas.Bool.{and_parts, and_from, or_from, not-true, cond-true, cond-false, lt-ltb, ltb-true, le-leb, ne_eqb, false≢true, cases_Bool}
use Rattle.std.proofs.lemmas.Str.Parse.{IsNumeralModel, numerals_by_fold}
use Rattle.std.proofs.lemmas.Fmt.{digits_decimal, digits_value-decimal, decimal_nonempty}
use Rattle.dvc_base.specs.Name.{ObjectName, name_text}
use Rattle.dvc_base.specs.declared.data.ParamFile.{ParamFile}
use Rattle.dvc_base.specs.declared.node.Node.TheVariants as nd
use Rattle.dvc_base.specs.declared.node.Pair.{Pair}
use Rattle.yaml_nodes.specs.Part.{key_of, has_key}
use Rattle.yaml_scalars.specs.Number.{with_base, number, past_sign, is_negative, are_all}
use Rattle.yaml_scalars.specs.Kind.{is_null, is_true, is_false, is_decimal_whole, fits_whole, whole, scalar}
use Rattle.yaml_print.specs.Print.{value_of}
use Rattle.yaml_print.specs.Sound.{Each, are_new, IsSound, IsPrintable}
use Rattle.yaml_print.proofs.SoundLemmas.{sound_text, sound_whole, sound_items, sound_pairs, sound_within}
use Rattle.lock_files.specs.declared.entry.PathEntry.{PathEntry}
use Rattle.lock_files.specs.declared.entry.Entry.{Entry}
use Rattle.lock_files.specs.declared.entry.Track.{Track}
use Rattle.lock_files.specs.Refused.{is_among}
use Rattle.lock_files.specs.Order.{is_rising}
use Rattle.lock_files.specs.Value.{path_at}
use Rattle.lock_files.specs.Book.{Lock, entry_of, is_lock}
use Rattle.lock_files.specs.Nodes as nodes
use Rattle.lock_files.specs.Form.{is_path_entry, are_paths, are_distinct, IsKeyed, IsEntry, IsTrack, IsBook, file_at}
use Rattle.lock_files.proofs.BookLemmas.{swap}
use Rattle.lock_files.proofs.MadeLemmas.{Parts, parts_of, counted}
use Rattle.lock_files.proofs.PathsBack.{distinct_of_rising}
use Rattle.lock_files.proofs.EntryBack.{file_keys}

-- ---- numbers in decimal digits

-- the digits of a number that isn't signed
read_on : (n c : ℕ) (cs : List ℕ) → 48 ≤ c → c ≤ 57 → fold (with_base 10) n (c ∷ cs) ≡ fold (with_base 10) (n * 10 + (c - 48)) cs
read_on n c cs low high = ap (λ v. fold (with_base 10) (n * 10 + v) cs) (cond-true (nat_le c 57) (c - 48) (cond (nat_le c 70) (c - 55) (c - 87)) (le-leb c 57 high))

own : IsNumeralModel (λ ds. list_all is_ascii_digit ds ≡ true) (number 10)
own = numerals_by_fold (λ ds. list_all is_ascii_digit ds ≡ true) (search rules) (fold (with_base 10)) (record { empty = λ n. refl; more = λ n c cs h. read_on n c cs h.0 h.1 })

not_digit : (d k : ℕ) → is_ascii_digit k ≡ false → is_ascii_digit d ≡ true → (d == k) ≡ false
not_digit d k h good = ne_eqb d k (λ e. false≢true (sym h ∙ subst (λ (x : ℕ). is_ascii_digit x ≡ true) e good))

-- a text that begins with a digit is none of the words
not_word : (d : ℕ) (ds : List ℕ) → is_ascii_digit d ≡ true → (k : ℕ) (ks : List ℕ) → is_ascii_digit k ≡ false → bytes_eq (d ∷ ds) (k ∷ ks) ≡ false
not_word d ds good k ks h = ap (λ b. b && bytes_eq ds ks) (not_digit d k h good)

null_by : (t : List ℕ) → (length t == 0) ≡ false → bytes_eq t (codes "~") ≡ false → bytes_eq t (codes "null") ≡ false → bytes_eq t (codes "Null") ≡ false → bytes_eq t (codes "NULL") ≡ false → is_null t ≡ false
null_by t a b c d e = rw (a, b, c, d, e)

true_by : (t : List ℕ) → bytes_eq t (codes "true") ≡ false → bytes_eq t (codes "True") ≡ false → bytes_eq t (codes "TRUE") ≡ false → is_true t ≡ false
true_by t a b c = rw (a, b, c)

false_by : (t : List ℕ) → bytes_eq t (codes "false") ≡ false → bytes_eq t (codes "False") ≡ false → bytes_eq t (codes "FALSE") ≡ false → is_false t ≡ false
false_by t a b c = rw (a, b, c)

-- the fourth of five choices
picked : {A : Type 0} (n y f w : Bool) (a b c d e : A) → n ≡ false → y ≡ false → f ≡ false → w ≡ true → cond n a (cond y b (cond f c (cond w d e))) ≡ d
picked n y f w a b c d e hn hy hf hw =
    cond-false n a (cond y b (cond f c (cond w d e))) hn ∙ cond-false y b (cond f c (cond w d e)) hy ∙ cond-false f c (cond w d e) hf ∙ cond-true w d e hw

whole_digits : (d : ℕ) (ds : List ℕ) (n : ℕ) → list_all is_ascii_digit (d ∷ ds) ≡ true → number 10 (d ∷ ds) ≡ n → n < 2 ^ 64 → scalar 0 (d ∷ ds) ≡ Ok (nd.Whole (pos n) (d ∷ ds))
unfolding scalar
whole_digits d ds n good is small =
    let t = d ∷ ds in
    let first = (and_parts (is_ascii_digit d) (list_all is_ascii_digit ds) good).0 in
    let word : (k : ℕ) (ks : List ℕ) → is_ascii_digit k ≡ false → bytes_eq t (k ∷ ks) ≡ false = not_word d ds first in
    let not_null : is_null t ≡ false =
    null_by t (ne_eqb (length t) 0 (λ e. absurd (omega (arith, e)))) (word 126 [] refl) (word 110 (codes "ull") refl) (word 78 (codes "ull") refl) (word 78 (codes "ULL") refl) in
    let not_true : is_true t ≡ false = true_by t (word 116 (codes "rue") refl) (word 84 (codes "rue") refl) (word 84 (codes "RUE") refl) in
    let not_false : is_false t ≡ false = false_by t (word 102 (codes "alse") refl) (word 70 (codes "alse") refl) (word 70 (codes "ALSE") refl) in
    let plus : (d == 43) ≡ false = not_digit d 43 refl first in
    let minus : (d == 45) ≡ false = not_digit d 45 refl first in
    let bare : past_sign t ≡ t = cond-false ((d == 43) || (d == 45)) (drop 1 t) t (or_from (d == 43) (d == 45) plus minus) in
    let digits : is_decimal_whole t ≡ true = ap (are_all is_ascii_digit) bare ∙ and_from (nat_lt 0 (length t)) (list_all is_ascii_digit t) (lt-ltb 0 (length t) (omega arith)) good in
    let fits : fits_whole false n ≡ true = lt-ltb n (2 ^ 127) (omega (arith, small)) in
    picked (is_null t) (is_true t) (is_false t) (is_decimal_whole t) _ _ _ (whole 0 t (is_negative t) (number 10 (past_sign t))) _ not_null not_true not_false digits
    ∙ ap (λ b. whole 0 t b (number 10 (past_sign t))) minus
    ∙ ap (λ s. whole 0 t false (number 10 s)) bare
    ∙ ap (λ m. whole 0 t false m) is
    ∙ cond-true (fits_whole false n) _ _ fits

whole_text : (t : List ℕ) (n : ℕ) → 0 < length t → list_all is_ascii_digit t ≡ true → number 10 t ≡ n → n < 2 ^ 64 → scalar 0 t ≡ Ok (nd.Whole (pos n) t)
whole_text [] n some good is small = absurd (omega (arith, some))
whole_text (d ∷ ds) n some good is small = whole_digits d ds n good is small

number_sound : (d n : ℕ) → nat_lt n (2 ^ 64) ≡ true → IsSound d (nodes.number_node n)
number_sound d n h =
    let small : n < 2 ^ 64 = ltb-true n (2 ^ 64) h in
    sound_whole d (pos n) (decimal n) (whole_text (decimal n) n (decimal_nonempty n small) (digits_decimal own n small) (digits_value-decimal own n small) small)

-- ---- distinct keys

among_keys : (key : List ℕ) (ps : List Pair) → has_key key ps ≡ is_among key (map key_of ps)
among_keys key [] = refl
among_keys key (p ∷ ps) = ap (λ b. bytes_eq (key_of p) key || b) (among_keys key ps)

keys_push : (found : List Pair) (p : Pair) → map key_of (found ++ p ∷ []) ≡ map key_of found ++ key_of p ∷ []
keys_push [] p = refl
keys_push (q ∷ found) p = ap (λ l. key_of q ∷ l) (keys_push found p)

pub new_keys : (found ps : List Pair) → are_new found ps ≡ are_distinct (map key_of found) (map key_of ps)
new_keys found [] = refl
new_keys found (p ∷ ps) =
    ap (λ b. not b && are_new (found ++ p ∷ []) ps) (among_keys (key_of p) found)
    ∙ ap (λ b. not (is_among (key_of p) (map key_of found)) && b)
    (new_keys (found ++ p ∷ []) ps ∙ ap (λ ks. are_distinct ks (map key_of ps)) (keys_push found p))

rising_keys : (ps : List Pair) → is_rising (map key_of ps) ≡ true → are_new [] ps ≡ true
rising_keys ps h = new_keys [] ps ∙ distinct_of_rising (map key_of ps) h

-- none of the names stands under one that was found
others_new : (ps found : List Pair) (o : Pair) → list_all (λ p. not (bytes_eq (key_of p) (key_of o))) ps ≡ true → are_new found ps ≡ true → are_new (o ∷ found) ps ≡ true
others_new [] found o h k = refl
others_new (p ∷ ps) found o h k =
    let apart = and_parts (not (bytes_eq (key_of p) (key_of o))) (list_all (λ q. not (bytes_eq (key_of q) (key_of o))) ps) h in
    let new = and_parts (not (has_key (key_of p) found)) (are_new (found ++ p ∷ []) ps) k in
    let other : bytes_eq (key_of o) (key_of p) ≡ false = swap (key_of o) (key_of p) ∙ not-true (bytes_eq (key_of p) (key_of o)) apart.0 in
    and_from (not (has_key (key_of p) (o ∷ found))) (are_new ((o ∷ found) ++ p ∷ []) ps)
    (ap not (or_from (bytes_eq (key_of o) (key_of p)) (has_key (key_of p) found) other (not-true (has_key (key_of p) found) new.0)))
    (others_new ps (found ++ p ∷ []) o apart.1 new.1)

-- ---- path entries

each_of : {A B : Type 0} (P : B → Type 0) (f : A → B) (Q : A → Type 0) → ((x : A) → Q x → P (f x)) → (xs : List A) → Each Q xs → Each P (map f xs)
each_of P f Q k [] h = tt
each_of P f Q k (x ∷ xs) h = (k x h.0, each_of P f Q k xs h.1)

each_passes : {A B : Type 0} (P : B → Type 0) (f : A → B) (test : A → Bool) → ((x : A) → test x ≡ true → P (f x)) → (xs : List A) → list_all test xs ≡ true → Each P (map f xs)
each_passes P f test k [] h = tt
each_passes P f test k (x ∷ xs) h =
    let both = and_parts (test x) (list_all test xs) h in
    (k x both.0, each_passes P f test k xs both.1)

abbrev SoundAt : ℕ → Pair → Type 0
SoundAt d p = IsSound d (value_of p)

path_sound_by : (d : ℕ) (path digits : List ℕ) (dir : Bool) (size : ℕ) (nfiles : Option ℕ) → 0 < d → (let e : PathEntry = record { path = path; name = record { digits = digits; dir = dir }; size = size; nfiles = nfiles } in Parts e → IsSound d (nodes.path_node e))
path_sound_by d path digits dir size None some p =
    let name : ObjectName = record { digits = digits; dir = dir } in
    let e : PathEntry = record { path = path; name = name; size = size; nfiles = None } in
    sound_pairs d (nodes.path_pairs e) some refl (sound_text (d - 1) path, (sound_text (d - 1) (codes "md5"), (sound_text (d - 1) (name_text name), (number_sound (d - 1) size p.size, tt))))
path_sound_by d path digits dir size (Some n) some p =
    let name : ObjectName = record { digits = digits; dir = dir } in
    let e : PathEntry = record { path = path; name = name; size = size; nfiles = Some n } in
    sound_pairs d (nodes.path_pairs e) some refl (sound_text (d - 1) path, (sound_text (d - 1) (codes "md5"), (sound_text (d - 1) (name_text name), (number_sound (d - 1) size p.size, (number_sound (d - 1) n (counted dir n p.count), tt)))))

path_sound : (d : ℕ) → 0 < d → (e : PathEntry) → is_path_entry e ≡ true → IsSound d (nodes.path_node e)
path_sound d some e h = path_sound_by d e.path e.name.digits e.name.dir e.size e.nfiles some (parts_of e h)

out_sound_by : (d : ℕ) (path digits : List ℕ) (dir : Bool) (size : ℕ) (nfiles : Option ℕ) → 0 < d → (let e : PathEntry = record { path = path; name = record { digits = digits; dir = dir }; size = size; nfiles = nfiles } in Parts e → IsSound d (nodes.out_node e))
out_sound_by d path digits dir size None some p =
    let name : ObjectName = record { digits = digits; dir = dir } in
    let e : PathEntry = record { path = path; name = name; size = size; nfiles = None } in
    sound_pairs d (nodes.out_pairs e) some refl (sound_text (d - 1) (name_text name), (number_sound (d - 1) size p.size, (sound_text (d - 1) (codes "md5"), (sound_text (d - 1) path, tt))))
out_sound_by d path digits dir size (Some n) some p =
    let name : ObjectName = record { digits = digits; dir = dir } in
    let e : PathEntry = record { path = path; name = name; size = size; nfiles = Some n } in
    sound_pairs d (nodes.out_pairs e) some refl (sound_text (d - 1) (name_text name), (number_sound (d - 1) size p.size, (number_sound (d - 1) n (counted dir n p.count), (sound_text (d - 1) (codes "md5"), (sound_text (d - 1) path, tt)))))

out_sound : (d : ℕ) → 0 < d → (e : PathEntry) → is_path_entry e ≡ true → IsSound d (nodes.out_node e)
out_sound d some e h = out_sound_by d e.path e.name.digits e.name.dir e.size e.nfiles some (parts_of e h)

-- ---- the parts of an entry, at the depth of its mapping

each_joined : (P : Pair → Type 0) (ps qs : List Pair) → Each P ps → Each P qs → Each P (ps ++ qs)
each_joined P [] qs h k = k
each_joined P (p ∷ ps) qs h k = (h.0, each_joined P ps qs h.1 k)

texts_sound : (d : ℕ) (ts : List (List ℕ)) → Each (IsSound d) (map nodes.text_node ts)
texts_sound d [] = tt
texts_sound d (t ∷ ts) = (sound_text d t, texts_sound d ts)

commands_sound : (cs : List (List ℕ)) → IsSound 61 (nodes.commands_node cs)
commands_sound [] = sound_items 61 [] (omega arith) tt
commands_sound (c ∷ []) = sound_text 61 c
commands_sound (c ∷ e ∷ cs) = sound_items 61 (map nodes.text_node (c ∷ e ∷ cs)) (omega arith) (texts_sound 60 (c ∷ e ∷ cs))

paths_sound : (key : List ℕ) (es : List PathEntry) → IsTrue (are_paths es) → Each (SoundAt 61) (nodes.paths_part key es)
paths_sound key [] h = tt
paths_sound key (e ∷ es) h =
    let good = (and_parts (list_all is_path_entry (e ∷ es)) (is_rising (map path_at (e ∷ es))) h).0 in
    (sound_items 61 (map nodes.path_node (e ∷ es)) (omega arith) (each_passes (IsSound 60) nodes.path_node is_path_entry (path_sound 60 (omega arith)) (e ∷ es) good), tt)

file_sound : (f : ParamFile) → IsKeyed f.keys → IsSound 60 (nd.Pairs f.keys)
file_sound f h = sound_pairs 60 f.keys (omega arith) (rising_keys f.keys h.rising) h.sound

params_sound : (fs : List ParamFile) → IsTrue (is_rising (map file_at fs)) → Each (λ f. IsKeyed f.keys) fs → Each (SoundAt 61) (nodes.params_part fs)
params_sound [] h k = tt
params_sound (f ∷ fs) h k =
    let ps = map nodes.file_pair (f ∷ fs) in
    (sound_pairs 61 ps (omega arith) (rising_keys ps (ap is_rising (file_keys (f ∷ fs)) ∙ h)) (each_of (SoundAt 60) nodes.file_pair (λ g. IsKeyed g.keys) file_sound (f ∷ fs) k), tt)

-- keys of an entry's mapping
entry_keys : (cs : List (List ℕ)) (ds : List PathEntry) (ps : List ParamFile) (os : List PathEntry)
    → are_new [] (nodes.commands_pair cs ∷ nodes.paths_part (codes "deps") ds ++ nodes.params_part ps ++ nodes.paths_part (codes "outs") os) ≡ true
entry_keys cs [] [] [] = refl
entry_keys cs [] [] (o ∷ os) = refl
entry_keys cs [] (p ∷ ps) [] = refl
entry_keys cs [] (p ∷ ps) (o ∷ os) = refl
entry_keys cs (d ∷ ds) [] [] = refl
entry_keys cs (d ∷ ds) [] (o ∷ os) = refl
entry_keys cs (d ∷ ds) (p ∷ ps) [] = refl
entry_keys cs (d ∷ ds) (p ∷ ps) (o ∷ os) = refl

entry_sound : (e : Entry) → IsEntry e → IsSound 62 (nodes.entry_node e)
entry_sound e h =
    let outs = paths_sound (codes "outs") e.outs h.outs in
    let params = params_sound e.params h.files h.keys in
    let deps = paths_sound (codes "deps") e.deps h.deps in
    sound_pairs 62 (nodes.entry_pairs e) (omega arith) (entry_keys e.commands e.deps e.params e.outs) (
      commands_sound e.commands,
      each_joined (SoundAt 61) (nodes.paths_part (codes "deps") e.deps ++ nodes.params_part e.params) (nodes.paths_part (codes "outs") e.outs)
          (each_joined (SoundAt 61) (nodes.paths_part (codes "deps") e.deps) (nodes.params_part e.params) deps params) outs,
    )

pub entry_printable : (e : Entry) → IsEntry e → IsPrintable (nodes.entry_node e)
entry_printable e h = sound_within 62 64 (nodes.entry_node e) (omega arith) (entry_sound e h)

-- ---- what outputs were made of

key_keys : (cs : List (List ℕ)) (ds : List PathEntry) (ps : List ParamFile) (os : List (List ℕ))
    → are_new [] (nodes.commands_pair cs ∷ nodes.paths_part (codes "deps") ds ++ nodes.params_part ps ++ nodes.texts_part (codes "outs") os) ≡ true
key_keys cs [] [] [] = refl
key_keys cs [] [] (o ∷ os) = refl
key_keys cs [] (p ∷ ps) [] = refl
key_keys cs [] (p ∷ ps) (o ∷ os) = refl
key_keys cs (d ∷ ds) [] [] = refl
key_keys cs (d ∷ ds) [] (o ∷ os) = refl
key_keys cs (d ∷ ds) (p ∷ ps) [] = refl
key_keys cs (d ∷ ds) (p ∷ ps) (o ∷ os) = refl

texts_part_sound : (key : List ℕ) (ts : List (List ℕ)) → Each (SoundAt 61) (nodes.texts_part key ts)
texts_part_sound key [] = tt
texts_part_sound key (t ∷ ts) = (sound_items 61 (map nodes.text_node (t ∷ ts)) (omega arith) (texts_sound 60 (t ∷ ts)), tt)

key_sound : (e : Entry) → IsEntry e → IsSound 62 (nodes.key_node e)
key_sound e h =
    let outs = map nodes.path_of e.outs in
    let params = params_sound e.params h.files h.keys in
    let deps = paths_sound (codes "deps") e.deps h.deps in
    sound_pairs 62 (nodes.key_pairs e) (omega arith) (key_keys e.commands e.deps e.params outs) (
      commands_sound e.commands,
      each_joined (SoundAt 61) (nodes.paths_part (codes "deps") e.deps ++ nodes.params_part e.params) (nodes.texts_part (codes "outs") outs)
          (each_joined (SoundAt 61) (nodes.paths_part (codes "deps") e.deps) (nodes.params_part e.params) deps params) (texts_part_sound (codes "outs") outs),
    )

pub key_printable : (e : Entry) → IsEntry e → IsPrintable (nodes.key_node e)
key_printable e h = sound_within 62 64 (nodes.key_node e) (omega arith) (key_sound e h)

-- ---- track files and locks

pub track_printable : (t : Track) → IsTrack t → IsPrintable (nodes.track_node t)
track_printable t h =
    sound_pairs 64 (nodes.track_pairs t) (omega arith) (others_new t.rest [] (nodes.outs_pair t.outs) h.others h.keys)
    (sound_items 63 (map nodes.out_node t.outs) (omega arith) (each_passes (IsSound 62) nodes.out_node is_path_entry (out_sound 62 (omega arith)) t.outs h.outs), h.sound)

-- the names of a book behind a stage that none of them has
names_apart : (name : List ℕ) (book : Lock) → is_some (entry_of book name) ≡ false → list_all (λ p. not (bytes_eq (key_of p) name)) (map nodes.stage_pair book) ≡ true
names_apart name [] h = refl
names_apart name (s ∷ book) h =
    elim (cases_Bool (bytes_eq s.0 name)) [
      | inl same ↦ absurd (false≢true (sym h ∙ ap is_some (cond-true (bytes_eq s.0 name) (Some s.1) (entry_of book name) same)))
      | inr other ↦
          and_from (not (bytes_eq s.0 name)) (list_all (λ p. not (bytes_eq (key_of p) name)) (map nodes.stage_pair book)) (ap not other)
          (names_apart name book (ap is_some (sym (cond-false (bytes_eq s.0 name) (Some s.1) (entry_of book name) other)) ∙ h))
    ]

names_new : (book : Lock) → is_lock book ≡ true → are_new [] (map nodes.stage_pair book) ≡ true
names_new [] h = refl
names_new (s ∷ book) h =
    let both = and_parts (not (is_some (entry_of book s.0))) (is_lock book) h in
    others_new (map nodes.stage_pair book) [] (nodes.stage_pair s) (names_apart s.0 book (not-true (is_some (entry_of book s.0)) both.0)) (names_new book both.1)

pub book_printable : (book : Lock) → IsBook book → IsPrintable (nodes.lock_node book)
book_printable book h =
    sound_pairs 64 (nodes.lock_pairs book) (omega arith) refl (
      sound_text 63 (codes "2.0"),
      (sound_pairs 63 (map nodes.stage_pair book) (omega arith) (names_new book h.names) (each_of (SoundAt 62) nodes.stage_pair (λ s. IsEntry s.1) (λ s. entry_sound s.1) book h.entries), tt),
    )
