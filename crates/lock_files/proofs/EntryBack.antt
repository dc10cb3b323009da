-- Entries, track files and locks, read back from their nodes.
--     entry_free, entry_back      an entry in form isn't refused, and is read as it was
--     track_free, track_back, lock_free, lock_back      the same of a track file and of a book
use Rattle.std.proofs.Common.{◌≡◌, ℕ, ◌<◌, true, false, not, ◌&&◌, List, [], ◌∷◌, ◌++◌, length, map, filter, Option, Some, None, codes, refl, sym, ap, ◌∙◌, bytes_eq, ◌==◌, inl, inr, arith}
use Rattle.std.specs.Prelude.{is_some, unwrap_or, IsTrue}
use Rattle.std.specs.Option.{option_map_or}
use Rattle.std.specs.List.{list_all, filter_map, cons_option}
use Rattle.std.proofs.lemmas.Bool.{and_parts, not-true, cases_Bool, false≢true, cond-true, cond-false, ne_eqb}
use Rattle.dvc_base.specs.declared.data.ParamFile.{ParamFile}
use Rattle.dvc_base.specs.declared.node.Node.{Node}
use Rattle.dvc_base.specs.declared.node.Node.TheVariants as nd
use Rattle.dvc_base.specs.declared.node.Pair.{Pair}
use Rattle.yaml_nodes.specs.Part.{key_of}
use Rattle.yaml_print.specs.Print.{value_of}
use Rattle.yaml_print.specs.Sound.{Each, IsSound}
use Rattle.yaml_print.proofs.NodeCases.{out_text, out_items, out_pairs}
use Rattle.lock_files.specs.declared.entry.PathEntry.{PathEntry}
use Rattle.lock_files.specs.declared.entry.Entry.{Entry}
use Rattle.lock_files.specs.declared.entry.Track.{Track}
use Rattle.lock_files.specs.declared.fault.LockFault.TheVariants.{Schema, Unsupported}
use Rattle.lock_files.specs.Mapping.{value_at, items_in, text_in, is_text}
use Rattle.lock_files.specs.Order.{in_order, is_rising}
use Rattle.lock_files.specs.Refused as refused
use Rattle.lock_files.specs.Refused.{Refusal, refuse_if, refuse_unless, or_then}
use Rattle.lock_files.specs.Value as value
use Rattle.lock_files.specs.Value.{path_at, is_other_key, with_stages, pairs_or_none}
use Rattle.lock_files.specs.Book.{Lock, entry_of, set, is_lock}
use Rattle.lock_files.specs.Nodes as nodes
use Rattle.lock_files.specs.Form.{are_paths, is_path_entry, IsKeyed, IsEntry, IsTrack, IsBook, file_at}
use Rattle.lock_files.proofs.BookLemmas.{swap}
use Rattle.lock_files.proofs.SortLemmas.{rising_in_order}
use Rattle.lock_files.proofs.WithinLemmas.{within_sound}
use Rattle.lock_files.proofs.MadeLemmas.{pairs_made, items_made, text_made, scalar_made, path_says, out_says}
use Rattle.lock_files.proofs.PathsBack.{none_then, distinct_of_rising, Back, items_free, items_back}

in_lock : Back nodes.path_node
in_lock = record { pairs = nodes.path_pairs; opened = λ e. pairs_made (nodes.path_pairs e); says = path_says }

in_track : Back nodes.out_node
in_track = record { pairs = nodes.out_pairs; opened = λ e. pairs_made (nodes.out_pairs e); says = out_says }

-- ---- the parts of an entry's mapping

abbrev part : List PathEntry → Option Node
part [] = None
part (e ∷ es) = Some (nd.Items (map nodes.path_node (e ∷ es)))

abbrev params_node : List ParamFile → Option Node
params_node [] = None
params_node (f ∷ fs) = Some (nd.Pairs (map nodes.file_pair (f ∷ fs)))

abbrev parts : List (List ℕ) → List PathEntry → List ParamFile → List PathEntry → List Pair
parts cs ds ps os =
    nodes.commands_pair cs ∷ nodes.paths_part (codes "deps") ds ++ nodes.params_part ps ++ nodes.paths_part (codes "outs") os

at_deps : (cs : List (List ℕ)) (ds : List PathEntry) (ps : List ParamFile) (os : List PathEntry) → value_at (codes "deps") (parts cs ds ps os) ≡ part ds
at_deps cs (d ∷ ds) ps os = refl
at_deps cs [] [] [] = refl
at_deps cs [] [] (o ∷ os) = refl
at_deps cs [] (p ∷ ps) [] = refl
at_deps cs [] (p ∷ ps) (o ∷ os) = refl

at_params : (cs : List (List ℕ)) (ds : List PathEntry) (ps : List ParamFile) (os : List PathEntry) → value_at (codes "params") (parts cs ds ps os) ≡ params_node ps
at_params cs [] (p ∷ ps) os = refl
at_params cs (d ∷ ds) (p ∷ ps) os = refl
at_params cs [] [] [] = refl
at_params cs [] [] (o ∷ os) = refl
at_params cs (d ∷ ds) [] [] = refl
at_params cs (d ∷ ds) [] (o ∷ os) = refl

at_outs : (cs : List (List ℕ)) (ds : List PathEntry) (ps : List ParamFile) (os : List PathEntry) → value_at (codes "outs") (parts cs ds ps os) ≡ part os
at_outs cs [] [] [] = refl
at_outs cs [] [] (o ∷ os) = refl
at_outs cs [] (p ∷ ps) [] = refl
at_outs cs [] (p ∷ ps) (o ∷ os) = refl
at_outs cs (d ∷ ds) [] [] = refl
at_outs cs (d ∷ ds) [] (o ∷ os) = refl
at_outs cs (d ∷ ds) (p ∷ ps) [] = refl
at_outs cs (d ∷ ds) (p ∷ ps) (o ∷ os) = refl

-- ---- commands

texts_taken : (ts : List (List ℕ)) → filter_map text_in (map nodes.text_node ts) ≡ ts
texts_taken [] = refl
texts_taken (t ∷ ts) =
    ap (λ i. cons_option i (filter_map text_in (map nodes.text_node ts))) (text_made t) ∙ ap (λ l. t ∷ l) (texts_taken ts)

all_texts : (ts : List (List ℕ)) → list_all refused.is_command (map nodes.text_node ts) ≡ true
all_texts [] = refl
all_texts (t ∷ ts) = ap (λ i. is_some i && list_all refused.is_command (map nodes.text_node ts)) (text_made t) ∙ all_texts ts

commands_free : (cs : List (List ℕ)) → 0 < length cs → refused.are_commands (Some (nodes.commands_node cs)) ≡ true
commands_free [] some = absurd (omega (arith, some))
commands_free (c ∷ []) some = ap refused.are_commands_of (out_text c)
commands_free (c ∷ d ∷ cs) some =
    ap refused.are_commands_of (out_items (map nodes.text_node (c ∷ d ∷ cs)))
    ∙ ap (λ b. not (length (map nodes.text_node (c ∷ d ∷ cs)) == 0) && b) (all_texts (c ∷ d ∷ cs))
    ∙ ap (λ b. not b && true) (ne_eqb (length (map nodes.text_node (c ∷ d ∷ cs))) 0 (λ e. absurd (omega (arith, e))))

commands_back : (cs : List (List ℕ)) → value.commands_at (Some (nodes.commands_node cs)) ≡ cs
commands_back [] = ap value.commands_of (out_items [])
commands_back (c ∷ []) = ap value.commands_of (out_text c)
commands_back (c ∷ d ∷ cs) = ap value.commands_of (out_items (map nodes.text_node (c ∷ d ∷ cs))) ∙ texts_taken (c ∷ d ∷ cs)

-- ---- lists of paths

paths_parts : (es : List PathEntry) → IsTrue (are_paths es) → (list_all is_path_entry es ≡ true) × (is_rising (map path_at es) ≡ true)
paths_parts es h = and_parts (list_all is_path_entry es) (is_rising (map path_at es)) h

part_free : (key : List ℕ) (es : List PathEntry) → IsTrue (are_paths es) → option_map_or (refused.list_refused key) (part es) None ≡ None
part_free key [] h = refl
part_free key (e ∷ es) h =
    let p = paths_parts (e ∷ es) h in
    ap (λ vs. option_map_or (refused.items_refused key []) vs (Some (Schema key))) (items_made (map nodes.path_node (e ∷ es)))
    ∙ items_free nodes.path_node in_lock key [] (e ∷ es) p.0 (distinct_of_rising (map path_at (e ∷ es)) p.1)

part_items : (es : List PathEntry) → option_map_or value.items_or_none (part es) [] ≡ map nodes.path_node es
part_items [] = refl
part_items (e ∷ es) = ap (λ vs. unwrap_or vs []) (items_made (map nodes.path_node (e ∷ es)))

part_back : (es : List PathEntry) → IsTrue (are_paths es) → in_order path_at (filter_map value.item_in (option_map_or value.items_or_none (part es) [])) ≡ es
part_back es h =
    let p = paths_parts es h in
    ap (λ vs. in_order path_at (filter_map value.item_in vs)) (part_items es)
    ∙ ap (in_order path_at) (items_back nodes.path_node in_lock es p.0)
    ∙ rising_in_order path_at es p.1

-- ---- parameters

keys_free : (ps : List Pair) → Each (λ p. IsSound 59 (value_of p)) ps → refused.keys_refused ps ≡ None
keys_free [] h = refl
keys_free (p ∷ ps) h =
    none_then _ _ (ap (λ b. refuse_unless b (Schema (key_of p))) (within_sound 59 (value_of p) h.0)) (keys_free ps h.1)

files_free : (fs : List ParamFile) → Each (λ f. IsKeyed f.keys) fs → refused.files_refused (map nodes.file_pair fs) ≡ None
files_free [] h = refl
files_free (f ∷ fs) h =
    none_then _ _
    (ap (λ ks. option_map_or refused.keys_refused ks (Some (Schema f.file))) (pairs_made f.keys) ∙ keys_free f.keys h.0.sound)
    (files_free fs h.1)

params_free : (fs : List ParamFile) → Each (λ f. IsKeyed f.keys) fs → option_map_or refused.files_node_refused (params_node fs) None ≡ None
params_free [] h = refl
params_free (f ∷ fs) h =
    ap (λ ps. option_map_or refused.files_refused ps (Some (Schema (codes "params")))) (pairs_made (map nodes.file_pair (f ∷ fs)))
    ∙ files_free (f ∷ fs) h

file_back : (f : ParamFile) → IsKeyed f.keys → value.param_file (nodes.file_pair f) ≡ f
file_back f h =
    ap (λ ks. let g : ParamFile = record { file = f.file; keys = in_order key_of ks } in g) (ap (λ ks. unwrap_or ks []) (pairs_made f.keys))
    ∙ ap (λ ks. let g : ParamFile = record { file = f.file; keys = ks } in g) (rising_in_order key_of f.keys h.rising)

files_back : (fs : List ParamFile) → Each (λ f. IsKeyed f.keys) fs → map value.param_file (map nodes.file_pair fs) ≡ fs
files_back [] h = refl
files_back (f ∷ fs) h = ap (λ g. g ∷ map value.param_file (map nodes.file_pair fs)) (file_back f h.0) ∙ ap (λ l. f ∷ l) (files_back fs h.1)

pub file_keys : (fs : List ParamFile) → map key_of (map nodes.file_pair fs) ≡ map file_at fs
file_keys [] = refl
file_keys (f ∷ fs) = ap (λ l. f.file ∷ l) (file_keys fs)

params_back : (fs : List ParamFile) → IsTrue (is_rising (map file_at fs)) → Each (λ f. IsKeyed f.keys) fs → option_map_or (λ v. value.params_of (pairs_or_none v)) (params_node fs) [] ≡ fs
params_back [] h k = refl
params_back (f ∷ fs) h k =
    ap (λ ps. value.params_of (unwrap_or ps [])) (pairs_made (map nodes.file_pair (f ∷ fs)))
    ∙ ap (map value.param_file) (rising_in_order key_of (map nodes.file_pair (f ∷ fs)) (ap is_rising (file_keys (f ∷ fs)) ∙ h))
    ∙ files_back (f ∷ fs) k

-- ---- entries

pub entry_free : (name : List ℕ) (e : Entry) → IsEntry e → refused.entry_refused name (nodes.entry_node e) ≡ None
entry_free name e h =
    ap (λ ps. option_map_or refused.parts_refused ps (Some (Schema name))) (pairs_made (nodes.entry_pairs e))
    ∙ none_then _ _ (ap (λ b. refuse_unless b (Schema (codes "cmd"))) (commands_free e.commands h.commands))
    (none_then _ _ (ap (λ v. option_map_or (refused.list_refused (codes "deps")) v None) (at_deps e.commands e.deps e.params e.outs) ∙ part_free (codes "deps") e.deps h.deps)
    (none_then _ _ (ap (λ v. option_map_or (refused.list_refused (codes "outs")) v None) (at_outs e.commands e.deps e.params e.outs) ∙ part_free (codes "outs") e.outs h.outs)
    (ap (λ v. option_map_or refused.files_node_refused v None) (at_params e.commands e.deps e.params e.outs) ∙ params_free e.params h.keys)))

pub entry_back : (e : Entry) → IsEntry e → value.entry_in (nodes.entry_node e) ≡ e
entry_back e h =
    let ps = nodes.entry_pairs e in
    let commands : value.commands_in ps ≡ e.commands = commands_back e.commands in
    let deps : value.sorted_entries (codes "deps") ps ≡ e.deps =
    ap (λ v. in_order path_at (filter_map value.item_in (option_map_or value.items_or_none v []))) (at_deps e.commands e.deps e.params e.outs) ∙ part_back e.deps h.deps in
    let params : value.params_in ps ≡ e.params =
    ap (λ v. option_map_or (λ n. value.params_of (pairs_or_none n)) v []) (at_params e.commands e.deps e.params e.outs) ∙ params_back e.params h.files h.keys in
    let outs : value.sorted_entries (codes "outs") ps ≡ e.outs =
    ap (λ v. in_order path_at (filter_map value.item_in (option_map_or value.items_or_none v []))) (at_outs e.commands e.deps e.params e.outs) ∙ part_back e.outs h.outs in
    ap (λ qs. value.entry_of (unwrap_or qs [])) (pairs_made ps)
    ∙ ap (λ x. let g : Entry = record { commands = x; deps = value.sorted_entries (codes "deps") ps; params = value.params_in ps; outs = value.sorted_entries (codes "outs") ps } in g) commands
    ∙ ap (λ x. let g : Entry = record { commands = e.commands; deps = x; params = value.params_in ps; outs = value.sorted_entries (codes "outs") ps } in g) deps
    ∙ ap (λ x. let g : Entry = record { commands = e.commands; deps = e.deps; params = x; outs = value.sorted_entries (codes "outs") ps } in g) params
    ∙ ap (λ x. let g : Entry = record { commands = e.commands; deps = e.deps; params = e.params; outs = x } in g) outs

-- ---- track files

outs_some : (outs : List PathEntry) → 0 < length outs → not (length (map nodes.out_node outs) == 0) ≡ true
outs_some [] some = absurd (omega (arith, some))
outs_some (o ∷ outs) some = ap not (ne_eqb (length (map nodes.out_node (o ∷ outs))) 0 (λ e. absurd (omega (arith, e))))

pub track_free : (t : Track) → IsTrack t → refused.track_refused (nodes.track_node t) ≡ None
track_free t h =
    let vs = map nodes.out_node t.outs in
    let list : refused.list_refused (codes "outs") (nd.Items vs) ≡ None =
    ap (λ xs. option_map_or (refused.items_refused (codes "outs") []) xs (Some (Schema (codes "outs")))) (items_made vs)
    ∙ items_free nodes.out_node in_track (codes "outs") [] t.outs h.outs h.paths in
    let filled : refused.is_filled (nd.Items vs) ≡ true = ap refused.is_filled_by (items_made vs) ∙ outs_some t.outs h.some in
    ap (λ ps. option_map_or refused.track_pairs_refused ps (Some (Schema []))) (pairs_made (nodes.track_pairs t))
    ∙ none_then _ _ (none_then _ _ (ap (λ b. refuse_unless b (Schema (codes "outs"))) filled) list)
    (none_then _ _ (ap (λ b. refuse_if b (Unsupported (codes "deps"))) h.no_deps)
    (ap (λ b. refuse_if b (Unsupported (codes "wdir"))) h.no_wdir))

others_kept : (ps : List Pair) → list_all is_other_key ps ≡ true → filter is_other_key ps ≡ ps
others_kept [] h = refl
others_kept (p ∷ ps) h =
    let both = and_parts (is_other_key p) (list_all is_other_key ps) h in
    cond-true (is_other_key p) (p ∷ filter is_other_key ps) (filter is_other_key ps) both.0 ∙ ap (λ l. p ∷ l) (others_kept ps both.1)

pub track_back : (t : Track) → IsTrack t → value.track_in (nodes.track_node t) ≡ t
track_back t h =
    let vs = map nodes.out_node t.outs in
    let outs : filter_map value.item_in (unwrap_or (items_in (nd.Items vs)) []) ≡ t.outs =
    ap (λ xs. filter_map value.item_in (unwrap_or xs [])) (items_made vs) ∙ items_back nodes.out_node in_track t.outs h.outs in
    ap (λ ps. value.track_of (unwrap_or ps [])) (pairs_made (nodes.track_pairs t))
    ∙ ap (λ x. let u : Track = record { outs = x; rest = filter is_other_key t.rest } in u) outs
    ∙ ap (λ x. let u : Track = record { outs = t.outs; rest = x } in u) (others_kept t.rest h.others)

-- ---- locks

entries_free : (book : Lock) → Each (λ s. IsEntry s.1) book → refused.entries_refused (map nodes.stage_pair book) ≡ None
entries_free [] h = refl
entries_free (s ∷ book) h = none_then _ _ (entry_free s.0 s.1 h.0) (entries_free book h.1)

pub lock_free : (book : Lock) → IsBook book → refused.lock_refused (nodes.lock_node book) ≡ None
lock_free book h =
    ap refused.lock_by (out_pairs (nodes.lock_pairs book))
    ∙ none_then _ _ (ap (λ t. refuse_unless (is_text (codes "2.0") t) (Schema (codes "schema"))) (scalar_made (codes "2.0")))
    (ap refused.stages_by (out_pairs (map nodes.stage_pair book)) ∙ entries_free book h.entries)

-- a stage before others, which none of them has
stages_front : (name : List ℕ) (e : Entry) (book rest : Lock) → is_some (entry_of rest name) ≡ false → with_stages ((name, e) ∷ book) (map nodes.stage_pair rest) ≡ (name, e) ∷ with_stages book (map nodes.stage_pair rest)
stages_front name e book [] h = refl
stages_front name e book (s ∷ rest) h =
    elim (cases_Bool (bytes_eq s.0 name)) [
      | inl same ↦
          absurd (false≢true (sym h ∙ ap is_some (cond-true (bytes_eq s.0 name) (Some s.1) (entry_of rest name) same)))
      | inr other ↦
          let later : is_some (entry_of rest name) ≡ false = ap is_some (sym (cond-false (bytes_eq s.0 name) (Some s.1) (entry_of rest name) other)) ∙ h in
          let next = value.entry_in (nodes.entry_node s.1) in
          ap (λ b. with_stages b (map nodes.stage_pair rest))
          (cond-false (bytes_eq name s.0) ((s.0, next) ∷ book) ((name, e) ∷ set book s.0 next) (swap name s.0 ∙ other))
          ∙ stages_front name e (set book s.0 next) rest later
    ]

stages_back : (book : Lock) → is_lock book ≡ true → Each (λ s. IsEntry s.1) book → with_stages [] (map nodes.stage_pair book) ≡ book
stages_back [] h k = refl
stages_back (s ∷ book) h k =
    let both = and_parts (not (is_some (entry_of book s.0))) (is_lock book) h in
    stages_front s.0 (value.entry_in (nodes.entry_node s.1)) [] book (not-true (is_some (entry_of book s.0)) both.0)
    ∙ ap (λ e. (s.0, e) ∷ with_stages [] (map nodes.stage_pair book)) (entry_back s.1 k.0)
    ∙ ap (λ b. s ∷ b) (stages_back book both.1 k.1)

pub lock_back : (book : Lock) → IsBook book → value.lock_in (nodes.lock_node book) ≡ book
lock_back book h =
    ap (λ ps. with_stages [] (value.stages_in (unwrap_or ps []))) (pairs_made (nodes.lock_pairs book))
    ∙ ap (λ ps. with_stages [] (unwrap_or ps [])) (pairs_made (map nodes.stage_pair book))
    ∙ stages_back book h.names h.entries
