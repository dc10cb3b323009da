-- Records that can be read.
--     kept_readable     what was kept is one
--     no_record         what has no name of a record is none
--     found_kept        a record that can be read is found, or another one is
--     kept_by           what was put at its place can be read
--     none_found        no folder, no record
use Rattle.std.proofs.Common.{◌≡◌, ◌≢◌, ◌⊎◌, ℕ, true, false, List, ◌++◌, ◌∷◌, [], refl, sym, ap, ◌∙◌, bytes_eq, Option, Some, None, Result, Ok, inl, inr}
use Rattle.std.specs.Prelude.{is_some}
use Rattle.std.specs.List.{list_any}
use Rattle.std.specs.Option.{option_or}
use Rattle.std.proofs.lemmas.Bool.{cond-true, cond-false, false≢true, or_cases}
use Rattle.std.proofs.lemmas.Slice.Eq.{bytes_eq-Decides}
use Rattle.dvc_base.specs.Path.{Path}
use Rattle.dvc_base.specs.RunKey.{RunKey, are_key_digits}
use Rattle.world_api.specs.Tree.{Tree, Item, folder, file, item_at, names_in, IsTree}
use Rattle.world_api.specs.Calls.{kind_of}
use Rattle.world_api.specs.declared.files.Kind.{Kind}
use Rattle.world_api.specs.declared.files.Kind.TheVariants.{Folder}
use Rattle.yaml_print.specs.Print.{print_text}
use Rattle.lock_files.specs.declared.entry.Entry.{Entry}
use Rattle.lock_files.specs.declared.fault.LockFault.{LockFault}
use Rattle.lock_files.specs.Form.{IsEntry}
use Rattle.lock_files.specs.Nodes.{entry_node}
use Rattle.lock_files.specs.Read.{entry_read}
use Rattle.run_cache.specs.Records.{canonical_entry, record_text, digits_of, key_of_canonical, key_of, key_folder, place_of, record_path, has_name, has_key, entry_with_key, record_in_bytes, record_in, record_at}
use Rattle.run_cache.specs.Find.{first_record, found_at, records_fault, find_fault, IsFindable}
use Rattle.run_cache.proofs.CanonicalLemmas.{key_again}
use Rattle.run_cache.proofs.DigestLemmas.{other_name}
use Rattle.run_cache.proofs.TreeLemmas.{no_names, among_names}

same_text : (x y : List ℕ) → x ≡ y → bytes_eq x y ≡ true
same_text x y e = (bytes_eq-Decides x y).1 e

read_with_key : (key : RunKey) (e : Entry) (r : Result Entry LockFault) → r ≡ Ok e → has_key key e ≡ true → entry_with_key key r ≡ Some e
read_with_key key e r is h = ap (entry_with_key key) is ∙ cond-true (has_key key e) (Some e) None h

in_bytes : (key : RunKey) (name bytes : List ℕ) (e : Entry) → has_name name bytes ≡ true → entry_read bytes ≡ Ok e → has_key key e ≡ true → record_in_bytes key name bytes ≡ Some e
in_bytes key name bytes e named read h =
    cond-true (has_name name bytes) (entry_with_key key (entry_read bytes)) None named ∙ read_with_key key e (entry_read bytes) read h

pub kept_readable : (t : Tree) (e : Entry) → IsEntry e → entry_read (record_text e) ≡ Ok (canonical_entry e) → item_at t (record_path e) ≡ Some (file (record_text e))
    → record_at t (key_of e) (digits_of (record_text e)) ≡ Some (canonical_entry e)
kept_readable t e form read stands =
    let text = record_text e in
    ap (record_in (key_of e) (digits_of text)) stands
    ∙ in_bytes (key_of e) (digits_of text) text (canonical_entry e) (same_text (digits_of text) (digits_of text) refl) read
    (same_text (key_of (canonical_entry e)).digits (key_of e).digits (ap (λ (k : RunKey). k.digits) (key_again e form)))

nameless : (key : RunKey) (name : List ℕ) (o : Option Item) → are_key_digits name ≡ false → record_in key name o ≡ None
nameless key name None h = refl
nameless key name (Some folder) h = refl
nameless key name (Some (file bytes)) h = cond-false (has_name name bytes) (entry_with_key key (entry_read bytes)) None (other_name name bytes h)

pub no_record : (t : Tree) (key : RunKey) (name : List ℕ) → are_key_digits name ≡ false → record_at t key name ≡ None
no_record t key name h = nameless key name (item_at t (key_folder key ++ name ∷ [])) h

-- ---- what is found

first_of_two : {X : Type 0} (a b : Option Entry) → (is_some a ≡ true) ⊎ X → (X → is_some b ≡ true) → is_some (option_or a b) ≡ true
first_of_two (Some e) b h f = refl
first_of_two None b (inl h) f = absurd (false≢true h)
first_of_two None b (inr x) f = f x

first_some : (t : Tree) (key : RunKey) (names : List (List ℕ)) → list_any (λ name. is_some (record_at t key name)) names ≡ true → is_some (first_record t key names) ≡ true
first_some t key [] h = absurd (false≢true h)
first_some t key (name ∷ names) h =
    first_of_two (record_at t key name) (first_record t key names) (or_cases (is_some (record_at t key name)) (list_any (λ n. is_some (record_at t key n)) names) h) (λ more. first_some t key names more)

there : (key : RunKey) (name : List ℕ) (o : Option Item) (e : Entry) → record_in key name o ≡ Some e → is_some o ≡ true
there key name None e h = absurd (cc)
there key name (Some item) e h = refl

pub found_kept : (t : Tree) (key : RunKey) (name : List ℕ) (e : Entry) → record_at t key name ≡ Some e → is_some (found_at t key) ≡ true
found_kept t key name e h =
    let some = there key name (item_at t (key_folder key ++ name ∷ [])) e h in
    first_some t key (names_in t (key_folder key)) (among_names t (key_folder key) name (λ n. is_some (record_at t key n)) (ap is_some h) some)

pub kept_by : (t : Tree) (e canonical : Entry) (text slice : List ℕ) (path : Path) → IsEntry e → canonical ≡ canonical_entry e → text ≡ print_text (entry_node canonical) → entry_read text ≡ Ok canonical → slice ≡ text
    → path ≡ place_of (key_of_canonical canonical) text → item_at t path ≡ Some (file slice) → IsFindable e t
kept_by t e canonical text slice path form is printed read same place stands =
    let whole : text ≡ record_text e = printed ∙ ap (λ (x : Entry). print_text (entry_node x)) is in
    let at : path ≡ record_path e = place ∙ ap (λ (x : Entry). place_of (key_of_canonical x) text) is ∙ ap (place_of (key_of e)) whole in
    let back : entry_read (record_text e) ≡ Ok (canonical_entry e) = ap entry_read (sym whole) ∙ read ∙ ap Ok is in
    let here : item_at t (record_path e) ≡ Some (file (record_text e)) = ap (item_at t) (sym at) ∙ stands ∙ ap (λ (x : List ℕ). Some (file x)) (same ∙ whole) in
    let found = kept_readable t e form back here in
    record { readable = found; found = found_kept t (key_of e) (digits_of (record_text e)) (canonical_entry e) found }

pub none_found : (t : Tree) (key : RunKey) (p : Path) → p ≡ key_folder key → IsTree t → item_at t p ≢ Some folder → (found_at t key ≡ None) × (find_fault t key ≡ None)
none_found t key p place tree h =
    let none : names_in t (key_folder key) ≡ [] = ap (names_in t) (sym place) ∙ no_names t p tree h in
    (ap (first_record t key) none, ap (records_fault t key) none)

pub no_folder : (kind : Kind) (o : Option Item) → kind ≡ kind_of o → kind ≢ Folder → o ≢ Some folder
no_folder kind o is other e = other (is ∙ ap kind_of e)
