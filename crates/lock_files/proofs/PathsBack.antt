-- Lists of path entries, read back from their nodes.
--     not_refused, entry_back      pairs that say a path entry, of a new path, aren't refused, and are read as it
--     distinct_of_rising           texts that rise are distinct
--     Back node                    the node of each path entry says it; then lists of them aren't refused, and are read as they were
use Rattle.std.proofs.Common.{◌≡◌, ℕ, true, false, not, List, [], ◌∷◌, ◌++◌, map, Some, None, codes, refl, sym, ap, ◌∙◌, subst, bytes_eq, inl, inr}
use Rattle.std.specs.Prelude.{option_and_then, is_some, unwrap_or}
use Rattle.std.specs.Option.{option_map_or}
use Rattle.std.specs.List.{list_all, filter_map, cons_option}
use Rattle.std.proofs.lemmas.Bool.{and_parts, and_from, not-true, cases_Bool, false≢true, false_from_ne_true, or_from}
use Rattle.std.proofs.lemmas.Slice.Eq.{bytes_eq-Decides}
use Rattle.dvc_base.specs.declared.node.Node.{Node}
use Rattle.dvc_base.specs.declared.node.Pair.{Pair}
use Rattle.lock_files.specs.declared.entry.PathEntry.{PathEntry}
use Rattle.lock_files.specs.declared.fault.LockFault.TheVariants.{Schema, Unsupported, Legacy}
use Rattle.lock_files.specs.Mapping.{pairs_in, number_at, is_text}
use Rattle.lock_files.specs.Order.{is_less, is_rising}
use Rattle.lock_files.specs.Refused.{Refusal, refuse_if, refuse_unless, or_then, name_at, is_among, is_new, has_count, path_entry_refused, item_refused, path_or_none, path_of, items_refused}
use Rattle.lock_files.specs.Value.{path_entry_by, path_entry_in, item_in, path_at}
use Rattle.lock_files.specs.Form.{is_path_entry, are_distinct}
use Rattle.lock_files.proofs.SortLemmas.{weak}
use Rattle.lock_files.proofs.MadeLemmas.{Says}

pub none_then : (due later : Refusal) → due ≡ None → later ≡ None → or_then due later ≡ None
none_then due later h k = ap (λ d. or_then d later) h ∙ k

-- ---- one path entry

pub not_refused : (before : List (List ℕ)) (ps : List Pair) (e : PathEntry) → Says ps e → is_among e.path before ≡ false → path_entry_refused before ps ≡ None
not_refused before ps e s new =
    none_then _ _ (ap (λ b. refuse_unless b Legacy) s.there)
    (none_then _ _
    (none_then _ _ (ap (λ t. refuse_unless (is_text (codes "md5") t) (Unsupported (codes "hash"))) s.hash)
    (none_then _ _ (ap (λ b. refuse_if b (Unsupported (codes "cache"))) s.cache)
    (none_then _ _ (ap (λ b. refuse_if b (Unsupported (codes "remote"))) s.remote)
    (none_then _ _ (ap (λ b. refuse_if b (Unsupported (codes "persist"))) s.persist)
    (ap (λ b. refuse_if b (Unsupported (codes "push"))) s.push)))))
    (none_then _ _ (ap (λ t. refuse_unless (is_new before t) (Schema (codes "path"))) s.path ∙ ap (λ b. refuse_unless (not b) (Schema (codes "path"))) new)
    (none_then _ _ (ap (λ n. refuse_unless (is_some n) (Schema (codes "md5"))) s.name)
    (none_then _ _ (ap (λ n. refuse_unless (is_some n) (Schema (codes "size"))) s.size)
    (ap (λ n. refuse_unless (has_count n ps) (Schema (codes "nfiles"))) s.name ∙ ap (λ b. refuse_unless b (Schema (codes "nfiles"))) s.count)))))

pub entry_back : (ps : List Pair) (e : PathEntry) → Says ps e → path_entry_in ps ≡ Some e
entry_back ps e s =
    ap (λ p. path_entry_by p (name_at ps) (number_at (codes "size") ps) (number_at (codes "nfiles") ps)) s.path
    ∙ ap (λ n. path_entry_by (Some e.path) n (number_at (codes "size") ps) (number_at (codes "nfiles") ps)) s.name
    ∙ ap (λ n. path_entry_by (Some e.path) (Some e.name) n (number_at (codes "nfiles") ps)) s.size
    ∙ ap (λ n. path_entry_by (Some e.path) (Some e.name) (Some e.size) n) s.nfiles

-- ---- texts that rise

abbrev text : List ℕ → List ℕ
text t = t

less_itself : (t : List ℕ) → is_less t t ≡ false
less_itself t =
    elim (cases_Bool (is_less t t)) [
      | inl h ↦ (weak text).one_way t t h
      | inr h ↦ h
    ]

pub less_chain : (a b c : List ℕ) → is_less a b ≡ true → is_less b c ≡ true → is_less a c ≡ true
less_chain a b c h k =
    elim (cases_Bool (is_less a c)) [
      | inl l ↦ l
      | inr l ↦ absurd (false≢true (sym ((weak text).chain a c b l ((weak text).one_way b c k)) ∙ h))
    ]

apart : (a b : List ℕ) → is_less a b ≡ true → bytes_eq a b ≡ false
apart a b h =
    false_from_ne_true (bytes_eq a b) (λ e.
    let same : a ≡ b = (bytes_eq-Decides a b).0 e in
    false≢true (sym (less_itself b) ∙ subst (λ (t : List ℕ). is_less t b ≡ true) same h))

new_above : (t : List ℕ) (before : List (List ℕ)) → list_all (λ b. is_less b t) before ≡ true → is_among t before ≡ false
new_above t [] h = refl
new_above t (b ∷ before) h =
    let parts = and_parts (is_less b t) (list_all (λ x. is_less x t) before) h in
    or_from (bytes_eq b t) (is_among t before) (apart b t parts.0) (new_above t before parts.1)

above_more : (t u : List ℕ) (before : List (List ℕ)) → is_less t u ≡ true → list_all (λ b. is_less b t) before ≡ true → list_all (λ b. is_less b u) (before ++ t ∷ []) ≡ true
above_more t u [] h k = and_from (is_less t u) true h refl
above_more t u (b ∷ before) h k =
    let parts = and_parts (is_less b t) (list_all (λ x. is_less x t) before) k in
    and_from (is_less b u) (list_all (λ x. is_less x u) (before ++ t ∷ [])) (less_chain b t u parts.0 h) (above_more t u before h parts.1)

rising_from : (before : List (List ℕ)) (t : List ℕ) (texts : List (List ℕ)) → is_rising (t ∷ texts) ≡ true → list_all (λ b. is_less b t) before ≡ true → are_distinct before (t ∷ texts) ≡ true
rising_from before t [] h k = and_from (not (is_among t before)) true (ap not (new_above t before k)) refl
rising_from before t (u ∷ texts) h k =
    let parts = and_parts (is_less t u) (is_rising (u ∷ texts)) h in
    and_from (not (is_among t before)) (are_distinct (before ++ t ∷ []) (u ∷ texts)) (ap not (new_above t before k))
    (rising_from (before ++ t ∷ []) u texts parts.1 (above_more t u before parts.0 k))

pub distinct_of_rising : (texts : List (List ℕ)) → is_rising texts ≡ true → are_distinct [] texts ≡ true
distinct_of_rising [] h = refl
distinct_of_rising (t ∷ texts) h = rising_from [] t texts h refl

-- ---- lists of path entries

-- how a path entry is written
pub record Back (node : PathEntry → Node) : Type 0 where
  pub pairs : PathEntry → List Pair
  pub opened : (e : PathEntry) → pairs_in (node e) ≡ Some (pairs e)
  pub says : (e : PathEntry) → is_path_entry e ≡ true → Says (pairs e) e

module _ (node : PathEntry → Node) (back : Back node) where
  item_free : (key : List ℕ) (before : List (List ℕ)) (e : PathEntry) → is_path_entry e ≡ true → is_among e.path before ≡ false → item_refused key before (node e) ≡ None
  item_free key before e h new =
      ap (λ ps. option_map_or (path_entry_refused before) ps (Some (Schema key))) (back.opened e)
      ∙ not_refused before (back.pairs e) e (back.says e h) new

  path_back : (e : PathEntry) → is_path_entry e ≡ true → path_of (node e) ≡ e.path
  path_back e h =
      ap (λ ps. option_map_or path_or_none ps []) (back.opened e)
      ∙ ap (λ t. unwrap_or t []) ((back.says e h).path)

  pub items_free : (key : List ℕ) (before : List (List ℕ)) (es : List PathEntry) → list_all is_path_entry es ≡ true → are_distinct before (map path_at es) ≡ true → items_refused key before (map node es) ≡ None
  items_free key before [] h k = refl
  items_free key before (e ∷ es) h k =
      let good = and_parts (is_path_entry e) (list_all is_path_entry es) h in
      let parts = and_parts (not (is_among e.path before)) (are_distinct (before ++ e.path ∷ []) (map path_at es)) k in
      let new : is_among e.path before ≡ false = not-true (is_among e.path before) parts.0 in
      none_then _ _ (item_free key before e good.0 new)
      (ap (λ p. items_refused key (before ++ p ∷ []) (map node es)) (path_back e good.0)
      ∙ items_free key (before ++ e.path ∷ []) es good.1 parts.1)

  item_back : (e : PathEntry) → is_path_entry e ≡ true → item_in (node e) ≡ Some e
  item_back e h = ap (option_and_then path_entry_in) (back.opened e) ∙ entry_back (back.pairs e) e (back.says e h)

  pub items_back : (es : List PathEntry) → list_all is_path_entry es ≡ true → filter_map item_in (map node es) ≡ es
  items_back [] h = refl
  items_back (e ∷ es) h =
      let good = and_parts (is_path_entry e) (list_all is_path_entry es) h in
      ap (λ i. cons_option i (filter_map item_in (map node es))) (item_back e good.0)
      ∙ ap (λ l. e ∷ l) (items_back es good.1)
