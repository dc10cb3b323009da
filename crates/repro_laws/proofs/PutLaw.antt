-- Values that are put leave folders on a stage's ways, and nothing else.
--     else_folders, else_value     what isn't on the way stays
--     put_law                      what is asked of putting values
use Rattle.std.proofs.Common.{◌≡◌, ◌≢◌, ℕ, ◌-◌, Bool, true, false, cond, ◌⊎◌, List, [], ◌∷◌, ◌++◌, length, take, map, inl, inr, refl, sym, ap, subst, ◌∙◌, append_assoc, Option, Some, None, is_some}
use Rattle.std.specs.List.{AllByRecursion, list_any}
use Rattle.std.specs.FinMap.{insert, entries}
use Rattle.std.proofs.lemmas.Bool.{false≢true, cases_Bool, or_from, or_left, or_right, or_parts, or_cases, false_from_ne_true}
use Rattle.dvc_base.specs.Path.{Path, under, overlap, is_within}
use Rattle.dvc_base.proofs.PathLemmas.{under-refl, under-trans, under-append, under-overlap}
use Rattle.world_api.specs.Tree.{Tree, Item, folder, file, Value, nothing, content, members, IsTree, item_at, value_at}
use Rattle.world_api.specs.Effect.{gives, is_in_any}
use Rattle.world_api.specs.Calls.{parent, are_apart}
use Rattle.world_api.proofs.TreeLemmas.{path_cases, item_put_other}
use Rattle.repro_laws.specs.Stage.{stage_outs, is_nothing}
use Rattle.repro_laws.specs.Anew.{is_file, with_folder, with_folders, is_blocked, put_members, put_value, put_values, after_outcome}
use Rattle.repro_laws.specs.Turns.{is_way}
use Rattle.repro_laws.specs.declared.stage.Stage.{Stage}
use Rattle.repro_laws.proofs.RoadLemmas.{within, within_parent, is_blocked_road, roots_apart, root_outside, under_parent}
use Rattle.repro_laws.proofs.FileLemmas.{only_file, file_at, Roads}
use Rattle.repro_laws.proofs.FolderLemmas.{grows_some, folders_files, folders_roads, folders_made}
use Rattle.repro_laws.proofs.PutLemmas.{IsFree, ArePutFrom, values_put}
use Rattle.repro_laws.proofs.AlikeLemmas.{AreRoads, each_on, each_map}
use Rattle.repro_laws.proofs.GrowLemmas.{folder_or, folder_else}
use Rattle.repro_laws.proofs.SeenLemmas.{any_from}
use Rattle.repro_laws.proofs.TurnDue.{IsPut, PutLaw}

-- ---- what isn't on the way stays

cond_item : (b : Bool) (t u : Tree) (q : Path) (o : Option Item) → item_at t q ≡ o → item_at u q ≡ o → item_at (cond b t u) q ≡ o
cond_item true t u q o a b = a
cond_item false t u q o a b = b

not_one : (q p : Path) → under q p ≡ false → q ≢ p
not_one q p h e = false≢true (sym h ∙ subst (λ (x : Path). under q x ≡ true) e (under-refl q))

off_way : (q above rest : Path) → under q (above ++ rest) ≡ false → under q above ≡ false
off_way q above rest h = false_from_ne_true (under q above) (λ e. false≢true (sym h ∙ under-trans q above (above ++ rest) e (under-append above rest)))

pub else_folders : (t : Tree) (above p q : Path) → under q (above ++ p) ≡ false → item_at (with_folders t above p) q ≡ item_at t q
else_folders t above [] q h = folder_else t above q (not_one q above (off_way q above [] h))
else_folders t above (c ∷ p) q h =
    let next = with_folder t above in
    let here : item_at next q ≡ item_at t q = folder_else t above q (not_one q above (off_way q above (c ∷ p) h)) in
    cond_item (is_file (item_at t above)) t (with_folders next (above ++ c ∷ []) p) q (item_at t q) refl
    (else_folders next (above ++ c ∷ []) p q (ap (under q) (append_assoc above (c ∷ []) p) ∙ h) ∙ here)

-- neither at or below a path, nor above it
abbrev IsBy : Path → Path → Type 0
IsBy q p = overlap p q ≡ false

by_below : (q p r : Path) → IsBy q p → under q (p ++ r) ≡ false
by_below q p r by =
    false_from_ne_true (under q (p ++ r)) (λ e. false≢true (sym by ∙ under-overlap p q (p ++ r) (under-append p r) e))

else_members : (t : Tree) (p q : Path) (ms : List (Path × List ℕ)) → IsBy q p → item_at (put_members t p ms) q ≡ item_at t q
else_members t p q [] by = refl
else_members t p q (m ∷ ms) by =
    let above = p ++ take (length m.0 - 1) m.0 in
    else_members (insert (with_folders t [] above) (p ++ m.0) (file m.1)) p q ms by
    ∙ item_put_other (with_folders t [] above) (p ++ m.0) (file m.1) q (not_one q (p ++ m.0) (by_below q p m.0 by))
    ∙ else_folders t [] above q (by_below q p (take (length m.0 - 1) m.0) by)

else_value : (t : Tree) (p q : Path) (v : Value) → IsBy q p → under q (parent p) ≡ false → item_at (put_value t p v) q ≡ item_at t q
else_value t p q nothing by far = refl
else_value t p q (content bytes) by far =
    item_put_other (with_folders t [] (parent p)) p (file bytes) q (not_one q p (or_parts (under p q) (under q p) by).1) ∙ else_folders t [] (parent p) q far
else_value t p q (members m) by far =
    else_members (with_folders t [] p) p q (entries m) by ∙ else_folders t [] p q (or_parts (under p q) (under q p) by).1

-- a path outside outputs that isn't above one either
by_of : (p q : Path) → p ≢ [] → under p q ≡ false → under q (parent p) ≡ false → IsBy q p
by_of p q root out far =
    or_from (under p q) (under q p) out
    (false_from_ne_true (under q p) (λ e.
    false≢true (sym far ∙ under_parent q p (within p q e (λ s. false≢true (sym out ∙ subst (λ (x : Path). under p x ≡ true) (sym s) (under-refl p)))))))

else_values : (t : Tree) (ps : List Path) (vs : List Value) (q : Path) → AllByRecursion (λ p. p ≢ []) ps → is_in_any ps q ≡ false → list_any (λ p. under q (parent p)) ps ≡ false → item_at (put_values t ps vs) q ≡ item_at t q
else_values t [] vs q roots out far = refl
else_values t (p ∷ ps) [] q roots out far = refl
else_values t (p ∷ ps) (v ∷ vs) q roots out far =
    let o = or_parts (under p q) (is_in_any ps q) out in
    let f = or_parts (under q (parent p)) (list_any (λ x. under q (parent x)) ps) far in
    else_values (put_value t p v) ps vs q roots.1 o.1 f.1 ∙ else_value t p q v (by_of p q roots.0 o.0 f.0) f.0

-- ---- values at the outputs

outcome_put : (t : Tree) (outs : List Path) (values : List Value) → list_any is_nothing values ≡ false → list_any (is_blocked (put_values t outs values) []) outs ≡ false → after_outcome t outs (gives values) ≡ Some (put_values t outs values)
outcome_put t outs values a b = rw (a, b)

made_of : (o : Option Item) → is_file o ≡ false → Some folder ≡ folder_or o
made_of None h = refl
made_of (Some folder) h = refl
made_of (Some (file bytes)) h = absurd (false≢true (sym h))

no_file : (t : Tree) (p : Path) → file_at t [] ≡ None → is_file (item_at t p) ≡ false → file_at t p ≡ None
no_file t [] root h = root
no_file t (c ∷ p) root h = none (item_at t (c ∷ p)) h
  where
    none : (o : Option Item) → is_file o ≡ false → only_file o ≡ None
    none None h = refl
    none (Some folder) h = refl
    none (Some (file bytes)) h = absurd (false≢true (sym h))

way_out : (ps : List Path) (u : Tree) (q : Path) → AllByRecursion (λ p. (x : Path) → is_within p x ≡ true → item_at u x ≡ Some folder) ps → AllByRecursion (λ p. p ≢ []) ps → list_any (λ out. under q (parent out)) ps ≡ true → item_at u q ≡ Some folder
way_out [] u q made roots h = absurd (false≢true h)
way_out (p ∷ ps) u q made roots h =
    elim (or_cases (under q (parent p)) (list_any (λ out. under q (parent out)) ps) h) [
      | inl here ↦ made.0 q (within_parent q p roots.0 here)
      | inr later ↦ way_out ps u q made.1 roots.1 later
    ]

-- each output, with what lies at and below it, and what lies above
places_of : (ps : List Path) → AllByRecursion (λ p. ((q : Path) → under p q ≡ true → is_in_any ps q ≡ true) × ((q : Path) → under q (parent p) ≡ true → list_any (λ out. under q (parent out)) ps ≡ true)) ps
places_of [] = tt
places_of (p ∷ ps) = (
  (λ q u. or_left (under p q) (is_in_any ps q) u, λ q u. or_left (under q (parent p)) (list_any (λ out. under q (parent out)) ps) u),
  each_on (λ x. ((q : Path) → under x q ≡ true → is_in_any ps q ≡ true) × ((q : Path) → under q (parent x) ≡ true → list_any (λ out. under q (parent out)) ps ≡ true))
      (λ x. ((q : Path) → under x q ≡ true → is_in_any (p ∷ ps) q ≡ true) × ((q : Path) → under q (parent x) ≡ true → list_any (λ out. under q (parent out)) (p ∷ ps) ≡ true)) ps
      (λ x h. (λ q u. or_right (under p q) (is_in_any ps q) (h.0 q u), λ q u. or_right (under q (parent p)) (list_any (λ out. under q (parent out)) ps) (h.1 q u)))
      (places_of ps),
)

module _ (s : Stage) (t u : Tree) (tree : IsTree u) (kept : Roads t) (root : file_at t [] ≡ None) (apart : are_apart (stage_outs s) ≡ true) (there : AllByRecursion (λ p. is_nothing (value_at u p) ≡ false) (stage_outs s)) (gone : (q : Path) → is_in_any (stage_outs s) q ≡ true → item_at t q ≡ None) (clear : (q : Path) → is_way s q ≡ true → is_file (item_at t q) ≡ false) where
  abbrev first : Tree
  first = with_folders t [] s.dir

  abbrev values : List Value
  values = map (value_at u) (stage_outs s)

  abbrev last : Tree
  last = put_values first (stage_outs s) values

  roots : AllByRecursion (λ p. p ≢ []) (stage_outs s)
  roots = roots_apart (stage_outs s) apart

  file_gone : (q : Path) → is_in_any (stage_outs s) q ≡ true → file_at t q ≡ None
  file_gone q h = no_file t q root (ap is_file (gone q h))

  free_outs : AllByRecursion (IsFree first) (stage_outs s)
  free_outs =
      each_on (λ p. ((q : Path) → under p q ≡ true → is_in_any (stage_outs s) q ≡ true) × ((q : Path) → under q (parent p) ≡ true → list_any (λ out. under q (parent out)) (stage_outs s) ≡ true)) (IsFree first) (stage_outs s)
      (λ p h q over. folders_files s.dir [] t q ∙ elim (cases_Bool (under p q)) [
        | inl down ↦ file_gone q (h.0 q down)
        | inr side ↦ elim (or_cases (under q p) (under p q) over) [
          | inl up ↦
              let w : is_within p q ≡ true = within p q up (λ e. false≢true (sym side ∙ subst (λ (x : Path). under p x ≡ true) (sym e) (under-refl p))) in
              no_file t q root (clear q (or_right (under q s.dir) (list_any (λ out. under q (parent out)) (stage_outs s)) (h.1 q (under_parent q p w))))
          | inr down ↦ absurd (false≢true (sym side ∙ down))
        ]
      ]) (places_of (stage_outs s))

  put : ArePutFrom first (stage_outs s) u last
  put = values_put (stage_outs s) first u apart tree free_outs (folders_roads s.dir [] t kept) there

  none_missing : list_any is_nothing values ≡ false
  none_missing = any_from is_nothing values (each_map (value_at u) (λ v. is_nothing v ≡ false) (stage_outs s) there)

  none_blocked : list_any (is_blocked last []) (stage_outs s) ≡ false
  none_blocked =
      any_from (is_blocked last []) (stage_outs s) (each_on (λ p. (q : Path) → is_within p q ≡ true → item_at last q ≡ Some folder) (λ p. is_blocked last [] p ≡ false) (stage_outs s) (λ p road. is_blocked_road last [] p road) put.made)

  way_made : (q : Path) → is_in_any (stage_outs s) q ≡ false → is_way s q ≡ true → item_at last q ≡ Some folder
  way_made q out w =
      elim (or_cases (under q s.dir) (list_any (λ p. under q (parent p)) (stage_outs s)) w) [
        | inl up ↦
            grows_some first last q folder (put.grows q out)
            (folders_made t s.dir q up (λ x v. clear x (or_left (under x s.dir) (list_any (λ p. under x (parent p)) (stage_outs s)) (under-trans x q s.dir v up))))
        | inr h ↦ way_out (stage_outs s) last q put.made roots h
      ]

  others : (q : Path) (b : Bool) → is_way s q ≡ b → is_in_any (stage_outs s) q ≡ false → item_at last q ≡ cond b (folder_or (item_at t q)) (item_at t q)
  others q true w out = way_made q out w ∙ made_of (item_at t q) (clear q w)
  others q false w out =
      let parts = or_parts (under q s.dir) (list_any (λ p. under q (parent p)) (stage_outs s)) w in
      else_values first (stage_outs s) values q roots out parts.1 ∙ else_folders t [] s.dir q parts.0

  last_roads : AreRoads (stage_outs s) last
  last_roads p inside e r = by r (path_cases p (p ++ r)) (file_at last (p ++ r)) refl
    where
      clash : (o : Option Item) → o ≡ None → o ≡ Some folder → ⊥
      clash o a b = absurd (no (sym a ∙ b))
        where
          no : None ≡ Some folder → ⊥
          no e = absurd (cc)

      by : (r : Path) → (p ≡ p ++ r) ⊎ (p ≢ (p ++ r)) → (o : Option (List ℕ)) → file_at last (p ++ r) ≡ o → file_at last (p ++ r) ≡ None
      by r c None h = h
      by r (inl same) (Some bytes) h = ap (file_at last) (sym same) ∙ no_file last p last_root (ap is_file e)
        where
          last_root : file_at last [] ≡ None
          last_root = put.others [] (root_outside (stage_outs s) apart) ∙ folders_files s.dir [] t [] ∙ root
      by r (inr other) (Some bytes) h =
          absurd (clash (item_at last p) e (put.roads p (p ++ r) (ap is_some h) (within (p ++ r) p (under-append p r) other)))

  pub are_put : IsPut s t u
  are_put =
      record {
        tree = last;
        step = outcome_put first (stage_outs s) values none_missing none_blocked;
        root = put.others [] (root_outside (stage_outs s) apart) ∙ folders_files s.dir [] t [];
        others = λ q out. others q (is_way s q) refl out;
        files = put.inside;
        kinds = put.there;
        roads = last_roads;
        kept = put.roads;
      }

pub put_law : PutLaw
put_law s t u tree kept root apart there gone clear = are_put s t u tree kept root apart there gone clear
