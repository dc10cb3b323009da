-- The tree that is, and the one that runs anew so far have made.
--     Related own all done rest now fold     how the two trees are related once the outputs `done` are made, and `rest` are not
--     read_value     a dependency has the same value in both
use Rattle.std.proofs.Common.{◌≡◌, ◌≢◌, ℕ, Bool, true, false, cond, List, [], ◌∷◌, ◌++◌, length, refl, sym, ap, subst, ◌∙◌, inl, inr, Some, None, is_some, IsSome, ◌==◌}
use Rattle.std.specs.List.{AllByRecursion, list_any}
use Rattle.std.specs.FinMap.{get, entries}
use Rattle.std.proofs.lemmas.Bool.{false≢true, or_left, or_right, or_cases, cases_Bool}
use Rattle.dvc_base.specs.Path.{Path, under, overlap, is_within}
use Rattle.dvc_base.proofs.PathLemmas.{under-refl, under-append}
use Rattle.world_api.specs.Tree.{Tree, folder, file, Value, nothing, content, members, IsTree, item_at, value_at}
use Rattle.world_api.specs.Effect.{is_in_any}
use Rattle.world_api.proofs.TreeLemmas.{path_cases}
use Rattle.repro_laws.specs.Stage.{value_inside, dep_value, is_nothing}
use Rattle.repro_laws.specs.Headline.{IsApart}
use Rattle.repro_laws.specs.declared.stage.Dep.{Dep}
use Rattle.repro_laws.proofs.ListLemmas.{any_first, any_other}
use Rattle.repro_laws.proofs.RoadLemmas.{within}
use Rattle.repro_laws.proofs.FileLemmas.{file_at, file_item, item_file, not_a_file, Files, IsFolderValue, folder_value, content_item, some_value, value_kept, Roads, absent, no_folder_file, all_found}
use Rattle.repro_laws.proofs.FolderLemmas.{Grows}
use Rattle.repro_laws.proofs.ReadLemmas.{outside_outs, stands_inside}

-- files are the same outside the outputs that are still to be made, where none stands in the second tree. Outside all outputs
-- it may have a folder more: a stage that is skipped makes none. The outputs that are made stand there
pub record Related (own : Path → Bool) (all done rest : List Path) (now fold : Tree) : Type 0 where
  pub files : (q : Path) → is_in_any rest q ≡ false → own q ≡ false → file_at fold q ≡ file_at now q
  pub kinds : (q : Path) → is_in_any all q ≡ false → own q ≡ false → Grows now fold q
  pub clear : (q : Path) → is_in_any rest q ≡ true → file_at fold q ≡ None
  pub made : AllByRecursion (λ out. (item_at fold out ≡ item_at now out) × IsSome (item_at now out)) done
  pub roads : Roads fold

abbrev pub IsMarked : List Path → Dep → Type 0
IsMarked all d = d.inside ≡ list_any (is_within d.path) all

-- a dependency that overlaps no output that is still to be made
pub record IsRead (own : Path → Bool) (all rest : List Path) (d : Dep) : Type 0 where
  pub marked : IsMarked all d
  pub apart : list_any (overlap d.path) rest ≡ false
  pub kept : IsApart own d.path

pub grown_item : (t u : Tree) (q : Path) → Grows t u q → IsSome (item_at t q) → item_at u q ≡ item_at t q
grown_item t u q (inl e) some = e
grown_item t u q (inr made) some = absurd (absent (item_at t q) made.0 some)

-- the output that a path lies in
record IsPicked (P : Path → Type 0) (done : List Path) (p : Path) : Type 0 where
  out : Path
  above : under out p ≡ true
  holds : P out
  among : (f : Path → Bool) → f out ≡ true → list_any f done ≡ true

picked : (P : Path → Type 0) (done : List Path) (p : Path) → AllByRecursion P done → is_in_any done p ≡ true → IsPicked P done p
picked P [] p a h = absurd (false≢true h)
picked P (out ∷ done) p a h =
    elim (or_cases (under out p) (is_in_any done p) h) [
      | inl u ↦ record { out = out; above = u; holds = a.0; among = λ f e. or_left (f out) (list_any f done) e }
      | inr u ↦
          let x = picked P done p a.1 u in
          record { out = x.out; above = x.above; holds = x.holds; among = λ f e. or_right (f out) (list_any f done) (x.among f e) }
    ]

none_left : (b : Bool) (v : Value) → is_nothing (cond b nothing v) ≡ false → b ≡ false
none_left true v h = absurd (false≢true (sym h))
none_left false v h = refl

module _ (own : Path → Bool) (all done rest : List Path) (now fold : Tree) (tree : IsTree now) (related : Related own all done rest now fold) (split : all ≡ done ++ rest) where
  read_files : (d : Dep) → IsRead own all rest d → (q : Path) → under d.path q ≡ true → file_at fold q ≡ file_at now q
  read_files d read q u = related.files q (outside_outs d.path q rest read.apart u) (read.kept q u)

  first_member : (d : Dep) (m : Files) (e : Path × List ℕ) → IsRead own all rest d → IsFolderValue now d.path m → get m e.0 ≡ Some e.1 → item_at fold d.path ≡ Some folder
  first_member d m e read value has =
      let there : file_at now (d.path ++ e.0) ≡ Some e.1 = sym (value.each e.0) ∙ has in
      let below : file_at fold (d.path ++ e.0) ≡ Some e.1 = read_files d read (d.path ++ e.0) (under-append d.path e.0) ∙ there in
      let other : d.path ≢ d.path ++ e.0 =
      λ s. absent (file_at now d.path) (no_folder_file now tree d.path value.there) (ap is_some (ap (file_at now) s ∙ there)) in
      related.roads d.path (d.path ++ e.0) (ap is_some below) (within (d.path ++ e.0) d.path (under-append d.path e.0) other)

  some_member : (d : Dep) (m : Files) (es : List (Path × List ℕ)) → IsRead own all rest d → IsFolderValue now d.path m → AllByRecursion (λ e. get m e.0 ≡ Some e.1) es → (length es == 0) ≡ false → item_at fold d.path ≡ Some folder
  some_member d m [] read value found h = absurd (false≢true (sym h))
  some_member d m (e ∷ es) read value found h = first_member d m e read value found.0

  not_root : (p : Path) (bytes : List ℕ) → item_at now p ≡ Some (file bytes) → p ≢ []
  not_root p bytes e s = not_a_file bytes (sym (ap (item_at now) s) ∙ e)

  -- inside an output, where files stand below
  inside_item : (d : Dep) (v : Value) → IsRead own all rest d → value_at now d.path ≡ v → is_nothing (value_inside true v) ≡ false → item_at fold d.path ≡ item_at now d.path
  inside_item d nothing read e h = absurd (false≢true (sym h))
  inside_item d (content bytes) read e h =
      let there = content_item now d.path bytes e in
      let same : file_at fold d.path ≡ Some bytes = read_files d read d.path (under-refl d.path) ∙ item_file now d.path bytes there in
      file_item fold d.path bytes (not_root d.path bytes there) same ∙ sym there
  inside_item d (members m) read e h =
      let value = folder_value now d.path m e in
      some_member d m (entries m) read value (all_found m) (none_left (length (entries m) == 0) (members m) h) ∙ sym value.there

  below_item : (d : Dep) → IsRead own all rest d → is_nothing (dep_value now d) ≡ false → IsPicked (λ out. (item_at fold out ≡ item_at now out) × IsSome (item_at now out)) done d.path → item_at fold d.path ≡ item_at now d.path
  below_item d read h pick =
      elim (path_cases d.path pick.out) [
        | inl same ↦ ap (item_at fold) same ∙ pick.holds.0 ∙ sym (ap (item_at now) same)
        | inr other ↦
            let among : list_any (is_within d.path) done ≡ true = pick.among (is_within d.path) (within d.path pick.out pick.above (λ e. other (sym e))) in
            let marks : d.inside ≡ true = read.marked ∙ ap (list_any (is_within d.path)) split ∙ any_first (is_within d.path) done rest among in
            inside_item d (value_at now d.path) read refl (subst (λ (b : Bool). is_nothing (value_inside b (value_at now d.path)) ≡ false) marks h)
      ]

  outside_item : (d : Dep) → IsRead own all rest d → is_in_any all d.path ≡ false → is_nothing (dep_value now d) ≡ false → item_at fold d.path ≡ item_at now d.path
  outside_item d read out h =
      grown_item now fold d.path (related.kinds d.path out (read.kept d.path (under-refl d.path))) (some_value now d.path (stands_inside d.inside (value_at now d.path) h))

  read_item : (d : Dep) → IsRead own all rest d → is_nothing (dep_value now d) ≡ false → item_at fold d.path ≡ item_at now d.path
  read_item d read h =
      elim (cases_Bool (is_in_any all d.path)) [
        | inl inside ↦
            let among : is_in_any done d.path ≡ true =
            any_other (λ out. under out d.path) done rest (ap (λ (ps : List Path). is_in_any ps d.path) (sym split) ∙ inside) (outside_outs d.path d.path rest read.apart (under-refl d.path)) in
            below_item d read h (picked (λ out. (item_at fold out ≡ item_at now out) × IsSome (item_at now out)) done d.path related.made among)
        | inr out ↦ outside_item d read out h
      ]

  pub read_value : (d : Dep) → IsRead own all rest d → is_nothing (dep_value now d) ≡ false → value_at fold d.path ≡ value_at now d.path
  read_value d read h =
      value_kept now fold d.path (read_item d read h) (λ r. read_files d read (d.path ++ r) (under-append d.path r))
