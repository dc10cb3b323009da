-- Two trees that show the same, and the same done to both.
--     alike_without      what stands at some paths is taken away
--     alike_folders      folders are made on a way
--     alike_values       values are put
--     file_on_alike, blocked_alike     files on a way
use Rattle.std.proofs.Common.{◌≡◌, ◌≢◌, ℕ, ◌-◌, Bool, true, false, cond, not, List, [], ◌∷◌, ◌++◌, length, take, refl, sym, ap, subst, ◌∙◌, inl, inr, append_assoc, append-nil, Option, Some, None}
use Rattle.std.specs.List.{AllByRecursion}
use Rattle.std.specs.FinMap.{insert, retain_keys, entries}
use Rattle.std.proofs.lemmas.Bool.{false≢true, cases_Bool, or_left, or_right, or_cases, and_parts, false_from_ne_true}
use Rattle.dvc_base.specs.Path.{Path, under, is_within}
use Rattle.dvc_base.proofs.PathLemmas.{under-refl, under-trans, under-append}
use Rattle.world_api.specs.Tree.{Tree, Item, folder, file, Value, nothing, content, members, item_at}
use Rattle.world_api.specs.Effect.{is_in_any}
use Rattle.world_api.specs.Calls.{parent}
use Rattle.world_api.proofs.TreeLemmas.{path_cases, get_put_same, get_put_other, get_kept, get_gone, item_put_same, item_put_other, item_kept, item_gone, under_parent}
use Rattle.repro_laws.specs.Anew.{without, with_item, with_folder, is_file, with_folders, is_blocked, put_members, put_value, put_values}
use Rattle.repro_laws.specs.Headline.{IsOwn, IsApart}
use Rattle.repro_laws.specs.Refusals.{file_on}
use Rattle.repro_laws.proofs.FileLemmas.{only_file, file_at}
use Rattle.repro_laws.proofs.AlikeLemmas.{is_inside, AreRoads, Alike, only_item, apart_below}

-- ---- paths at and below outputs

-- what lies below a path inside the outputs lies in them
pub below_inside : (done : List Path) (p r : Path) → is_inside done p ≡ true → is_in_any done (p ++ r) ≡ true
below_inside [] p r h = absurd (false≢true h)
below_inside (o ∷ os) p r h =
    elim (or_cases (is_within p o) (is_inside os p) h) [
      | inl w ↦ or_left (under o (p ++ r)) (is_in_any os (p ++ r)) (under-trans o p (p ++ r) (and_parts (under o p) _ w).0 (under-append p r))
      | inr w ↦ or_right (under o (p ++ r)) (is_in_any os (p ++ r)) (below_inside os p r w)
    ]

-- ---- a folder that is made

abbrev pub folder_or : Option Item → Option Item
folder_or None = Some folder
folder_or (Some item) = Some item

pub only_folder_or : (o : Option Item) → only_file (folder_or o) ≡ only_file o
only_folder_or None = refl
only_folder_or (Some folder) = refl
only_folder_or (Some (file bytes)) = refl

made_file : (t : Tree) (p q : Path) (o : Option Item) → item_at t p ≡ o → file_at (with_item o t p) q ≡ file_at t q
made_file t [] q None e = absurd (cc)
made_file t (c ∷ p) q None e =
    elim (path_cases q (c ∷ p)) [
      | inl s ↦ ap (file_at (insert t (c ∷ p) folder)) s ∙ ap only_file (get_put_same t (c ∷ p) folder ∙ refl) ∙ sym (ap (file_at t) s ∙ ap only_file e)
      | inr ne ↦ ap only_file (get_put_other t (c ∷ p) folder q ne)
    ]
made_file t p q (Some item) e = refl

made_here : (t : Tree) (p : Path) (o : Option Item) → item_at t p ≡ o → item_at (with_item o t p) p ≡ folder_or o
made_here t [] None e = absurd (cc)
made_here t (c ∷ p) None e = get_put_same t (c ∷ p) folder
made_here t p (Some item) e = e

made_else : (t : Tree) (p q : Path) (o : Option Item) → q ≢ p → item_at (with_item o t p) q ≡ item_at t q
made_else t p q None ne = item_put_other t p folder q ne
made_else t p q (Some item) ne = refl

pub folder_file : (t : Tree) (p q : Path) → file_at (with_folder t p) q ≡ file_at t q
folder_file t p q = made_file t p q (item_at t p) refl

pub folder_here : (t : Tree) (p : Path) → item_at (with_folder t p) p ≡ folder_or (item_at t p)
folder_here t p = made_here t p (item_at t p) refl

pub folder_else : (t : Tree) (p q : Path) → q ≢ p → item_at (with_folder t p) q ≡ item_at t q
folder_else t p q ne = made_else t p q (item_at t p) ne

folder_or_some : (o : Option Item) → folder_or o ≡ None → ⊥
folder_or_some None e = absurd (cc)
folder_or_some (Some item) e = absurd (cc)

folder_none : (t : Tree) (p q : Path) → item_at (with_folder t p) q ≡ None → item_at t q ≡ None
folder_none t p q e =
    elim (path_cases q p) [
      | inl s ↦ absurd (folder_or_some (item_at t p) (sym (folder_here t p) ∙ ap (item_at (with_folder t p)) (sym s) ∙ e))
      | inr ne ↦ sym (folder_else t p q ne) ∙ e
    ]

roads_folder : (done : List Path) (t : Tree) (p : Path) → AreRoads done t → AreRoads done (with_folder t p)
roads_folder done t p roads q inside e r =
    folder_file t p (q ++ r) ∙ roads q inside (folder_none t p q e) r

module _ (own : Path → Bool) (done : List Path) where
  pub alike_folder : (t u : Tree) (p : Path) → Alike own done t u → Alike own done (with_folder t p) (with_folder u p)
  alike_folder t u p a =
      record {
        files = λ q k. folder_file u p q ∙ a.files q k ∙ sym (folder_file t p q);
        kinds = λ q k out.
            elim (path_cases q p) [
              | inl s ↦
                  ap (item_at (with_folder u p)) s ∙ folder_here u p ∙ ap folder_or (ap (item_at u) (sym s) ∙ a.kinds q k out ∙ ap (item_at t) s) ∙ sym (folder_here t p) ∙ ap (item_at (with_folder t p)) (sym s)
              | inr ne ↦ folder_else u p q ne ∙ a.kinds q k out ∙ sym (folder_else t p q ne)
            ];
        roads = roads_folder done t p a.roads;
        roads_too = roads_folder done u p a.roads_too;
      }

  -- ---- folders on a way

  is_file_only : (o x : Option Item) → only_file x ≡ only_file o → is_file x ≡ is_file o
  is_file_only None None e = refl
  is_file_only None (Some folder) e = refl
  is_file_only None (Some (file bytes)) e = absurd (cc)
  is_file_only (Some folder) None e = refl
  is_file_only (Some folder) (Some folder) e = refl
  is_file_only (Some folder) (Some (file bytes)) e = absurd (cc)
  is_file_only (Some (file bytes)) None e = absurd (cc)
  is_file_only (Some (file bytes)) (Some folder) e = absurd (cc)
  is_file_only (Some (file bytes)) (Some (file other)) e = refl

  pub is_file_alike : (t u : Tree) (p : Path) → Alike own done t u → own p ≡ false → is_file (item_at u p) ≡ is_file (item_at t p)
  is_file_alike t u p a k = is_file_only (item_at t p) (item_at u p) (only_item t u p (a.files p k))

  pub alike_cond : (b c : Bool) (t u v w : Tree) → c ≡ b → Alike own done t u → Alike own done v w → Alike own done (cond b t v) (cond c u w)
  alike_cond true true t u v w e x y = x
  alike_cond true false t u v w e x y = absurd (false≢true e)
  alike_cond false true t u v w e x y = absurd (false≢true (sym e))
  alike_cond false false t u v w e x y = y

  pub not_own_above : IsOwn own → (q p : Path) → under q p ≡ true → own p ≡ false → own q ≡ false
  not_own_above area q p u k = false_from_ne_true (own q) (λ e. false≢true (sym k ∙ area.below q p e u))

  step_own : (above : Path) (c : List ℕ) (p : Path) → own (above ++ c ∷ p) ≡ false → own ((above ++ c ∷ []) ++ p) ≡ false
  step_own above c p k = ap own (append_assoc above (c ∷ []) p) ∙ k

  pub alike_folders : IsOwn own → (t u : Tree) (above p : Path) → Alike own done t u → own (above ++ p) ≡ false → Alike own done (with_folders t above p) (with_folders u above p)
  alike_folders area t u above [] a k = alike_folder t u above a
  alike_folders area t u above (c ∷ p) a k =
      let here = not_own_above area above (above ++ c ∷ p) (under-append above (c ∷ p)) k in
      alike_cond (is_file (item_at t above)) (is_file (item_at u above)) t u (with_folders (with_folder t above) (above ++ c ∷ []) p) (with_folders (with_folder u above) (above ++ c ∷ []) p) (is_file_alike t u above a here) a (alike_folders area (with_folder t above) (with_folder u above) (above ++ c ∷ []) p (alike_folder t u above a) (step_own above c p k))

  pub file_on_alike : IsOwn own → (t u : Tree) (above p : Path) → Alike own done t u → own (above ++ p) ≡ false → file_on u above p ≡ file_on t above p
  file_on_alike area t u above [] a k =
      ap (λ b. cond b (Some above) None) (is_file_alike t u above a (subst (λ (x : Path). own x ≡ false) (append-nil above) k))
  file_on_alike area t u above (c ∷ p) a k =
      let here = not_own_above area above (above ++ c ∷ p) (under-append above (c ∷ p)) k in
      ap (λ b. cond b (Some above) (file_on u (above ++ c ∷ []) p)) (is_file_alike t u above a here) ∙ ap (cond (is_file (item_at t above)) (Some above)) (file_on_alike area t u (above ++ c ∷ []) p a (step_own above c p k))

  pub blocked_alike : IsOwn own → (t u : Tree) (above p : Path) → Alike own done t u → own (above ++ p) ≡ false → is_blocked u above p ≡ is_blocked t above p
  blocked_alike area t u above [] a k = refl
  blocked_alike area t u above (c ∷ p) a k =
      let here = not_own_above area above (above ++ c ∷ p) (under-append above (c ∷ p)) k in
      ap (λ b. cond b true (is_blocked u (above ++ c ∷ []) p)) (is_file_alike t u above a here) ∙ ap (cond (is_file (item_at t above)) true) (blocked_alike area t u (above ++ c ∷ []) p a (step_own above c p k))

  -- ---- a file that is put

  roads_put : (t : Tree) (p : Path) (bytes : List ℕ) → p ≢ [] → is_in_any done p ≡ false → AreRoads done t → AreRoads done (insert t p (file bytes))
  roads_put t p bytes root out roads q inside e r =
      let other : q ≢ p = λ s. some_item (sym (item_put_same t p (file bytes) root) ∙ ap (item_at (insert t p (file bytes))) (sym s) ∙ e) in
      let far : (q ++ r) ≢ p = λ s. false≢true (sym out ∙ ap (is_in_any done) (sym s) ∙ below_inside done q r inside) in
      ap only_file (get_put_other t p (file bytes) (q ++ r) far) ∙ roads q inside (sym (item_put_other t p (file bytes) q other) ∙ e) r
    where
      some_item : {x : Item} → Some x ≡ None → ⊥
      some_item e = absurd (cc)

  pub alike_put : (t u : Tree) (p : Path) (bytes : List ℕ) → p ≢ [] → is_in_any done p ≡ false → Alike own done t u → Alike own done (insert t p (file bytes)) (insert u p (file bytes))
  alike_put t u p bytes root out a =
      record {
        files = λ q k.
            elim (path_cases q p) [
              | inl s ↦
                  ap (file_at (insert u p (file bytes))) s ∙ ap only_file (get_put_same u p (file bytes) ∙ sym (get_put_same t p (file bytes))) ∙ ap (file_at (insert t p (file bytes))) (sym s)
              | inr ne ↦ ap only_file (get_put_other u p (file bytes) q ne) ∙ a.files q k ∙ sym (ap only_file (get_put_other t p (file bytes) q ne))
            ];
        kinds = λ q k inside.
            elim (path_cases q p) [
              | inl s ↦
                  ap (item_at (insert u p (file bytes))) s ∙ item_put_same u p (file bytes) root ∙ sym (item_put_same t p (file bytes) root) ∙ ap (item_at (insert t p (file bytes))) (sym s)
              | inr ne ↦ item_put_other u p (file bytes) q ne ∙ a.kinds q k inside ∙ sym (item_put_other t p (file bytes) q ne)
            ];
        roads = roads_put t p bytes root out a.roads;
        roads_too = roads_put u p bytes root out a.roads_too;
      }

  -- ---- values that are put

  -- a path at which a value may be put: neither the root nor the tool's own, and nothing below it lies in what is done
  pub record IsFree (p : Path) : Type 0 where
    pub root : p ≢ []
    pub apart : IsApart own p
    pub far : (r : Path) → is_in_any done (p ++ r) ≡ false

  root_below : (p r : Path) → p ≢ [] → (p ++ r) ≢ []
  root_below [] r ne = absurd (ne refl)
  root_below (c ∷ p) r ne = λ e. absurd (cc)

  pub alike_members : IsOwn own → (t u : Tree) (p : Path) (ms : List (Path × List ℕ)) → IsFree p → Alike own done t u → Alike own done (put_members t p ms) (put_members u p ms)
  alike_members area t u p [] free a = a
  alike_members area t u p (m ∷ ms) free a =
      let above = take (length m.0 - 1) m.0 in
      alike_members area (insert (with_folders t [] (p ++ above)) (p ++ m.0) (file m.1)) (insert (with_folders u [] (p ++ above)) (p ++ m.0) (file m.1)) p ms free
      (alike_put (with_folders t [] (p ++ above)) (with_folders u [] (p ++ above)) (p ++ m.0) m.1 (root_below p m.0 free.root) (free.far m.0)
      (alike_folders area t u [] (p ++ above) a (apart_below own p above free.apart)))

  pub own_free : (p : Path) → IsFree p → own p ≡ false
  own_free p free = free.apart p (under-refl p)

  pub alike_value : IsOwn own → (t u : Tree) (p : Path) (v : Value) → IsFree p → Alike own done t u → Alike own done (put_value t p v) (put_value u p v)
  alike_value area t u p nothing free a = a
  alike_value area t u p (content bytes) free a =
      alike_put (with_folders t [] (parent p)) (with_folders u [] (parent p)) p bytes free.root (subst (λ (x : Path). is_in_any done x ≡ false) (append-nil p) (free.far []))
      (alike_folders area t u [] (parent p) a (not_own_above area (parent p) p (under_parent p) (own_free p free)))
  alike_value area t u p (members m) free a =
      alike_members area (with_folders t [] p) (with_folders u [] p) p (entries m) free (alike_folders area t u [] p a (own_free p free))

  pub alike_values : IsOwn own → (t u : Tree) (ps : List Path) (vs : List Value) → AllByRecursion IsFree ps → Alike own done t u → Alike own done (put_values t ps vs) (put_values u ps vs)
  alike_values area t u [] vs free a = a
  alike_values area t u (p ∷ ps) [] free a = a
  alike_values area t u (p ∷ ps) (v ∷ vs) free a =
      alike_values area (put_value t p v) (put_value u p v) ps vs free.1 (alike_value area t u p v free.0 a)

  -- ---- what is taken away

  taken_file : (t : Tree) (p q : Path) (b : Bool) → under p q ≡ b → file_at (retain_keys t (λ x. not (under p x))) q ≡ cond b None (file_at t q)
  taken_file t p q true e = ap only_file (get_gone t (λ x. not (under p x)) q (ap not e))
  taken_file t p q false e = ap only_file (get_kept t (λ x. not (under p x)) q (ap not e))

  taken_item : (t : Tree) (p q : Path) (b : Bool) → p ≢ [] → under p q ≡ b → item_at (retain_keys t (λ x. not (under p x))) q ≡ cond b None (item_at t q)
  taken_item t p q true ne e = item_gone t (λ x. not (under p x)) q (λ s. not_above_root p ne (ap (under p) (sym s) ∙ e)) (ap not e)
    where
      not_above_root : (p : Path) → p ≢ [] → under p [] ≡ true → ⊥
      not_above_root [] ne u = ne refl
      not_above_root (c ∷ p) ne u = false≢true u
  taken_item t p q false ne e = item_kept t (λ x. not (under p x)) q (ap not e)

  roads_taken : (t : Tree) (p : Path) → p ≢ [] → AreRoads done t → AreRoads done (retain_keys t (λ x. not (under p x)))
  roads_taken t p ne roads q inside e r =
      elim (cases_Bool (under p q)) [
        | inl u ↦ taken_file t p (q ++ r) true (under-trans p q (q ++ r) u (under-append q r))
        | inr o ↦
            let before = roads q inside (sym (taken_item t p q false ne o) ∙ e) r in
            elim (cases_Bool (under p (q ++ r))) [
              | inl u ↦ taken_file t p (q ++ r) true u
              | inr n ↦ taken_file t p (q ++ r) false n ∙ before
            ]
      ]

  alike_taken : (t u : Tree) (p : Path) → p ≢ [] → Alike own done t u → Alike own done (retain_keys t (λ x. not (under p x))) (retain_keys u (λ x. not (under p x)))
  alike_taken t u p ne a =
      record {
        files = λ q k. taken_file u p q (under p q) refl ∙ ap (cond (under p q) None) (a.files q k) ∙ sym (taken_file t p q (under p q) refl);
        kinds = λ q k out. taken_item u p q (under p q) ne refl ∙ ap (cond (under p q) None) (a.kinds q k out) ∙ sym (taken_item t p q (under p q) ne refl);
        roads = roads_taken t p ne a.roads;
        roads_too = roads_taken u p ne a.roads_too;
      }

  pub alike_without : (t u : Tree) (ps : List Path) → AllByRecursion (λ p. p ≢ []) ps → Alike own done t u → Alike own done (without t ps) (without u ps)
  alike_without t u [] roots a = a
  alike_without t u (p ∷ ps) roots a =
      alike_without (retain_keys t (λ x. not (under p x))) (retain_keys u (λ x. not (under p x))) ps roots.1 (alike_taken t u p roots.0 a)
