-- The run of the places of paths that begin with the same components.
--     path_total            the order of paths is one
--     table_sorted          the places of all paths, sorted, are a table
--     parted_lt, parted_le  where the run starts, and where it ends
--     run_in_order          it starts before it ends
--     run_members           it has the places of all such paths
use Rattle.std.proofs.Common.{◌≡◌, ℕ, zero, suc, ◌+◌, ◌-◌, ◌<◌, ◌≤◌, Bool, true, false, ◌&&◌, ◌||◌, List, [], ◌∷◌, ◌++◌, length, get_or, take, drop, Ordering, Less, Equal, Greater, refl, sym, ap, ◌∙◌, arith, nat_eq, nat_lt}
use Rattle.std.specs.Cmp.{IsTotalOrder}
use Rattle.std.specs.Cmp.Lexicographic.{slice_cmp}
use Rattle.std.specs.List.{All, AllWithin, slice_range}
use Rattle.std.specs.List.Sorted.{IsSortedByKey, IsNonDecreasingBy, IsPartitionedBy, IsPartitionPoint, IsPermutation}
use Rattle.std.specs.Ordering.{nat_cmp, is_lt, is_le, is_eq, is_gt, ordering_then, ordering_index}
use Rattle.std.proofs.lemmas.Bool.{cases_lt, and_right, ne_eqb, false≢true, false_from_ne_true}
use Rattle.std.proofs.lemmas.Cmp.{lists_total, nat_list_cmp_total}
use Rattle.std.proofs.lemmas.List.{take-append-drop, get_or-take, get_or-drop, length-take-le, length-take, length-drop}
use Rattle.std.proofs.lemmas.List.Folds.{list_any-append, list_any_none, drop_split}
use Rattle.std.proofs.lemmas.List.Sorted.{searchable_from_sorted, list_any-IsPermutation}
use Rattle.dvc_base.specs.Path.{Path}
use Rattle.path_index.specs.Table.{IsTable, path_at, path_cmp, is_in, is_at, is_cut}
use Rattle.path_index.proofs.TestLemmas.{either}

pub path_total : IsTotalOrder path_cmp
path_total = lists_total nat_list_cmp_total

pub table_sorted : (paths : List Path) (before order : List ℕ) → ((n : ℕ) → is_in before n ≡ nat_lt n (length paths)) → IsPermutation before order →
    IsSortedByKey (path_at paths) path_cmp order → IsTable paths order
table_sorted paths before order all moved sorted =
    record { sorted = sorted; all = λ n. sym (list_any-IsPermutation (nat_eq n) before order moved) ∙ all n }

-- ---- the paths' first components ascend too

then_keeps : (o r s : Ordering) → (is_lt r ≡ true → is_lt s ≡ true) → is_lt (ordering_then o r) ≡ true → is_lt (ordering_then o s) ≡ true
then_keeps Less r s keeps h = refl
then_keeps Equal r s keeps h = keeps h
then_keeps Greater r s keeps h = h

cut_keeps : (depth : ℕ) (p q : Path) → is_lt (path_cmp (take depth p) (take depth q)) ≡ true → is_lt (path_cmp p q) ≡ true
cut_keeps zero p q h = absurd (false≢true h)
cut_keeps (suc depth) [] [] h = h
cut_keeps (suc depth) [] (d ∷ q) h = refl
cut_keeps (suc depth) (c ∷ p) [] h = h
cut_keeps (suc depth) (c ∷ p) (d ∷ q) h =
    then_keeps (slice_cmp nat_cmp c d) (path_cmp (take depth p) (take depth q)) (path_cmp p q) (cut_keeps depth p q) h

cut_sorted : (depth : ℕ) (paths : List Path) (order : List ℕ) → IsSortedByKey (path_at paths) path_cmp order → IsSortedByKey (λ n. take depth (path_at paths n)) path_cmp order
cut_sorted depth paths order sorted = λ k d low below.
    let p = path_at paths (get_or order (k + 1) d) in
    let q = path_at paths (get_or order k d) in
    false_from_ne_true (is_lt (path_cmp (take depth p) (take depth q))) (λ h. false≢true (sym (sorted k d low below) ∙ cut_keeps depth p q h))

-- where a path's first components stand against some
abbrev pub stands : List Path → ℕ → Path → ℕ → Ordering
stands paths depth front n = path_cmp (take depth (path_at paths n)) front

rises : (paths : List Path) (order : List ℕ) (front : Path) (depth : ℕ) → IsTable paths order → IsNonDecreasingBy (λ n. ordering_index (stands paths depth front n)) order
rises paths order front depth table = searchable_from_sorted path_total (λ n. take depth (path_at paths n)) order front (cut_sorted depth paths order table.sorted)

lt_before : (o r : Ordering) → ordering_index o ≤ ordering_index r → is_lt r ≡ true → is_lt o ≡ true
lt_before Less r h e = refl
lt_before Equal Less h e = absurd (omega arith)
lt_before Equal Equal h e = e
lt_before Equal Greater h e = e
lt_before Greater Less h e = absurd (omega arith)
lt_before Greater Equal h e = e
lt_before Greater Greater h e = e

le_before : (o r : Ordering) → ordering_index o ≤ ordering_index r → is_le r ≡ true → is_le o ≡ true
le_before Less r h e = refl
le_before Equal r h e = refl
le_before Greater Less h e = absurd (omega arith)
le_before Greater Equal h e = absurd (omega arith)
le_before Greater Greater h e = e

pub parted_lt : (paths : List Path) (order : List ℕ) (front : Path) (depth : ℕ) → IsTable paths order → IsPartitionedBy (λ n. is_lt (stands paths depth front n)) order
parted_lt paths order front depth table = λ i j d upto inside h.
    lt_before (stands paths depth front (get_or order i d)) (stands paths depth front (get_or order j d)) (rises paths order front depth table i j d upto inside) h

pub parted_le : (paths : List Path) (order : List ℕ) (front : Path) (depth : ℕ) → IsTable paths order → IsPartitionedBy (λ n. is_le (stands paths depth front n)) order
parted_le paths order front depth table = λ i j d upto inside h.
    le_before (stands paths depth front (get_or order i d)) (stands paths depth front (get_or order j d)) (rises paths order front depth table i j d upto inside) h

-- ---- the run between the two

-- where the answers turn
abbrev pub TurnsAt : (ℕ → Bool) → List ℕ → ℕ → Type 0
TurnsAt test order at = IsPartitionPoint (λ n. test n ≡ true) (λ n. test n ≡ false) order at

lt_le : (o : Ordering) → is_lt o ≡ true → is_le o ≡ true
lt_le Less h = refl
lt_le Equal h = refl
lt_le Greater h = h

pub run_in_order : (paths : List Path) (order : List ℕ) (front : Path) (depth start end : ℕ) → start ≤ length order →
    TurnsAt (λ n. is_lt (stands paths depth front n)) order start → TurnsAt (λ n. is_le (stands paths depth front n)) order end → start ≤ end
run_in_order paths order front depth start end within starts ends = either (cases_lt end start)
    (λ less. let before = starts.0 end 0 (omega arith) less in
    let behind = ends.1 end 0 (omega arith) (omega arith) in
    absurd (false≢true (sym behind ∙ lt_le (stands paths depth front (get_or order end 0)) before)))
    (λ upto. upto)

-- a number that fails is not among those that pass
not_among : (test : ℕ → Bool) (ns : List ℕ) (n : ℕ) → All (λ m. test m ≡ true) ns → test n ≡ false → is_in ns n ≡ false
not_among test ns n pass fails = list_any_none (nat_eq n) ns
    (λ k d inside. ne_eqb n (get_or ns k d) (λ same. false≢true (sym fails ∙ ap test same ∙ pass k d inside)))

-- the numbers before the run, in it, and behind it
in_parts : (order : List ℕ) (start end n : ℕ) → start ≤ end →
    is_in order n ≡ (is_in (take start order) n || (is_in (slice_range order start end) n || is_in (drop end order) n))
in_parts order start end n upto =
    ap (λ (ns : List ℕ). is_in ns n) (sym (take-append-drop start order) ∙ ap (λ (ns : List ℕ). take start order ++ ns) (drop_split order start end upto))
    ∙ list_any-append (nat_eq n) (take start order) (slice_range order start end ++ drop end order)
    ∙ ap (λ (b : Bool). is_in (take start order) n || b) (list_any-append (nat_eq n) (slice_range order start end) (drop end order))

pass_before : (test : ℕ → Bool) (order : List ℕ) (at : ℕ) → at ≤ length order → AllWithin (λ n. test n ≡ true) order 0 at → All (λ n. test n ≡ true) (take at order)
pass_before test order at within pass = λ k d inside.
    let less : k < at = omega (arith, length-take-le at order within) in
    ap test (get_or-take at order k d less) ∙ pass k d (omega arith) less

pass_inside : (test : ℕ → Bool) (order : List ℕ) (start end : ℕ) → end ≤ length order → AllWithin (λ n. test n ≡ true) order start end → All (λ n. test n ≡ true) (slice_range order start end)
pass_inside test order start end within pass = λ k d inside.
    let less : k < end - start = omega (arith, length-take (end - start) (drop start order)) in
    ap test (get_or-take (end - start) (drop start order) k d less ∙ get_or-drop start order k d) ∙ pass (start + k) d (omega arith) (omega arith)

pass_behind : (test : ℕ → Bool) (order : List ℕ) (at : ℕ) → AllWithin (λ n. test n ≡ true) order at (length order) → All (λ n. test n ≡ true) (drop at order)
pass_behind test order at pass = λ k d inside.
    let less : at + k < length order = omega (arith, length-drop at order) in
    ap test (get_or-drop at order k d) ∙ pass (at + k) d (omega arith) less

eq_between : (o : Ordering) → is_lt o ≡ false → is_le o ≡ true → is_eq o ≡ true
eq_between Less h k = absurd (false≢true (sym h))
eq_between Equal h k = refl
eq_between Greater h k = k

gt_behind : (o : Ordering) → is_le o ≡ false → is_gt o ≡ true
gt_behind Less h = absurd (false≢true (sym h))
gt_behind Equal h = absurd (false≢true (sym h))
gt_behind Greater h = refl

module _ (paths : List Path) (order : List ℕ) (front : Path) (depth start end : ℕ) (table : IsTable paths order) (upto : start ≤ end) (within : end ≤ length order)
    (starts : TurnsAt (λ n. is_lt (stands paths depth front n)) order start) (ends : TurnsAt (λ n. is_le (stands paths depth front n)) order end) where
  abbrev at : ℕ → Ordering
  at n = stands paths depth front n

  abbrev run : List ℕ
  run = slice_range order start end

  others : (n : ℕ) → is_eq (at n) ≡ false → is_in run n ≡ false
  others n other = not_among (λ m. is_eq (at m)) run n
      (pass_inside (λ m. is_eq (at m)) order start end within
      (λ k d from below. eq_between (at (get_or order k d)) (starts.1 k d from (omega arith)) (ends.0 k d (omega arith) below)))
      other

  these : (n : ℕ) → at n ≡ Equal → is_in run n ≡ is_in order n
  these n here =
      let before : is_in (take start order) n ≡ false =
      not_among (λ m. is_lt (at m)) (take start order) n (pass_before (λ m. is_lt (at m)) order start (omega arith) starts.0) (ap is_lt here) in
      let behind : is_in (drop end order) n ≡ false =
      not_among (λ m. is_gt (at m)) (drop end order) n
      (pass_behind (λ m. is_gt (at m)) order end (λ k d from below. gt_behind (at (get_or order k d)) (ends.1 k d from below))) (ap is_gt here) in
      sym (in_parts order start end n upto ∙ grind arith)

  members_by : (n : ℕ) (o : Ordering) → at n ≡ o → is_in run n ≡ (nat_lt n (length paths) && is_eq o)
  members_by n Less e = others n (ap is_eq e) ∙ sym (and_right (nat_lt n (length paths)) false refl)
  members_by n Equal e = these n e ∙ table.all n ∙ sym (and_true (nat_lt n (length paths)))
    where
      and_true : (a : Bool) → (a && true) ≡ a
      and_true true = refl
      and_true false = refl
  members_by n Greater e = others n (ap is_eq e) ∙ sym (and_right (nat_lt n (length paths)) false refl)

  pub run_members : (n : ℕ) → is_in (slice_range order start end) n ≡ is_at (is_cut depth front) paths n
  run_members n = members_by n (at n) refl
