-- Laws of values in the order of their paths: where one is found, and where a new one belongs.
use Rattle.std.proofs.Common.{◌≡◌, ◌≢◌, ◌==◌, ℕ, zero, suc, ◌+◌, ◌<◌, ◌≤◌, Bool, true, false, cond, List, [], ◌∷◌, length, take, drop, map, get_or, refl, sym, ap, subst, ◌∙◌, arith, Some, None}
use Rattle.std.specs.Prelude.{T, ⊤}
use Rattle.std.specs.Cmp.{tied_itself}
use Rattle.std.proofs.lemmas.List.{at_drop_more, at_drop_all}
use Rattle.std.specs.List.{AllByRecursion, filter, insert as insert_at}
use Rattle.std.specs.Prelude.{slice_set}
use Rattle.std.specs.Ordering.{eq_by_cmp, ordering_index}
use Rattle.std.proofs.lemmas.Bool.{false≢true}
use Rattle.std.specs.declared.cmp.Ordering.{Ordering}
use Rattle.std.specs.declared.cmp.Ordering.TheVariants.{Less, Equal, Greater}
use Rattle.std.specs.FinMap.{FinMap, find, is_sorted, get, insert, entries, entries_sorted, from_sorted, retain_keys, empty, entries-from_sorted, entries-insert, get-from_sorted, get-retain_keys, get-empty, same_map, same_entries_map}
use Rattle.std.specs.FinMap.Entries.{by_order, put, where_key, is_sorted-put, is_sorted-where_key, find-where_key}
use Rattle.dvc_base.specs.Path.{Path}
use Rattle.world_api.specs.Tree.{path_cmp}
use Rattle.world_api.proofs.TreeLemmas.{path_cmp-total, path_cmp-antisym, path_itself, other_path}
use Rattle.sim_world.specs.Sorted.{pair_of, pairs_of, IsInOrder, NextIsAbove}
use Rattle.sim_world.specs.declared.sorted.Member.{Member}

abbrev pub paths_of : {V : Type 0} → List (Member V) → List Path
paths_of ms = map (λ m. m.path) ms

-- ---- the entries of a map in order

pub entries_of : {V : Type 0} (ms : List (Member V)) → IsInOrder ms → entries (from_sorted {R = path_cmp} (pairs_of ms)) ≡ pairs_of ms
entries_of ms h = entries-from_sorted path_cmp (pairs_of ms) h

pub map_of : {V : Type 0} (es : List (Path × V)) (m : FinMap path_cmp V) → es ≡ entries m → from_sorted {R = path_cmp} es ≡ m
map_of es m e =
    same_entries_map (from_sorted es) m
    (entries-from_sorted path_cmp es (subst (λ (x : List (Path × _)). T (is_sorted path_cmp x)) (sym e) (entries_sorted m)) ∙ e)

-- ---- where a path belongs

not_greater : (r : Ordering) → r ≢ Greater → r ≢ Equal → r ≡ Less
not_greater Less g e = refl
not_greater Equal g e = absurd (e refl)
not_greater Greater g e = absurd (g refl)

pub is_greater : (r : Ordering) → (ordering_index r == 2) ≡ true → r ≡ Greater
is_greater Less e = absurd (false≢true e)
is_greater Equal e = absurd (false≢true e)
is_greater Greater e = refl

pub not_greater_from : (r : Ordering) → (ordering_index r == 2) ≡ false → r ≢ Greater
not_greater_from r e s = false≢true (sym e ∙ ap (λ x. ordering_index x == 2) s)

-- the first of them is above the key
abbrev pub NextIsLess : Path → List Path → Type 0
NextIsLess k [] = ⊤
NextIsLess k (p ∷ ps) = path_cmp k p ≡ Less

pub next_new : {V : Type 0} (k : Path) (ms : List (Member V)) (n : ℕ) (m : Member V) → NextIsAbove k (drop n (paths_of ms)) → m ≡ get_or ms n m → m.path ≢ k → NextIsLess k (drop n (paths_of ms))
next_new k [] zero m above is other = tt
next_new k [] (suc n) m above is other = tt
next_new k (o ∷ ms) zero m above is other =
    not_greater (path_cmp k o.path) above (λ e. other (ap (λ (x : Member _). x.path) is ∙ sym (path_cmp-antisym k o.path e)))
next_new k (o ∷ ms) (suc n) m above is other = next_new k ms n m above is other

pub put_new : {V : Type 0} (k : Path) (v : V) (ms : List (Member V)) (n : ℕ) → AllByRecursion (λ p. path_cmp k p ≡ Greater) (take n (paths_of ms)) → NextIsLess k (drop n (paths_of ms)) → pairs_of (insert_at ms n (record { path = k; value = v })) ≡ put path_cmp k v (pairs_of ms)
put_new k v [] zero all next = refl
put_new k v [] (suc n) all next = refl
put_new k v (m ∷ ms) zero all next =
    sym (ap (λ r. by_order r ((k, v) ∷ pair_of m ∷ pairs_of ms) ((m.path, v) ∷ pairs_of ms) (pair_of m ∷ put path_cmp k v (pairs_of ms))) next)
put_new k v (m ∷ ms) (suc n) all next =
    ap (λ (x : List (Path × _)). pair_of m ∷ x) (put_new k v ms n all.1 next)
    ∙ sym (ap (λ r. by_order r ((k, v) ∷ pair_of m ∷ pairs_of ms) ((m.path, v) ∷ pairs_of ms) (pair_of m ∷ put path_cmp k v (pairs_of ms))) all.0)

-- an entry in place of the one at its path
pub put_again : {V : Type 0} (k : Path) (v : V) (ms : List (Member V)) (n : ℕ) (m : Member V) → AllByRecursion (λ p. path_cmp k p ≡ Greater) (take n (paths_of ms)) → n < length ms → m ≡ get_or ms n m → m.path ≡ k → pairs_of (slice_set ms n (record { path = m.path; value = v })) ≡ put path_cmp k v (pairs_of ms)
put_again k v [] n m all l is here = absurd (omega arith)
put_again k v (o ∷ ms) zero m all l is here =
    let same : m.path ≡ o.path = ap (λ (x : Member _). x.path) is in
    let tie : path_cmp k o.path ≡ Equal = ap (path_cmp k) (sym same ∙ here) ∙ tied_itself path_cmp-total k in
    (λ j. (same j, v) ∷ pairs_of ms)
    ∙ sym (ap (λ r. by_order r ((k, v) ∷ pair_of o ∷ pairs_of ms) ((o.path, v) ∷ pairs_of ms) (pair_of o ∷ put path_cmp k v (pairs_of ms))) tie)
put_again k v (o ∷ ms) (suc n) m all l is here =
    ap (λ (x : List (Path × _)). pair_of o ∷ x) (put_again k v ms n m all.1 (omega arith) is here)
    ∙ sym (ap (λ r. by_order r ((k, v) ∷ pair_of o ∷ pairs_of ms) ((o.path, v) ∷ pairs_of ms) (pair_of o ∷ put path_cmp k v (pairs_of ms))) all.0)

pub length_paths : {V : Type 0} (ms : List (Member V)) → length (paths_of ms) ≡ length ms
length_paths [] = refl
length_paths (m ∷ ms) = omega (arith, length_paths ms)

pub path_at : {V : Type 0} (ms : List (Member V)) (n : ℕ) (m : Member V) → n < length ms → m ≡ get_or ms n m → get_or (paths_of ms) n m.path ≡ m.path
path_at [] n m l is = absurd (omega arith)
path_at (o ∷ ms) zero m l is = ap (λ (x : Member _). x.path) (sym is)
path_at (o ∷ ms) (suc n) m l is = path_at ms n m (omega arith) is

pub next_at : {V : Type 0} (k : Path) (ms : List (Member V)) (n : ℕ) (m : Member V) → n < length ms → m ≡ get_or ms n m → path_cmp k m.path ≢ Greater → NextIsAbove k (drop n (paths_of ms))
next_at k [] n m l is above = absurd (omega arith)
next_at k (o ∷ ms) zero m l is above = subst (λ (x : Member _). path_cmp k x.path ≢ Greater) is above
next_at k (o ∷ ms) (suc n) m l is above = next_at k ms n m (omega arith) is above

pub less_none : {V : Type 0} (k : Path) (ms : List (Member V)) (n : ℕ) → length ms ≤ n → NextIsLess k (drop n (paths_of ms))
less_none k [] zero l = tt
less_none k [] (suc n) l = tt
less_none k (o ∷ ms) zero l = absurd (omega arith)
less_none k (o ∷ ms) (suc n) l = less_none k ms n (omega arith)

pub next_none : {V : Type 0} (k : Path) (ms : List (Member V)) (n : ℕ) → length ms ≤ n → NextIsAbove k (drop n (paths_of ms))
next_none k [] zero l = tt
next_none k [] (suc n) l = tt
next_none k (o ∷ ms) zero l = absurd (omega arith)
next_none k (o ∷ ms) (suc n) l = next_none k ms n (omega arith)

-- ---- the map after a change

pub map_put : {V : Type 0} (k : Path) (v : V) (ms ns : List (Member V)) → IsInOrder ms → pairs_of ns ≡ put path_cmp k v (pairs_of ms) → from_sorted {R = path_cmp} (pairs_of ns) ≡ insert (from_sorted (pairs_of ms)) k v
map_put k v ms ns h e =
    map_of (pairs_of ns) (insert (from_sorted (pairs_of ms)) k v)
    (e ∙ ap (put path_cmp k v) (sym (entries_of ms h)) ∙ sym (entries-insert path_cmp-total (from_sorted (pairs_of ms)) k v))

pub in_order_put : {V : Type 0} (k : Path) (v : V) (ms ns : List (Member V)) → IsInOrder ms → pairs_of ns ≡ put path_cmp k v (pairs_of ms) → IsInOrder ns
in_order_put k v ms ns h e = subst (λ (x : List (Path × _)). T (is_sorted path_cmp x)) (sym e) (is_sorted-put path_cmp path_cmp-total k v (pairs_of ms) h)

pairs_where : {V : Type 0} (test : Path → Bool) (ms : List (Member V)) → pairs_of (filter (λ (m : Member V). test m.path) ms) ≡ where_key path_cmp test (pairs_of ms)
pairs_where test [] = refl
pairs_where test (m ∷ ms) =
    elim (test m.path) as (λ b. pairs_of (cond b (m ∷ filter (λ (x : Member _). test x.path) ms) (filter (λ (x : Member _). test x.path) ms)) ≡ cond b (pair_of m ∷ where_key path_cmp test (pairs_of ms)) (where_key path_cmp test (pairs_of ms))) [
      | true ↦ ap (λ (x : List (Path × _)). pair_of m ∷ x) (pairs_where test ms)
      | false ↦ pairs_where test ms
    ]

pub in_order_where : {V : Type 0} (test : Path → Bool) (ms : List (Member V)) → IsInOrder ms → IsInOrder (filter (λ (m : Member V). test m.path) ms)
in_order_where test ms h = subst (λ (x : List (Path × _)). T (is_sorted path_cmp x)) (sym (pairs_where test ms)) (is_sorted-where_key path_cmp test (pairs_of ms) h)

pub map_where : {V : Type 0} (test : Path → Bool) (ms : List (Member V)) → IsInOrder ms → from_sorted {R = path_cmp} (pairs_of (filter (λ (m : Member V). test m.path) ms)) ≡ retain_keys (from_sorted (pairs_of ms)) test
map_where test ms h =
    same_map path_cmp-total path_cmp-antisym _ _ (λ q.
    get-from_sorted path_cmp (pairs_of (filter (λ (m : Member _). test m.path) ms)) q (in_order_where test ms h)
    ∙ ap (find path_cmp q) (pairs_where test ms)
    ∙ find-where_key path_cmp test q (λ x s. ap test (sym (path_cmp-antisym q x s))) (pairs_of ms)
    ∙ ap (λ o. cond (test q) o None) (sym (get-from_sorted path_cmp (pairs_of ms) q h))
    ∙ sym (get-retain_keys (from_sorted (pairs_of ms)) test q (λ x s. ap test (sym (path_cmp-antisym q x s)))))

pub map_none : {V : Type 0} → from_sorted {X = V} {R = path_cmp} [] ≡ empty
map_none = same_map path_cmp-total path_cmp-antisym _ _ (λ q. get-from_sorted path_cmp [] q tt ∙ sym (get-empty path_cmp q))

-- ---- what is found

pub found_here : {V : Type 0} (at : Path) (es : List (Member V)) (n : ℕ) (e : Member V) → n < length es → e ≡ get_or es n e → e.path ≡ at → find path_cmp at (pairs_of (drop n es)) ≡ Some e.value
found_here at es n e l is same =
    at_drop_more (λ (x : List (Member _)). find path_cmp at (pairs_of x)) es n e l
    ∙ ap (λ (x : Member _). find path_cmp at (pairs_of (x ∷ drop (n + 1) es))) (sym is)
    ∙ ap (λ (b : Bool). cond b (Some e.value) (find path_cmp at (pairs_of (drop (n + 1) es)))) (ap (λ (p : Path). eq_by_cmp path_cmp at p) same ∙ path_itself at)

pub found_later : {V : Type 0} (at : Path) (es : List (Member V)) (n : ℕ) (e : Member V) → n < length es → e ≡ get_or es n e → e.path ≢ at → find path_cmp at (pairs_of (drop n es)) ≡ find path_cmp at (pairs_of (drop (n + 1) es))
found_later at es n e l is other =
    at_drop_more (λ (x : List (Member _)). find path_cmp at (pairs_of x)) es n e l
    ∙ ap (λ (x : Member _). find path_cmp at (pairs_of (x ∷ drop (n + 1) es))) (sym is)
    ∙ ap (λ (b : Bool). cond b (Some e.value) (find path_cmp at (pairs_of (drop (n + 1) es)))) (other_path at e.path (λ s. other (sym s)))

pub found_nowhere : {V : Type 0} (at : Path) (es : List (Member V)) (n : ℕ) → length es ≤ n → find path_cmp at (pairs_of (drop n es)) ≡ None
found_nowhere at es n l = at_drop_all (λ (x : List (Member _)). find path_cmp at (pairs_of x)) es n l

pub map_found : {V : Type 0} (at : Path) (ms : List (Member V)) → IsInOrder ms → get (from_sorted {R = path_cmp} (pairs_of ms)) at ≡ find path_cmp at (pairs_of ms)
map_found at ms h = get-from_sorted path_cmp (pairs_of ms) at h
