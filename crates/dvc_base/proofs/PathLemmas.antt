-- Laws of paths: of `under`, `overlap`, `joined`, `walk`, `join` and `reached`.
use Rattle.std.proofs.Common.{◌≡◌, ℕ, ◌+◌, ◌<◌, ◌≤◌, true, false, ◌==◌, List, [], ◌∷◌, ◌++◌, length, take, drop, get_or, refl, sym, ap, ◌∙◌, arith, append_assoc, bytes_eq, Some, None, Ok, Err, option_and_then, slice_index}
use Rattle.std.specs.List.{list_any, slice_split}
use Rattle.std.proofs.lemmas.Bool.{and_parts, and_from, or_right, false≢true, lt-ltb, le-ltb}
use Rattle.std.proofs.lemmas.List.{drop_more, take_more, take-append-drop, length-take-le}
use Rattle.std.proofs.lemmas.Slice.Eq.{bytes_eq-Decides}
use Rattle.dvc_base.specs.Path.{Path, under, overlap, joined}
use Rattle.dvc_base.specs.Join.{step, walk, reached, join}
use Rattle.dvc_base.specs.declared.path.PathFault.TheVariants.{TooLong}

-- ---- `under`

pub under-refl : (p : Path) → under p p ≡ true
under-refl [] = refl
under-refl (c ∷ p) = and_from (bytes_eq c c) (under p p) ((bytes_eq-Decides c c).1 refl) (under-refl p)

pub under-trans : (o q p : Path) → under o q ≡ true → under q p ≡ true → under o p ≡ true
under-trans [] q p a b = refl
under-trans (c ∷ o) [] p a b = absurd (false≢true a)
under-trans (c ∷ o) (d ∷ q) [] a b = absurd (false≢true b)
under-trans (c ∷ o) (d ∷ q) (e ∷ p) a b =
    let x = and_parts (bytes_eq c d) (under o q) a in
    let y = and_parts (bytes_eq d e) (under q p) b in
    and_from (bytes_eq c e) (under o p) ((bytes_eq-Decides c e).1 ((bytes_eq-Decides c d).0 x.0 ∙ (bytes_eq-Decides d e).0 y.0)) (under-trans o q p x.1 y.1)

-- a path that lies below q begins with q
pub under-split : (q p : Path) → under q p ≡ true → p ≡ q ++ drop (length q) p
under-split [] p h = refl
under-split (c ∷ q) [] h = absurd (false≢true h)
under-split (c ∷ q) (d ∷ p) h =
    let x = and_parts (bytes_eq c d) (under q p) h in
    let e : c ≡ d = (bytes_eq-Decides c d).0 x.0 in
    let r = under-split q p x.1 in
    cc

pub under-append : (q rest : Path) → under q (q ++ rest) ≡ true
under-append [] rest = refl
under-append (c ∷ q) rest = and_from (bytes_eq c c) (under q (q ++ rest)) ((bytes_eq-Decides c c).1 refl) (under-append q rest)

pub under-length : (q p : Path) → under q p ≡ true → length q ≤ length p
under-length [] p h = omega arith
under-length (c ∷ q) [] h = absurd (false≢true h)
under-length (c ∷ q) (d ∷ p) h =
    let x = and_parts (bytes_eq c d) (under q p) h in
    omega (arith, under-length q p x.1)

-- the only path of q's length that is q or lies below it is q
pub under-same_length : (q p : Path) → under q p ≡ true → length q ≡ length p → q ≡ p
under-same_length [] [] h e = refl
under-same_length [] (d ∷ p) h e = absurd (omega arith)
under-same_length (c ∷ q) [] h e = absurd (false≢true h)
under-same_length (c ∷ q) (d ∷ p) h e =
    let x = and_parts (bytes_eq c d) (under q p) h in
    let f : c ≡ d = (bytes_eq-Decides c d).0 x.0 in
    let r = under-same_length q p x.1 (omega arith) in
    cc

pub under-antisym : (q p : Path) → under q p ≡ true → under p q ≡ true → q ≡ p
under-antisym q p a b =
    let x = under-length q p a in
    let y = under-length p q b in
    under-same_length q p a (omega arith)

-- two paths above a third overlap
pub under-overlap : (a b p : Path) → under a p ≡ true → under b p ≡ true → overlap a b ≡ true
under-overlap [] b p x y = refl
under-overlap (c ∷ a) [] p x y = or_right (under (c ∷ a) []) (under [] (c ∷ a)) refl
under-overlap (c ∷ a) (d ∷ b) [] x y = absurd (false≢true x)
under-overlap (c ∷ a) (d ∷ b) (e ∷ p) x y =
    let v = and_parts (bytes_eq c e) (under a p) x in
    let w = and_parts (bytes_eq d e) (under b p) y in
    let f : c ≡ d = (bytes_eq-Decides c e).0 v.0 ∙ sym ((bytes_eq-Decides d e).0 w.0) in
    let s : bytes_eq c d ≡ true = (bytes_eq-Decides c d).1 f in
    let t : bytes_eq d c ≡ true = (bytes_eq-Decides d c).1 (sym f) in
    let o = under-overlap a b p v.1 w.1 in
    grind arith

-- ---- `joined`

pub joined-cons : (c : List ℕ) (p : Path) → 0 < length p → joined (c ∷ p) ≡ c ++ 47 ∷ joined p
joined-cons c [] h = absurd (omega arith)
joined-cons c (d ∷ p) h = refl

pub joined-push : (p : Path) (c : List ℕ) → 0 < length p → joined (p ++ c ∷ []) ≡ joined p ++ 47 ∷ c
joined-push [] c h = absurd (omega arith)
joined-push (d ∷ []) c h = refl
joined-push (d ∷ e ∷ p) c h =
    ap (λ (x : List ℕ). d ++ 47 ∷ x) (joined-push (e ∷ p) c (omega arith)) ∙ sym (append_assoc d (47 ∷ joined (e ∷ p)) (47 ∷ c))

-- the text of one component more
pub joined-more : (p : Path) (i : ℕ) (d : List ℕ) → 0 < i → i < length p → joined (take (i + 1) p) ≡ joined (take i p) ++ 47 ∷ get_or p i d
joined-more p i d a b =
    let l : length (take i p) ≡ i = length-take-le i p (omega arith) in
    ap joined (take_more p i d b) ∙ joined-push (take i p) (get_or p i d) (omega arith)

-- ---- `walk`

pub walk-append : (p : Path) (xs ys : List (List ℕ)) → walk p (xs ++ ys) ≡ option_and_then (λ q. walk q ys) (walk p xs)
walk-append p [] ys = refl
walk-append p (x ∷ xs) ys =
    elim (step p x) as (λ o. option_and_then (λ q. walk q (xs ++ ys)) o ≡ option_and_then (λ q. walk q ys) (option_and_then (λ q. walk q xs) o)) [
      | None ↦ refl
      | Some q ↦ walk-append q xs ys
    ]

pub walk-push : (p : Path) (xs : List (List ℕ)) (c : List ℕ) → walk p (xs ++ c ∷ []) ≡ option_and_then (λ q. step q c) (walk p xs)
walk-push p xs c =
    walk-append p xs (c ∷ []) ∙ elim (walk p xs) as (λ o. option_and_then (λ q. walk q (c ∷ [])) o ≡ option_and_then (λ q. step q c) o) [
      | None ↦ refl
      | Some q ↦ elim (step q c) as (λ o. option_and_then (λ r. Some r) o ≡ o) [ None ↦ refl | Some r ↦ refl ]
    ]

-- a walk that comes to a piece that leads nowhere is stuck there
pub walk-stuck : (p q : Path) (all : List (List ℕ)) (n : ℕ) (piece : List ℕ) → n < length all → piece ≡ get_or all n piece → walk p (take n all) ≡ Some q → step q piece ≡ None → walk p all ≡ None
walk-stuck p q all n piece l e w s =
    let cut : all ≡ take n all ++ (piece ∷ drop (n + 1) all) =
    sym (take-append-drop n all) ∙ ap (λ (x : List (List ℕ)). take n all ++ x) (drop_more all n piece l ∙ ap (λ (x : List ℕ). x ∷ drop (n + 1) all) (sym e)) in
    ap (walk p) cut ∙ walk-append p (take n all) (piece ∷ drop (n + 1) all) ∙ ap (option_and_then (λ r. walk r (piece ∷ drop (n + 1) all))) w ∙ ap (option_and_then (λ r. walk r (drop (n + 1) all))) s

-- ---- `join`, past its three first refusals

pub join-walk : (dir : Path) (text : List ℕ) → (length text == 0) ≡ false → list_any (λ byte. byte == 0) text ≡ false → (slice_index text 0 == 47) ≡ false → join dir text ≡ reached (walk dir (slice_split (λ byte. byte == 47) text))
join-walk dir text a b c = rw (a, b, c)

-- ---- `reached`

pub reached-short : (p : Path) → length (joined p) ≤ 1024 → reached (Some p) ≡ Ok p
reached-short p h = rw (le-ltb 1024 (length (joined p)) h)

pub reached-long : (p : Path) → 1024 < length (joined p) → reached (Some p) ≡ Err TooLong
reached-long p h = rw (lt-ltb 1024 (length (joined p)) h)
