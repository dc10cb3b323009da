-- Paths in normal form: a text that is read from one leads to one, and the text of one is read back as it.
use Rattle.std.proofs.Common.{◌≡◌, ◌≢◌, ℕ, ◌-◌, ◌<◌, ◌≤◌, refl, sym, ap, ◌∙◌, append_assoc, Ok, slice_index, false, ◌==◌, List, [], ◌∷◌, ◌++◌, length, take, arith, bytes_eq, codes, Option, Some, None, IfSome, option_and_then, cond, subst}
use Rattle.std.specs.List.{All, list_any, slice_split, onto_first}
use Rattle.std.proofs.lemmas.Bool.{or_parts, or_from, cond_both, eqb-false, ne_eqb, both_ways, false_from_ne_true}
use Rattle.std.proofs.lemmas.List.Elements.{All-nil, All-cons, All-head, All-tail, All-take, All-push, All-append, All-weaker}
use Rattle.std.proofs.lemmas.List.Folds.{list_any_none}
use Rattle.std.proofs.lemmas.List.Splits.{slice_split_none, slice_split_at}
use Rattle.std.proofs.lemmas.List.{append-nil}
use Rattle.std.proofs.lemmas.Slice.Eq.{bytes_eq-Decides}
use Rattle.dvc_base.specs.Path.{Path, joined, path_text}
use Rattle.dvc_base.specs.Normal.{IsName, IsNormal}
use Rattle.dvc_base.specs.Join.{is_here, is_up, step, walk, reached, join}
use Rattle.dvc_base.proofs.PathLemmas.{join-walk, reached-short}

-- what each piece between two slashes of a text without a NUL has
pub record IsPiece (c : List ℕ) : Type 0 where
  pub no_slash : All (λ byte. byte ≢ 47) c
  pub no_nul : All (λ byte. byte ≢ 0) c

pub IsPiece-nil : IsPiece []
IsPiece-nil = record { no_slash = All-nil (λ byte. byte ≢ 47); no_nul = All-nil (λ byte. byte ≢ 0) }

pub IsPiece-cons : (x : ℕ) (c : List ℕ) → x ≢ 47 → x ≢ 0 → IsPiece c → IsPiece (x ∷ c)
IsPiece-cons x c a b h =
    record {
      no_slash = All-cons (λ byte. byte ≢ 47) x c a h.no_slash;
      no_nul = All-cons (λ byte. byte ≢ 0) x c b h.no_nul;
    }

onto_first-pieces : (x : ℕ) (parts : List (List ℕ)) → x ≢ 47 → x ≢ 0 → All IsPiece parts → All IsPiece (onto_first x parts)
onto_first-pieces x [] a b h =
    All-cons IsPiece (x ∷ []) [] (IsPiece-cons x [] a b IsPiece-nil) h
onto_first-pieces x (part ∷ parts) a b h =
    All-cons IsPiece (x ∷ part) parts (IsPiece-cons x part a b (All-head IsPiece part parts h)) (All-tail IsPiece part parts h)

pub slice_split-pieces : (text : List ℕ) → list_any (λ byte. byte == 0) text ≡ false → All IsPiece (slice_split (λ byte. byte == 47) text)
slice_split-pieces [] h = All-cons IsPiece [] [] IsPiece-nil (All-nil IsPiece)
slice_split-pieces (x ∷ xs) h =
    let parts = or_parts (x == 0) (list_any (λ byte. byte == 0) xs) h in
    let rest = slice_split-pieces xs parts.1 in
    cond_both (x == 47) ([] ∷ slice_split (λ byte. byte == 47) xs) (onto_first x (slice_split (λ byte. byte == 47) xs)) (All IsPiece) (λ _. All-cons IsPiece [] (slice_split (λ byte. byte == 47) xs) IsPiece-nil rest) (λ e. onto_first-pieces x (slice_split (λ byte. byte == 47) xs) (eqb-false x 47 e) (eqb-false x 0 parts.0) rest)

-- a piece that leads neither to the same place nor up is a name
IsName-from_piece : (c : List ℕ) → IsPiece c → is_here c ≡ false → is_up c ≡ false → IsName c
IsName-from_piece c h a b =
    let parts = or_parts (length c == 0) (bytes_eq c (codes ".")) a in
    let some = eqb-false (length c) 0 parts.0 in
    record {
      not_empty = omega arith;
      not_here = λ e. both_ways (bytes_eq c (codes ".")) parts.1 ((bytes_eq-Decides c (codes ".")).1 e);
      not_up = λ e. both_ways (bytes_eq c (codes "..")) b ((bytes_eq-Decides c (codes "..")).1 e);
      no_slash = h.no_slash;
      no_nul = h.no_nul;
    }

pub step-normal : (p : Path) (c : List ℕ) → IsNormal p → IsPiece c → IfSome (step p c) IsNormal
step-normal p c n h =
    let P : Option Path → Type 0 = λ o. IfSome o IsNormal in
    let up = cond (length p == 0) None (Some (take (length p - 1) p)) in
    cond_both (is_here c) (Some p) (cond (is_up c) up (Some (p ++ c ∷ []))) P (λ _. n) (λ a. cond_both (is_up c) up (Some (p ++ c ∷ [])) P (λ _. cond_both (length p == 0) None (Some (take (length p - 1) p)) P (λ _. tt) (λ _. All-take IsName (length p - 1) p n)) (λ b. All-push IsName p c n (IsName-from_piece c h a b)))

pub walk-normal : (p : Path) (pieces : List (List ℕ)) → IsNormal p → All IsPiece pieces → IfSome (walk p pieces) IsNormal
walk-normal p [] n h = n
walk-normal p (c ∷ pieces) n h =
    elim (step p c) as (λ o. IfSome o IsNormal → IfSome (option_and_then (λ q. walk q pieces) o) IsNormal) [
      | None ↦ λ s. tt
      | Some q ↦ λ s. walk-normal q pieces s (All-tail IsPiece c pieces h)
    ] (step-normal p c n (All-head IsPiece c pieces h))

-- the path that a text without a NUL leads to
pub walk_split-normal : (p q : Path) (text : List ℕ) → IsNormal p → list_any (λ byte. byte == 0) text ≡ false → walk p (slice_split (λ byte. byte == 47) text) ≡ Some q → IsNormal q
walk_split-normal p q text n z w =
    let P : Option Path → Type 0 = λ o. IfSome o IsNormal in
    subst P w (walk-normal p (slice_split (λ byte. byte == 47) text) n (slice_split-pieces text z))

-- ---- the text of a path in normal form tells the path

no_slash : (c : List ℕ) → IsName c → All (λ byte. (byte == 47) ≡ false) c
no_slash c n = All-weaker (λ byte. byte ≢ 47) (λ byte. (byte == 47) ≡ false) (λ byte h. ne_eqb byte 47 h) c n.no_slash

no_nul : (c : List ℕ) → IsName c → All (λ byte. (byte == 0) ≡ false) c
no_nul c n = All-weaker (λ byte. byte ≢ 0) (λ byte. (byte == 0) ≡ false) (λ byte h. ne_eqb byte 0 h) c n.no_nul

-- the text's pieces are the components again
pub slice_split-joined : (p : Path) → IsNormal p → 0 < length p → slice_split (λ byte. byte == 47) (joined p) ≡ p
slice_split-joined [] n h = absurd (omega arith)
slice_split-joined (c ∷ []) n h = slice_split_none (λ byte. byte == 47) c (no_slash c (All-head IsName c [] n))
slice_split-joined (c ∷ d ∷ p) n h =
    slice_split_at (λ byte. byte == 47) c 47 (joined (d ∷ p)) (no_slash c (All-head IsName c (d ∷ p) n)) refl ∙ ap (λ (x : Path). c ∷ x) (slice_split-joined (d ∷ p) (All-tail IsName c (d ∷ p) n) (omega arith))

not_bytes : (c d : List ℕ) → c ≢ d → bytes_eq c d ≡ false
not_bytes c d h = false_from_ne_true (bytes_eq c d) (λ e. h ((bytes_eq-Decides c d).0 e))

pub step-name : (p : Path) (c : List ℕ) → IsName c → step p c ≡ Some (p ++ c ∷ [])
step-name p c n =
    let here : is_here c ≡ false = or_from (length c == 0) (bytes_eq c (codes ".")) (ne_eqb (length c) 0 (omega (arith, n.not_empty))) (not_bytes c (codes ".") n.not_here) in
    let up : is_up c ≡ false = not_bytes c (codes "..") n.not_up in
    rw (here, up)

-- a walk over names goes down to each
pub walk-names : (p q : Path) → IsNormal q → walk p q ≡ Some (p ++ q)
walk-names p [] n = ap Some (sym (append-nil p))
walk-names p (c ∷ q) n =
    ap (option_and_then (λ r. walk r q)) (step-name p c (All-head IsName c q n)) ∙ walk-names (p ++ c ∷ []) q (All-tail IsName c q n) ∙ ap Some (append_assoc p (c ∷ []) q)

pub path_text-injective : (p q : Path) → IsNormal p → IsNormal q → path_text p ≡ path_text q → p ≡ q
path_text-injective [] [] n m e = refl
path_text-injective [] (d ∷ q) n m e =
    let parts = ap (slice_split (λ byte. byte == 47)) e ∙ slice_split-joined (d ∷ q) m (omega arith) in
    let same : codes "." ≡ d = cc in
    absurd ((All-head IsName d q m).not_here (sym same))
path_text-injective (c ∷ p) [] n m e =
    let parts = ap (slice_split (λ byte. byte == 47)) (sym e) ∙ slice_split-joined (c ∷ p) n (omega arith) in
    let same : codes "." ≡ c = cc in
    absurd ((All-head IsName c p n).not_here (sym same))
path_text-injective (c ∷ p) (d ∷ q) n m e =
    sym (slice_split-joined (c ∷ p) n (omega arith)) ∙ ap (slice_split (λ byte. byte == 47)) e ∙ slice_split-joined (d ∷ q) m (omega arith)

joined-start : (c : List ℕ) (p : Path) → 0 < length c → (0 < length (joined (c ∷ p))) × (slice_index (joined (c ∷ p)) 0 ≡ slice_index c 0)
joined-start [] p h = absurd (omega arith)
joined-start (x ∷ c) [] h = (omega arith, refl)
joined-start (x ∷ c) (d ∷ p) h = (omega arith, refl)

joined-no_nul : (p : Path) → IsNormal p → All (λ byte. (byte == 0) ≡ false) (joined p)
joined-no_nul [] n = All-nil (λ byte. (byte == 0) ≡ false)
joined-no_nul (c ∷ []) n = no_nul c (All-head IsName c [] n)
joined-no_nul (c ∷ d ∷ p) n =
    All-append (λ byte. (byte == 0) ≡ false) c (47 ∷ joined (d ∷ p)) (no_nul c (All-head IsName c (d ∷ p) n)) (All-cons (λ byte. (byte == 0) ≡ false) 47 (joined (d ∷ p)) refl (joined-no_nul (d ∷ p) (All-tail IsName c (d ∷ p) n)))

-- a path in normal form is read back from its text
pub join-path_text : (p : Path) → IsNormal p → length (joined p) ≤ 1024 → join [] (path_text p) ≡ Ok p
join-path_text [] n h = refl
join-path_text (c ∷ p) n h =
    let name = All-head IsName c p n in
    let start = joined-start c p name.not_empty in
    let some : (length (joined (c ∷ p)) == 0) ≡ false = ne_eqb (length (joined (c ∷ p))) 0 (omega (arith, start.0)) in
    let no_nuls = list_any_none (λ byte. byte == 0) (joined (c ∷ p)) (joined-no_nul (c ∷ p) n) in
    let first : slice_index (joined (c ∷ p)) 0 ≢ 47 = λ e. name.no_slash 0 0 name.not_empty (sym start.1 ∙ e) in
    join-walk [] (joined (c ∷ p)) some no_nuls (ne_eqb (slice_index (joined (c ∷ p)) 0) 47 first) ∙ ap (λ (x : Path). reached (walk [] x)) (slice_split-joined (c ∷ p) n (omega arith)) ∙ ap reached (walk-names [] (c ∷ p) n) ∙ reached-short (c ∷ p) h
