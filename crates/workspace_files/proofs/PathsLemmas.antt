-- Paths below a path, and their texts.
--     follow_ok, follow_long   what the text of a path in normal form gives, read from any path, and when it is refused
--     only_long                it is refused for nothing else
--     parts_short              a path has no more components than its text has bytes
--     one_name                 a name is a path in normal form
use Rattle.std.proofs.Common.{◌≡◌, ◌≢◌, ℕ, ◌<◌, ◌≤◌, false, ◌==◌, List, [], ◌∷◌, ◌++◌, length, refl, sym, ap, subst, ◌∙◌, arith, slice_index, Some, Result, Ok, Err, inl, inr, ◌⊎◌}
use Rattle.std.specs.List.{All}
use Rattle.std.proofs.lemmas.Bool.{ne_eqb, cases_lt}
use Rattle.std.proofs.lemmas.List.{append-nil, length-append}
use Rattle.std.proofs.lemmas.List.Elements.{All-nil, All-cons, All-head, All-tail, All-append, All-weaker}
use Rattle.std.proofs.lemmas.List.Folds.{list_any_none}
use Rattle.dvc_base.specs.Path.{Path, joined, path_text}
use Rattle.dvc_base.specs.Normal.{IsName, IsNormal}
use Rattle.dvc_base.specs.Join.{join, walk, reached}
use Rattle.dvc_base.specs.declared.path.PathFault.{PathFault}
use Rattle.dvc_base.specs.declared.path.PathFault.TheVariants.{TooLong, NoMemory}
use Rattle.dvc_base.proofs.PathLemmas.{join-walk, reached-short, reached-long}
use Rattle.dvc_base.proofs.NormalLemmas.{slice_split-joined, walk-names}

joined-begins : (c : List ℕ) (p : Path) → 0 < length c → (0 < length (joined (c ∷ p))) × (slice_index (joined (c ∷ p)) 0 ≡ slice_index c 0)
joined-begins [] p h = absurd (omega arith)
joined-begins (x ∷ c) [] h = (omega arith, refl)
joined-begins (x ∷ c) (d ∷ p) h = (omega arith, refl)

name-no_nul : (c : List ℕ) → IsName c → All (λ byte. (byte == 0) ≡ false) c
name-no_nul c n = All-weaker (λ byte. byte ≢ 0) (λ byte. (byte == 0) ≡ false) (λ byte h. ne_eqb byte 0 h) c n.no_nul

no_nuls : (p : Path) → IsNormal p → All (λ byte. (byte == 0) ≡ false) (joined p)
no_nuls [] n = All-nil (λ byte. (byte == 0) ≡ false)
no_nuls (c ∷ []) n = name-no_nul c (All-head IsName c [] n)
no_nuls (c ∷ d ∷ p) n =
    All-append (λ byte. (byte == 0) ≡ false) c (47 ∷ joined (d ∷ p)) (name-no_nul c (All-head IsName c (d ∷ p) n)) (All-cons (λ byte. (byte == 0) ≡ false) 47 (joined (d ∷ p)) refl (no_nuls (d ∷ p) (All-tail IsName c (d ∷ p) n)))

join-below : (from q : Path) → IsNormal q → join from (path_text q) ≡ reached (Some (from ++ q))
join-below from [] n = ap (λ (p : Path). reached (Some p)) (sym (append-nil from))
join-below from (c ∷ q) n =
    let name = All-head IsName c q n in
    let start = joined-begins c q name.not_empty in
    let some : (length (joined (c ∷ q)) == 0) ≡ false = ne_eqb (length (joined (c ∷ q))) 0 (omega (arith, start.0)) in
    let first : slice_index (joined (c ∷ q)) 0 ≢ 47 = λ e. name.no_slash 0 0 name.not_empty (sym start.1 ∙ e) in
    join-walk from (joined (c ∷ q)) some (list_any_none (λ byte. byte == 0) (joined (c ∷ q)) (no_nuls (c ∷ q) n)) (ne_eqb (slice_index (joined (c ∷ q)) 0) 47 first)
    ∙ ap (λ (x : Path). reached (walk from x)) (slice_split-joined (c ∷ q) n (omega arith))
    ∙ ap reached (walk-names from (c ∷ q) n)

reached_ok : (p path : Path) → reached (Some p) ≡ Ok path → path ≡ p
reached_ok p path e =
    elim (cases_lt 1024 (length (joined p))) [
      | inl long ↦ absurd (ok_not_err path (sym e ∙ reached-long p long))
      | inr short ↦ same_ok path p (sym e ∙ reached-short p short)
    ]
  where
    ok_not_err : (q : Path) → Ok q ≡ Err TooLong → ⊥
    ok_not_err q e = cc

    same_ok : (a b : Path) → ◌≡◌ {A = Result Path PathFault} (Ok a) (Ok b) → a ≡ b
    same_ok a b e = cc

pub follow_ok : (from q path : Path) (text : List ℕ) → IsNormal q → text ≡ path_text q → join from text ≡ Ok path → path ≡ from ++ q
follow_ok from q path text n is e = reached_ok (from ++ q) path (sym (ap (join from) is ∙ join-below from q n) ∙ e)

reached_err : (p : Path) → reached (Some p) ≡ Err TooLong → 1024 < length (joined p)
reached_err p e =
    elim (cases_lt 1024 (length (joined p))) [
      | inl long ↦ long
      | inr short ↦ absurd (ok_not_err p (sym (reached-short p short) ∙ e))
    ]
  where
    ok_not_err : (q : Path) → Ok q ≡ Err TooLong → ⊥
    ok_not_err q e = cc

pub follow_long : (from q : Path) (text : List ℕ) → IsNormal q → text ≡ path_text q → join from text ≡ Err TooLong → 1024 < length (joined (from ++ q))
follow_long from q text n is e = reached_err (from ++ q) (sym (ap (join from) is ∙ join-below from q n) ∙ e)

-- ---- lengths

pub parts_short : (p : Path) → IsNormal p → length p ≤ length (joined p)
parts_short [] n = omega arith
parts_short (c ∷ []) n = omega (arith, (All-head IsName c [] n).not_empty)
parts_short (c ∷ d ∷ p) n =
    omega (arith, parts_short (d ∷ p) (All-tail IsName c (d ∷ p) n), length-append c (47 ∷ joined (d ∷ p)))

pub one_name : (c : List ℕ) → IsName c → IsNormal (c ∷ [])
one_name c n = All-cons IsName c [] n (All-nil IsName)

long_alone : (from : Path) (text : List ℕ) → (TooLong ≡ NoMemory) ⊎ (join from text ≡ Err TooLong) → join from text ≡ Err TooLong
long_alone from text (inl e) = absurd (cc)
long_alone from text (inr e) = e

pub only_long : (from : Path) (text : List ℕ) (why : PathFault) → why ≡ TooLong → (why ≡ NoMemory) ⊎ (join from text ≡ Err why) → join from text ≡ Err TooLong
only_long from text why is h =
    long_alone from text (subst (λ (w : PathFault). (w ≡ NoMemory) ⊎ (join from text ≡ Err w)) is h)
