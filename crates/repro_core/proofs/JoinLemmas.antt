-- Paths that are read from another one.
--     below_is      a member of a folder
--     above_is      the folder above
--     ok_weaker     what follows from what an answer has
use Rattle.std.proofs.Common.{◌≡◌, ◌≢◌, false, ℕ, List, [], ◌∷◌, ◌++◌, length, codes, ◌==◌, refl, sym, ap, ◌∙◌, arith, slice_index, Some, Result, Ok, Err, IfOk}
use Rattle.std.specs.Prelude.{nat_lt}
use Rattle.std.specs.List.{list_any, slice_split}
use Rattle.std.proofs.lemmas.Bool.{cond_both, ne_eqb}
use Rattle.std.proofs.lemmas.List.Elements.{All-nil, All-cons, All-weaker}
use Rattle.std.proofs.lemmas.List.Folds.{list_any_none}
use Rattle.dvc_base.specs.Path.{Path, joined}
use Rattle.dvc_base.specs.Normal.{IsName, IsNormal}
use Rattle.dvc_base.specs.Join.{walk, reached, join}
use Rattle.dvc_base.specs.declared.path.PathFault.{PathFault}
use Rattle.dvc_base.specs.declared.path.PathFault.TheVariants.{TooLong}
use Rattle.dvc_base.proofs.PathLemmas.{join-walk}
use Rattle.dvc_base.proofs.NormalLemmas.{slice_split-joined, walk-names}
use Rattle.world_api.specs.Calls.{parent}
use Rattle.world_api.proofs.TreeLemmas.{none_long}

pub ok_weaker : {T E : Type 0} (r : Result T E) (P Q : T → Type 0) → ((x : T) → P x → Q x) → IfOk r P → IfOk r Q
ok_weaker (Ok x) P Q f h = f x h
ok_weaker (Err why) P Q f h = tt

-- a text that is refused for nothing but its length, or for where it leads
record IsReadable (text : List ℕ) : Type 0 where
  some : (length text == 0) ≡ false
  no_nul : list_any (λ byte. byte == 0) text ≡ false
  relative : (slice_index text 0 == 47) ≡ false

readable_name : (c : List ℕ) → IsName c → IsReadable c
readable_name c n = record {
  some = ne_eqb (length c) 0 (omega (arith, n.not_empty));
  no_nul = list_any_none (λ byte. byte == 0) c (All-weaker (λ byte. byte ≢ 0) (λ byte. (byte == 0) ≡ false) (λ byte h. ne_eqb byte 0 h) c n.no_nul);
  relative = ne_eqb (slice_index c 0) 47 (λ e. n.no_slash 0 0 n.not_empty e);
}

reached_is : (q r : Path) → reached (Some q) ≡ Ok r → r ≡ q
reached_is q r =
    cond_both (nat_lt 1024 (length (joined q))) (Err TooLong) (Ok q) (λ (o : Result Path PathFault). o ≡ Ok r → r ≡ q) (λ _ e. absurd (cc)) (λ _ e. cc)

join_at_end : (p : Path) (text : List ℕ) (parts : Path) (q r : Path) → IsReadable text → slice_split (λ byte. byte == 47) text ≡ parts → walk p parts ≡ Some q → join p text ≡ Ok r → r ≡ q
join_at_end p text parts q r h s w e =
    reached_is q r (sym (join-walk p text h.some h.no_nul h.relative ∙ ap (λ (x : Path). reached (walk p x)) s ∙ ap reached w) ∙ e)

pub below_is : (p : Path) (c : List ℕ) (r : Path) → IsName c → join p c ≡ Ok r → r ≡ p ++ c ∷ []
below_is p c r n e =
    let normal : IsNormal (c ∷ []) = All-cons IsName c [] n (All-nil IsName) in
    join_at_end p c (c ∷ []) (p ++ c ∷ []) r (readable_name c n) (slice_split-joined (c ∷ []) normal (omega arith)) (walk-names p (c ∷ []) normal) e

walk_up : (p : Path) → p ≢ [] → walk p (codes ".." ∷ []) ≡ Some (parent p)
walk_up p ne =
    let some : (length p == 0) ≡ false = ne_eqb (length p) 0 (λ z. none_long p z ne) in
    rw some refl

pub above_is : (p r : Path) → p ≢ [] → join p (codes "..") ≡ Ok r → r ≡ parent p
above_is p r ne e =
    join_at_end p (codes "..") (codes ".." ∷ []) (parent p) r (record { some = refl; no_nul = refl; relative = refl }) refl (walk_up p ne) e
