-- Laws of paths that are read below another.
use Rattle.std.proofs.Common.{◌≡◌, ℕ, ◌==◌, true, false, cond, List, [], ◌∷◌, ◌++◌, length, refl, sym, ap, ◌∙◌, arith, Some, Ok, Err}
use Rattle.std.specs.List.{list_any, slice_split}
use Rattle.std.specs.Prelude.{nat_lt, slice_index}
use Rattle.std.proofs.lemmas.Bool.{ne_eqb}
use Rattle.std.proofs.lemmas.List.{append-nil}
use Rattle.std.proofs.lemmas.List.Elements.{All-nil, All-cons}
use Rattle.dvc_base.specs.Path.{Path, joined, path_text}
use Rattle.dvc_base.specs.Normal.{IsName, IsNormal}
use Rattle.dvc_base.specs.Join.{walk, reached, join}
use Rattle.dvc_base.specs.declared.path.PathFault.TheVariants.{Outside, TooLong, Empty, BadCharacter}
use Rattle.dvc_base.proofs.NormalLemmas.{slice_split-joined, walk-names}
use Rattle.sim_world.specs.Root.{is_root}

pub root_length : (p : Path) → (length p == 0) ≡ is_root p
root_length [] = refl
root_length (c ∷ p) = ne_eqb (length (c ∷ p)) 0 (λ s. absurd (omega arith))

reached_so : (p q : Path) → reached (Some p) ≡ Ok q → q ≡ p
reached_so p q e =
    elim (nat_lt 1024 (length (joined p))) as (λ b. cond b (Err TooLong) (Ok p) ≡ Ok q → q ≡ p) [
      | true ↦ λ s. absurd (cc)
      | false ↦ λ s. cc
    ] e

walk_so : (at q p : Path) (text : List ℕ) → join at text ≡ Ok p → walk at (slice_split (λ byte. byte == 47) text) ≡ Some q → p ≡ q
walk_so at q p text e w =
    elim (length text == 0) as (λ b. cond b (Err Empty) (cond (list_any (λ byte. byte == 0) text) (Err BadCharacter) (cond (slice_index text 0 == 47) (Err Outside) (reached (walk at (slice_split (λ byte. byte == 47) text))))) ≡ Ok p → p ≡ q) [
      | true ↦ λ s. absurd (cc)
      | false ↦ elim (list_any (λ byte. byte == 0) text) as (λ b. cond b (Err BadCharacter) (cond (slice_index text 0 == 47) (Err Outside) (reached (walk at (slice_split (λ byte. byte == 47) text)))) ≡ Ok p → p ≡ q) [
        | true ↦ λ s. absurd (cc)
        | false ↦ elim (slice_index text 0 == 47) as (λ b. cond b (Err Outside) (reached (walk at (slice_split (λ byte. byte == 47) text))) ≡ Ok p → p ≡ q) [
          | true ↦ λ s. absurd (cc)
          | false ↦ λ s. reached_so q p (ap reached (sym w) ∙ s)
        ]
      ]
    ] e

-- the text of a path, read below another
pub join_so : (at q p : Path) → IsNormal q → join at (path_text q) ≡ Ok p → p ≡ at ++ q
join_so at [] p normal e = walk_so at (at ++ []) p (path_text []) e (ap (λ (x : Path). Some x) (sym (append-nil at)))
join_so at (c ∷ q) p normal e =
    walk_so at (at ++ (c ∷ q)) p (joined (c ∷ q)) e (ap (walk at) (slice_split-joined (c ∷ q) normal (omega arith)) ∙ walk-names at (c ∷ q) normal)

pub join_name_so : (at : Path) (c : List ℕ) (p : Path) → IsName c → join at c ≡ Ok p → p ≡ at ++ c ∷ []
join_name_so at c p name e = join_so at (c ∷ []) p (All-cons IsName c [] name (All-nil IsName)) e
