-- Steps of the loop that puts the files of a folder.
use Rattle.std.proofs.Common.{◌≡◌, ◌≢◌, ℕ, zero, suc, ◌+◌, ◌<◌, List, [], ◌∷◌, ◌++◌, length, take, drop, get_or, sym, ap, subst, ◌∙◌, arith}
use Rattle.std.proofs.lemmas.List.{at_drop_more, take_more, map-append}
use Rattle.dvc_base.specs.Path.{Path}
use Rattle.world_api.specs.Tree.{Tree, IsRelPath}
use Rattle.sim_world.specs.Edits.{put_member, put_files}
use Rattle.sim_world.specs.Good.{AreFit}
use Rattle.sim_world.specs.Sorted.{pair_of, pairs_of}
use Rattle.sim_world.specs.declared.sorted.Member.{Member}
use Rattle.sim_world.proofs.ListLemmas.{all_append}
use Rattle.sim_world.proofs.PlaceLemmas.{HasNoRoot}

abbrev Members : Type 0
Members = List (Member (List ℕ))

pub not_at_root : (ms : Members) (i : ℕ) (m : Member (List ℕ)) → i < length ms → m ≡ get_or ms i m → HasNoRoot (pairs_of ms) → m.path ≢ []
not_at_root [] i m l is all = absurd (omega arith)
not_at_root (o ∷ ms) zero m l is all = subst (λ (x : Member (List ℕ)). x.path ≢ []) (sym is) all.0
not_at_root (o ∷ ms) (suc i) m l is all = not_at_root ms i m (omega arith) is all.1

pub files_step : (at : Path) (ms : Members) (i : ℕ) (m : Member (List ℕ)) (t k : Tree) → i < length ms → m ≡ get_or ms i m → k ≡ put_member at m.path m.value t → put_files at (pairs_of (drop i ms)) t ≡ put_files at (pairs_of (drop (i + 1) ms)) k
files_step at ms i m t k l is e =
    at_drop_more (λ (x : Members). put_files at (pairs_of x) t) ms i m l
    ∙ ap (λ (x : Member (List ℕ)). put_files at (pairs_of (x ∷ drop (i + 1) ms)) t) (sym is)
    ∙ ap (put_files at (pairs_of (drop (i + 1) ms))) (sym e)

pub fit_step : (at : Path) (ms : Members) (i : ℕ) (m : Member (List ℕ)) → i < length ms → m ≡ get_or ms i m → AreFit at (pairs_of (take i ms)) → IsRelPath (at ++ m.path) → AreFit at (pairs_of (take (i + 1) ms))
fit_step at ms i m l is fits rel =
    subst (AreFit at)
    (sym (map-append pair_of (take i ms) (m ∷ [])) ∙ ap (λ (x : Member (List ℕ)). pairs_of (take i ms ++ x ∷ [])) is ∙ ap pairs_of (sym (take_more ms i m l)))
    (all_append (λ (e : Path × List ℕ). IsRelPath (at ++ e.0)) (pairs_of (take i ms)) (pair_of m ∷ []) fits (rel, tt))
