-- The place is a path in normal form, which is read below `.dvc/cache`.
use Rattle.std.proofs.Common.{◌≡◌, ◌≢◌, ◌≤◌, ◌++◌, [], length, codes, Ok, sym, ap, subst, ◌∙◌}
use Rattle.dvc_base.specs.Path.{Path, joined, path_text}
use Rattle.dvc_base.specs.Normal.{IsNormal}
use Rattle.dvc_base.specs.Join.{join}
use Rattle.dvc_base.specs.Name.{place_of}
use Rattle.object_cache.specs.Objects.{cache_path, object_path}
use Rattle.object_cache.proofs.JoinLemmas.{ok_weaker, place_is}
use Rattle.object_cache.proofs.paths.object_path.Goals as goal

cache_is : (root cache : Path) → root ≡ [] → join root (codes ".dvc/cache") ≡ Ok cache → cache ≡ cache_path
cache_is root cache e h = let s : Ok cache_path ≡ Ok cache = ap (λ (p : Path). join p (codes ".dvc/cache")) (sym e) ∙ h in cc

pub returns : goal.returns
returns c =
    let name = c.args.name.now in
    let q = place_of name in
    let cache = c.in_ok-cache.cache in
    let same : c.in_ok-place.place ≡ q = c.in_ok-place.ensures.exact in
    let normal : IsNormal q = subst IsNormal (c.place-2.view_is ∙ same) c.place-2.invariant.normal in
    let short : length (joined q) ≤ 1024 = subst (λ (p : Path). length (joined p) ≤ 1024) (c.place-2.view_is ∙ same) c.place-2.invariant.short in
    let text = c.text.ensures.by_parts ∙ ap path_text same in
    let some : q ≢ [] = λ e. absurd (cc) in
    let top : cache ≡ cache_path = cache_is c.root.result cache c.root.ensures.root c.in_ok-cache.ensures.read in
    record {
      exact = ok_weaker c.join-3.result (λ (path : Path). join cache c.text.result.now ≡ Ok path) (λ (path : Path). path ≡ object_path name)
          (λ path e. place_is cache q path normal short some (ap (join cache) (sym text) ∙ e) ∙ ap (λ (p : Path). p ++ q) top) c.join-3.ensures.read;
    }
