-- The set has the places of all that overlap, in order.
use Rattle.std.proofs.Common.{◌≡◌, ℕ, List, IfOk, subst}
use Rattle.dvc_base.specs.Path.{overlap}
use Rattle.path_index.proofs.PlaceLemmas.{set_places}
use Rattle.path_index.proofs.index.PathIndex.overlapping.Goals as goal

pub returns : goal.returns
returns c =
    let path = c.args.path.now in
    let all = set_places (λ q. overlap q path) c.args.self.now c.in_ok-found.found c.listed.ensures.sorted c.in_ok-found.ensures.exact in
    record { exact = subst (λ (ks : List ℕ). IfOk c.listed.result (λ places. places.items ≡ ks)) all c.listed.ensures.exact }
