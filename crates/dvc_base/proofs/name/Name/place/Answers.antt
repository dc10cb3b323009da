-- The components are names, and their text is short.
use Rattle.std.proofs.Common.{◌≡◌, List, ◌∷◌, [], ◌++◌, ℕ, take, drop, length, codes, ap, sym, ◌∙◌, subst, ◌≤◌}
use Rattle.dvc_base.specs.Path.{Path, joined}
use Rattle.dvc_base.specs.Normal.{IsNormal}
use Rattle.dvc_base.specs.Name.{ObjectName, place_of}
use Rattle.dvc_base.proofs.NameLemmas.{place-normal, place-short}
use Rattle.dvc_base.proofs.name.Name.place.Goals as goal

pub of_parts-requires : goal.of_parts-requires
of_parts-requires c =
    let digits = c.self.inside.digits in
    let name : ObjectName = record { digits = digits; dir = c.self.inside.dir } in
    let same : c.in_ok-parts.parts.items ≡ place_of name = c.in_ok-parts.ensures.exact ∙ ap (λ (x : List ℕ). codes "files" ∷ codes "md5" ∷ take 2 digits ∷ (drop 2 digits ++ x) ∷ []) c.ending.ensures.exact in
    record {
      normal = subst IsNormal (sym same) (place-normal name c.self.invariant);
      short = subst (λ (p : Path). length (joined p) ≤ 1024) (sym same) (place-short name c.self.invariant);
    }
