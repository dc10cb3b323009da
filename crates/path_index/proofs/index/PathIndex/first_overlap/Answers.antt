-- What overlaps the path is around it, or begins with its components.
use Rattle.std.proofs.Common.{◌∙◌, ◌||◌, Bool, length, ap}
use Rattle.dvc_base.specs.Path.{Path, overlap, is_within}
use Rattle.path_index.specs.Table.{is_in, is_at, is_cut}
use Rattle.path_index.proofs.FirstLemmas.{first_joined, first_position, some_inside}
use Rattle.path_index.proofs.TestLemmas.{around_all}
use Rattle.path_index.proofs.index.PathIndex.first_overlap.Goals as goal

pub returns : goal.returns
returns c =
    let paths = c.args.self.now in
    let path = c.args.path.now in
    let around = is_at (is_within path) paths in
    let all = is_at (λ q. overlap q path) paths in
    let first = first_joined around (is_in c.run.result.now) all c.first_around.result c.least-below.result c.earlier.result
    (λ n. ap (λ (b : Bool). around n || b) (c.run.ensures.exact n ∙ ap (λ (p : Path). is_at (is_cut (length p) p) paths n) c.parts-parts.ensures.same) ∙ around_all paths path n)
    c.first_around.ensures.first c.least-below.ensures.first c.earlier.ensures.first in
    record {
      exact = first_position (λ q. overlap q path) paths c.earlier.result first;
      within = some_inside (λ q. overlap q path) paths c.earlier.result first;
    }
