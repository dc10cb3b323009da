-- One component more, and the paths with that many are among those asked for.
use Rattle.std.proofs.Common.{◌≡◌, ℕ, ◌+◌, ◌∙◌, ◌||◌, Bool, length, ap, subst, arith}
use Rattle.dvc_base.specs.Path.{Path, is_within}
use Rattle.path_index.specs.First.{IsFirst}
use Rattle.path_index.specs.Table.{is_in, is_at}
use Rattle.path_index.proofs.FirstLemmas.{first_joined}
use Rattle.path_index.proofs.TestLemmas.{is_around, around_more, none_around}
use Rattle.path_index.proofs.index.PathIndex.first_around.Goals as goal

pub loop-depth-init : goal.loop-depth-init
loop-depth-init c = none_around c.args.self.now c.parts-parts.result.now

pub loop-depth-preserved : goal.loop-depth-preserved
loop-depth-preserved c =
    let paths = c.args.self.now in
    let parts = c.parts-parts.result.now in
    let depth = c.loop-depth.depth in
    let before = is_at (is_around parts depth) paths in
    first_joined before (is_in c.run.result.now) (is_at (is_around parts (depth + 1)) paths) c.loop-depth.first c.least.result c.earlier-first.result
    (λ n. ap (λ (b : Bool). before n || b) (c.run.ensures.exact n) ∙ around_more paths parts depth n (omega arith))
    c.loop-depth.invariant c.least.ensures.first c.earlier-first.ensures.first

pub returns : goal.returns
returns c =
    let paths = c.args.self.now in
    let parts = c.parts-parts.result.now in
    let first = c.loop-depth.first in
    let whole : c.loop-depth.depth ≡ length parts = omega arith in
    let all = subst (λ (k : ℕ). IsFirst (is_at (is_around parts k) paths) first) whole c.loop-depth.invariant in
    record { first = subst (λ (p : Path). IsFirst (is_at (is_within p) paths) first) c.parts-parts.ensures.same all }
