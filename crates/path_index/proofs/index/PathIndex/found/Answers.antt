-- The set has what begins with the path's components, and then what is around it, one component after the other.
use Rattle.std.proofs.Common.{◌≡◌, ℕ, ◌∙◌, ◌||◌, List, length, ap, arith}
use Rattle.dvc_base.specs.Path.{Path, overlap}
use Rattle.path_index.specs.Table.{is_in, is_at}
use Rattle.path_index.proofs.TestLemmas.{is_near, below_start, below_more, below_all}
use Rattle.path_index.proofs.index.PathIndex.found.Goals as goal

pub loop-depth-init : goal.loop-depth-init
loop-depth-init c = λ n.
    c.in_ok-add.ensures.added n
    ∙ ap (λ (ks : List ℕ). is_in ks n || is_in c.run.result.now n) c.new-found.ensures.empty
    ∙ c.run.ensures.exact n
    ∙ below_start c.args.self.now c.parts-parts.result.now n

pub loop-depth-preserved : goal.loop-depth-preserved
loop-depth-preserved c = λ n.
    c.in_ok-add-2.ensures.added n
    ∙ (λ i. c.loop-depth.invariant n i || c.run-in-loop-depth.ensures.exact n i)
    ∙ below_more c.args.self.now c.parts-parts.result.now c.loop-depth.depth n (omega arith)

pub returns : goal.returns
returns c =
    let paths = c.args.self.now in
    let parts = c.parts-parts.result.now in
    let whole : c.loop-depth.depth ≡ length parts = omega arith in
    record {
      exact = λ n. c.loop-depth.invariant n
          ∙ ap (λ (k : ℕ). is_at (is_near parts k) paths n) whole
          ∙ below_all paths parts n
          ∙ ap (λ (p : Path). is_at (λ q. overlap q p) paths n) c.parts-parts.ensures.same;
    }
