use Rattle.std.proofs.Common.{◌≡◌, ◌∙◌, Bool, true, ◌&&◌, List, ℕ, map, bytes_eq, sym, ap}
use Rattle.std.specs.Cmp.Lexicographic.{pointwise}
use Rattle.dvc_base.specs.declared.node.Pair.{Pair}
use Rattle.change_check.specs.Same.{canonical_pair, same_pair}
use Rattle.change_check.proofs.ValueLemmas.{pairs_exact}
use Rattle.change_check.proofs.same.same_file.Goals as goal

-- of files with equal names the pairs decide
pub returns-then-eq : goal.returns-then-eq
returns-then-eq c =
    let f = c.args.file.now in
    let g = c.args.seen.now in
    let by_value = pointwise (λ p q. same_pair (canonical_pair p) q) in
    let names : bytes_eq f.file g.file ≡ true =
    ap (λ (k : List ℕ). bytes_eq k g.file) (sym c.as_str.ensures.same) ∙ ap (bytes_eq c.as_str.result.now) (sym c.as_str-2.ensures.same) ∙ sym c.eq.ensures ∙ c.if-eq.true in
    record {
      exact = c.same_pairs.ensures.exact ∙ ap (λ (ps : List Pair). by_value ps c.as_slice-then-eq.result.now) c.as_slice.ensures.same
          ∙ ap (by_value f.keys) c.as_slice-then-eq.ensures.same ∙ pairs_exact same_pair f.keys g.keys
          ∙ sym (ap (λ (r : Bool). r && pointwise same_pair (map canonical_pair f.keys) g.keys) names);
    }
