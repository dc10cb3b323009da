use Rattle.std.proofs.Common.{◌≡◌, ◌∙◌, Bool, true, ◌&&◌, List, ℕ, bytes_eq, sym, ap}
use Rattle.yaml_nodes.specs.Part.{key_of}
use Rattle.yaml_print.specs.Print.{value_of}
use Rattle.params.specs.Canonical.{canonical}
use Rattle.change_check.specs.Same.{same_node}
use Rattle.change_check.proofs.ValueLemmas.{value_exact}
use Rattle.change_check.proofs.same.same_pair.Goals as goal

-- under equal keys the values decide
pub returns-then-eq : goal.returns-then-eq
returns-then-eq c =
    let p = c.args.pair.now in
    let q = c.args.seen.now in
    let keys : bytes_eq (key_of p) (key_of q) ≡ true =
    ap (λ (k : List ℕ). bytes_eq k (key_of q)) (sym c.as_str.ensures.same) ∙ ap (bytes_eq c.as_str.result.now) (sym c.as_str-2.ensures.same) ∙ sym c.eq.ensures ∙ c.if-eq.true in
    let sound = c.requires.sound in
    let own = c.requires.canonical in
    record {
      exact = value_exact (value_of p) (value_of q) c.same_value.result sound own.1 (c.same_value.ensures.same 64 sound own.0)
          ∙ sym (ap (λ (r : Bool). r && same_node 64 (canonical 64 (value_of p)) (value_of q)) keys);
    }
