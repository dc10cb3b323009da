-- The walk is told by the names of its stages.
use Rattle.std.proofs.Common.{ℕ, List, Option, Some, sym, ap, ◌∙◌, inr}
use Rattle.dvc_base.specs.declared.fault.Fault.{Fault}
use Rattle.dvc_base.specs.declared.fault.Fault.TheVariants as f
use Rattle.stage_graph.specs.Cycle.{names_of, walk_fault}
use Rattle.stage_graph.proofs.graph.check_cycle.Goals as goal

pub returns-in_ok-fault-in-Some : goal.returns-in_ok-fault-in-Some
returns-in_ok-fault-in-Some c =
    let stages = c.args.stages.now in
    record {
      checked = inr (ap (λ (o : Option (List ℕ)). walk_fault stages o) (sym c.in_ok-walk.ensures.exact ∙ c.in-Some.is)
          ∙ ap (λ (ns : List ℕ). Some (f.Cycle (names_of stages ns))) (sym c.as_slice.ensures.same)
          ∙ ap (λ (fault : Fault). Some fault) (sym c.in_ok-fault-in-Some.ensures.exact));
    }

pub returns-in-None : goal.returns-in-None
returns-in-None c = record {
  checked = ap (λ (o : Option (List ℕ)). walk_fault c.args.stages.now o) (sym c.in_ok-walk.ensures.exact ∙ c.in-None.is);
}
