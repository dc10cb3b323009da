-- None is above a frozen stage, and else the makers of what it needs are.
use Rattle.std.proofs.Common.{◌≡◌, List, ap, ◌∙◌}
use Rattle.std.specs.List.{list_any}
use Rattle.std.proofs.lemmas.Result.{IfOk-weaker}
use Rattle.path_index.specs.Overlap.{places}
use Rattle.stage_schema.specs.declared.stage.Stage.{Stage}
use Rattle.stage_graph.specs.Makers.{is_maker}
use Rattle.stage_graph.specs.Paths.{outputs, needs, is_above}
use Rattle.stage_graph.specs.declared.output.Output.{Output}
use Rattle.stage_graph.proofs.EdgeLemmas.{above_found, above_none}
use Rattle.stage_graph.proofs.edges.above_stage.Goals as goal

pub returns-then-stage : goal.returns-then-stage
returns-then-stage c = record {
  exact = λ stages made. c.new.ensures.empty ∙ above_none stages c.args.stage.now c.if-stage.true;
}

pub returns : goal.returns
returns c =
    let s = c.args.stage.now in
    let found = c.in_ok-found.found.keys in
    record {
      exact = IfOk-weaker c.numbers_in.result (λ numbers. numbers ≡ found)
          (λ above. (stages : List Stage) → c.args.made.now ≡ outputs stages → above ≡ places (λ a. is_above a s) stages)
          (λ above same stages made. same ∙ above_found stages s found c.if-stage.false c.numbers_in.ensures.sorted
          (λ n. c.in_ok-found.ensures.found n ∙ ap (λ (os : List Output). list_any (λ need. is_maker os need n) (needs s)) made))
          c.numbers_in.ensures.exact;
    }
