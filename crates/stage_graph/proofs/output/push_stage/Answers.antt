-- The outputs are those of the stage.
use Rattle.std.proofs.Common.{List, ◌++◌, ap, ◌∙◌}
use Rattle.std.proofs.lemmas.Result.{on_ok_weaker}
use Rattle.stage_schema.specs.declared.stage.Out.{Out}
use Rattle.stage_graph.specs.Paths.{outputs_in}
use Rattle.stage_graph.proofs.output.push_stage.Goals as goal

pub returns : goal.returns
returns c = record {
  ok = on_ok_weaker c.push_outputs.result
      (λ h. h ∙ ap (λ (outs : List Out). c.args.all.now ++ outputs_in c.args.number c.args.stage.now.dir outs) c.as_slice.ensures.same)
      c.push_outputs.ensures.ok;
}
