-- The texts are those of the stage.
use Rattle.std.proofs.Common.{List, ap}
use Rattle.stage_schema.specs.declared.stage.Out.{Out}
use Rattle.stage_graph.specs.Fault.{first_of}
use Rattle.stage_graph.specs.Texts.{text_fault}
use Rattle.stage_graph.proofs.FaultLemmas.{checks_same}
use Rattle.stage_graph.proofs.text.check_stage_outs.Goals as goal

pub returns : goal.returns
returns c = record {
  checked = checks_same c.check_outs.result _ _
      (ap (λ (outs : List Out). first_of (λ out. text_fault c.args.stage.now.dir out.path) outs) c.as_slice.ensures.same)
      c.check_outs.ensures.checked;
}
