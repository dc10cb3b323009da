-- The owners are those of the stage.
use Rattle.std.proofs.Common.{ℕ, List, ◌++◌, ap, ◌∙◌}
use Rattle.std.proofs.lemmas.Result.{on_ok_weaker}
use Rattle.stage_schema.specs.declared.stage.Out.{Out}
use Rattle.stage_graph.specs.Paths.{owners_of_outs}
use Rattle.stage_graph.proofs.owner.push_stage.Goals as goal

pub returns : goal.returns
returns c =
    let old = c.args.all.now in
    let s = c.args.stage.now in
    record {
      ok = on_ok_weaker c.push_outs.result
          (λ h. h ∙ ap (λ (name : List ℕ). old ++ owners_of_outs s.dir name c.as_slice.result.now) c.as_str.ensures.same
          ∙ ap (λ (outs : List Out). old ++ owners_of_outs s.dir s.name outs) c.as_slice.ensures.same)
          c.push_outs.ensures.ok;
    }
