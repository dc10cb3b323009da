-- The first of the tool's paths that lies around the stage's folder.
use Rattle.std.proofs.Common.{List, Option, Some, sym, ap, ◌∙◌, inr}
use Rattle.std.specs.Option.{option_map}
use Rattle.std.specs.List.{find}
use Rattle.dvc_base.specs.Path.{Path, under}
use Rattle.dvc_base.specs.declared.fault.Fault.{Fault}
use Rattle.dvc_base.specs.declared.fault.Fault.TheVariants as f
use Rattle.stage_graph.proofs.kept.check_dir.Goals as goal

pub returns-in_ok-fault-in-Some : goal.returns-in_ok-fault-in-Some
returns-in_ok-fault-in-Some c =
    let dir = c.args.stage.now.dir in
    record {
      checked = inr (ap (λ (kept : List Path). option_map (f.Reserved dir) (find (λ p. under p dir) kept)) (sym c.requires.kept)
          ∙ ap (λ (o : Option Path). option_map (f.Reserved dir) o) (sym c.in-Some.ensures.exact)
          ∙ ap (λ (fault : Fault). Some fault) (sym c.in_ok-fault-in-Some.ensures.exact));
    }

pub returns-in-None : goal.returns-in-None
returns-in-None c =
    let dir = c.args.stage.now.dir in
    record {
      checked = ap (λ (kept : List Path). option_map (f.Reserved dir) (find (λ p. under p dir) kept)) (sym c.requires.kept)
          ∙ ap (λ (o : Option Path). option_map (f.Reserved dir) o) (sym c.in-None.ensures.exact);
    }
