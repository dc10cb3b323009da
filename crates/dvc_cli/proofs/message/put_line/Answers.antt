use Rattle.std.proofs.Common.{refl, codes, ◌++◌}
use Rattle.world_api.proofs.OutputLemmas.{takes_stop, takes_middle}
use Rattle.dvc_base.specs.FaultParts.{text_in}
use Rattle.dvc_cli.proofs.message.put_line.Goals as goal

pub returns-in_err-put-clause-line : goal.returns-in_err-put-clause-line
returns-in_err-put-clause-line g c = λ t.
    takes_stop _ (codes "ERROR: ") (text_in c.args.parts.now ++ codes "\n") _ _ _ refl c.from_residual.ensures.0 (c.in_err-put.ensures.taken t)

pub returns-in_err-put_parts-clause-line : goal.returns-in_err-put_parts-clause-line
returns-in_err-put_parts-clause-line g c = λ t.
    takes_middle _ (codes "ERROR: ") _ (text_in c.args.parts.now) (codes "\n") _ _ _ (c.in_ok-put.ensures.taken t) refl
    c.from_residual-in_err-put_parts.ensures.0 (c.in_err-put_parts.ensures.all t)
