use Rattle.std.proofs.Common.{refl, codes}
use Rattle.world_api.proofs.OutputLemmas.{takes_stop}
use Rattle.dvc_cli.proofs.message.put_next.Goals as goal

pub returns-in_err-put-clause-all : goal.returns-in_err-put-clause-all
returns-in_err-put-clause-all g c = λ t.
    takes_stop _ (codes " <- ") c.args.name.now _ _ _ refl c.from_residual.ensures.0 (c.in_err-put.ensures.taken t)
