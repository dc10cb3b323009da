-- A read changes nothing, so the file still stands.
use Rattle.std.proofs.Common.{sym, subst}
use Rattle.world_api.specs.History.{History}
use Rattle.world_api.specs.Calls.{IsFileAt}
use Rattle.world_suite.proofs.calls.read_piece.Goals as goal

pub returns : goal.returns
returns g c = record {
  stays = λ told. subst (λ (h : History). IsFileAt h.present.tree c.args.at.now) (sym (c.read_at.ensures.unchanged told)) (c.requires told);
}
