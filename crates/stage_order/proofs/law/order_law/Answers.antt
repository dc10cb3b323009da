-- Each stage that is next stands behind those above it.
use Rattle.stage_order.proofs.ClosureLemmas.{behind_order}
use Rattle.stage_order.proofs.law.order_law.Goals as goal

pub returns : goal.returns
returns c = record { behind = λ above. behind_order above }
