-- What is taken from the last stage to the first is the closure.
use Rattle.stage_order.proofs.ClosureLemmas.{brought_closure}
use Rattle.stage_order.proofs.law.brought_law.Goals as goal

pub returns : goal.returns
returns c = record { closure = λ above chosen stages behind. brought_closure above chosen stages behind }
