use Rattle.sim_world.proofs.MetLemmas.{book_is_of_met, book_covers}
use Rattle.sim_world.proofs.law.book_law.Goals as goal

pub returns : goal.returns
returns c = record { book = book_is_of_met; covers = book_covers }
