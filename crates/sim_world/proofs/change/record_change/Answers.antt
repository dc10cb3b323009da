use Rattle.sim_world.proofs.change.record_change.Goals as goal

pub returns-clause-tree_ok : goal.returns-clause-tree_ok
returns-clause-tree_ok c = rw c.put_last.ensures.same c.apply_with_room-answer.ensures.tree_ok

pub returns-clause-jobs_ok : goal.returns-clause-jobs_ok
returns-clause-jobs_ok c = rw c.put_last.ensures.same c.apply_with_room-answer.ensures.jobs_ok

pub returns-clause-tree_err : goal.returns-clause-tree_err
returns-clause-tree_err c = rw c.put_last.ensures.same c.apply_with_room-answer.ensures.tree_err

pub returns-clause-jobs_err : goal.returns-clause-jobs_err
returns-clause-jobs_err c = rw c.put_last.ensures.same c.apply_with_room-answer.ensures.jobs_err
