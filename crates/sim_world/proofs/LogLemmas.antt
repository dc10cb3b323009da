-- What the tree, the jobs and the history are after a change was put into the log, or was refused.
use Rattle.std.proofs.Common.{◌≡◌, List, [], ◌∷◌, ◌++◌, sym, ap, subst, ◌∙◌, Ok, Err, Result, OnOk, OnErr}
use Rattle.world_api.specs.Tree.{Tree, IsTree}
use Rattle.world_api.specs.Effect.{Effect}
use Rattle.world_api.specs.declared.job.Job.{Job}
use Rattle.sim_world.specs.Applied.{tree_changed, jobs_changed, tree_after, jobs_after}
use Rattle.sim_world.specs.Call.{Makes, IsSame}
use Rattle.sim_world.specs.Change.{changed, grown, history_of, opened}
use Rattle.sim_world.specs.Stands.{AreTrees, trees-push}
use Rattle.sim_world.specs.declared.change.Change.{Change}
use Rattle.sim_world.proofs.ChangeLemmas.{tree_after-push, jobs_after-push, replay-push, replay_tree, replay_jobs}

pub tree_kept : {T E : Type 0} (r : Result T E) (start old new : Tree) (log log' : List Change) (c : Change) → old ≡ tree_after start log → OnOk r (log' ≡ log ++ c ∷ []) → OnErr r (log' ≡ log) → OnOk r (new ≡ tree_changed c old) → OnErr r (new ≡ old) → new ≡ tree_after start log'
tree_kept (Ok x) start old new log log' c was l _ t _ =
    t ∙ ap (tree_changed c) was ∙ sym (tree_after-push start log c) ∙ ap (tree_after start) (sym l)
tree_kept (Err x) start old new log log' c was _ l _ t = t ∙ was ∙ ap (tree_after start) (sym l)

pub trees_kept : {T E : Type 0} (r : Result T E) (start old new : Tree) (log log' : List Change) (c : Change) → old ≡ tree_after start log → AreTrees start log → IsTree new → OnOk r (log' ≡ log ++ c ∷ []) → OnErr r (log' ≡ log) → OnOk r (new ≡ tree_changed c old) → AreTrees start log'
trees_kept (Ok x) start old new log log' c was are is l _ t =
    subst (AreTrees start) (sym l) (trees-push start log c are (subst IsTree (t ∙ ap (tree_changed c) was) is))
trees_kept (Err x) start old new log log' c was are is _ l _ = subst (AreTrees start) (sym l) are

pub jobs_kept : {T E : Type 0} (r : Result T E) (old new : List Job) (log log' : List Change) (c : Change) → old ≡ jobs_after [] log → OnOk r (log' ≡ log ++ c ∷ []) → OnErr r (log' ≡ log) → OnOk r (new ≡ jobs_changed c old) → OnErr r (new ≡ old) → new ≡ jobs_after [] log'
jobs_kept (Ok x) old new log log' c was l _ t _ =
    t ∙ ap (jobs_changed c) was ∙ sym (jobs_after-push [] log c) ∙ ap (jobs_after []) (sym l)
jobs_kept (Err x) old new log log' c was _ l _ t = t ∙ was ∙ ap (jobs_after []) (sym l)

pub history_made : {T E : Type 0} (r : Result T E) (effect : Effect) (start : Tree) (log log' : List Change) (c : Change) → OnOk r (log' ≡ log ++ c ∷ []) → OnErr r (log' ≡ log) → Makes r (grown (changed c)) IsSame (history_of effect start log) (history_of effect start log')
history_made (Ok x) effect start log log' c more same =
    ap (history_of effect start) more ∙ replay-push (record { present = opened effect start; past = []; under = [] }) log c
history_made (Err x) effect start log log' c more same = ap (history_of effect start) same

pub present_tree : (effect : Effect) (start : Tree) (log : List Change) → (history_of effect start log).present.tree ≡ tree_after start log
present_tree effect start log = replay_tree (record { present = opened effect start; past = []; under = [] }) log

pub present_jobs : (effect : Effect) (start : Tree) (log : List Change) → (history_of effect start log).present.aside.fixed.ran ≡ jobs_after [] log
present_jobs effect start log = replay_jobs (record { present = opened effect start; past = []; under = [] }) log
