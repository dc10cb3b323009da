-- Each moment of a world in memory has a tree.
--     AreTrees t cs      the tree t, and what stands after each of the changes, are trees
use Rattle.std.specs.Prelude.{◌≡◌, List, [], ◌∷◌, ◌++◌, refl}
use Rattle.std.specs.List.{AllByRecursion}
use Rattle.std.specs.Coded.{×_prop}
use Rattle.std.proofs.Common.{sym, subst}
use Rattle.world_api.specs.Tree.{Tree, IsTree}
use Rattle.world_api.specs.Effect.{Effect}
use Rattle.world_api.specs.History.{Moment, History}
use Rattle.world_api.specs.Outside.{HasTrees}
use Rattle.sim_world.specs.Applied.{tree_changed, tree_after}
use Rattle.sim_world.specs.Change.{changed, grown, replay, history_of, opened}
use Rattle.sim_world.specs.TreeCode.{IsTree-prop}
use Rattle.sim_world.specs.declared.change.Change.{Change}
use Rattle.sim_world.specs.declared.change.Change.TheVariants.{Edited, Cleared, Started, Left, Ran, FolderMade, Written, Settled, Published, Met}

abbrev pub AreTrees : Tree → List Change → Type 0
AreTrees t [] = IsTree t
AreTrees t (c ∷ cs) = IsTree t × AreTrees (tree_changed c t) cs

pub AreTrees-prop : (t : Tree) (cs : List Change) → IsProp (AreTrees t cs)
AreTrees-prop t [] = IsTree-prop t
AreTrees-prop t (c ∷ cs) = ×_prop (IsTree-prop t) (AreTrees-prop (tree_changed c t) cs)

pub trees-push : (t : Tree) (cs : List Change) (c : Change) → AreTrees t cs → IsTree (tree_changed c (tree_after t cs)) → AreTrees t (cs ++ c ∷ [])
trees-push t [] c are is = (are, is)
trees-push t (d ∷ cs) c are is = (are.0, trees-push (tree_changed d t) cs c are.1 is)

pub changed_tree : (c : Change) (m : Moment) → (changed c m).tree ≡ tree_changed c m.tree
changed_tree (Edited at value) m = refl
changed_tree (Cleared at) m = refl
changed_tree (Started job) m = refl
changed_tree (Left at value) m = refl
changed_tree (Ran job) m = refl
changed_tree (FolderMade at) m = refl
changed_tree (Written lane value) m = refl
changed_tree (Settled lane) m = refl
changed_tree (Published lane at value) m = refl
changed_tree (Met at) m = refl

replay-stands : (h : History) (cs : List Change) → AllByRecursion (λ (m : Moment). IsTree m.tree) h.past → AreTrees h.present.tree cs → HasTrees (replay h cs)
replay-stands h [] past are = (are, past)
replay-stands h (c ∷ cs) past are =
    replay-stands (grown (changed c) h) cs (are.0, past) (subst (λ (t : Tree). AreTrees t cs) (sym (changed_tree c h.present)) are.1)

pub stands : (effect : Effect) (t : Tree) (cs : List Change) → AreTrees t cs → HasTrees (history_of effect t cs)
stands effect t cs are = replay-stands (record { present = opened effect t; past = []; under = [] }) cs tt are
