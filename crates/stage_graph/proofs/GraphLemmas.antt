-- The graph, or the first refusal.
--     graph_same, graph_err     an answer to the same refusal, and the exit of a step that tells one
--     behind, last_two          the refusals that are left behind the first one, and behind the first three
--     graph_is                  a graph by its parts
--     walk_same                 the walk round a cycle, by another test
use Rattle.std.proofs.Common.{◌≡◌, ℕ, Bool, List, [], ◌∷◌, Option, None, Result, Err, sym, ap, ◌∙◌, subst}
use Rattle.std.proofs.Math.Path.{fun_ext}
use Rattle.std.specs.Option.{option_or}
use Rattle.dvc_base.specs.declared.fault.Fault.{Fault}
use Rattle.stage_order.specs.Order.{order}
use Rattle.stage_order.specs.Walk.{first_walk}
use Rattle.stage_schema.specs.declared.stage.Stage.{Stage}
use Rattle.stage_graph.specs.Cycle.{all_above, walk_fault}
use Rattle.stage_graph.specs.Fault.{first_due}
use Rattle.stage_graph.specs.Graph.{graph_of, IsGraph}
use Rattle.stage_graph.specs.declared.graph.Graph.{Graph}
use Rattle.stage_graph.proofs.FaultLemmas.{IsTold, after_none, or_none, or_same}

pub graph_same : (stages : List Stage) (r : Result Graph Fault) (a b : Option Fault) → a ≡ b → IsGraph stages a r → IsGraph stages b r
graph_same stages r a b e h = subst (λ (due : Option Fault). IsGraph stages due r) e h

pub graph_err : (stages : List Stage) (r : Result Graph Fault) (due : Option Fault) (y fault : Fault) → r ≡ Err y → y ≡ fault → IsTold due fault → IsGraph stages due r
graph_err stages r due y fault e same h = subst (λ (o : Result Graph Fault). IsGraph stages due o) (sym e) (subst (IsTold due) (sym same) h)

-- what is due behind the first one
pub behind : (a b c d e : Option Fault) → a ≡ None → first_due (a ∷ b ∷ c ∷ d ∷ e ∷ []) ≡ option_or (option_or b c) (option_or d e)
behind a b c d e none =
    after_none a (option_or b (option_or c (option_or d (option_or e None)))) none
    ∙ ap (λ (o : Option Fault). option_or b (option_or c (option_or d o))) (or_none e)
    ∙ sym (or_same b c (option_or d e))

pub last_two : (a b c d e : Option Fault) → a ≡ None → option_or b c ≡ None → first_due (a ∷ b ∷ c ∷ d ∷ e ∷ []) ≡ option_or d e
last_two a b c d e none none' = behind a b c d e none ∙ after_none (option_or b c) (option_or d e) none'

abbrev pub made_of : List ℕ → List (List ℕ) → Graph
made_of ns above = record { order = ns; above = above }

pub graph_is : (stages : List Stage) (ns : List ℕ) (above : List (List ℕ)) → ns ≡ order above → above ≡ all_above stages →
    made_of ns above ≡ graph_of stages
graph_is stages ns above e same = ap (λ (ms : List ℕ). made_of ms above) e ∙ ap (λ (bs : List (List ℕ)). made_of (order bs) bs) same

pub walk_same : (stages : List Stage) (above : List (List ℕ)) (p q : ℕ → Bool) → ((n : ℕ) → p n ≡ q n) →
    walk_fault stages (first_walk above p) ≡ walk_fault stages (first_walk above q)
walk_same stages above p q same = ap (λ (t : ℕ → Bool). walk_fault stages (first_walk above t)) (fun_ext same)
