-- The graph of stages, and the first reason why they have none.
--     graph_fault stages tracks vars ignores    the first refusal
--     graph_of stages                           the graph: the order, and for each stage those above it
--     IsGraph stages due result                 the answer to what is due: the graph, or the refusal; want of memory is free
use Rattle.std.specs.Prelude.{◌≡◌, ◌⊎◌, List, [], ◌∷◌, Option, None, Some, Result, MatchResult}
use Rattle.dvc_base.specs.Path.{Path}
use Rattle.dvc_base.specs.declared.fault.Fault.{Fault}
use Rattle.dvc_base.specs.declared.fault.Fault.TheVariants as f
use Rattle.stage_order.specs.Order.{order}
use Rattle.stage_schema.specs.declared.stage.Stage.{Stage}
use Rattle.stage_graph.specs.Fault.{first_due}
use Rattle.stage_graph.specs.Paths.{owners, owner_paths}
use Rattle.stage_graph.specs.Texts.{outside_fault}
use Rattle.stage_graph.specs.Kept.{reserved_fault}
use Rattle.stage_graph.specs.Clash.{clash_fault, made_fault}
use Rattle.stage_graph.specs.Cycle.{all_above, cycle_fault}
use Rattle.stage_graph.specs.declared.graph.Graph.{Graph}
use Rattle.stage_graph.specs.declared.track.TrackFile.{TrackFile}

abbrev pub graph_fault : List Stage → List TrackFile → List Path → List Path → Option Fault
graph_fault stages tracks vars ignores = first_due (
    outside_fault stages tracks
    ∷ reserved_fault (owner_paths (owners stages tracks)) stages tracks vars ignores
    ∷ clash_fault (owners stages tracks)
    ∷ made_fault stages vars
    ∷ cycle_fault stages
    ∷ [])

abbrev pub graph_of : List Stage → Graph
graph_of stages = record { order = order (all_above stages); above = all_above stages }

abbrev pub IsGraph : List Stage → Option Fault → Result Graph Fault → Type 0
IsGraph stages due result = MatchResult result
    (λ graph. (due ≡ None) × (graph ≡ graph_of stages))
    (λ fault. (fault ≡ f.NoMemory) ⊎ (due ≡ Some fault))
