-- Which stages are above each one, and the refusal of stages in a cycle. A stage goes by its place in the list of all.
--     all_above stages       for each stage the numbers of those above it
--     cycle_fault stages     the walk round a cycle, where stages are left behind their order
use Rattle.std.specs.Prelude.{ℕ, List, map, slice_get, Option, option_map}
use Rattle.std.specs.List.{filter_map}
use Rattle.dvc_base.specs.declared.fault.Fault.{Fault}
use Rattle.dvc_base.specs.declared.fault.Fault.TheVariants as f
use Rattle.path_index.specs.Overlap.{places}
use Rattle.stage_order.specs.Order.{is_in, order}
use Rattle.stage_order.specs.Walk.{first_walk}
use Rattle.stage_schema.specs.declared.stage.Stage.{Stage}
use Rattle.stage_graph.specs.Paths.{is_above}

abbrev pub all_above : List Stage → List (List ℕ)
all_above stages = map (λ b. places (λ a. is_above a b) stages) stages

abbrev pub names_of : List Stage → List ℕ → List (List ℕ)
names_of stages ns = filter_map (λ n. option_map (λ s. s.name) (slice_get stages n)) ns

abbrev pub walk_fault : List Stage → Option (List ℕ) → Option Fault
walk_fault stages walk = option_map (λ ns. f.Cycle (names_of stages ns)) walk

-- the stages that the order leaves out are in a cycle, or below one
abbrev pub cycle_with : List Stage → List (List ℕ) → Option Fault
cycle_with stages above = walk_fault stages (first_walk above (is_in (order above)))

abbrev pub cycle_fault : List Stage → Option Fault
cycle_fault stages = cycle_with stages (all_above stages)
