-- Worked cases: stages and track files beside their order, or beside the first refusal.
use Rattle.std.specs.Prelude.{◌≡◌, ℕ, true, false, List, [], ◌∷◌, map, codes, Option, Some, None}
use Rattle.dvc_base.specs.declared.fault.Fault.{Fault}
use Rattle.dvc_base.specs.declared.fault.Fault.TheVariants as f
use Rattle.dvc_base.specs.Path.{Path}
use Rattle.dvc_base.specs.declared.path.PathFault.TheVariants as p
use Rattle.stage_order.specs.Order.{order}
use Rattle.stage_order.specs.Brought.{brought}
use Rattle.stage_schema.specs.declared.stage.Stage.{Stage}
use Rattle.stage_graph.specs.Clash.{clash_fault, made_fault}
use Rattle.stage_graph.specs.Cycle.{all_above, cycle_fault}
use Rattle.stage_graph.specs.Kept.{tool_fault, file_fault, name_fault}
use Rattle.stage_graph.specs.Paths.{owners, owner_paths}
use Rattle.stage_graph.specs.Texts.{outside_fault}

-- a stage in the root that reads and makes these
abbrev pub stage : List ℕ → List (List ℕ) → List (List ℕ) → Stage
stage name deps outs = record {
  name = name;
  group = [];
  commands = codes "make" ∷ [];
  dir = [];
  deps = deps;
  params = [];
  outs = map (λ out. record { path = out; cached = true }) outs;
  frozen = false;
  always = false;
}

-- the parameter files that it reads
abbrev pub tuned : List (List ℕ) → Stage → Stage
tuned files s = record s { params = map (λ file. record { file = file; keys = []; all = true }) files }

abbrev pub fixed : Stage → Stage
fixed s = record s { frozen = true }

-- a stage that only makes these
abbrev pub making : List (List ℕ) → Stage
making outs = stage (codes "s") [] outs

abbrev pub order_in : List Stage → List ℕ
order_in stages = order (all_above stages)

abbrev pub report : Stage
report = stage (codes "report") (codes "results" ∷ []) []

abbrev pub fill : Stage
fill = stage (codes "fill") [] (codes "results/a.txt" ∷ [])

abbrev pub round : List Stage
round =
    stage (codes "a") (codes "c.txt" ∷ []) (codes "a.txt" ∷ [])
    ∷ stage (codes "b") (codes "a.txt" ∷ []) (codes "b.txt" ∷ [])
    ∷ stage (codes "c") (codes "b.txt" ∷ []) (codes "c.txt" ∷ [])
    ∷ []

abbrev pub itself : Stage
itself = stage (codes "s") (codes "d" ∷ []) (codes "d/out" ∷ [])

pub record OrderCases : Type 0 where
  -- a folder that is read comes behind what is made in it
  pub folder : order_in (report ∷ fill ∷ []) ≡ 1 ∷ 0 ∷ []
  pub as_written : order_in (fill ∷ report ∷ []) ≡ 0 ∷ 1 ∷ []
  pub no_edge : order_in (making (codes "b" ∷ []) ∷ making (codes "a" ∷ []) ∷ []) ≡ 0 ∷ 1 ∷ []
  pub parameters : order_in (tuned (codes "p.yaml" ∷ []) report ∷ making (codes "p.yaml" ∷ []) ∷ []) ≡ 1 ∷ 0 ∷ []
  -- none is above a frozen stage
  pub frozen : order_in (fixed report ∷ fill ∷ []) ≡ 0 ∷ 1 ∷ []
  pub frozen_cycle : cycle_fault (fixed itself ∷ []) ≡ None
  pub brought_above : brought (all_above (report ∷ fill ∷ [])) (0 ∷ []) (1 ∷ 0 ∷ []) ≡ 1 ∷ 0 ∷ []
  pub brought_alone : brought (all_above (report ∷ fill ∷ [])) (1 ∷ []) (1 ∷ 0 ∷ []) ≡ 1 ∷ []

abbrev pub clash_in : List Stage → Option Fault
clash_in stages = clash_fault (owners stages [])

abbrev pub owned_by : List (List ℕ) → List Path
owned_by outs = owner_paths (owners (making outs ∷ []) [])

pub record RefusedCases : Type 0 where
  pub overlap : clash_in (making (codes "model" ∷ codes "model/a.bin" ∷ []) ∷ [])
      ≡ Some (f.Overlap (codes "model" ∷ []) (codes "model" ∷ codes "a.bin" ∷ []))
  pub apart : clash_in (making (codes "model" ∷ codes "modelb" ∷ []) ∷ []) ≡ None
  pub duplicate : clash_in (fill ∷ making (codes "results/./a.txt" ∷ []) ∷ [])
      ≡ Some (f.Duplicate (codes "results" ∷ codes "a.txt" ∷ []) (codes "fill") (codes "s"))
  pub cycle : cycle_fault round ≡ Some (f.Cycle (codes "a" ∷ codes "c" ∷ codes "b" ∷ codes "a" ∷ []))
  pub itself_above : cycle_fault (itself ∷ []) ≡ Some (f.Cycle (codes "s" ∷ codes "s" ∷ []))
  pub outside : outside_fault (making (codes "../x" ∷ []) ∷ []) [] ≡ Some (f.Outside (codes "../x") p.Outside)
  pub yaml : file_fault [] [] (owned_by (codes "dvc.yaml" ∷ [])) ≡ Some (f.Reserved (codes "dvc.yaml" ∷ []) (codes "dvc.yaml" ∷ []))
  pub tool : tool_fault (owned_by (codes ".dvc/tmp" ∷ [])) [] ≡ Some (f.Reserved (codes ".dvc" ∷ codes "tmp" ∷ []) (codes ".dvc" ∷ []))
  pub lock_read : tool_fault [] (stage (codes "s") (codes "dvc.lock" ∷ []) [] ∷ []) ≡ Some (f.Reserved (codes "dvc.lock" ∷ []) (codes "dvc.lock" ∷ []))
  pub ignore : file_fault [] [] (owned_by (codes ".dvcignore" ∷ [])) ≡ Some (f.Reserved (codes ".dvcignore" ∷ []) (codes ".dvcignore" ∷ []))
  pub track_name : name_fault (codes "d" ∷ codes "a.csv.dvc" ∷ []) ≡ Some (f.Reserved (codes "d" ∷ codes "a.csv.dvc" ∷ []) (codes "d" ∷ codes "a.csv.dvc" ∷ []))
  pub other_name : name_fault (codes "d.dvc" ∷ codes "a.csv" ∷ []) ≡ None
  pub variables : made_fault (making (codes "params.yaml" ∷ []) ∷ []) [] ≡ Some (f.VarsFromOutput (codes "params.yaml" ∷ []) (codes "params.yaml" ∷ []))
