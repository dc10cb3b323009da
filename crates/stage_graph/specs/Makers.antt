-- The stages that make what overlaps a path, as they are found among all outputs.
--     is_maker outputs need n      the stage n makes what overlaps the path
--     stages_at outputs places     the stages of the outputs at some places
use Rattle.std.specs.Prelude.{ℕ, Bool, ◌&&◌, ◌==◌, List, slice_get, option_map}
use Rattle.std.specs.List.{list_any, filter_map}
use Rattle.dvc_base.specs.Path.{Path, overlap}
use Rattle.stage_graph.specs.declared.output.Output.{Output}

abbrev pub is_maker : List Output → Path → ℕ → Bool
is_maker outputs need n = list_any (λ o. overlap o.path need && (o.stage == n)) outputs

abbrev pub stages_at : List Output → List ℕ → List ℕ
stages_at outputs places = filter_map (λ place. option_map (λ o. o.stage) (slice_get outputs place)) places
