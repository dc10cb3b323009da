-- What a stage says in which nothing is refused.
--     stage_with name group pairs    the stage of these pairs, whose texts are as they stand in the end
use Rattle.std.specs.Prelude.{ℕ, Bool, true, false, not, List, [], ◌∷◌, map, codes, Result, Ok, Err, if◌then◌else◌}
use Rattle.std.specs.List.{flat_map}
use Rattle.dvc_base.specs.declared.node.Node.{Node, out-Node}
use Rattle.dvc_base.specs.declared.node.Node.TheOpen.{Node-F}
use Rattle.dvc_base.specs.declared.node.Pair.{Pair}
use Rattle.dvc_base.specs.declared.path.PathFault.{PathFault}
use Rattle.dvc_base.specs.Path.{Path}
use Rattle.dvc_base.specs.Join.{join}
use Rattle.stage_schema.specs.Node.{Layer, key_of, value_of, text_of, is_text, is_true, is_false, items_of, pairs_of, value_at}
use Rattle.stage_schema.specs.Schema.{is_outs_key}
use Rattle.stage_schema.specs.Params.{each_once, texts_of, wants_of}
use Rattle.stage_schema.specs.declared.stage.Out.{Out}
use Rattle.stage_schema.specs.declared.stage.Stage.{Stage}

abbrev pub commands_of : Layer → List (List ℕ)
commands_of (Node-F.Text t) = t ∷ []
commands_of v = texts_of (items_of v)

abbrev pub dir_in : Result Path PathFault → Path
dir_in (Ok dir) = dir
dir_in (Err why) = []

-- the root where there is none
abbrev pub dir_of : Layer → Path
dir_of (Node-F.Text t) = dir_in (join [] t)
dir_of _ = []

-- an output is cached unless an option says that it isn't
abbrev pub out_with : Pair → Out
out_with p = record { path = key_of p; cached = not (is_false (value_at (codes "cache") (pairs_of (value_of p)))) }

abbrev pub outs_in : Layer → List Out
outs_in (Node-F.Text t) = record { path = t; cached = true } ∷ []
outs_in v = map out_with (pairs_of v)

abbrev pub outs_at : Pair → List Out
outs_at p = if is_outs_key (key_of p) then flat_map (λ item. outs_in (out-Node item)) (items_of (value_of p)) else []

abbrev pub stage_with : List ℕ → List ℕ → List Pair → Stage
stage_with name group pairs = record {
  name = name;
  group = group;
  commands = commands_of (value_at (codes "cmd") pairs);
  dir = dir_of (value_at (codes "wdir") pairs);
  deps = each_once (texts_of (items_of (value_at (codes "deps") pairs)));
  params = wants_of (items_of (value_at (codes "params") pairs));
  outs = flat_map outs_at pairs;
  frozen = is_true (value_at (codes "frozen") pairs);
  always = is_true (value_at (codes "always_changed") pairs);
}
