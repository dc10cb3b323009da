use Rattle.std.proofs.Common.{◌≡◌, take, map, fold}
use Rattle.std.specs.List.{flat_map}
use Rattle.dvc_base.specs.declared.node.Node.{out-Node}
use Rattle.stage_schema.specs.Params.{item_wants, with_want}
use Rattle.stage_schema.proofs.wants.add_items.Given as goal

-- the wants of the items so far are joined
abbrev pub invariant-loop-item : goal.invariant-loop-item
invariant-loop-item l = record {
  tied : map (λ file. file.now) l.files.keys ≡ map (λ group. group.file) l.groups.items;
  wants : l.groups.items ≡ fold with_want l.initial.groups.items (flat_map (λ item. item_wants (out-Node item)) (take l.item-index l.items));
}
