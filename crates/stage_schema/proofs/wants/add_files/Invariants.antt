use Rattle.std.proofs.Common.{◌≡◌, take, map, fold}
use Rattle.stage_schema.specs.Params.{file_want, with_want}
use Rattle.stage_schema.proofs.wants.add_files.Given as goal

-- the wants of the files so far are joined
abbrev pub invariant-loop-pair : goal.invariant-loop-pair
invariant-loop-pair l = record {
  tied : map (λ file. file.now) l.files.keys ≡ map (λ group. group.file) l.groups.items;
  wants : l.groups.items ≡ fold with_want l.initial.groups.items (map file_want (take l.pair-index l.pairs));
}
