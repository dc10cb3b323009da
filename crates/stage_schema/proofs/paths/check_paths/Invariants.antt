use Rattle.std.proofs.Common.{◌≡◌, drop}
use Rattle.stage_schema.specs.Refusal.{first_in}
use Rattle.stage_schema.specs.Schema.{path_fault}
use Rattle.stage_schema.proofs.paths.check_paths.Given as goal

-- the refusal that is due is that of the pairs that are left
abbrev pub invariant-loop-pair : goal.invariant-loop-pair
invariant-loop-pair l = first_in (path_fault l.name) l.pairs ≡ first_in (path_fault l.name) (drop l.pair-index l.pairs)
