use Rattle.std.proofs.Common.{◌≡◌, drop}
use Rattle.stage_schema.specs.Refusal.{first_in}
use Rattle.stage_schema.specs.Schema.{value_fault}
use Rattle.stage_schema.proofs.keys.check_body.Given as goal

-- the refusal that is due is that of the pairs that are left
abbrev pub invariant-loop-pair : goal.invariant-loop-pair
invariant-loop-pair l = first_in (value_fault l.name l.at) l.pairs ≡ first_in (value_fault l.name l.at) (drop l.pair-index l.pairs)
