use Rattle.std.proofs.Common.{◌≡◌, drop}
use Rattle.stage_schema.specs.Refusal.{first_in}
use Rattle.stage_schema.specs.Schema.{option_fault}
use Rattle.stage_schema.proofs.outs.check_options.Given as goal

-- the refusal that is due is that of the options that are left
abbrev pub invariant-loop-option : goal.invariant-loop-option
invariant-loop-option l = first_in (option_fault l.name l.at l.key l.path) l.options ≡ first_in (option_fault l.name l.at l.key l.path) (drop l.option-index l.options)
