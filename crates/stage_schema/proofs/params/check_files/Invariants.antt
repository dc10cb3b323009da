use Rattle.std.proofs.Common.{◌≡◌, drop}
use Rattle.stage_schema.specs.Refusal.{first_in}
use Rattle.stage_schema.specs.Schema.{param_file_fault}
use Rattle.stage_schema.proofs.params.check_files.Given as goal

-- the refusal that is due is that of the files that are left
abbrev pub invariant-loop-file : goal.invariant-loop-file
invariant-loop-file l = first_in (param_file_fault l.at l.key) l.files ≡ first_in (param_file_fault l.at l.key) (drop l.file-index l.files)
