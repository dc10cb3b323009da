use Rattle.std.proofs.Common.{◌≡◌, drop}
use Rattle.stage_graph.specs.Fault.{first_of}
use Rattle.stage_graph.specs.Clash.{made_by}
use Rattle.stage_graph.proofs.clash.check_files.Given as goal

-- the refusal that is due is that of what is left
abbrev pub invariant-loop-file : goal.invariant-loop-file
invariant-loop-file l = first_of (made_by l.outs) l.files ≡ first_of (made_by l.outs) (drop l.file-index l.files)
