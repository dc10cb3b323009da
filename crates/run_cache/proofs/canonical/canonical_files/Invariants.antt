use Rattle.std.proofs.Common.{◌≡◌, map, take}
use Rattle.yaml_print.specs.Sound.{Each}
use Rattle.lock_files.specs.Form.{IsKeyed}
use Rattle.run_cache.specs.Records.{canonical_file}
use Rattle.run_cache.proofs.canonical.canonical_files.Given as goal

-- the files so far
abbrev pub invariant-loop-file : goal.invariant-loop-file
invariant-loop-file l = Each (λ f. IsKeyed f.keys) l.files → l.made ≡ map canonical_file (take l.file-index l.files)
