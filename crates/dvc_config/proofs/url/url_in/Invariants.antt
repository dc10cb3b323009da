use Rattle.std.proofs.Common.{◌≡◌, length, None}
use Rattle.std.specs.Option.{option_copied}
use Rattle.std.specs.List.{filter_map, last_or}
use Rattle.dvc_config.specs.Url.{url_for}
use Rattle.dvc_config.proofs.url.url_in.Given as goal

-- the last one is that of the remotes that are left, or else the one that was found
abbrev pub invariant-loop-rest : goal.invariant-loop-rest
invariant-loop-rest l = last_or (option_copied l.found) (filter_map (url_for l.name) l.rest) ≡ last_or None (filter_map (url_for l.name) l.remotes)

abbrev pub decreases-loop-rest : goal.decreases-loop-rest
decreases-loop-rest l = length l.rest
