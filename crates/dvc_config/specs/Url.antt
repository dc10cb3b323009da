-- The url of a remote, and why it isn't used.
--     url_of config name        the url of this remote, and of the chosen one where none is named
--     usable_url config name    the same, or why it isn't used: no remote has the name, or the url is that of a server
--     config_path               `.dvc/config`
--     LastUrlCounts             the law that the url of a remote is the last one that its sections have
use Rattle.std.specs.Prelude.{◌≡◌, ℕ, Bool, false, ◌&&◌, ◌||◌, if◌then◌else◌, List, [], ◌∷◌, codes, bytes_eq, length, take, Option, Some, None, option_and_then, unwrap_or, Result, Ok, Err}
use Rattle.std.specs.Option.{option_or}
use Rattle.std.specs.List.{filter_map, last_or}
use Rattle.dvc_base.specs.Path.{Path}
use Rattle.dvc_base.specs.declared.fault.Fault.{Fault}
use Rattle.dvc_base.specs.declared.fault.Fault.TheVariants.{NoRemote, Unsupported}
use Rattle.dvc_config.specs.declared.config.Remote.{Remote}
use Rattle.dvc_config.specs.declared.config.Config.{Config}
use Rattle.dvc_config.specs.Config.{Setting, remote_name, config_of}

abbrev pub url_for : List ℕ → Remote → Option (List ℕ)
url_for name remote = if bytes_eq remote.name name then Some remote.url else None

-- the last one counts
abbrev pub url_in : List Remote → List ℕ → Option (List ℕ)
url_in remotes name = last_or None (filter_map (url_for name) remotes)

-- the remote that is used
abbrev pub used : Config → Option (List ℕ) → Option (List ℕ)
used config name = option_or name config.chosen

abbrev pub url_of : Config → Option (List ℕ) → Option (List ℕ)
url_of config name = option_and_then (url_in config.remotes) (used config name)

-- ---- refusals

unfoldable pub config_path : Path
config_path = codes ".dvc" ∷ codes "config" ∷ []

abbrev pub begins : List ℕ → List ℕ → Bool
begins part text = bytes_eq (take (length part) text) part

abbrev pub has_part : List ℕ → List ℕ → Bool
has_part part [] = false
has_part part (b ∷ text) = begins part (b ∷ text) || has_part part text

-- the url of a server isn't used
abbrev pub usable_or_server : List ℕ → Result (List ℕ) Fault
usable_or_server url = if has_part (codes "://") url then Err (Unsupported config_path (codes "url")) else Ok url

abbrev pub usable : List ℕ → Option (List ℕ) → Result (List ℕ) Fault
usable name None = Err (NoRemote name)
usable name (Some url) = usable_or_server url

-- where no remote is named and none is chosen, the name is empty
abbrev pub usable_url : Config → Option (List ℕ) → Result (List ℕ) Fault
usable_url config name = usable (unwrap_or (used config name) []) (url_of config name)

-- ---- the law

abbrev pub is_name : List ℕ → Option (List ℕ) → Bool
is_name name None = false
is_name name (Some found) = bytes_eq found name

-- what a setting gives as the url of this remote
abbrev pub url_by : List ℕ → Setting → Option (List ℕ)
url_by name s = if bytes_eq s.key (codes "url") && is_name name (remote_name s.section) then Some s.value else None

abbrev pub LastUrlCounts : Type 0
LastUrlCounts = (name : List ℕ) (ss : List Setting) → url_of (config_of ss) (Some name) ≡ last_or None (filter_map (url_by name) ss)
