-- The config that a text says, or the first line that can't be read.
--     bad_line lines         the number of the first line that can't be read: it has no form of a line, or is a setting before
--                            the first section
--     settings lines         the settings in written order, each with the name of the section that it stands in
--     config_of settings     what they say. The last setting of the chosen remote counts. Each url of a remote is kept, and
--                            the last one of a name counts where it is looked for
--     config_read text       the config, or the first line that can't be read
use Rattle.std.specs.Prelude.{ℕ, ◌+◌, Bool, false, ◌&&◌, ◌||◌, if◌then◌else◌, List, [], ◌∷◌, ◌++◌, codes, bytes_eq, Option, Some, None, option_and_then, option_map, unwrap_or, is_some, Result, Ok, Err}
use Rattle.std.specs.Option.{option_or}
use Rattle.std.specs.List.{cons_option, filter_map, last_or}
use Rattle.dvc_config.specs.declared.config.Remote.{Remote}
use Rattle.dvc_config.specs.declared.config.Config.{Config}
use Rattle.dvc_config.specs.declared.fault.ConfigFault.{ConfigFault}
use Rattle.dvc_config.specs.declared.fault.ConfigFault.TheVariants.{BadConfig}
use Rattle.dvc_config.specs.Line.{lines, content, is_passed, section_in, setting_in, between}

-- ---- lines that can't be read

-- `inside` tells that a section has begun
abbrev pub has_form : Bool → List ℕ → Bool
has_form inside t = is_passed t || is_some (section_in t) || (inside && is_some (setting_in t))

abbrev pub is_readable : Bool → Option (List ℕ) → Bool
is_readable inside None = false
is_readable inside (Some t) = has_form inside t

-- the name of the section that begins with the line
abbrev pub begun : List ℕ → Option (List ℕ)
begun line = option_and_then section_in (content line)

-- of lines of which the first has the number n
abbrev pub bad_from : Bool → ℕ → List (List ℕ) → Option ℕ
bad_from inside n [] = None
bad_from inside n (line ∷ ls) = if is_readable inside (content line) then bad_from (inside || is_some (begun line)) (n + 1) ls else Some n

unfoldable pub bad_line : List (List ℕ) → Option ℕ
bad_line ls = bad_from false 1 ls

-- ---- settings

pub record Setting : Type 0 where
  pub section : List ℕ
  pub key : List ℕ
  pub value : List ℕ

abbrev pub setting_with : List ℕ → List ℕ × List ℕ → Setting
setting_with section pair = record { section = section; key = pair.0; value = pair.1 }

-- what is neither passed over nor a section is a setting
abbrev pub setting_at : List ℕ → List ℕ → Option Setting
setting_at section t = if is_passed t || is_some (section_in t) then None else option_map (setting_with section) (setting_in t)

abbrev pub setting_of : List ℕ → List ℕ → Option Setting
setting_of section line = option_and_then (setting_at section) (content line)

-- of lines of which the first stands in this section
abbrev pub settings_from : List ℕ → List (List ℕ) → List Setting
settings_from section [] = []
settings_from section (line ∷ ls) = cons_option (setting_of section line) (settings_from (unwrap_or (begun line) section) ls)

unfoldable pub settings : List (List ℕ) → List Setting
settings ls = settings_from [] ls

-- ---- what settings say

abbrev pub chosen_by : Setting → Option (List ℕ)
chosen_by s = if bytes_eq s.section (codes "core") && bytes_eq s.key (codes "remote") then Some s.value else None

-- the name of the remote whose section this is
unfoldable pub remote_name : List ℕ → Option (List ℕ)
remote_name section = option_or (between (codes "'remote \"") (codes "\"'") section) (between (codes "remote \"") (codes "\"") section)

abbrev pub remote_with : List ℕ → List ℕ → Remote
remote_with url name = record { name = name; url = url }

abbrev pub remote_by : Setting → Option Remote
remote_by s = if bytes_eq s.key (codes "url") then option_map (remote_with s.value) (remote_name s.section) else None

-- what was said before them comes first
abbrev pub with_settings : Config → List Setting → Config
with_settings config ss = record {
  chosen = last_or config.chosen (filter_map chosen_by ss);
  remotes = config.remotes ++ filter_map remote_by ss;
}

abbrev pub with_setting : Config → Setting → Config
with_setting config s = with_settings config (s ∷ [])

-- a line may have none
abbrev pub taken : Config → Option Setting → Config
taken config None = config
taken config (Some s) = with_setting config s

abbrev pub no_config : Config
no_config = record { chosen = None; remotes = [] }

abbrev pub config_of : List Setting → Config
config_of ss = with_settings no_config ss

-- ---- a text

abbrev pub config_unless : Option ℕ → Config → Result Config ConfigFault
config_unless None config = Ok config
config_unless (Some line) config = Err (BadConfig line)

unfoldable pub config_read : List ℕ → Result Config ConfigFault
config_read text = config_unless (bad_line (lines text)) (config_of (settings (lines text)))
