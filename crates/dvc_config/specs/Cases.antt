-- Worked cases: lines beside what they are, texts beside the config that they say, and remotes beside their urls.
use Rattle.std.specs.Prelude.{◌≡◌, ℕ, List, [], ◌∷◌, ◌++◌, codes, Some, None, Ok, Err}
use Rattle.dvc_base.specs.declared.fault.Fault.TheVariants.{NoRemote, Unsupported}
use Rattle.dvc_config.specs.declared.config.Remote.{Remote}
use Rattle.dvc_config.specs.declared.config.Config.{Config}
use Rattle.dvc_config.specs.declared.fault.ConfigFault.TheVariants.{BadConfig}
use Rattle.dvc_config.specs.Line.{lines, content, section_in, setting_in}
use Rattle.dvc_config.specs.Config.{no_config, config_read}
use Rattle.dvc_config.specs.Url.{config_path, usable_url}

pub record LineCases : Type 0 where
  pub no_text : lines [] ≡ [] ∷ []
  pub both_ends : lines (codes "a\r\n\nb\r") ≡ codes "a" ∷ [] ∷ codes "b\r" ∷ []
  pub white : content (codes " \t a  b\t ") ≡ Some (codes "a  b")
  pub not_utf8 : content (codes "#" ++ 255 ∷ []) ≡ None
  pub section : section_in (codes "[ a]]") ≡ Some (codes " a]")
  pub no_name : section_in (codes "[]") ≡ None
  pub setting : setting_in (codes "url \t=  a = b") ≡ Some (codes "url", codes "a = b")
  pub no_value : setting_in (codes "url =") ≡ Some (codes "url", [])
  pub no_key : setting_in (codes "= a") ≡ None

abbrev pub remote : List ℕ → List ℕ → Remote
remote name url = record { name = name; url = url }

abbrev pub store : Config
store = record { chosen = Some (codes "store"); remotes = remote (codes "store") (codes "/tmp/store") ∷ [] }

pub record ConfigCases : Type 0 where
  pub no_text : config_read [] ≡ Ok no_config
  pub new : config_read (codes "[core]\n    no_scm = True\n") ≡ Ok no_config
  pub one_remote : config_read (codes "[core]\n    remote = store\n['remote \"store\"']\n    url = /tmp/store\n") ≡ Ok store
  pub bare : config_read (codes "[remote \"store\"]\nurl=/tmp/store\n; a\n[core]\nremote=a\nremote=store") ≡ Ok store
  pub other_key : config_read (codes "[core]\nurl = a\n[store]\nurl = a\n['remote \"store\"']\nremote = a\n") ≡ Ok no_config
  pub no_section : config_read (codes "remote = store\n") ≡ Err (BadConfig 1)
  pub no_form : config_read (codes "[core]\n\n# a\nremote\n[]\n") ≡ Err (BadConfig 4)

abbrev pub two : Config
two = record store { remotes = remote (codes "store") (codes "/a") ∷ remote (codes "far") (codes "s3://b") ∷ remote (codes "store") (codes "/c") ∷ [] }

pub record UrlCases : Type 0 where
  pub chosen : usable_url two None ≡ Ok (codes "/c")
  pub named : usable_url two (Some (codes "store")) ≡ Ok (codes "/c")
  pub server : usable_url two (Some (codes "far")) ≡ Err (Unsupported config_path (codes "url"))
  pub unknown : usable_url two (Some (codes "near")) ≡ Err (NoRemote (codes "near"))
  pub none_chosen : usable_url no_config None ≡ Err (NoRemote [])
