use Rattle.std.proofs.Common.{refl}
use Rattle.std.specs.Str.{is_utf8, chars}
use lib.Utf8.{encode}
use Rattle.dvc_config.specs.Line.{lines, section_in, setting_in}
use Rattle.dvc_config.specs.Config.{bad_line, settings, remote_name, config_read}
use Rattle.dvc_config.proofs.cases.worked_cases.Goals as goal

pub returns-clause-line : goal.returns-clause-line
unfolding lines section_in setting_in is_utf8 chars encode
returns-clause-line c = record {
  no_text = refl;
  both_ends = refl;
  white = refl;
  not_utf8 = refl;
  section = refl;
  no_name = refl;
  setting = refl;
  no_value = refl;
  no_key = refl;
}

pub returns-clause-config : goal.returns-clause-config
unfolding lines section_in setting_in is_utf8 chars encode bad_line settings remote_name config_read
returns-clause-config c = record {
  no_text = refl;
  new = refl;
  one_remote = refl;
  bare = refl;
  other_key = refl;
  no_section = refl;
  no_form = refl;
}

pub returns-clause-url : goal.returns-clause-url
returns-clause-url c = record {
  chosen = refl;
  named = refl;
  server = refl;
  unknown = refl;
  none_chosen = refl;
}
