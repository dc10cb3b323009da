use Rattle.std.proofs.Common.{refl}
use Rattle.std.specs.Str.{is_utf8, chars}
use Rattle.std.specs.Str.Lossy.{utf8_valid_len}
use lib.Utf8.{encode}
use Rattle.yaml_text.specs.Source.{source, body_len, line_of}
use Rattle.yaml_text.proofs.cases.worked_cases.Goals as goal

pub returns-clause-characters : goal.returns-clause-characters
returns-clause-characters c = record {
  null = refl;
  backspace = refl;
  tab = refl;
  line_feed = refl;
  vertical_tab = refl;
  carriage_return = refl;
  unit_separator = refl;
  space = refl;
  tilde = refl;
  delete = refl;
  above_ascii = refl;
}

pub returns-clause-source : goal.returns-clause-source
unfolding source is_utf8 chars encode utf8_valid_len
returns-clause-source c = record {
  byte_order_mark = refl;
  carriage_returns = refl;
  two_returns = refl;
  two_bytes = refl;
  no_utf8 = refl;
  too_long_a_form = refl;
  surrogate = refl;
  half_a_character = refl;
}

pub returns-clause-body : goal.returns-clause-body
unfolding body_len
returns-clause-body c = record {
  no_marker = refl;
  marker = refl;
  last_of_two = refl;
  four_points = refl;
  indented = refl;
  text_behind = refl;
  bad_comment_behind = refl;
}

pub returns-clause-line : goal.returns-clause-line
unfolding line_of
returns-clause-line c = record {
  no_text = refl;
  first_byte = refl;
  line_feed = refl;
  second_line = refl;
  end = refl;
  end_behind_feed = refl;
  end_behind_blank = refl;
}
