use Rattle.std.proofs.Common.{refl}
use Rattle.yaml_scalars.specs.Quoted.{escape, hex_2, hex_4, hex_8, surrogate_pair}
use Rattle.yaml_scalars.specs.Lines.{margin}
use Rattle.yaml_scalars.specs.Number.{parts_of, is_wide}
use Rattle.yaml_scalars.specs.Kind.{scalar}
use Rattle.yaml_scalars.proofs.cases.worked_cases.Goals as goal

pub returns-clause-begin : goal.returns-clause-begin
returns-clause-begin c = record { letter = refl; nothing = refl; dash = refl; item = refl; dash_at_end = refl; dash_in_flow = refl; question = refl; explicit_key = refl; colon = refl; value = refl; colon_in_flow = refl; comment = refl; directive = refl; backquote = refl; tab = refl; bad_character = refl }

pub returns-clause-part : goal.returns-clause-part
returns-clause-part c = record { two_words = refl; white_at_end = refl; comment = refl; comment_behind_tab = refl; number_sign = refl; colon = refl; key = refl; key_before_tab = refl; key_at_end = refl; key_at_line_end = refl; signs = refl; comma_in_flow = refl; bracket_in_flow = refl; brace_in_flow = refl; colon_before_sign = refl; colon_before_sign_in_block = refl; bad_character = refl; two_bytes = refl }

pub returns-clause-letter : goal.returns-clause-letter
unfolding escape
returns-clause-letter c = record { null = refl; bell = refl; backspace = refl; tab = refl; line_feed = refl; vertical_tab = refl; form_feed = refl; carriage_return = refl; escape_sign = refl; space = refl; double_quote = refl; slash = refl; backslash = refl; next_line = refl; hard_space = refl; line_separator = refl; paragraph_separator = refl; single_quote = refl; other_letter = refl; nothing = refl }

pub returns-clause-number : goal.returns-clause-number
unfolding escape hex_2 hex_4 hex_8 surrogate_pair
returns-clause-number c = record { two_digits = refl; four_digits = refl; eight_digits = refl; last_character = refl; behind_the_last = refl; two_surrogates = refl; high_surrogate = refl; high_and_letter = refl; low_surrogate = refl; surrogate_in_eight = refl; one_digit = refl; no_digit = refl }

pub returns-clause-word : goal.returns-clause-word
unfolding scalar parts_of
returns-clause-word c = record { nothing = refl; tilde = refl; null = refl; null_title = refl; null_upper = refl; null_mixed = refl; true_lower = refl; true_title = refl; true_upper = refl; true_mixed = refl; false_lower = refl; false_title = refl; false_upper = refl; yes = refl }

pub returns-clause-whole : goal.returns-clause-whole
unfolding scalar parts_of
returns-clause-whole c = record { zero = refl; two_zeros = refl; below_zero = refl; plus = refl; minus = refl; octal = refl; hexadecimal = refl; no_octal_digit = refl; no_digits = refl; minus_hexadecimal = refl; binary = refl; underscore = refl; sign_alone = refl; most = refl; past_most = refl; least = refl; past_least = refl; wide_hexadecimal = refl }

pub returns-clause-decimal : goal.returns-clause-decimal
unfolding scalar parts_of is_wide
returns-clause-decimal c = record { point = refl; no_whole_part = refl; no_fraction = refl; no_fraction_before_exponent = refl; point_alone = refl; exponent = refl; exponent_alone = refl; no_exponent = refl; infinity = refl; most_digits = refl; wide_digits = refl; zeros_at_both_ends = refl; longest_exponent = refl; wide_exponent = refl; wide_canonical_exponent = refl }

pub returns-clause-margin : goal.returns-clause-margin
unfolding margin
returns-clause-margin c = record { first_filled = refl; tab = refl; spaces_alone = refl; at_the_root = refl; less_indented = refl; no_line = refl }
