-- Characters by name, as their codes, and the numbers of Unicode that the rules speak of.
use Rattle.std.specs.Prelude.{ℕ}

-- ---- white space and line breaks

abbrev pub tab : ℕ
tab = 9

abbrev pub line_feed : ℕ
line_feed = 10

abbrev pub carriage_return : ℕ
carriage_return = 13

abbrev pub space : ℕ
space = 32

-- ---- signs

abbrev pub exclamation_mark : ℕ
exclamation_mark = 33

abbrev pub double_quote : ℕ
double_quote = 34

abbrev pub hash : ℕ
hash = 35

abbrev pub percent : ℕ
percent = 37

abbrev pub ampersand : ℕ
ampersand = 38

abbrev pub single_quote : ℕ
single_quote = 39

abbrev pub asterisk : ℕ
asterisk = 42

abbrev pub plus : ℕ
plus = 43

abbrev pub comma : ℕ
comma = 44

abbrev pub dash : ℕ
dash = 45

abbrev pub point : ℕ
point = 46

abbrev pub slash : ℕ
slash = 47

abbrev pub colon : ℕ
colon = 58

abbrev pub greater_than : ℕ
greater_than = 62

abbrev pub question_mark : ℕ
question_mark = 63

abbrev pub at_sign : ℕ
at_sign = 64

abbrev pub open_bracket : ℕ
open_bracket = 91

abbrev pub backslash : ℕ
backslash = 92

abbrev pub close_bracket : ℕ
close_bracket = 93

abbrev pub underscore : ℕ
underscore = 95

abbrev pub backquote : ℕ
backquote = 96

abbrev pub open_brace : ℕ
open_brace = 123

abbrev pub bar : ℕ
bar = 124

abbrev pub close_brace : ℕ
close_brace = 125

-- ---- digits and letters

abbrev pub digit_zero : ℕ
digit_zero = 48

abbrev pub digit_seven : ℕ
digit_seven = 55

abbrev pub digit_nine : ℕ
digit_nine = 57

abbrev pub capital_e : ℕ
capital_e = 69

abbrev pub capital_f : ℕ
capital_f = 70

abbrev pub capital_l : ℕ
capital_l = 76

abbrev pub capital_n : ℕ
capital_n = 78

abbrev pub capital_p : ℕ
capital_p = 80

abbrev pub capital_u : ℕ
capital_u = 85

abbrev pub small_a : ℕ
small_a = 97

abbrev pub small_b : ℕ
small_b = 98

abbrev pub small_e : ℕ
small_e = 101

abbrev pub small_f : ℕ
small_f = 102

abbrev pub small_n : ℕ
small_n = 110

abbrev pub small_o : ℕ
small_o = 111

abbrev pub small_r : ℕ
small_r = 114

abbrev pub small_t : ℕ
small_t = 116

abbrev pub small_u : ℕ
small_u = 117

abbrev pub small_v : ℕ
small_v = 118

abbrev pub small_x : ℕ
small_x = 120

-- ---- what is taken from the code of a hexadecimal digit `A` to `F`, and `a` to `f`, for its value

abbrev pub capital_offset : ℕ
capital_offset = 55

abbrev pub small_offset : ℕ
small_offset = 87

-- ---- characters that stand for no sign

abbrev pub null : ℕ
null = 0

abbrev pub bell : ℕ
bell = 7

abbrev pub backspace : ℕ
backspace = 8

abbrev pub vertical_tab : ℕ
vertical_tab = 11

abbrev pub form_feed : ℕ
form_feed = 12

abbrev pub escape_character : ℕ
escape_character = 27

abbrev pub delete : ℕ
delete = 127

abbrev pub next_line_character : ℕ
next_line_character = 133

abbrev pub no_break_space : ℕ
no_break_space = 160

abbrev pub line_separator : ℕ
line_separator = 8232

abbrev pub paragraph_separator : ℕ
paragraph_separator = 8233

abbrev pub byte_order_mark : ℕ
byte_order_mark = 65279

-- ---- Unicode: the first high and the first low surrogate, the first number behind the surrogates, the first behind 16 bits, and the
-- first behind the last character

abbrev pub first_high_surrogate : ℕ
first_high_surrogate = 55296

abbrev pub first_low_surrogate : ℕ
first_low_surrogate = 56320

abbrev pub behind_surrogates : ℕ
behind_surrogates = 57344

abbrev pub first_supplementary : ℕ
first_supplementary = 65536

abbrev pub behind_characters : ℕ
behind_characters = 1114112
