-- Worked cases of what the rules of scalars take as given, as YAML 1.2 has them.
use Rattle.std.specs.Prelude.{◌≡◌, ℕ, ◌-◌, ◌^◌, ℤ, pos, negsuc, true, false, [], ◌∷◌, ◌++◌, codes, Some, None, Ok, Err}
use Rattle.dvc_base.specs.declared.node.Node.TheVariants as nd
use Rattle.yaml_text.specs.declared.refusal.Refusal.TheVariants.{TooWide}
use Rattle.yaml_text.specs.Outcome.{Text}
use Rattle.yaml_scalars.specs.Plain.{begins_plain, plain_len}
use Rattle.yaml_scalars.specs.Quoted.{escape}
use Rattle.yaml_scalars.specs.Lines.{margin}
use Rattle.yaml_scalars.specs.Kind.{scalar}

-- where a plain scalar begins (7.3.3)
pub record BeginCases : Type 0 where
  pub letter : begins_plain false (codes "a") ≡ true
  pub nothing : begins_plain false [] ≡ false
  pub dash : begins_plain false (codes "-a") ≡ true
  pub item : begins_plain false (codes "- a") ≡ false
  pub dash_at_end : begins_plain false (codes "-\n") ≡ false
  pub dash_in_flow : begins_plain true (codes "-]") ≡ true
  pub question : begins_plain false (codes "?a") ≡ true
  pub explicit_key : begins_plain false (codes "? a") ≡ false
  pub colon : begins_plain false (codes ":a") ≡ true
  pub value : begins_plain false (codes ": a") ≡ false
  pub colon_in_flow : begins_plain true (codes ":]") ≡ false
  pub comment : begins_plain false (codes "#a") ≡ false
  pub directive : begins_plain false (codes "%a") ≡ false
  pub backquote : begins_plain false (codes "`a") ≡ false
  pub tab : begins_plain false (codes "\ta") ≡ false
  pub bad_character : begins_plain false (1 ∷ codes "a") ≡ false

-- how long its part on this line is (7.3.3)
pub record PartCases : Type 0 where
  pub two_words : plain_len false false (codes "a b") ≡ 3
  pub white_at_end : plain_len false false (codes "a \t\nb") ≡ 1
  pub comment : plain_len false false (codes "a #b") ≡ 1
  pub comment_behind_tab : plain_len false false (codes "a\t#b") ≡ 1
  pub number_sign : plain_len false false (codes "a#b") ≡ 3
  pub colon : plain_len false false (codes "a:b") ≡ 3
  pub key : plain_len false false (codes "a: b") ≡ 1
  pub key_before_tab : plain_len false false (codes "a:\tb") ≡ 1
  pub key_at_end : plain_len false false (codes "a :") ≡ 1
  pub key_at_line_end : plain_len false false (codes "a:\nb") ≡ 1
  pub signs : plain_len false false (codes "a, [b]{c}") ≡ 9
  pub comma_in_flow : plain_len true false (codes "a , b") ≡ 1
  pub bracket_in_flow : plain_len true false (codes "ab]") ≡ 2
  pub brace_in_flow : plain_len true false (codes "ab}") ≡ 2
  pub colon_before_sign : plain_len true false (codes "a:]") ≡ 1
  pub colon_before_sign_in_block : plain_len false false (codes "a:]") ≡ 3
  pub bad_character : plain_len false false (codes "a " ++ 127 ∷ codes "b") ≡ 1
  pub two_bytes : plain_len true false (195 ∷ 169 ∷ []) ≡ 2

-- the escapes of one letter, behind the backslash (5.7)
pub record LetterCases : Type 0 where
  pub null : escape (codes "0a") ≡ Some (0, codes "a")
  pub bell : escape (codes "a") ≡ Some (7, [])
  pub backspace : escape (codes "b") ≡ Some (8, [])
  pub tab : escape (codes "t") ≡ Some (9, [])
  pub line_feed : escape (codes "n") ≡ Some (10, [])
  pub vertical_tab : escape (codes "v") ≡ Some (11, [])
  pub form_feed : escape (codes "f") ≡ Some (12, [])
  pub carriage_return : escape (codes "r") ≡ Some (13, [])
  pub escape_sign : escape (codes "e") ≡ Some (27, [])
  pub space : escape (codes " ") ≡ Some (32, [])
  pub double_quote : escape (codes "\"") ≡ Some (34, [])
  pub slash : escape (codes "/") ≡ Some (47, [])
  pub backslash : escape (codes "\\") ≡ Some (92, [])
  pub next_line : escape (codes "N") ≡ Some (133, [])
  pub hard_space : escape (codes "_") ≡ Some (160, [])
  pub line_separator : escape (codes "L") ≡ Some (8232, [])
  pub paragraph_separator : escape (codes "P") ≡ Some (8233, [])
  pub single_quote : escape (codes "'") ≡ None
  pub other_letter : escape (codes "q") ≡ None
  pub nothing : escape [] ≡ None

-- the escapes with a number (5.7)
pub record NumberCases : Type 0 where
  pub two_digits : escape (codes "xe9f") ≡ Some (233, codes "f")
  pub four_digits : escape (codes "u20AC0") ≡ Some (8364, codes "0")
  pub eight_digits : escape (codes "U0001F600") ≡ Some (128512, [])
  pub last_character : escape (codes "U0010ffff") ≡ Some (1114111, [])
  pub behind_the_last : escape (codes "U00110000") ≡ None
  pub two_surrogates : escape (codes "ud83d\\ude00a") ≡ Some (128512, codes "a")
  pub high_surrogate : escape (codes "ud83da") ≡ None
  pub high_and_letter : escape (codes "ud83d\\u0041") ≡ None
  pub low_surrogate : escape (codes "ude00") ≡ None
  pub surrogate_in_eight : escape (codes "U0000d83d\\ude00") ≡ None
  pub one_digit : escape (codes "x4") ≡ None
  pub no_digit : escape (codes "u00eg") ≡ None

-- ---- what a plain scalar stands for (10.3.2)

abbrev pub IsText : Text → Type 0
IsText t = scalar 0 t ≡ Ok (nd.Text t)

abbrev pub IsWhole : ℤ → Text → Type 0
IsWhole value t = scalar 0 t ≡ Ok (nd.Whole value t)

abbrev pub IsDecimal : Text → Type 0
IsDecimal t = scalar 0 t ≡ Ok (nd.Decimal t)

abbrev pub IsWide : Text → Type 0
IsWide t = scalar 7 t ≡ Err (TooWide 7)

pub record WordCases : Type 0 where
  pub nothing : scalar 0 [] ≡ Ok nd.Null
  pub tilde : scalar 0 (codes "~") ≡ Ok nd.Null
  pub null : scalar 0 (codes "null") ≡ Ok nd.Null
  pub null_title : scalar 0 (codes "Null") ≡ Ok nd.Null
  pub null_upper : scalar 0 (codes "NULL") ≡ Ok nd.Null
  pub null_mixed : IsText (codes "nUll")
  pub true_lower : scalar 0 (codes "true") ≡ Ok (nd.Bool true)
  pub true_title : scalar 0 (codes "True") ≡ Ok (nd.Bool true)
  pub true_upper : scalar 0 (codes "TRUE") ≡ Ok (nd.Bool true)
  pub true_mixed : IsText (codes "tRue")
  pub false_lower : scalar 0 (codes "false") ≡ Ok (nd.Bool false)
  pub false_title : scalar 0 (codes "False") ≡ Ok (nd.Bool false)
  pub false_upper : scalar 0 (codes "FALSE") ≡ Ok (nd.Bool false)
  pub yes : IsText (codes "yes")

pub record WholeCases : Type 0 where
  pub zero : IsWhole (pos 0) (codes "0")
  pub two_zeros : IsWhole (pos 0) (codes "00")
  pub below_zero : IsWhole (pos 0) (codes "-0")
  pub plus : IsWhole (pos 12) (codes "+12")
  pub minus : IsWhole (negsuc 11) (codes "-12")
  pub octal : IsWhole (pos 15) (codes "0o17")
  pub hexadecimal : IsWhole (pos 255) (codes "0xfF")
  pub no_octal_digit : IsText (codes "0o8")
  pub no_digits : IsText (codes "0x")
  pub minus_hexadecimal : IsText (codes "-0x1")
  pub binary : IsText (codes "0b1")
  pub underscore : IsText (codes "1_000")
  pub sign_alone : IsText (codes "+")
  pub most : IsWhole (pos (2 ^ 127 - 1)) (codes "170141183460469231731687303715884105727")
  pub past_most : IsWide (codes "170141183460469231731687303715884105728")
  pub least : IsWhole (negsuc (2 ^ 127 - 1)) (codes "-170141183460469231731687303715884105728")
  pub past_least : IsWide (codes "-170141183460469231731687303715884105729")
  pub wide_hexadecimal : IsWide (codes "0x80000000000000000000000000000000")

pub record DecimalCases : Type 0 where
  pub point : IsDecimal (codes "-1.50")
  pub no_whole_part : IsDecimal (codes "+.5e3")
  pub no_fraction : IsText (codes "1.")
  pub no_fraction_before_exponent : IsText (codes "1.e3")
  pub point_alone : IsText (codes ".")
  pub exponent : IsDecimal (codes "1E-3")
  pub exponent_alone : IsText (codes "e3")
  pub no_exponent : IsText (codes "1e")
  pub infinity : IsText (codes ".inf")
  pub most_digits : IsDecimal (codes "170141183460469231731687303715884105728e0")
  pub wide_digits : IsWide (codes "170141183460469231731687303715884105729e0")
  pub zeros_at_both_ends : IsDecimal (codes "0000000000000000000000000000000000000000.10000000000000000000000000000000000000000")
  pub longest_exponent : IsDecimal (codes "1e999999999999999999999999999999")
  pub wide_exponent : IsWide (codes "1e0000000000000000000000000000001")
  pub wide_canonical_exponent : IsWide (codes "10e999999999999999999999999999999")

-- how many spaces are taken from each line of a block scalar, whose lines have at least one (8.1.1.1)
pub record MarginCases : Type 0 where
  pub first_filled : margin 1 (codes "\n  a\n b\n") ≡ 2
  pub tab : margin 1 (codes " \ta\n") ≡ 1
  pub spaces_alone : margin 1 (codes "   \n a\n") ≡ 1
  pub at_the_root : margin 0 (codes "a\n") ≡ 0
  -- where the scalar has no content each line is empty, however many spaces it has
  pub less_indented : margin 1 (codes " \nab\n") ≡ 5
  pub no_line : margin 1 [] ≡ 0
