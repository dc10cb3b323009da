-- Worked cases of what the rules take as given, as YAML 1.2 has them.
use Rattle.std.specs.Prelude.{◌≡◌, Bool, true, false, [], ◌∷◌, ◌++◌, codes}
use Rattle.yaml_text.specs.Line.{is_bad}
use Rattle.yaml_text.specs.Source.{source, body_len, line_of}

-- the characters on both sides of each edge (5.1)
pub record CharacterCases : Type 0 where
  pub null : is_bad 0 ≡ true
  pub backspace : is_bad 8 ≡ true
  pub tab : is_bad 9 ≡ false
  pub line_feed : is_bad 10 ≡ false
  pub vertical_tab : is_bad 11 ≡ true
  pub carriage_return : is_bad 13 ≡ true
  pub unit_separator : is_bad 31 ≡ true
  pub space : is_bad 32 ≡ false
  pub tilde : is_bad 126 ≡ false
  pub delete : is_bad 127 ≡ true
  pub above_ascii : is_bad 128 ≡ false

-- the text of some bytes (5.2, 5.4)
pub record SourceCases : Type 0 where
  pub byte_order_mark : source (239 ∷ 187 ∷ 191 ∷ codes "a") ≡ codes "a"
  pub carriage_returns : source (codes "a\r\nb\rc\r") ≡ codes "a\nb\rc\r"
  pub two_returns : source (codes "\r\r\n") ≡ codes "\r\n"
  pub two_bytes : source (195 ∷ 169 ∷ []) ≡ 195 ∷ 169 ∷ []
  pub no_utf8 : source (codes "a\n" ++ 255 ∷ codes "b\r\n") ≡ codes "a\n" ++ 0 ∷ 255 ∷ codes "b\n"
  pub too_long_a_form : source (192 ∷ 128 ∷ []) ≡ 0 ∷ 192 ∷ 128 ∷ []
  pub surrogate : source (237 ∷ 160 ∷ 128 ∷ []) ≡ 0 ∷ 237 ∷ 160 ∷ 128 ∷ []
  pub half_a_character : source (codes "a" ++ 195 ∷ []) ≡ codes "a" ++ 0 ∷ 195 ∷ []

-- where the last line `...` is (9.1.2)
pub record BodyCases : Type 0 where
  pub no_marker : body_len (codes "a\nb\n") ≡ 4
  pub marker : body_len (codes "a\n...\n") ≡ 2
  pub last_of_two : body_len (codes "a\n...\nb\n... # end\n\n# c\n") ≡ 8
  pub four_points : body_len (codes "a\n....\n") ≡ 7
  pub indented : body_len (codes "a\n ...\n") ≡ 7
  pub text_behind : body_len (codes "...\na") ≡ 5
  pub bad_comment_behind : body_len (codes "a\n...\n# " ++ 0 ∷ 255 ∷ codes "\n\n") ≡ 2

-- the line on which a refusal shows. A line feed is the last byte of its line, and at the text's end it begins no new one.
pub record LineCases : Type 0 where
  pub no_text : line_of [] 0 ≡ 1
  pub first_byte : line_of (codes "a\nb") 3 ≡ 1
  pub line_feed : line_of (codes "a\nb") 2 ≡ 1
  pub second_line : line_of (codes "a\nb") 1 ≡ 2
  pub end : line_of (codes "a\nb") 0 ≡ 2
  pub end_behind_feed : line_of (codes "a\nb\n") 0 ≡ 2
  pub end_behind_blank : line_of (codes "a\n\n\n") 0 ≡ 3
