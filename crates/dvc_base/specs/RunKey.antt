-- Keys of run records: 64 lower-case hexadecimal digits.
use Rattle.std.specs.Prelude.{ℕ, Bool, ◌&&◌, List, length, Option, Some, None, ◌==◌, if◌then◌else◌}
use Rattle.std.specs.List.{list_all}
use Rattle.dvc_base.specs.Name.{is_digit}

pub record RunKey : Type 0 where
  pub digits : List ℕ

abbrev pub are_key_digits : List ℕ → Bool
are_key_digits text = (length text == 64) && list_all is_digit text

-- the key of these digits, if they are some
abbrev pub key_in : List ℕ → Option RunKey
key_in text = if are_key_digits text then Some (record { digits = text }) else None
