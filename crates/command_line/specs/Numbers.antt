-- Numbers in words.
use Rattle.std.specs.Prelude.{ℕ, ◌^◌, ◌==◌, ◌&&◌, Bool, not, List, Option, Some, None}
use Rattle.std.specs.Prelude.{length, slice_index, nat_lt, if◌then◌else◌}
use Rattle.std.specs.Str.{all_ascii_digits}
use Rattle.std.specs.Str.Parse.{digits_value}

-- more follows a first digit 0 (48)
abbrev pub has_leading_zero : List ℕ → Bool
has_leading_zero text = nat_lt 1 (length text) && slice_index text 0 == 48

-- the text is decimal digits, one at least, and writes a number in the one way
abbrev pub is_decimal : List ℕ → Bool
is_decimal text =
    nat_lt 0 (length text) && (all_ascii_digits text && not (has_leading_zero text))

-- the number that the text writes, where it is below 2 ^ 64
unfoldable pub number_in : List ℕ → Option ℕ
number_in text = if is_decimal text && nat_lt (digits_value 10 text) (2 ^ 64)
    then Some (digits_value 10 text) else None
