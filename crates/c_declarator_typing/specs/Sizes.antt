-- The integer constant expressions of declarators and enumerators (C99 6.6, 6.7.2.2, 6.7.5.2), of which the word is the
-- value modulo 2^64.
use Rattle.std.specs.Prelude.{ℕ, ◌+◌, ◌-◌, ◌^◌, ◌%◌, Bool, not, ◌&&◌, ◌||◌, ◌==◌, nat_lt, nat_le}
use Rattle.std.specs.Prelude.{if◌then◌else◌, Option, Some, None}
use Rattle.obj_memory.specs.Integers.{is_signed}
use Rattle.c_tree.specs.Tree.{Expression, kind_of}
use Rattle.c_const.specs.Integers.{constant_word, type_of}
use Rattle.c_rules.specs.Values.{Value}

-- whether a word stands for a number of at least 1
abbrev pub is_count : (has_sign : Bool) → (word : ℕ) → Bool
is_count has_sign w = not (w == 0) && (not has_sign || nat_lt w (2 ^ 63))

-- whether a word stands for a value of int
abbrev pub is_int : (has_sign : Bool) → (word : ℕ) → Bool
is_int has_sign w = nat_lt w (2 ^ 31) || (has_sign && nat_le (2 ^ 64 - 2 ^ 31) w)

abbrev pub provided : (Bool → ℕ → Bool) → (has_sign : Bool) → Option ℕ → Option ℕ
provided test has_sign None = None
provided test has_sign (Some w) = if test has_sign w then Some w else None

abbrev pub has_sign : Expression → Bool
has_sign e = is_signed (type_of (kind_of e))

abbrev pub constant_where : (Bool → ℕ → Bool) → Expression → Option ℕ
constant_where test e = provided test (has_sign e) (constant_word e)

-- the number of elements of an array
abbrev pub count_in : Value → Option ℕ
count_in v = constant_where is_count v.tree

-- the value of an enumerator
abbrev pub enumeration_value : Value → Option ℕ
enumeration_value v = constant_where is_int v.tree

-- that of the next enumerator, where int has it
abbrev pub successor : (word : ℕ) → Option ℕ
successor w = if w == 2 ^ 31 - 1 then None else Some ((w + 1) % 2 ^ 64)

abbrev pub next_value : Option ℕ → Option ℕ
next_value None = None
next_value (Some w) = successor w
