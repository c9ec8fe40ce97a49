-- Integer types (C99 6.2.5) and their conversions (6.3.1). A value of an integer type is held as a word: its number
-- modulo 2 ^ 64. So a negative number has ones in all upper bits, any other zeros, and every conversion between
-- integer types is `fit` of the word to the new type, whatever the old one was.
use Rattle.std.specs.Prelude.{ℕ, Bool, true, false, nat_lt, nat_le, if◌then◌else◌}
use Rattle.obj_memory.specs.declared.int_type.IntType.{IntType}
use Rattle.obj_memory.specs.declared.int_type.IntType.TheVariants.{Char, SignedChar, UnsignedChar, Short}
use Rattle.obj_memory.specs.declared.int_type.IntType.TheVariants.{UnsignedShort, Int, UnsignedInt, Long}
use Rattle.obj_memory.specs.declared.int_type.IntType.TheVariants.{UnsignedLong, LongLong, UnsignedLongLong}
use Rattle.words.specs.TwosComplement.{low_bits, sign_extended}

-- the number of bytes (LP64)
unfoldable pub size_of : IntType → ℕ
size_of Char = 1
size_of SignedChar = 1
size_of UnsignedChar = 1
size_of Short = 2
size_of UnsignedShort = 2
size_of Int = 4
size_of UnsignedInt = 4
size_of Long = 8
size_of UnsignedLong = 8
size_of LongLong = 8
size_of UnsignedLongLong = 8

-- whether it has negative values (6.2.5 paragraphs 4 and 6), as plain char has not (paragraph 15)
unfoldable pub is_signed : IntType → Bool
is_signed Char = false
is_signed SignedChar = true
is_signed UnsignedChar = false
is_signed Short = true
is_signed UnsignedShort = false
is_signed Int = true
is_signed UnsignedInt = false
is_signed Long = true
is_signed UnsignedLong = false
is_signed LongLong = true
is_signed UnsignedLongLong = false

-- the conversion rank (6.3.1.1 paragraph 1)
unfoldable pub rank : IntType → ℕ
rank Char = 1
rank SignedChar = 1
rank UnsignedChar = 1
rank Short = 2
rank UnsignedShort = 2
rank Int = 3
rank UnsignedInt = 3
rank Long = 4
rank UnsignedLong = 4
rank LongLong = 5
rank UnsignedLongLong = 5

-- the integer promotions (6.3.1.1 paragraph 2): int holds all values of the types of lower rank
unfoldable pub promoted : IntType → IntType
promoted Char = Int
promoted SignedChar = Int
promoted UnsignedChar = Int
promoted Short = Int
promoted UnsignedShort = Int
promoted Int = Int
promoted UnsignedInt = UnsignedInt
promoted Long = Long
promoted UnsignedLong = UnsignedLong
promoted LongLong = LongLong
promoted UnsignedLongLong = UnsignedLongLong

-- the unsigned type that corresponds to a type (6.2.5 paragraph 6)
unfoldable pub unsigned_of : IntType → IntType
unsigned_of Char = UnsignedChar
unsigned_of SignedChar = UnsignedChar
unsigned_of UnsignedChar = UnsignedChar
unsigned_of Short = UnsignedShort
unsigned_of UnsignedShort = UnsignedShort
unsigned_of Int = UnsignedInt
unsigned_of UnsignedInt = UnsignedInt
unsigned_of Long = UnsignedLong
unsigned_of UnsignedLong = UnsignedLong
unsigned_of LongLong = UnsignedLongLong
unsigned_of UnsignedLongLong = UnsignedLongLong

-- the usual arithmetic conversions (6.3.1.8) of a signed and an unsigned type that are promoted: the unsigned type
-- where its rank is no less, else the signed type where it is wider and so holds all values, else the unsigned one that
-- corresponds to it
unfoldable pub mixed_type : (signed_type unsigned_type : IntType) → IntType
mixed_type s u =
    if nat_le (rank s) (rank u) then u else (if nat_lt (size_of u) (size_of s) then s else unsigned_of s)

-- the same of two types that are promoted: of one signedness, that of the greater rank
unfoldable pub balanced_type : IntType → IntType → IntType
balanced_type s t =
    if is_signed s
    then (if is_signed t then (if nat_lt (rank s) (rank t) then t else s) else mixed_type s t)
    else (if is_signed t then mixed_type t s else (if nat_lt (rank s) (rank t) then t else s))

-- the usual arithmetic conversions of any two types
unfoldable pub common_type : IntType → IntType → IntType
common_type s t = balanced_type (promoted s) (promoted t)

-- a number converted to a type (6.3.1.3): modulo 2 ^ n at n bits, and with the sign bit of a signed type copied upward
unfoldable pub fit : IntType → ℕ → ℕ
fit Char x = low_bits 8 x
fit SignedChar x = sign_extended 8 64 (low_bits 8 x)
fit UnsignedChar x = low_bits 8 x
fit Short x = sign_extended 16 64 (low_bits 16 x)
fit UnsignedShort x = low_bits 16 x
fit Int x = sign_extended 32 64 (low_bits 32 x)
fit UnsignedInt x = low_bits 32 x
fit Long x = low_bits 64 x
fit UnsignedLong x = low_bits 64 x
fit LongLong x = low_bits 64 x
fit UnsignedLongLong x = low_bits 64 x
