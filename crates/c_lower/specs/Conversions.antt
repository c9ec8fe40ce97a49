-- Conversions that leave each value as it is, so that no instruction stands for them.
use Rattle.std.specs.Prelude.{Bool, true, false, ◌&&◌, ◌||◌, ◌==◌, nat_le, nat_lt, if◌then◌else◌}
use Rattle.obj_memory.specs.declared.int_type.IntType.{IntType}
use Rattle.obj_memory.specs.declared.value.Scalar.TheVariants.{Integer, Pointer}
use Rattle.obj_memory.specs.Integers.{size_of, is_signed}
use Rattle.c_tree.specs.declared.expression.Kind.{Kind}
use Rattle.c_tree.specs.declared.expression.Kind.TheVariants.{Scalar as OfScalar}

-- Whether each word of an integer type is one of another (C99 6.3.1.3): of one of 64 bits any is; else that has as many
-- bits at least, and negative values if the first has; where only the second has them, it has more bits.
unfoldable pub keeps_words : (from to : IntType) → Bool
keeps_words s t =
    size_of t == 8
    || (if is_signed s then is_signed t && nat_le (size_of s) (size_of t)
    else (if is_signed t then nat_lt (size_of s) (size_of t) else nat_le (size_of s) (size_of t)))

-- whether a conversion leaves each value of a kind as it is; a pointer converted to one of another type is the same
-- (6.3.2.3)
abbrev pub keeps : (from to : Kind) → Bool
keeps (OfScalar (Integer s)) (OfScalar (Integer t)) = keeps_words s t
keeps (OfScalar Pointer) (OfScalar Pointer) = true
keeps _ _ = false
