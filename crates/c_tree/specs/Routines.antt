-- The types of the routines of the library (C99 7.19, 7.20, 7.21).
use Rattle.std.specs.Prelude.{List, [], ◌∷◌}
use Rattle.obj_memory.specs.declared.int_type.IntType.TheVariants.{Char, Int, UnsignedLong}
use Rattle.c_tree.specs.declared.c_type.TypeWord.{TypeWord}
use Rattle.c_tree.specs.declared.c_type.TypeWord.TheVariants as word
use Rattle.c_tree.specs.declared.expression.Routine.{Routine}
use Rattle.c_tree.specs.declared.expression.Routine.TheVariants.{Malloc, Calloc, Free, Realloc, Memcpy, Memmove, Memset}
use Rattle.c_tree.specs.declared.expression.Routine.TheVariants.{Memcmp, Strlen, Strcmp, Strcpy, Strncpy, Strcat}
use Rattle.c_tree.specs.declared.expression.Routine.TheVariants.{Strchr, Putchar, Getchar, Puts, Exit, Abort}

unfoldable pub routine_words : Routine → List TypeWord
routine_words Malloc = word.Takes ∷ word.Integer UnsignedLong ∷ word.Gives ∷ word.Pointer ∷ word.Void ∷ []
routine_words Calloc = word.Takes ∷ word.Integer UnsignedLong ∷ word.Takes ∷ word.Integer UnsignedLong
    ∷ word.Gives ∷ word.Pointer ∷ word.Void ∷ []
routine_words Free = word.Takes ∷ word.Pointer ∷ word.Void ∷ word.Gives ∷ word.Void ∷ []
routine_words Realloc = word.Takes ∷ word.Pointer ∷ word.Void ∷ word.Takes ∷ word.Integer UnsignedLong
    ∷ word.Gives ∷ word.Pointer ∷ word.Void ∷ []
routine_words Memcpy = word.Takes ∷ word.Pointer ∷ word.Void ∷ word.Takes ∷ word.Pointer ∷ word.Const ∷ word.Void
    ∷ word.Takes ∷ word.Integer UnsignedLong ∷ word.Gives ∷ word.Pointer ∷ word.Void ∷ []
routine_words Memmove = word.Takes ∷ word.Pointer ∷ word.Void ∷ word.Takes ∷ word.Pointer ∷ word.Const ∷ word.Void
    ∷ word.Takes ∷ word.Integer UnsignedLong ∷ word.Gives ∷ word.Pointer ∷ word.Void ∷ []
routine_words Memset = word.Takes ∷ word.Pointer ∷ word.Void ∷ word.Takes ∷ word.Integer Int ∷ word.Takes
    ∷ word.Integer UnsignedLong ∷ word.Gives ∷ word.Pointer ∷ word.Void ∷ []
routine_words Memcmp = word.Takes ∷ word.Pointer ∷ word.Const ∷ word.Void ∷ word.Takes ∷ word.Pointer ∷ word.Const
    ∷ word.Void ∷ word.Takes ∷ word.Integer UnsignedLong ∷ word.Gives ∷ word.Integer Int ∷ []
routine_words Strlen = word.Takes ∷ word.Pointer ∷ word.Const ∷ word.Integer Char ∷ word.Gives
    ∷ word.Integer UnsignedLong ∷ []
routine_words Strcmp = word.Takes ∷ word.Pointer ∷ word.Const ∷ word.Integer Char ∷ word.Takes ∷ word.Pointer
    ∷ word.Const ∷ word.Integer Char ∷ word.Gives ∷ word.Integer Int ∷ []
routine_words Strcpy = word.Takes ∷ word.Pointer ∷ word.Integer Char ∷ word.Takes ∷ word.Pointer ∷ word.Const
    ∷ word.Integer Char ∷ word.Gives ∷ word.Pointer ∷ word.Integer Char ∷ []
routine_words Strcat = word.Takes ∷ word.Pointer ∷ word.Integer Char ∷ word.Takes ∷ word.Pointer ∷ word.Const
    ∷ word.Integer Char ∷ word.Gives ∷ word.Pointer ∷ word.Integer Char ∷ []
routine_words Strncpy = word.Takes ∷ word.Pointer ∷ word.Integer Char ∷ word.Takes ∷ word.Pointer ∷ word.Const
    ∷ word.Integer Char ∷ word.Takes ∷ word.Integer UnsignedLong ∷ word.Gives ∷ word.Pointer ∷ word.Integer Char
    ∷ []
routine_words Strchr = word.Takes ∷ word.Pointer ∷ word.Const ∷ word.Integer Char ∷ word.Takes ∷ word.Integer Int
    ∷ word.Gives ∷ word.Pointer ∷ word.Integer Char ∷ []
routine_words Putchar = word.Takes ∷ word.Integer Int ∷ word.Gives ∷ word.Integer Int ∷ []
routine_words Getchar = word.Gives ∷ word.Integer Int ∷ []
routine_words Puts = word.Takes ∷ word.Pointer ∷ word.Const ∷ word.Integer Char ∷ word.Gives ∷ word.Integer Int ∷ []
routine_words Exit = word.Takes ∷ word.Integer Int ∷ word.Gives ∷ word.Void ∷ []
routine_words Abort = word.Gives ∷ word.Void ∷ []
