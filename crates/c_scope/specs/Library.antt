-- The names of the routines of the library (C99 7.19 to 7.21).
use Rattle.std.specs.Prelude.{ℕ, List, [], ◌∷◌, codes}
use Rattle.c_tree.specs.declared.expression.Routine.{Routine}
use Rattle.c_tree.specs.declared.expression.Routine.TheVariants as routine

abbrev pub name_of : Routine → List ℕ
name_of routine.Malloc = codes "malloc"
name_of routine.Calloc = codes "calloc"
name_of routine.Free = codes "free"
name_of routine.Realloc = codes "realloc"
name_of routine.Memcpy = codes "memcpy"
name_of routine.Memmove = codes "memmove"
name_of routine.Memset = codes "memset"
name_of routine.Memcmp = codes "memcmp"
name_of routine.Strlen = codes "strlen"
name_of routine.Strcmp = codes "strcmp"
name_of routine.Strcpy = codes "strcpy"
name_of routine.Strncpy = codes "strncpy"
name_of routine.Strcat = codes "strcat"
name_of routine.Strchr = codes "strchr"
name_of routine.Putchar = codes "putchar"
name_of routine.Getchar = codes "getchar"
name_of routine.Puts = codes "puts"
name_of routine.Exit = codes "exit"
name_of routine.Abort = codes "abort"

abbrev pub routines : List Routine
routines =
    routine.Malloc ∷ routine.Calloc ∷ routine.Free ∷ routine.Realloc ∷ routine.Memcpy ∷
    routine.Memmove ∷ routine.Memset ∷ routine.Memcmp ∷ routine.Strlen ∷ routine.Strcmp ∷
    routine.Strcpy ∷ routine.Strncpy ∷ routine.Strcat ∷ routine.Strchr ∷ routine.Putchar ∷
    routine.Getchar ∷ routine.Puts ∷ routine.Exit ∷ routine.Abort ∷ []
