-- The type of each routine has its signature.
use Rattle.std.proofs.Common.{List, Option, refl}
use Rattle.c_tree.specs.declared.expression.Routine.{Routine}
use Rattle.c_tree.specs.declared.expression.Routine.TheVariants.{Malloc, Calloc, Free, Realloc, Memcpy, Memmove, Memset}
use Rattle.c_tree.specs.declared.expression.Routine.TheVariants.{Memcmp, Strlen, Strcmp, Strcpy, Strncpy, Strcat}
use Rattle.c_tree.specs.declared.expression.Routine.TheVariants.{Strchr, Putchar, Getchar, Puts, Exit, Abort}
use Rattle.c_tree.specs.Extents.{TypeExtent}
use Rattle.c_tree.specs.Kinds.{routine_signature}
use Rattle.c_tree.specs.Routines.{routine_words}
use Rattle.c_call_rules.specs.FineCalls.{Spells}

pub routines_spell : (structures : List (Option TypeExtent)) (r : Routine)
    → Spells structures (routine_words r) (routine_signature r)
unfolding routine_words
routines_spell structures Malloc = refl
routines_spell structures Calloc = refl
routines_spell structures Free = refl
routines_spell structures Realloc = refl
routines_spell structures Memcpy = refl
routines_spell structures Memmove = refl
routines_spell structures Memset = refl
routines_spell structures Memcmp = refl
routines_spell structures Strlen = refl
routines_spell structures Strcmp = refl
routines_spell structures Strcpy = refl
routines_spell structures Strcat = refl
routines_spell structures Strncpy = refl
routines_spell structures Strchr = refl
routines_spell structures Putchar = refl
routines_spell structures Getchar = refl
routines_spell structures Puts = refl
routines_spell structures Exit = refl
routines_spell structures Abort = refl
