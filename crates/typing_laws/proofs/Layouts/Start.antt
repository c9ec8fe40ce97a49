-- The state at the start of a file is laid out.
use Rattle.std.proofs.Common.{◌≡◌, Bool, true, false, refl, sym, ap, ◌∙◌, subst, List, [], ◌∷◌, Option, Some, None}
use Rattle.std.specs.Prelude.{codes}
use Rattle.obj_memory.specs.declared.int_type.IntType.TheVariants.{UnsignedLong}
use Rattle.c_tree.specs.declared.c_type.TypeWord.TheVariants.{Integer}
use Rattle.c_tree.specs.declared.expression.Routine.{Routine}
use Rattle.c_tree.specs.declared.expression.Routine.TheVariants as routine
use Rattle.c_tree.specs.Routines.{routine_words}
use Rattle.c_current_object.specs.Members.{lists_in}
use Rattle.c_scope.specs.declared.meaning.Designated.TheVariants.{Library}
use Rattle.c_scope.specs.declared.meaning.Entity.{Entity}
use Rattle.c_scope.specs.declared.meaning.LibraryFunction.TheVariants as library
use Rattle.c_scope.specs.declared.meaning.Meaning.{Meaning}
use Rattle.c_scope.specs.declared.meaning.Meaning.TheVariants.{Named, Typedef}
use Rattle.c_scope.specs.Environment.{Environment, Facts, with_name}
use Rattle.c_scope.specs.Library.{name_of, routines}
use Rattle.c_scope.specs.Names.{Name, Names, bound, declared, found, or_else}
use Rattle.c_scope.specs.Start.{empty, start, with_library, with_routine, with_routines}
use Rattle.c_scope.specs.Structures.{none}
use Rattle.c_typing_state.specs.State.{State}
use Rattle.c_unit_typing.specs.Units.{file_before}
use Rattle.typing_laws.proofs.Declarators.Tags.{bound_same}
use Rattle.typing_laws.specs.Layouts.Listed.{AreListed, HasArraysIn, HasSizes, IsLaidOut}
use Rattle.typing_laws.proofs.Layouts.Chained.{either_meaning}

-- names that stand for types whose arrays have the bytes of their elements
record IsStart (env : Environment) : Type 0 where
  outer : env.names.outer ≡ []
  names : (name : Name) (m : Meaning) → declared name env.names.current ≡ Some m → HasArraysIn [] m
  structures : env.structures ≡ none

alone : (o : Option Meaning) → or_else o None ≡ o
alone None = refl
alone (Some m) = refl

named_start : (env : Environment) → IsStart env → (name : Name) (m : Meaning) → HasArraysIn [] m
    → (entities : Names Entity) → IsStart (with_name name m (record env { entities = entities }))
named_start env h name m arrays entities = record {
  outer = h.outer;
  names = λ other x is.
      either_meaning (HasArraysIn []) (HasArraysIn []) (declared other env.names.current)
      (declared other (bound name m env.names.current)) None
      (bound_same (HasArraysIn []) name other m env.names.current arrays)
      (λ x is. h.names other x (sym (alone (declared other env.names.current)) ∙ is)) (λ x is. is) x
      (alone (declared other (bound name m env.names.current)) ∙ is);
  structures = h.structures;
}

routine_sizes : (r : Routine) → HasSizes [] (routine_words r)
unfolding routine_words
routine_sizes routine.Malloc = record { arrays = refl; sized = refl }
routine_sizes routine.Calloc = record { arrays = refl; sized = refl }
routine_sizes routine.Free = record { arrays = refl; sized = refl }
routine_sizes routine.Realloc = record { arrays = refl; sized = refl }
routine_sizes routine.Memcpy = record { arrays = refl; sized = refl }
routine_sizes routine.Memmove = record { arrays = refl; sized = refl }
routine_sizes routine.Memset = record { arrays = refl; sized = refl }
routine_sizes routine.Memcmp = record { arrays = refl; sized = refl }
routine_sizes routine.Strlen = record { arrays = refl; sized = refl }
routine_sizes routine.Strcmp = record { arrays = refl; sized = refl }
routine_sizes routine.Strcpy = record { arrays = refl; sized = refl }
routine_sizes routine.Strncpy = record { arrays = refl; sized = refl }
routine_sizes routine.Strcat = record { arrays = refl; sized = refl }
routine_sizes routine.Strchr = record { arrays = refl; sized = refl }
routine_sizes routine.Putchar = record { arrays = refl; sized = refl }
routine_sizes routine.Getchar = record { arrays = refl; sized = refl }
routine_sizes routine.Puts = record { arrays = refl; sized = refl }
routine_sizes routine.Exit = record { arrays = refl; sized = refl }
routine_sizes routine.Abort = record { arrays = refl; sized = refl }

routine_start : (env : Environment) → IsStart env → (r : Routine) → IsStart (with_routine r env)
routine_start env h r =
    named_start env h (name_of r) (Named (Library (library.Routine r)) (routine_words r)) (λ linked. routine_sizes r)
    (bound (name_of r)
    (record { what = Library (library.Routine r); c_type = routine_words r; is_defined = true; is_tentative = false })
    env.entities)

routines_start : (rs : List Routine) (env : Environment) → IsStart env → IsStart (with_routines rs env)
routines_start [] env h = h
routines_start (r ∷ rs) env h = routines_start rs (with_routine r env) (routine_start env h r)

printf_start : (env : Environment) → IsStart env → IsStart (with_library (codes "printf") library.Printf [] env)
printf_start env h =
    named_start env h (codes "printf") (Named (Library library.Printf) [])
    (λ linked. record { arrays = refl; sized = refl })
    (bound (codes "printf")
    (record { what = Library library.Printf; c_type = []; is_defined = true; is_tentative = false }) env.entities)

empty_start : (facts : Facts) → IsStart (empty facts)
empty_start facts = record { outer = refl; names = λ name m is. absurd cc; structures = refl }

start_is : (facts : Facts) → IsStart (start facts)
unfolding start
start_is facts =
    let before = with_library (codes "printf") library.Printf [] (with_routines routines (empty facts)) in
    named_start before
    (printf_start (with_routines routines (empty facts)) (routines_start routines (empty facts) (empty_start facts)))
    (codes "size_t") (Typedef (Integer UnsignedLong ∷ [])) refl before.entities

no_lists : AreListed [] (lists_in none)
no_lists = record { each = λ n l is k m at. absurd cc }

start_laid : (s : State) → IsStart s.environment → IsLaidOut s
start_laid s h = record {
  lists = subst (λ z. AreListed z.extents (lists_in z)) (sym h.structures) no_lists;
  names = λ name m is.
      subst (λ z. HasArraysIn z.extents m) (sym h.structures)
      (h.names name m (sym (alone (declared name s.environment.names.current))
      ∙ ap (λ z. or_else (declared name s.environment.names.current) (found name z)) (sym h.outer) ∙ is));
}

pub file_laid : (objects : Option (List (List Bool))) (facts : Facts) → IsLaidOut (file_before objects facts).state
file_laid objects facts = start_laid (file_before objects facts).state (start_is facts)
