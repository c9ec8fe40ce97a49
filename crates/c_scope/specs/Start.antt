-- What stands for names at the start of a file: the library's functions, which are declared before the first token, and
-- size_t (C99 7.17, 7.19 to 7.21).
use Rattle.std.specs.Prelude.{true, false, List, [], ◌∷◌, codes}
use Rattle.obj_memory.specs.declared.int_type.IntType.TheVariants.{UnsignedLong}
use Rattle.c_tree.specs.declared.c_type.TypeWord.{TypeWord}
use Rattle.c_tree.specs.declared.c_type.TypeWord.TheVariants.{Integer}
use Rattle.c_tree.specs.declared.expression.Routine.{Routine}
use Rattle.c_scope.specs.declared.meaning.Designated.TheVariants.{Library}
use Rattle.c_scope.specs.declared.meaning.LibraryFunction.{LibraryFunction}
use Rattle.c_scope.specs.declared.meaning.LibraryFunction.TheVariants as library
use Rattle.c_scope.specs.declared.meaning.Meaning.TheVariants.{Named, Typedef}
use Rattle.c_scope.specs.Environment.{Environment, Facts, with_name}
use Rattle.c_tree.specs.Routines.{routine_words}
use Rattle.c_scope.specs.Library.{name_of, routines}
use Rattle.c_scope.specs.Names.{Name, bound}
use Rattle.c_scope.specs.Structures.{none}

abbrev pub empty : Facts → Environment
empty facts = record {
  names = record { outer = []; current = [] };
  tags = record { outer = []; current = [] };
  structures = none;
  enumerations = [];
  entities = [];
  statics = 0;
  variables = 0;
  facts = facts;
}

-- a function of the library has linkage, and is defined
abbrev pub with_library : Name → LibraryFunction → List TypeWord → Environment → Environment
with_library name function type env =
    with_name name (Named (Library function) type) (record env {
      entities = bound name
          (record { what = Library function; c_type = type; is_defined = true; is_tentative = false }) env.entities;
    })

abbrev pub with_routine : Routine → Environment → Environment
with_routine r env = with_library (name_of r) (library.Routine r) (routine_words r) env

abbrev pub with_routines : List Routine → Environment → Environment
with_routines [] env = env
with_routines (r ∷ rs) env = with_routines rs (with_routine r env)

abbrev pub with_size_type : Environment → Environment
with_size_type env = with_name (codes "size_t") (Typedef (Integer UnsignedLong ∷ [])) env

-- No declaration of the subset can say that further arguments follow (6.7.5.3 paragraph 9), so that none is compatible
-- with the type of `printf`, which stands here without words.
unfoldable pub start : Facts → Environment
start facts =
    with_size_type (with_library (codes "printf") library.Printf [] (with_routines routines (empty facts)))
