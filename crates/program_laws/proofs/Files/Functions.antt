-- The types of functions of a typed program.
use Rattle.std.proofs.Common.{◌≡◌, ◌⊎◌, inl, inr, ℕ, Bool, true, false, ◌&&◌, ◌||◌, refl, ap, ◌∙◌, subst, List, []}
use Rattle.std.proofs.Common.{◌∷◌, map, Option}
use Rattle.std.proofs.lemmas.Bool.{and_from}
use Rattle.std.specs.Prelude.{Ok, Err, not, codes}
use Rattle.std.specs.List.{list_all, list_any}
use Rattle.obj_memory.specs.declared.int_type.IntType.TheVariants.{UnsignedLong}
use Rattle.c_syntax.specs.Statements as t
use Rattle.c_tree.specs.declared.c_type.TypeWord.{TypeWord}
use Rattle.c_tree.specs.declared.c_type.TypeWord.TheVariants.{Integer}
use Rattle.c_tree.specs.declared.expression.Routine.{Routine}
use Rattle.c_tree.specs.Arrays.{is_sized}
use Rattle.c_tree.specs.Programs.{Program}
use Rattle.c_tree.specs.TypesAgree.{agrees, same_words}
use Rattle.c_tree.specs.ValidProgram.{are_all_different, is_function_type}
use Rattle.c_tree.specs.Routines.{routine_words}
use Rattle.c_facts.specs.Facts.{facts_in}
use Rattle.c_faults.specs.Answer.{Answer}
use Rattle.c_scope.specs.declared.meaning.Designated.TheVariants.{Library}
use Rattle.c_scope.specs.declared.meaning.LibraryFunction.{LibraryFunction}
use Rattle.c_scope.specs.declared.meaning.LibraryFunction.TheVariants as library
use Rattle.c_scope.specs.declared.meaning.Meaning.TheVariants.{Named, Typedef}
use Rattle.c_scope.specs.Environment.{Environment, Facts}
use Rattle.c_scope.specs.Library.{name_of, routines}
use Rattle.c_scope.specs.Names.{Name}
use Rattle.c_scope.specs.Start.{empty, start, with_library, with_routine, with_routines}
use Rattle.c_typing_state.specs.State.{extents}
use Rattle.c_unit_typing.specs.Files.{File}
use Rattle.c_unit_typing.specs.Programs.{function_type, parameter_kinds, program_of, result_kind}
use Rattle.c_unit_typing.specs.Units.{externals, file_before, file_with}
use Rattle.typing_laws.specs.Validity.Steps.{Structures}
use Rattle.typing_laws.specs.SpelledTypes.Spelled.{IsFunctionType}
use Rattle.typing_laws.proofs.SpelledTypes.Words.{spelled_sized}
use Rattle.typing_laws.specs.Scopes.Regular.{are_regular_externals}
use Rattle.typing_laws.proofs.Scopes.Start.{file_formed}
use Rattle.typing_laws.specs.Types.Typed.{Each, HaveTypes, IsEntity, IsNamed, IsSpelled, Types}
use Rattle.typing_laws.specs.Types.Typed.{are_different}
use Rattle.typing_laws.proofs.Types.Calls.{routine_spelled}
use Rattle.typing_laws.proofs.Types.Kept.{each_bound}
use Rattle.typing_laws.specs.Scopes.Defined.{define_functions}
use Rattle.program_laws.specs.Files.Functions.{AreFunctionTypes}
use Rattle.program_laws.proofs.Files.Definitions.{externals_typed}
use Rattle.program_laws.proofs.Files.Ends.{answer, behind_all, same_ok}
use Rattle.program_laws.proofs.Files.FunctionWords.{function_agrees}
use Rattle.program_laws.proofs.Files.Spelled.{IfTypes}

-- the start

abbrev pub Start : Environment → Type 0
Start env = HaveTypes env.structures.extents env.names env.structures.bodies env.entities []

library_types : (env : Environment) → Start env → (name : Name) (f : LibraryFunction) (type : List TypeWord)
    → (type ≡ []) ⊎ IsSpelled env.structures.extents type → Start (with_library name f type env)
library_types env h name f type is = record {
  outer = h.outer;
  current = each_bound (IsNamed env.structures.extents) name (Named (Library f) type) env.names.current is h.current;
  members = h.members;
  entities = each_bound (IsEntity env.structures.extents) name
      (record { what = Library f; c_type = type; is_defined = true; is_tentative = false }) env.entities is h.entities;
  functions = h.functions;
  different = h.different;
}

routines_types : (rs : List Routine) (env : Environment) → Start env → Start (with_routines rs env)
routines_types [] env h = h
routines_types (r ∷ rs) env h =
    routines_types rs (with_routine r env)
    (library_types env h (name_of r) (library.Routine r) (routine_words r)
    (inr (routine_spelled env.structures.extents r)))

pub start_types : (facts : Facts) → Start (start facts)
unfolding start
start_types facts =
    let empty_types : Start (empty facts) =
    record { outer = tt; current = tt; members = tt; entities = tt; functions = tt; different = refl } in
    let before = with_library (codes "printf") library.Printf [] (with_routines routines (empty facts)) in
    let h = library_types (with_routines routines (empty facts)) (routines_types routines (empty facts) empty_types)
    (codes "printf") library.Printf [] (inl refl) in
    record {
      outer = h.outer;
      current = each_bound (IsNamed before.structures.extents) (codes "size_t") (Typedef (Integer UnsignedLong ∷ []))
          before.names.current refl h.current;
      members = h.members;
      entities = h.entities;
      functions = h.functions;
      different = h.different;
    }

-- the end

if_ended : (g : File) (a : Answer (File × Unit {0})) → IfTypes a → a ≡ answer (g, tt) → Types g.state
if_ended g (Ok r) h e = subst (λ z. Types z.state) (ap (λ z. z.0) (same_ok r (g, tt) e)) h
if_ended g (Err x) h e = absurd cc

pub types_end : (objects : Option (List (List Bool))) (end : ℕ) (es : List t.External) (f : File)
    → are_regular_externals es ≡ true → define_functions es ≡ true → file_with objects end es ≡ Ok f → Types f.state
types_end objects end es f c d is =
    let before = file_before objects (facts_in es) in
    behind_all (λ g. Types g.state) f end (externals es before)
    (λ g e h. if_ended g (externals es before)
    (externals_typed es c d before (file_formed objects (facts_in es)) (start_types (facts_in es))) e) is

-- the program

all_valid : (program : Program) (es : Structures) → program.structures ≡ es → (types : List (List TypeWord))
    → Each (IsFunctionType es) types → list_all (is_function_type program) (map (function_type es) types) ≡ true
all_valid program es same [] h = refl
all_valid program es same (type ∷ types) h =
    let parameters = parameter_kinds es 0 type in
    let result = result_kind es type in
    and_from (is_function_type program (function_type es type))
    (list_all (is_function_type program) (map (function_type es) types))
    (ap (λ z. is_sized z type && agrees z type parameters result) same
    ∙ and_from (is_sized es type) (agrees es type parameters result) (spelled_sized es 1 type h.0.spelled)
    (function_agrees es type h.0))
    (all_valid program es same types h.1)

any_same : (es : Structures) (type : List TypeWord) (types : List (List TypeWord))
    → list_any (λ u. same_words type u.c_type) (map (function_type es) types)
    ≡ list_any (λ u. same_words type u) types
any_same es type [] = refl
any_same es type (u ∷ types) = ap (λ b. same_words type u || b) (any_same es type types)

all_different : (es : Structures) (types : List (List TypeWord))
    → are_all_different (map (function_type es) types) ≡ are_different types
all_different es [] = refl
all_different es (type ∷ types) =
    ap (λ b. not b && are_all_different (map (function_type es) types)) (any_same es type types)
    ∙ ap (λ b. not (list_any (λ u. same_words type u) types) && b) (all_different es types)

pub function_types_end : (objects : Option (List (List Bool))) (end : ℕ) (es : List t.External) (f : File)
    → are_regular_externals es ≡ true → define_functions es ≡ true → file_with objects end es ≡ Ok f
    → AreFunctionTypes f
function_types_end objects end es f c d is =
    let types = types_end objects end es f c d is in
    record {
      valid = all_valid (program_of f) (extents f.state) refl f.state.function_types types.functions;
      different = all_different (extents f.state) f.state.function_types ∙ types.different;
    }
