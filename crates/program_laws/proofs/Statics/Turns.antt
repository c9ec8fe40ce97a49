-- The definitions of a file that is accepted have their functions in its program, in turn (C99 6.9.1).
use Rattle.std.proofs.Common.{◌≡◌, ℕ, zero, suc, ◌+◌, Bool, true, refl, ap, ◌∙◌, subst, List, [], ◌∷◌, length, Option}
use Rattle.std.proofs.Common.{Some, arith}
use Rattle.std.specs.Prelude.{Ok, slice_get}
use Rattle.std.proofs.lemmas.Bool.{lt-ltb}
use Rattle.c_syntax.specs.Statements as t
use Rattle.c_tree.specs.declared.expression.Kind.TheVariants as kind
use Rattle.c_tree.specs.Blocks.{all_of}
use Rattle.c_tree.specs.Programs.{Function, StaticObject}
use Rattle.c_tree.specs.Valid.{Scope, has_number}
use Rattle.c_tree.specs.ValidProgram.{function_scope, scope_in, variables_of_function}
use Rattle.c_typing_state.specs.State.{extents}
use Rattle.c_unit_typing.specs.Files.{Definition, File}
use Rattle.c_unit_typing.specs.Programs.{function_of, functions_from, program_of, room_of, static_objects}
use Rattle.c_unit_typing.specs.Units.{file_with}
use Rattle.typing_laws.proofs.Validity.Common.{no_value, the_same}
use Rattle.typing_laws.specs.Scopes.Defined.{define_functions}
use Rattle.typing_laws.specs.Scopes.Regular.{are_regular_externals}
use Rattle.program_laws.proofs.Files.Statics.{get_low}
use Rattle.program_laws.specs.Bodies.Defined.{IsScopeOf}
use Rattle.program_laws.specs.Bodies.Whole.{AreInTurn}
use Rattle.program_laws.specs.Names.Known.{IsKnown}
use Rattle.program_laws.specs.Names.Linked.{HaveSizes}
use Rattle.program_laws.proofs.Names.Files.{BeginsAt, StandAt, file_known}
use Rattle.program_laws.proofs.Names.Has.{program_has}
use Rattle.program_laws.proofs.Programs.Functions.{scope_is}
use Rattle.program_laws.specs.Statics.Defining.{HasFunctions}
use Rattle.program_laws.specs.Statics.Program.{AreFunctionsOf, IsFunctionOf}

-- the function of a place

record HasFunctionAt (f : File) (gs : List Function) (k : ℕ) (d : Definition) : Type 0 where
  size : ℕ
  is : slice_get gs k ≡ Some (function_of f.state.function_types size d)

function_at : (f : File) (os : List StaticObject) (n : ℕ) (ds : List Definition) (k : ℕ) (d : Definition)
    → slice_get ds k ≡ Some d → HasFunctionAt f (functions_from f os n ds) k d
function_at f os n [] k d e = no_value d _ e
function_at f os n (x ∷ ds) zero d e = record {
  size = room_of f os n x;
  is = ap (λ z. Some (function_of f.state.function_types (room_of f os n x) z)) (the_same e);
}
function_at f os n (x ∷ ds) (suc k) d e =
    let h = function_at f os (suc n) ds k d e in record { size = h.size; is = h.is }

variables_at : (gs : List Function) (k : ℕ) (g : Function) → slice_get gs k ≡ Some g
    → variables_of_function gs (Some k) ≡ all_of g
variables_at [] k g e = no_value g _ e
variables_at (x ∷ gs) zero g e = ap all_of (the_same e)
variables_at (x ∷ gs) (suc k) g e = variables_at gs k g e

-- the program of a file that is accepted
module _ (objects : Option (List (List Bool))) (end : ℕ) (es : List t.External) (f : File)
    (regular : are_regular_externals es ≡ true) (defined : define_functions es ≡ true)
    (is : file_with objects end es ≡ Ok f) (sized : HaveSizes f) where
  module _ (place : ℕ) (d : Definition) (there : slice_get f.definitions place ≡ Some d)
      (before : List (ℕ × StaticObject)) (h : BeginsAt f place d before) where
    abbrev known : IsKnown f d
    known = record { definition = h.begins.is; filled = h.filled; members = h.members }

    own : HasFunctionAt f (program_of f).functions place d
    own = function_at f (static_objects f) 0 f.definitions place d there

    abbrev function : Function
    function = function_of f.state.function_types own.size d

    abbrev scope : Scope
    scope = function_scope (program_of f) function

    function_is : IsScopeOf scope (extents f.state) function known.definition.before known.definition.behind
        known.definition.defines
    function_is = scope_is objects end es f regular defined is sized place function own.is d own.size refl known

    has_function : IsFunctionOf (program_of f) (extents f.state) h.begins.is.before h.begins.is.behind
        h.begins.is.defines
    has_function =
        let functions = (program_of f).functions in record {
          function = function;
          scope = scope;
          is = function_is;
          program = record { statics = refl; functions = refl; types = refl };
          number = ap (has_number functions) h.number
              ∙ lt-ltb place (length functions) (get_low functions place function own.is);
          variables = ap (λ n. variables_of_function functions (Some n)) h.number
              ∙ variables_at functions place function own.is;
        }

  have_functions : (place : ℕ) (ds : List Definition)
      → ((k : ℕ) (d : Definition) → slice_get ds k ≡ Some d → slice_get f.definitions (place + k) ≡ Some d)
      → (before behind : List (ℕ × StaticObject)) → StandAt f place ds before behind
      → (turn : AreInTurn f ds before behind) × AreFunctionsOf (program_of f) (extents f.state) f ds before behind turn
  have_functions place [] there before behind h = (h, tt)
  have_functions place (d ∷ ds) there before behind h =
      let here : place + 0 ≡ place = omega arith in
      let rest = have_functions (suc place) ds
      (λ k x e.
      let next : place + suc k ≡ suc place + k = omega arith in
      subst (λ n. slice_get f.definitions n ≡ Some x) next (there (suc k) x e))
      h.0.begins.is.defines.end.statics behind h.1 in (
        (h.0.begins, rest.0),
        (
          has_function place d (subst (λ n. slice_get f.definitions n ≡ Some d) here (there 0 d refl)) before h.0,
          rest.1,
        ),
      )

  pub file_functions : HasFunctions f
  file_functions =
      let turns = have_functions 0 f.definitions
      (λ k d e.
      let same : k ≡ 0 + k = omega arith in
      subst (λ n. slice_get f.definitions n ≡ Some d) same e)
      [] f.statics (file_known objects end es f regular defined is).stand in
      let scope = scope_in (program_of f) [] [] kind.Void in
      record {
        turn = turns.0;
        functions = turns.1;
        scope = scope;
        covers = (program_has objects end es f regular defined is sized scope
            (record { statics = refl; functions = refl; types = refl })).covers;
      }
