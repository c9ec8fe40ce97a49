-- The functions of a typed program are valid (C99 6.8, 6.9.1).
use Rattle.std.proofs.Common.{◌≡◌, ℕ, zero, suc, ◌+◌, ◌<◌, Bool, true, ◌==◌, refl, sym, ap, ◌∙◌, subst, List, []}
use Rattle.std.proofs.Common.{◌∷◌, length, Option, Some, arith}
use Rattle.std.specs.Prelude.{Ok, slice_get}
use Rattle.std.specs.List.{list_all}
use Rattle.std.proofs.lemmas.Bool.{and_from, ltb-true}
use Rattle.std.proofs.lemmas.List.{length-map}
use Rattle.c_syntax.specs.Statements.{External}
use Rattle.c_tree.specs.declared.c_type.TypeWord.{TypeWord}
use Rattle.c_tree.specs.Blocks.{all_of}
use Rattle.c_tree.specs.Programs.{Function, StaticObject}
use Rattle.c_tree.specs.Room.{room}
use Rattle.c_tree.specs.TypesAgree.{agrees}
use Rattle.c_tree.specs.Valid.{has_number}
use Rattle.c_tree.specs.ValidProgram.{are_all_different, are_functions, are_parameters, are_statements, declares_all}
use Rattle.c_tree.specs.ValidProgram.{function_scope, is_function, is_function_type, is_main, is_static_object}
use Rattle.c_tree.specs.ValidProgram.{is_valid_program, is_variable, signature_at}
use Rattle.c_call_rules.specs.FunctionTypes.{result_type}
use Rattle.c_operand_typing.specs.Calls.{place_among}
use Rattle.c_typing_state.specs.State.{extents}
use Rattle.c_unit_typing.specs.Files.{Definition, File}
use Rattle.c_unit_typing.specs.Programs.{function_of, function_type, functions_from}
use Rattle.c_unit_typing.specs.Programs.{program_of, room_of, static_objects}
use Rattle.c_unit_typing.specs.Units.{file_with}
use Rattle.typing_laws.specs.Validity.Sound.{IsTypeOf}
use Rattle.typing_laws.proofs.Validity.Common.{no_value, the_same}
use Rattle.typing_laws.proofs.Validity.PointerCalls.{place_get}
use Rattle.typing_laws.specs.Scopes.Defined.{define_functions}
use Rattle.typing_laws.specs.Scopes.Regular.{are_regular_externals}
use Rattle.program_laws.specs.Bodies.Defined.{IsScopeOf, no_jumps}
use Rattle.program_laws.specs.Bodies.Standing.{IsResult}
use Rattle.program_laws.proofs.Bodies.Bodies.{function_body, function_declares, function_parameters}
use Rattle.program_laws.proofs.Bodies.Bodies.{function_variables}
use Rattle.program_laws.proofs.Bodies.Results.{result_is}
use Rattle.program_laws.proofs.Bodies.Whole.{definition_has}
use Rattle.program_laws.proofs.Files.Functions.{function_types_end}
use Rattle.program_laws.proofs.Functions.Main.{functions_have_rooms, main_defined, types_are_those}
use Rattle.program_laws.specs.Names.Known.{AreKnown, IsKnown}
use Rattle.program_laws.specs.Names.Linked.{HaveSizes, IsOf}
use Rattle.program_laws.proofs.Names.Files.{file_known}
use Rattle.program_laws.proofs.Names.Has.{program_has}
use Rattle.program_laws.proofs.Names.Known.{definition_knows}

-- the definition that a function of the program is made of

record IsMade (types : List (List TypeWord)) (ds : List Definition) (k : ℕ) (g : Function) : Type 0 where
  definition : Definition
  there : slice_get ds k ≡ Some definition
  size : ℕ
  is : g ≡ function_of types size definition

made : (f : File) (os : List StaticObject) (n : ℕ) (ds : List Definition) (k : ℕ) (g : Function)
    → slice_get (functions_from f os n ds) k ≡ Some g → IsMade f.state.function_types ds k g
made f os n [] k g e = no_value g _ e
made f os n (d ∷ ds) zero g e = record {
  definition = d;
  there = refl;
  size = room_of f os n d;
  is = sym (the_same e);
}
made f os n (d ∷ ds) (suc k) g e =
    let h = made f os (suc n) ds k g e in
    record { definition = h.definition; there = h.there; size = h.size; is = h.is }

-- a definition of a file

known_at : (f : File) (ds : List Definition) → AreKnown f ds → (k : ℕ) (d : Definition) → slice_get ds k ≡ Some d
    → IsKnown f d
known_at f [] h k d e = no_value d _ e
known_at f (x ∷ ds) h zero d e = subst (IsKnown f) (the_same e) h.0
known_at f (x ∷ ds) h (suc k) d e = known_at f ds h.1 k d e

-- a file that is accepted
module _ (objects : Option (List (List Bool))) (end : ℕ) (es : List External) (f : File)
    (regular : are_regular_externals es ≡ true) (defined : define_functions es ≡ true)
    (is : file_with objects end es ≡ Ok f) (sized : HaveSizes f) where
  scope_of : (g : Function) → IsOf (program_of f) (function_scope (program_of f) g)
  scope_of g = record { statics = refl; functions = refl; types = refl }

  -- the type of a function spells its signature
  type_spelled : (k : ℕ) (g : Function) → slice_get (program_of f).functions k ≡ Some g → (d : Definition) (size : ℕ)
      → g ≡ function_of f.state.function_types size d
      → IsTypeOf (function_scope (program_of f) g) (extents f.state) g.type_number d.type
  type_spelled k g e d size of =
      let types = f.state.function_types in
      let number : g.type_number ≡ place_among d.type types = ap (λ z. z.type_number) of in
      let low = ltb-true g.type_number (length (program_of f).function_types)
      (functions_have_rooms objects end es f regular defined is k g e).type in
      types_are_those objects end es f regular defined is (function_scope (program_of f) g) refl g.type_number d.type
      (ap (slice_get types) number
      ∙ place_get d.type types
      (subst (λ z. z < length types) number
      (subst (λ z. g.type_number < z) (length-map types (function_type (extents f.state))) low)))

  -- its scope is that of the definition that it is made of
  pub scope_is : (k : ℕ) (g : Function) → slice_get (program_of f).functions k ≡ Some g → (d : Definition) (size : ℕ)
      → g ≡ function_of f.state.function_types size d → (known : IsKnown f d)
      → IsScopeOf (function_scope (program_of f) g) (extents f.state) g known.definition.before
      known.definition.behind known.definition.defines
  scope_is k g e d size of known =
      let scope = function_scope (program_of f) g in
      let h = known.definition in
      let spelled = type_spelled k g e d size of in
      let result : scope.result ≡ spelled.signature.result = ap (λ z. z.result) spelled.has.same in record {
        all = refl;
        variables = refl;
        parameters = ap (λ z. z.parameters) of ∙ ap (λ z. z.parameters) h.is;
        declared = ap (λ z. z.variables) of ∙ ap (λ z. z.variables) h.is;
        body = ap (λ z. z.body) of ∙ ap (λ z. z.body) h.is;
        gives = subst (λ z. IsResult scope (extents f.state) (result_type 0 z)) (ap (λ z. z.type) h.is)
            (result_is scope (extents f.state) d.type spelled.signature spelled.spelled result);
        knows = definition_knows objects end es f regular defined is sized scope (scope_of g) d known;
        has = definition_has scope (extents f.state) f d h
            (program_has objects end es f regular defined is sized scope (scope_of g));
      }

  function_valid : (k : ℕ) (g : Function) → slice_get (program_of f).functions k ≡ Some g
      → is_function (program_of f) k g ≡ true
  function_valid k g e =
      let program = program_of f in
      let scope = function_scope program g in
      let m = made f (static_objects f) 0 f.definitions k g e in
      let d = m.definition in
      let known = known_at f f.definitions (file_known objects end es f regular defined is).known k d m.there in
      let h = known.definition in
      let spelled = type_spelled k g e d m.size m.is in
      let type : d.type ≡ h.defines.type = ap (λ z. z.type) h.is in
      let own = functions_have_rooms objects end es f regular defined is k g e in
      let of = scope_is k g e d m.size m.is known in
      let parameters = ap (λ z. are_parameters g.parameters z.parameters) spelled.has.same
      ∙ function_parameters scope (extents f.state) g h.before h.behind h.defines of spelled.signature.parameters
      spelled.signature.result
      (subst (λ z. agrees (extents f.state) z spelled.signature.parameters spelled.signature.result ≡ true) type
      spelled.spelled) in
      let typed = and_from (has_number program.function_types g.type_number)
      (are_parameters g.parameters (signature_at program g.type_number).parameters) own.type parameters in
      let held = and_from _ (list_all is_variable (all_of g)) typed
      (function_variables scope (extents f.state) g h.before h.behind h.defines of) in
      let declares = and_from _ (declares_all g) held
      (function_declares scope (extents f.state) g h.before h.behind h.defines of) in
      let body = and_from _ (are_statements scope no_jumps g.body) declares
      (function_body scope (extents f.state) g h.before h.behind h.defines of) in
      and_from _ (g.room == room program.statics k (signature_at program g.type_number).result g) body own.room

  functions_by : (first : ℕ) (gs : List Function)
      → ((k : ℕ) (g : Function) → slice_get gs k ≡ Some g → is_function (program_of f) (first + k) g ≡ true)
      → are_functions (program_of f) first gs ≡ true
  functions_by first [] h = refl
  functions_by first (g ∷ gs) h =
      let same : first + 0 ≡ first = omega arith in
      and_from (is_function (program_of f) first g) (are_functions (program_of f) (suc first) gs)
      (subst (λ n. is_function (program_of f) n g ≡ true) same (h 0 g refl))
      (functions_by (suc first) gs
      (λ k x e.
      let next : first + suc k ≡ suc first + k = omega arith in
      subst (λ n. is_function (program_of f) n x ≡ true) next (h (suc k) x e)))

  pub functions_valid : are_functions (program_of f) 0 (program_of f).functions ≡ true
  functions_valid =
      functions_by 0 (program_of f).functions
      (λ k g e.
      let same : k ≡ 0 + k = omega arith in
      subst (λ n. is_function (program_of f) n g ≡ true) same (function_valid k g e))

  pub program_valid : list_all (is_static_object (program_of f)) (program_of f).statics ≡ true
      → is_valid_program (program_of f) ≡ true
  unfolding is_valid_program
  program_valid statics =
      let program = program_of f in
      let types = function_types_end objects end es f regular defined is in
      let all = and_from (list_all (is_function_type program) program.function_types)
      (are_all_different program.function_types) types.valid types.different in
      let stored = and_from _ (list_all (is_static_object program) program.statics) all statics in
      let functions = and_from _ (are_functions program 0 program.functions) stored functions_valid in
      and_from _ (is_main program) functions (main_defined objects end es f regular defined is)
