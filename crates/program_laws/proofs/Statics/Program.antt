-- The static objects of blocks, and string literals, are static objects of the program of their file.
use Rattle.std.proofs.Common.{◌≡◌, inl, ℕ, ◌+◌, Bool, true, false, ◌&&◌, refl, sym, ap, ◌∙◌, subst, List, []}
use Rattle.std.proofs.Common.{◌∷◌, Option}
use Rattle.std.proofs.Common.{length, Some, if◌then◌else◌, arith}
use Rattle.std.specs.Prelude.{map, slice_get, suc}
use Rattle.std.proofs.lemmas.Bool.{and_from, le-leb}
use Rattle.c_tree.specs.declared.c_type.TypeWord.{TypeWord}
use Rattle.c_tree.specs.declared.expression.Kind.TheVariants as kind
use Rattle.c_tree.specs.Kinds.{has_size, is_size, size_of_kind}
use Rattle.c_tree.specs.Programs.{Program, StaticObject}
use Rattle.c_tree.specs.Valid.{Scope, at_number}
use Rattle.c_tree.specs.ValidProgram.{are_parts, is_function_number, is_static_object, scope_in, static_scope}
use Rattle.c_tree.specs.ValidProgram.{variables_of_function}
use Rattle.c_call_rules.specs.FunctionTypes.{result_type}
use Rattle.c_scope.specs.Parameters.{ParameterScope}
use Rattle.c_typing_state.specs.State.{Literal, State}
use Rattle.c_unit_typing.specs.Files.{File}
use Rattle.c_unit_typing.specs.Programs.{literal_object}
use Rattle.c_unit_typing.specs.Units.{around_body, entered}
use Rattle.program_laws.specs.Scopes.Scopes.{AreAmong, AreOfOneProgram}
use Rattle.program_laws.proofs.Scopes.Agreeing.{static_parts}
use Rattle.typing_laws.specs.Validity.Sound.{Covers}
use Rattle.typing_laws.specs.Validity.Steps.{Structures}
use Rattle.typing_laws.proofs.Validity.Common.{first as left_true, second as right_true}
use Rattle.program_laws.specs.Bodies.Defined.{Defines}
use Rattle.program_laws.specs.Bodies.Standing.{Ends}
use Rattle.program_laws.proofs.Bodies.Bodies.{function_ends, names_stand}
use Rattle.program_laws.proofs.Bodies.Ends.{ends_within}
use Rattle.program_laws.proofs.Bodies.Standing.{stands_within}
use Rattle.program_laws.specs.Statics.Added.{Adds, IfAdds, StandIn, are_valid_objects, is_valid_object}
use Rattle.program_laws.specs.Statics.Program.{AddsObjectsOf, IsFunctionOf, are_static_objects}
use Rattle.program_laws.specs.Statics.Program.{stand_in_functions}
use Rattle.program_laws.proofs.Statics.Open.{every, opened_scope, opened_scope_wide}
use Rattle.program_laws.proofs.Statics.Walked.{items_add}
use Rattle.typing_laws.proofs.Common.{three}

-- an object that is valid in a scope of the program where the variables of its function can be named

pub object_in : (p : Program) (a : Scope) → AreOfOneProgram a (scope_in p [] [] kind.Void) → (o : ℕ × StaticObject)
    → AreAmong a.variables (variables_of_function p.functions o.1.function)
    → is_function_number p o.1.function ≡ true → is_valid_object a o ≡ true → is_static_object p o.1 ≡ true
object_in p a are o among number valid =
    three (has_size o.1.kind) (is_function_number p o.1.function)
    (are_parts (static_scope p o.1) (size_of_kind o.1.kind) o.1.parts)
    (left_true (has_size o.1.kind) (are_parts a (size_of_kind o.1.kind) o.1.parts) valid) number
    (static_parts p o.1 a are (λ named. among)
    (right_true (has_size o.1.kind) (are_parts a (size_of_kind o.1.kind) o.1.parts) valid))

objects_in : (p : Program) (a : Scope) → AreOfOneProgram a (scope_in p [] [] kind.Void) → (function : Option ℕ)
    → AreAmong a.variables (variables_of_function p.functions function) → is_function_number p function ≡ true
    → (os : List (ℕ × StaticObject)) → StandIn function os → are_valid_objects a os ≡ true
    → are_static_objects p os ≡ true
objects_in p a are function among number [] standing valid = refl
objects_in p a are function among number (o ∷ os) standing valid =
    and_from (is_static_object p o.1) (are_static_objects p os)
    (object_in p a are o
    (subst (λ f. AreAmong a.variables (variables_of_function p.functions f)) (sym standing.0) among)
    (ap (is_function_number p) standing.0 ∙ number)
    (left_true (is_valid_object a o) (are_valid_objects a os) valid))
    (objects_in p a are function among number os standing.1
    (right_true (is_valid_object a o) (are_valid_objects a os) valid))

-- the function of a definition is that which is entered

same_function : (b : Bool) (s : State) (types : List (List TypeWord))
    → (if b then s else record s { function_types = types }).function ≡ s.function
same_function true s types = refl
same_function false s types = refl

entered_function : (n : ℕ) (type : List TypeWord) (scope : ParameterScope) (f : File)
    → (entered n type scope f).state.function ≡ Some n
entered_function n type scope f = same_function _ _ _

-- the block of a definition

module _ (p : Program) (structures : Structures) (f behind : File) (d : Defines f behind)
    (is : IsFunctionOf p structures f behind d) where
  abbrev begun : File
  begun = entered d.number d.type d.parameters d.before

  block_adds : Adds (result_type 0 d.type) begun d.end
  block_adds =
      subst (IfAdds (result_type 0 d.type) begun) d.items
      (items_add (result_type 0 d.type) (around_body d.type) d.block d.regular begun d.ready)

  ends : Ends is.scope structures (result_type 0 d.type) d.end
  ends = function_ends is.scope structures is.function f behind d is.is

  objects_valid : are_valid_objects (opened_scope is.scope) block_adds.objects ≡ true
  objects_valid =
      (block_adds.sound (opened_scope is.scope) structures (opened_scope_wide is.scope ends.lengths)
      (stands_within is.scope (every is.scope) structures begun.state ends.lengths
      (names_stand is.scope structures is.function f behind d is.is))
      (ends_within is.scope (every is.scope) structures (result_type 0 d.type) d.end ends)).1

  all_named : AreAmong (opened_scope is.scope).variables (variables_of_function p.functions begun.state.function)
  all_named = record {
    each = λ x. inl
        (ap (λ vs. at_number vs x)
        (opened_scope_wide is.scope ends.lengths ∙ is.is.all ∙ sym is.variables
        ∙ ap (variables_of_function p.functions) (sym (entered_function d.number d.type d.parameters d.before))));
  }

  pub block_objects : AddsObjectsOf p d.before d.end
  block_objects = record {
    objects = block_adds.objects;
    is = block_adds.is;
    valid = objects_in p (opened_scope is.scope)
        (record {
          statics = is.program.statics;
          functions = is.program.functions;
          types = is.program.types;
        }) begun.state.function all_named
        (ap (is_function_number p) (entered_function d.number d.type d.parameters d.before) ∙ is.number)
        block_adds.objects block_adds.standing objects_valid;
  }

-- string literals

literal_valid : (p : Program) (l : Literal) → is_size (length l.bytes) ≡ true
    → is_function_number p l.function ≡ true → is_static_object p (literal_object l).1 ≡ true
literal_valid p l sized number =
    three (is_size (length l.bytes)) (is_function_number p l.function)
    (are_parts (static_scope p (literal_object l).1) (length l.bytes) (literal_object l).1.parts) sized number
    (ap (λ z. z && true) (le-leb (0 + length l.bytes) (length l.bytes) (omega arith)))

pub literals_valid : (p : Program) (ls : List Literal)
    → ((n : ℕ) (l : Literal) → slice_get ls n ≡ Some l → is_size (length l.bytes) ≡ true)
    → stand_in_functions p ls ≡ true → are_static_objects p (map literal_object ls) ≡ true
literals_valid p [] sized standing = refl
literals_valid p (l ∷ ls) sized standing =
    and_from (is_static_object p (literal_object l).1) (are_static_objects p (map literal_object ls))
    (literal_valid p l (sized 0 l refl)
    (left_true (is_function_number p l.function) (stand_in_functions p ls) standing))
    (literals_valid p ls (λ n m e. sized (suc n) m e)
    (right_true (is_function_number p l.function) (stand_in_functions p ls) standing))

pub string_literals : (p : Program) (scope : Scope) (structures : Structures) (s : State) → Covers scope structures s
    → stand_in_functions p s.literals ≡ true → are_static_objects p (map literal_object s.literals) ≡ true
string_literals p scope structures s covers standing =
    literals_valid p s.literals (λ n l e. (covers.literals n l e).sized) standing
