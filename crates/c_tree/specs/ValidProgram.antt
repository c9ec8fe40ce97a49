-- Valid statements, functions and programs (C99 6.7.8, 6.8, 6.9).
use Rattle.std.specs.Prelude.{ℕ, zero, suc, ◌+◌, Bool, true, false, not, ◌&&◌, ◌==◌, nat_le, if◌then◌else◌, List, []}
use Rattle.std.specs.Prelude.{◌∷◌, ◌++◌, map, length, get_or, Option, Some, None}
use Rattle.std.specs.List.{list_all, list_any}
use Rattle.obj_memory.specs.declared.int_type.IntType.TheVariants.{Int}
use Rattle.c_tree.specs.declared.expression.Kind.{Kind}
use Rattle.c_tree.specs.declared.expression.Kind.TheVariants as kind
use Rattle.c_tree.specs.declared.program.Variable.{Variable}
use Rattle.c_tree.specs.declared.statement.CaseLabel.{CaseLabel}
use Rattle.c_tree.specs.declared.statement.CaseLabel.TheVariants.{Case, Default}
use Rattle.c_tree.specs.Tree.{Expression, kind_of}
use Rattle.c_tree.specs.Statements.{Content, value_content, literal_content, Part, Initializer, of_plain, of_object}
use Rattle.c_tree.specs.Statements.{DeclaredVariable, First, nothing, first_expression, first_declaration, Statement}
use Rattle.c_tree.specs.Statements.{expression_statement, empty, declaration, block, if_then, if_else, while_do}
use Rattle.c_tree.specs.Statements.{do_while, for, switch, break, continue, return, Statements, no_statements}
use Rattle.c_tree.specs.Statements.{statements, SwitchItems, no_items, items}
use Rattle.c_tree.specs.Programs.{FunctionType, Function, StaticObject, Program}
use Rattle.c_tree.specs.Walk.{any_of, names_variable}
use Rattle.c_tree.specs.Blocks.{block_variables, switch_variables, first_variables, each_variables, all_of}
use Rattle.c_tree.specs.Blocks.{body_variables}
use Rattle.c_tree.specs.Arrays.{is_sized}
use Rattle.c_tree.specs.TypesAgree.{agrees, same_words}
use Rattle.c_tree.specs.Kinds.{integer, is_kind, size_of_kind, has_size, is_promoted, is_value, is_scalar, Signature}
use Rattle.c_tree.specs.Room.{room}
use Rattle.c_tree.specs.Valid.{Scope, is_constant, is_plain, variable_at, within, is_valid, is_condition, has_number}
use Rattle.c_tree.specs.Valid.{no_signature}

-- what a part of an initializer stores lies in the object (6.7.8)
abbrev pub content_size : Content → ℕ
content_size (value_content e) = size_of_kind (kind_of e)
content_size (literal_content bytes) = length bytes

abbrev pub is_content : Scope → Content → Bool
is_content scope (value_content e) = is_valid scope e && is_value (kind_of e)
is_content scope (literal_content bytes) = true

abbrev pub is_part : Scope → (size : ℕ) → Part → Bool
is_part scope size p = is_content scope p.content && nat_le (p.offset + content_size p.content) size

abbrev pub are_parts : Scope → (size : ℕ) → List Part → Bool
are_parts scope size parts = list_all (is_part scope size) parts

-- an initializer of a variable, if it has one
abbrev pub is_initializer : Scope → (variable : ℕ) → Option Initializer → Bool
is_initializer scope x None = true
is_initializer scope x (Some (of_plain e)) = is_valid scope e && is_plain scope x (kind_of e)
is_initializer scope x (Some (of_object parts)) =
    (variable_at scope x).is_object && are_parts scope (size_of_kind (variable_at scope x).kind) parts

abbrev pub are_declared : Scope → List DeclaredVariable → Bool
are_declared scope ds = list_all (λ d. is_initializer scope d.variable d.initializer) ds

abbrev pub is_first : Scope → First → Bool
is_first scope nothing = true
is_first scope (first_expression e) = is_valid scope e
is_first scope (first_declaration ds) = are_declared scope ds

abbrev pub is_condition_if : Scope → Option Expression → Bool
is_condition_if scope None = true
is_condition_if scope (Some e) = is_condition scope e

abbrev pub is_expression_if : Scope → Option Expression → Bool
is_expression_if scope None = true
is_expression_if scope (Some e) = is_valid scope e

-- a return has a value exactly where the function gives one (6.8.6.4)
abbrev pub is_return : Scope → Option Expression → Bool
is_return scope None = is_kind scope.result kind.Void
is_return scope (Some e) = is_valid scope e && is_kind (kind_of e) scope.result && is_value (kind_of e)

-- the labels of a switch, all different (6.8.4.2)
abbrev pub is_label : Kind → CaseLabel → Bool
is_label k (Case w) = is_constant w k
is_label k Default = true

abbrev pub same_label : CaseLabel → CaseLabel → Bool
same_label (Case v) (Case w) = v == w
same_label Default Default = true
same_label _ _ = false

abbrev pub are_different : List CaseLabel → Bool
are_different [] = true
are_different (l ∷ others) = not (list_any (same_label l) others) && are_different others

abbrev pub labels_of : SwitchItems → List CaseLabel
labels_of no_items = []
labels_of (items labels s is) = labels ++ labels_of is

-- what a statement stands in: whether `break` and `continue` may stand there (6.8.6)
pub record Inside : Type 0 where
  pub may_break : Bool
  pub may_continue : Bool

abbrev pub in_loop : Inside
in_loop = record { may_break = true; may_continue = true }

abbrev pub in_switch : Inside → Inside
in_switch inside = record { may_break = true; may_continue = inside.may_continue }

-- a declaration is no statement (6.8.2): it is no body of a loop or branch
abbrev pub is_declaration : Statement → Bool
is_declaration (declaration ds) = true
is_declaration s = false

abbrev mutual
  pub is_statement : Scope → Inside → Statement → Bool
  is_statement scope inside (expression_statement e) = is_valid scope e
  is_statement scope inside empty = true
  is_statement scope inside (declaration ds) = are_declared scope ds
  is_statement scope inside (block line body) = are_statements (within scope (block_variables body)) inside body
  is_statement scope inside (if_then e s) = is_condition scope e && is_statement scope inside s
      && not (is_declaration s)
  is_statement scope inside (if_else e s other) =
      is_condition scope e && is_statement scope inside s && not (is_declaration s) && is_statement scope inside other
      && not (is_declaration other)
  is_statement scope inside (while_do e s) = is_condition scope e && is_statement scope in_loop s
      && not (is_declaration s)
  is_statement scope inside (do_while s e) = is_statement scope in_loop s && not (is_declaration s)
      && is_condition scope e
  is_statement scope inside (for line first condition step s) =
      is_first (within scope (first_variables first)) first
      && is_condition_if (within scope (first_variables first)) condition
      && is_expression_if (within scope (first_variables first)) step
      && is_statement (within scope (first_variables first)) in_loop s && not (is_declaration s)
  is_statement scope inside (switch e line is) =
      is_valid scope e && is_promoted (kind_of e) && list_all (is_label (kind_of e)) (labels_of is)
      && are_different (labels_of is)
      && are_items (within scope (switch_variables is)) (in_switch inside) is
  is_statement scope inside break = inside.may_break
  is_statement scope inside continue = inside.may_continue
  is_statement scope inside (return e) = is_return scope e

  pub are_statements : Scope → Inside → Statements → Bool
  are_statements scope inside no_statements = true
  are_statements scope inside (statements s ss) = is_statement scope inside s && are_statements scope inside ss

  pub are_items : Scope → Inside → SwitchItems → Bool
  are_items scope inside no_items = true
  are_items scope inside (items labels s is) = is_statement scope inside s && are_items scope inside is

-- function types: all different, and each has the kinds of its parameters and of its result

abbrev pub is_function_type : Program → FunctionType → Bool
is_function_type program t =
    is_sized program.structures t.c_type && agrees program.structures t.c_type t.parameters t.result

abbrev pub are_all_different : List FunctionType → Bool
are_all_different [] = true
are_all_different (t ∷ others) = not (list_any (λ u. same_words t.c_type u.c_type) others) && are_all_different others

abbrev pub signature_of : FunctionType → Signature
signature_of t = record { parameters = t.parameters; result = t.result }

abbrev pub signatures_of : Program → List Signature
signatures_of program = map signature_of program.function_types

abbrev pub signature_at : Program → ℕ → Signature
signature_at program n = get_or (signatures_of program) n no_signature

-- variables

-- a variable holds a scalar or is an object
abbrev pub is_variable : Variable → Bool
is_variable v = if v.is_object then has_size v.kind else is_scalar v.kind

abbrev pub are_parameters : List Variable → List Kind → Bool
are_parameters [] [] = true
are_parameters (v ∷ vs) (k ∷ ks) = is_kind v.kind k && is_value k && are_parameters vs ks
are_parameters _ _ = false

-- some numbers are those from a first one on
abbrev pub count_from : (first : ℕ) → List ℕ → Bool
count_from first [] = true
count_from first (x ∷ xs) = (x == first) && count_from (suc first) xs

-- the variables that are no parameters are declared in the order of their numbers
abbrev pub declares_all : Function → Bool
declares_all f = count_from (length f.parameters) (each_variables f.body)
    && length (each_variables f.body) == length f.variables

-- what names stand for in a function of a number with these variables and this result
abbrev pub scope_in : Program → (all variables : List Variable) → (result : Kind) → Scope
scope_in program all variables result = record {
  statics = map (λ s. s.kind) program.statics;
  functions = map (λ f. signature_at program f.type_number) program.functions;
  types = signatures_of program;
  all = all;
  variables = variables;
  result = result;
}

-- in the block of its body
abbrev pub function_scope : Program → Function → Scope
function_scope program f =
    scope_in program (all_of f) (f.parameters ++ body_variables f) (signature_at program f.type_number).result

abbrev pub is_function : Program → (number : ℕ) → Function → Bool
is_function program n f =
    has_number program.function_types f.type_number
    && are_parameters f.parameters (signature_at program f.type_number).parameters
    && list_all is_variable (all_of f)
    && declares_all f
    && are_statements (function_scope program f) (record { may_break = false; may_continue = false }) f.body
    && f.room == room program.statics n (signature_at program f.type_number).result f

abbrev pub are_functions : Program → (number : ℕ) → List Function → Bool
are_functions program n [] = true
are_functions program n (f ∷ fs) = is_function program n f && are_functions program (suc n) fs

-- static objects

abbrev pub content_names_variable : Content → Bool
content_names_variable (value_content e) = names_variable e
content_names_variable (literal_content bytes) = false

-- whether an initializer names a variable of the function in whose block it stands; no constant does
abbrev pub name_variables : List Part → Bool
name_variables parts = any_of (map (λ p. content_names_variable p.content) parts)

abbrev pub variables_of_function : List Function → Option ℕ → List Variable
variables_of_function functions None = []
variables_of_function [] (Some f) = []
variables_of_function (g ∷ gs) (Some zero) = all_of g
variables_of_function (g ∷ gs) (Some (suc f)) = variables_of_function gs (Some f)

-- the names of an initializer are judged in the function in whose block it stands; it need not be constant
abbrev pub static_scope : Program → StaticObject → Scope
static_scope program s =
    let variables = if name_variables s.parts then variables_of_function program.functions s.function else [] in
    scope_in program variables variables kind.Void

abbrev pub is_function_number : Program → Option ℕ → Bool
is_function_number program None = true
is_function_number program (Some f) = has_number program.functions f

abbrev pub is_static_object : Program → StaticObject → Bool
is_static_object program s =
    has_size s.kind && is_function_number program s.function
    && are_parts (static_scope program s) (size_of_kind s.kind) s.parts

-- `int main(void)` is defined (5.1.2.2.1)
abbrev pub is_main_signature : Signature → Bool
is_main_signature s = is_kind s.result (integer Int) && length s.parameters == 0

abbrev pub is_main : Program → Bool
is_main program =
    has_number program.functions program.main
    && is_main_signature (get_or (scope_in program [] [] kind.Void).functions program.main no_signature)

unfoldable pub is_valid_program : Program → Bool
is_valid_program program =
    list_all (is_function_type program) program.function_types && are_all_different program.function_types
    && list_all (is_static_object program) program.statics && are_functions program 0 program.functions
    && is_main program
