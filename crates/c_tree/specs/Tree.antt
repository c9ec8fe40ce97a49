-- The typed trees of expressions (C99 6.5). A node stands with its kind and line; operands stand in the order of the
-- text. What a node is, the enums of the code say.
use Rattle.std.specs.Prelude.{ℕ, List, [], ◌∷◌}
use Rattle.obj_memory.specs.declared.operator.BinaryOperator.{BinaryOperator}
use Rattle.obj_memory.specs.declared.operator.UnaryOperator.{UnaryOperator}
use Rattle.c_tree.specs.declared.expression.Kind.{Kind}
use Rattle.c_tree.specs.declared.expression.Routine.{Routine}
use Rattle.c_tree.specs.declared.expression.OffsetForm.{OffsetForm}
use Rattle.c_tree.specs.declared.expression.Update.{Update}
use Rattle.c_tree.specs.declared.expression.Fixity.{Fixity}
use Rattle.c_tree.specs.declared.expression.PlainName.{PlainName}

mutual
  -- what it gives, the line of its operator or only token, and what it is
  pub data Expression : Type 0 where
    expression : Kind → (line : ℕ) → Node → Expression

  pub data Node : Type 0 where
    constant : (word : ℕ) → Node
    function : (number : ℕ) → Node
    plain : (variable : ℕ) → Node
    read : Lvalue → Node
    decay : Lvalue → Node
    address : Lvalue → Node
    parenthesized : Expression → Node
    deref_function : Expression → Node
    address_function : Expression → Node
    cast : Expression → Node
    convert : Expression → Node
    unary : UnaryOperator → Expression → Node
    binary : BinaryOperator → (left right : Expression) → Node
    offset_by : OffsetForm → (size : ℕ) → (left right : Expression) → Node
    difference : (size : ℕ) → (left right : Expression) → Node
    logical_and : (left right : Expression) → Node
    logical_or : (left right : Expression) → Node
    comma : (left right : Expression) → Node
    conditional : (condition first second : Expression) → Node
    assign : Lvalue → Expression → Node
    assign_plain : PlainName → Expression → Node
    compound : Update → Lvalue → Expression → Node
    change_plain : Update → PlainName → Expression → Node
    step : Update → Fixity → Lvalue → Node
    step_plain : Update → Fixity → PlainName → Node
    call : (function : ℕ) → Expressions → Node
    call_through : (type : ℕ) → Expression → Expressions → Node
    library : Routine → Expressions → Node
    printf : (format : List ℕ) → Expressions → Node

  -- arguments
  pub data Expressions : Type 0 where
    no_expressions : Expressions
    expressions : Expression → Expressions → Expressions

  -- what it designates, the line of its outermost operator or its name, and what it is
  pub data Lvalue : Type 0 where
    lvalue : Kind → (line : ℕ) → LvalueNode → Lvalue

  pub data LvalueNode : Type 0 where
    automatic : (variable : ℕ) → LvalueNode
    static : (number : ℕ) → LvalueNode
    deref : Expression → LvalueNode
    index : OffsetForm → (size : ℕ) → (left right : Expression) → LvalueNode
    member : Lvalue → (offset size : ℕ) → LvalueNode
    arrow : Expression → (offset size : ℕ) → LvalueNode
    member_of_value : Expression → (offset size : ℕ) → LvalueNode
    parenthesized_lvalue : Lvalue → LvalueNode

abbrev pub kind_of : Expression → Kind
kind_of (expression kind line node) = kind

abbrev pub line_of : Expression → ℕ
line_of (expression kind line node) = line

abbrev pub lvalue_kind : Lvalue → Kind
lvalue_kind (lvalue kind line node) = kind

abbrev pub lvalue_line : Lvalue → ℕ
lvalue_line (lvalue kind line node) = line

-- the expressions in order, and the other way
abbrev pub expressions_in : List Expression → Expressions
expressions_in [] = no_expressions
expressions_in (e ∷ es) = expressions e (expressions_in es)

abbrev pub kinds_of : Expressions → List Kind
kinds_of no_expressions = []
kinds_of (expressions e es) = kind_of e ∷ kinds_of es
