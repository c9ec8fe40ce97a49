-- The meaning of expressions and lvalues (C99 6.5). Evaluation is from left to right. The meaning of an lvalue is the
-- pointer to what it designates. A node of the text is work when its evaluation begins.
use Rattle.std.specs.Prelude.{ℕ, zero, suc, ◌+◌, Bool, true, false, not, ◌&&◌, ◌==◌, List, [], ◌∷◌, Option, Some, None}
use Rattle.sb_base.specs.declared.ending.Ending.TheVariants.{BadCall}
use Rattle.obj_memory.specs.declared.value.Tag.{Tag}
use Rattle.obj_memory.specs.declared.value.Tag.TheVariants.{Untagged, OfFunction, OfObject}
use Rattle.obj_memory.specs.declared.value.Value.{Value}
use Rattle.obj_memory.specs.Objects.{pointer_to}
use Rattle.obj_memory.specs.Operators.{one_if, unary_value}
use Rattle.obj_memory.specs.Judgement.{narrowed}
use Rattle.c_tree.specs.declared.expression.Kind.{Kind}
use Rattle.c_tree.specs.declared.expression.Fixity.TheVariants.{Prefix}
use Rattle.c_tree.specs.declared.expression.PlainName.{PlainName}
use Rattle.c_tree.specs.Tree.{Expression, expression, Expressions, no_expressions, expressions, Lvalue, lvalue, Node}
use Rattle.c_tree.specs.Tree.{constant, function, plain, read, decay, address, parenthesized, deref_function}
use Rattle.c_tree.specs.Tree.{address_function, cast, convert, unary, binary, offset_by, difference, logical_and}
use Rattle.c_tree.specs.Tree.{logical_or, comma, conditional, assign, assign_plain, compound, change_plain, step}
use Rattle.c_tree.specs.Tree.{step_plain, call, call_through, library, printf, LvalueNode, automatic, static, deref}
use Rattle.c_tree.specs.Tree.{index, member, arrow, member_of_value, parenthesized_lvalue, kind_of, line_of}
use Rattle.c_tree.specs.Tree.{lvalue_kind, lvalue_line}
use Rattle.source_meaning.specs.State.{Rvalue, Run, ◌>>=◌, ◌>>◌, done, stop, choose, read_state, tally, Header, Env}
use Rattle.addr_map.specs.Places.{function_address}
use Rattle.source_meaning.specs.Actions.{integer, is_zero, scalar_of, integer_type, converted, offset_value}
use Rattle.source_meaning.specs.Actions.{difference_value, operate, updated, plain_value, set_plain, update_plain}
use Rattle.source_meaning.specs.Actions.{update, home_pointer, each_value}
use Rattle.source_meaning.specs.Structures.{give, as_rvalue, as_pointer, values_of, take_value, write_rvalue}
use Rattle.source_meaning.specs.Structures.{read_rvalue, member_of}
use Rattle.source_meaning.specs.Library.{routine}
use Rattle.source_meaning.specs.Printing.{print_formatted}

-- some nodes begin
abbrev pub counted_as : {A : Type 0} → (nodes : ℕ) → Run A → Run A
counted_as nodes r = do
  tally nodes
  r

abbrev pub counted : {A : Type 0} → Run A → Run A
counted r = counted_as 1 r

-- the assignment, the name of its variable, and the parentheses around the name
abbrev pub nodes_of : PlainName → ℕ
nodes_of x = 2 + x.parentheses

abbrev pub function_pointer : ℕ → Value
function_pointer f = record { word = function_address f; tag = OfFunction f }

abbrev pub header_at : List Header → ℕ → Option Header
header_at [] f = None
header_at (h ∷ hs) zero = Some h
header_at (h ∷ hs) (suc f) = header_at hs f

abbrev pub has_type : Option Header → (type_number : ℕ) → Bool
has_type None type_number = false
has_type (Some h) type_number = h.type_number == type_number

-- the function that is called through a pointer: its tag names it, its address is that function's, and its type is the
-- call's
abbrev pub callee_by : List Header → (type_number word : ℕ) → Tag → (line : ℕ) → Run ℕ
callee_by functions type_number word Untagged line = stop (BadCall line)
callee_by functions type_number word (OfObject o b) line = stop (BadCall line)
callee_by functions type_number word (OfFunction f) line =
    choose (word == function_address f && has_type (header_at functions f) type_number) (done f) (stop (BadCall line))

abbrev pub callee : List Header → (type_number : ℕ) → Value → (line : ℕ) → Run ℕ
callee functions type_number v line = callee_by functions type_number v.word v.tag line

-- an access of an lvalue is judged where a pointer leads to it, and not where it names its object or a structure value
abbrev mutual
  pub is_judged : Lvalue → Bool
  is_judged (lvalue kind line node) = is_node_judged node

  pub is_node_judged : LvalueNode → Bool
  is_node_judged (automatic x) = false
  is_node_judged (static n) = false
  is_node_judged (deref a) = true
  is_node_judged (index form size a b) = true
  is_node_judged (member p at size) = is_judged p
  is_node_judged (arrow a at size) = true
  is_node_judged (member_of_value a at size) = false
  is_node_judged (parenthesized_lvalue p) = is_judged p

-- an expression as an argument
abbrev pub argument : Kind → (line : ℕ) → Run Rvalue → Run Rvalue
argument kind line r = do
  v ← r
  take_value kind line v

abbrev mutual
  pub evaluate : Env → Expression → Run Rvalue
  evaluate env (expression kind line node) = value env node kind line

  -- a node, whose value has a kind, at a line
  pub value : Env → Node → Kind → (line : ℕ) → Run Rvalue
  value env (constant w) kind line = counted (give (integer w))
  value env (function f) kind line = counted (give (function_pointer f))
  value env (plain x) kind line = counted (as_rvalue (read_state (plain_value x)))
  value env (read p) kind line = do
    q ← place env p
    read_rvalue (lvalue_kind p) (is_judged p) q (lvalue_line p)
  value env (decay p) kind line = as_pointer (place env p)
  value env (address p) kind line = counted (as_pointer (place env p))
  value env (parenthesized a) kind line = counted (evaluate env a)
  value env (deref_function a) kind line = counted (as_pointer (evaluate env a))
  value env (address_function a) kind line = counted (as_pointer (evaluate env a))
  value env (cast a) kind line = counted (do
    v ← evaluate env a
    give (converted kind v.value))
  value env (convert a) kind line = do
    v ← evaluate env a
    give (converted kind v.value)
  value env (unary op a) kind line = counted (do
    v ← evaluate env a
    give (integer (unary_value op (integer_type (scalar_of (kind_of a))) v.value.word)))
  value env (binary op a b) kind line = counted (do
    x ← evaluate env a
    y ← evaluate env b
    as_rvalue (operate op (integer_type (scalar_of (kind_of a))) x.value y.value line))
  value env (offset_by form size a b) kind line = counted (do
    x ← evaluate env a
    y ← evaluate env b
    give (offset_value form size x.value y.value))
  value env (difference size a b) kind line = counted (do
    x ← evaluate env a
    y ← evaluate env b
    give (difference_value size x.value y.value))
  value env (logical_and a b) kind line = counted (do
    x ← evaluate env a
    choose (is_zero x.value) (give (integer 0)) (do
      y ← evaluate env b
      give (integer (one_if (not (is_zero y.value))))))
  value env (logical_or a b) kind line = counted (do
    x ← evaluate env a
    choose (is_zero x.value) (do
      y ← evaluate env b
      give (integer (one_if (not (is_zero y.value))))) (give (integer 1)))
  value env (comma a b) kind line = counted (do
    evaluate env a
    evaluate env b)
  value env (conditional a b c) kind line = counted (do
    x ← evaluate env a
    choose (is_zero x.value) (evaluate env c) (evaluate env b))
  value env (assign p a) kind line = counted (do
    q ← place env p
    v ← evaluate env a
    write_rvalue (lvalue_kind p) (is_judged p) q.value (lvalue_line p) v)
  value env (assign_plain x a) kind line = counted_as (nodes_of x) (do
    v ← evaluate env a
    set_plain x.variable v.value
    give v.value)
  value env (compound u p a) kind line = counted (do
    q ← place env p
    y ← evaluate env a
    as_rvalue (update (scalar_of (lvalue_kind p)) (is_judged p) q.value (lvalue_line p)
        (updated u (scalar_of (lvalue_kind p)) y.value line) Prefix))
  value env (change_plain u x a) kind line = counted_as (nodes_of x) (do
    y ← evaluate env a
    as_rvalue (update_plain x.variable (updated u (scalar_of kind) y.value line) Prefix))
  value env (step u fixity p) kind line = counted (do
    q ← place env p
    as_rvalue (update (scalar_of (lvalue_kind p)) (is_judged p) q.value (lvalue_line p)
        (updated u (scalar_of (lvalue_kind p)) (integer 1) line) fixity))
  value env (step_plain u fixity x) kind line = counted_as (nodes_of x)
      (as_rvalue (update_plain x.variable (updated u (scalar_of kind) (integer 1) line) fixity))
  value env (call f args) kind line = counted (do
    vs ← each_value (values env args)
    env.call f vs line)
  value env (call_through type_number a args) kind line = counted (do
    v ← evaluate env a
    vs ← each_value (values env args)
    f ← callee env.setting.functions type_number v.value line
    env.call f vs line)
  value env (library name args) kind line = counted (do
    vs ← each_value (values env args)
    tally 1
    as_rvalue (routine env.setting name (values_of vs) line))
  value env (printf format args) kind line = counted (do
    tally 1
    vs ← each_value (values env args)
    tally 1
    as_rvalue (print_formatted format (values_of vs) line))

  -- an lvalue
  pub place : Env → Lvalue → Run Rvalue
  place env (lvalue kind line node) = node_place env node

  pub node_place : Env → LvalueNode → Run Rvalue
  node_place env (automatic x) = counted (as_rvalue (read_state (home_pointer x)))
  node_place env (static n) = counted (as_rvalue (read_state (λ s. pointer_to n s.objects)))
  node_place env (deref a) = counted (as_pointer (evaluate env a))
  node_place env (index form size a b) = counted (do
    x ← evaluate env a
    y ← evaluate env b
    give (offset_value form size x.value y.value))
  node_place env (member p offset size) = counted (do
    q ← place env p
    done (member_of offset size q))
  node_place env (arrow a offset size) = counted (do
    v ← evaluate env a
    give (narrowed offset size v.value))
  node_place env (member_of_value a offset size) = counted (do
    v ← evaluate env a
    done (member_of offset size v))
  node_place env (parenthesized_lvalue p) = counted (place env p)

  -- what each argument of a call does: its value is found, that of a structure with its contents at once
  pub values : Env → Expressions → List (Run Rvalue)
  values env no_expressions = []
  values env (expressions e es) = argument (kind_of e) (line_of e) (evaluate env e) ∷ values env es
