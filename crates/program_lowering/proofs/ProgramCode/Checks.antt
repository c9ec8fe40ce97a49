-- How many instructions the code of a program has, and how many checks are to come.
use Rattle.std.proofs.Common.{◌≡◌, ℕ, zero, suc, ◌+◌, Bool, true, false, List, [], ◌∷◌, ◌++◌, map, Option, Some}
use Rattle.std.proofs.Common.{None}
use Rattle.std.proofs.Common.{refl, sym, ap, ◌∙◌, arith}
use Rattle.source_meaning.specs.Blocks.{has_objects}
use Rattle.source_meaning.specs.Expressions.{is_judged}
use Rattle.c_tree.specs.declared.expression.Kind.{Kind}
use Rattle.c_tree.specs.declared.expression.Kind.TheVariants.{Void, Scalar as OfScalar, Structure, Array}
use Rattle.c_tree.specs.declared.program.Variable.{Variable}
use Rattle.c_tree.specs.declared.statement.CaseLabel.{CaseLabel}
use Rattle.c_tree.specs.declared.statement.CaseLabel.TheVariants.{Case, Default}
use Rattle.c_tree.specs.Tree.{Expression, expression, Expressions, no_expressions, expressions, Lvalue, lvalue, Node}
use Rattle.c_tree.specs.Tree.{constant, function, plain, read, decay, address, parenthesized, deref_function}
use Rattle.c_tree.specs.Tree.{address_function, cast, convert, unary, binary, offset_by, difference, logical_and}
use Rattle.c_tree.specs.Tree.{logical_or, comma, conditional, assign, assign_plain, compound, change_plain, step}
use Rattle.c_tree.specs.Tree.{step_plain, call, call_through, library, printf, LvalueNode, automatic, static, deref}
use Rattle.c_tree.specs.Tree.{index, member, arrow, member_of_value, parenthesized_lvalue, kind_of, lvalue_kind}
use Rattle.c_tree.specs.Walk.{visited, visited_lvalue, walk, walk_lvalue, walk_operands, walk_lvalue_operands}
use Rattle.c_tree.specs.Walk.{walk_each, sum_of}
use Rattle.c_tree.specs.Blocks.{all_of, block_objects, block_variables, switch_variables, first_variables}
use Rattle.c_tree.specs.Blocks.{if_any, initializer_contents, declared_contents, first_contents, contents_of}
use Rattle.c_tree.specs.Blocks.{each_contents, items_contents}
use Rattle.c_tree.specs.Programs.{Function, FunctionType, Program}
use Rattle.c_tree.specs.Statements.{Content, value_content, literal_content, Part, Initializer, of_plain, of_object}
use Rattle.c_tree.specs.Statements.{DeclaredVariable, First, nothing, first_expression, first_declaration, Statement}
use Rattle.c_tree.specs.Statements.{expression_statement, empty, declaration, block, if_then, if_else, while_do}
use Rattle.c_tree.specs.Statements.{do_while, for, switch, break, continue, return, Statements, no_statements}
use Rattle.c_tree.specs.Statements.{statements, SwitchItems, no_items, items}
use Rattle.tac_ir.specs.declared.instruction.Instruction.{Instruction}
use Rattle.tac_ir.specs.declared.instruction.Instruction.TheVariants as tac
use Rattle.tac_ir.specs.declared.function.CodeFunction.{CodeFunction}
use Rattle.tac_ir.specs.declared.function.Tac.{Tac}
use Rattle.c_lower.specs.Values.{mode_for}
use Rattle.check_insert.specs.Counting.{checks_for, checks_for_kind, checks_needed, is_check}
use Rattle.check_insert.specs.Counting.{sum_over, sum_of_functions}
use Rattle.c_lower.specs.Conversions.{keeps}
use Rattle.program_lowering.proofs.ExpressionCode.Conversions.{no_conversion}
use Rattle.program_lowering.specs.ExpressionCode.Weights.{Weights, weight_of, code_weight, taking_weight}
use Rattle.program_lowering.specs.ExpressionCode.Weights.{takings_weight, returning_weight, weight_made}
use Rattle.program_lowering.specs.StatementParts.Weights.{content_weight, parts_weight, initializer_weight}
use Rattle.program_lowering.specs.StatementParts.Weights.{declared_weight, first_weight, condition_weight, part_weight}
use Rattle.program_lowering.specs.StatementParts.Weights.{weight_where, block_weight}
use Rattle.program_lowering.specs.StatementCode.Weights.{labels_weight, statement_weight, each_weight, items_weight}
use Rattle.program_lowering.specs.ProgramCode.Weights.{functions_weight, codes_weight, IsWeighed, program_weight}
use Rattle.program_lowering.specs.ProgramCode.Weights.{instruction_count}
use Rattle.program_lowering.specs.ExpressionCode.Weights.{each_one}
use Rattle.program_lowering.proofs.ExpressionCode.Lengths.{as_long}
use Rattle.program_lowering.specs.ProgramCode.Checks.{scalar_checks, access_checks, checks_made}
use Rattle.program_lowering.specs.ProgramCode.Checks.{content_checks, contents_checks, functions_checks}
use Rattle.program_lowering.specs.ProgramCode.Checks.{checks_of, AwaitsChecks}

-- ---- instructions

as_many : (ts : List (List ℕ)) (cs : List CodeFunction) → codes_weight ts cs each_one ≡ instruction_count cs
as_many ts [] = refl
as_many ts (c ∷ cs) = omega (arith, as_long ts c.code, as_many ts cs)

pub counted_by : (p : Program) (t : Tac) → IsWeighed p t → instruction_count t.functions ≡ program_weight p each_one
counted_by p t h = sym (as_many t.texts t.functions) ∙ h.by each_one (record { by = λ kind. refl })

-- ---- checks: an instruction weighs as many as it needs, and one that is a check weighs something or nothing

abbrev once : (counts : Bool) → ℕ → ℕ
once true n = n
once false n = 0

abbrev counting : (counts : Bool) → Weights
counting b = record {
  skip = 0;
  constant = 0;
  function_pointer = 0;
  get_plain = 0;
  set_plain = λ x. 0;
  update_plain = λ x k. 0;
  home_pointer = 0;
  static_pointer = 0;
  zero_of = λ kind. 0;
  convert = λ kind. 0;
  unary = 0;
  binary = 0;
  offset = 0;
  difference = 0;
  narrow = 0;
  member = 0;
  take = λ kind. 0;
  take_first = λ kind. 0;
  read = λ kind mode. checks_for_kind kind mode;
  write = λ kind mode. checks_for_kind kind mode;
  update = λ k mode. checks_for mode;
  check = once b 1;
  zero = 0;
  store_part = λ kind. 0;
  store_text = λ bytes. 0;
  branch = 0;
  case = 0;
  turn = 0;
  library = λ r. 0;
  print = λ format. 0;
  call = λ f n. 0;
  call_through = λ type n. 0;
  enter_block = 0;
  leave_block = 0;
  return = 0;
}

needs : (ts : List (List ℕ)) (i : Instruction) → weight_of ts i (counting false) ≡ checks_needed i
needs ts tac.Reserved = refl
needs ts (tac.Skip m) = refl
needs ts (tac.Constant d n m) = refl
needs ts (tac.FunctionPointer d f m) = refl
needs ts (tac.GetPlain d x m) = refl
needs ts (tac.SetPlain x a m) = refl
needs ts (tac.UpdatePlain u k f line d x right m) = refl
needs ts (tac.HomePointer d x m) = refl
needs ts (tac.StaticPointer d n m) = refl
needs ts (tac.ZeroOf kind d m) = refl
needs ts (tac.Convert kind d a m) = refl
needs ts (tac.Unary op t d a m) = refl
needs ts (tac.Binary op t line d a e m) = refl
needs ts (tac.Offset form size d a e m) = refl
needs ts (tac.Difference size d a e m) = refl
needs ts (tac.Narrow offset size d a m) = refl
needs ts (tac.Member offset size d a m) = refl
needs ts (tac.Take kind line zero a m) = refl
needs ts (tac.Take kind line (suc d) a m) = refl
needs ts (tac.Read kind mode line key d a m) = refl
needs ts (tac.Write kind mode line key d a e m) = refl
needs ts (tac.Update u k f mode line at key d a right m) = refl
needs ts (tac.Judge test size line key a m) = refl
needs ts (tac.Zero x m) = refl
needs ts (tac.StorePart kind line x offset a m) = refl
needs ts (tac.StoreText n x offset m) = refl
needs ts (tac.Branch a x y) = refl
needs ts (tac.Case a n x y) = refl
needs ts (tac.Turn counted m) = refl
needs ts (tac.Library r line d n m) = refl
needs ts (tac.Print x line d n m) = refl
needs ts (tac.Call f line d n m) = refl
needs ts (tac.CallThrough type line d n m) = refl
needs ts (tac.EnterBlock e line m) = refl
needs ts (tac.LeaveBlock e m) = refl
needs ts (tac.Return a) = refl

has : (ts : List (List ℕ)) (i : Instruction) → weight_of ts i (counting true) ≡ checks_needed i + is_check i
has ts tac.Reserved = omega arith
has ts (tac.Skip m) = omega arith
has ts (tac.Constant d n m) = omega arith
has ts (tac.FunctionPointer d f m) = omega arith
has ts (tac.GetPlain d x m) = omega arith
has ts (tac.SetPlain x a m) = omega arith
has ts (tac.UpdatePlain u k f line d x right m) = omega arith
has ts (tac.HomePointer d x m) = omega arith
has ts (tac.StaticPointer d n m) = omega arith
has ts (tac.ZeroOf kind d m) = omega arith
has ts (tac.Convert kind d a m) = omega arith
has ts (tac.Unary op t d a m) = omega arith
has ts (tac.Binary op t line d a e m) = omega arith
has ts (tac.Offset form size d a e m) = omega arith
has ts (tac.Difference size d a e m) = omega arith
has ts (tac.Narrow offset size d a m) = omega arith
has ts (tac.Member offset size d a m) = omega arith
has ts (tac.Take kind line zero a m) = omega arith
has ts (tac.Take kind line (suc d) a m) = omega arith
has ts (tac.Read kind mode line key d a m) = omega arith
has ts (tac.Write kind mode line key d a e m) = omega arith
has ts (tac.Update u k f mode line at key d a right m) = omega arith
has ts (tac.Judge test size line key a m) = omega arith
has ts (tac.Zero x m) = omega arith
has ts (tac.StorePart kind line x offset a m) = omega arith
has ts (tac.StoreText n x offset m) = omega arith
has ts (tac.Branch a x y) = omega arith
has ts (tac.Case a n x y) = omega arith
has ts (tac.Turn counted m) = omega arith
has ts (tac.Library r line d n m) = omega arith
has ts (tac.Print x line d n m) = omega arith
has ts (tac.Call f line d n m) = omega arith
has ts (tac.CallThrough type line d n m) = omega arith
has ts (tac.EnterBlock e line m) = omega arith
has ts (tac.LeaveBlock e m) = omega arith
has ts (tac.Return a) = omega arith

code_needs : (ts : List (List ℕ)) (is : List Instruction)
    → code_weight ts is (counting false) ≡ sum_over checks_needed is
code_needs ts [] = refl
code_needs ts (i ∷ is) = omega (arith, needs ts i, code_needs ts is)

code_has : (ts : List (List ℕ)) (is : List Instruction)
    → code_weight ts is (counting true) ≡ sum_over checks_needed is + sum_over is_check is
code_has ts [] = refl
code_has ts (i ∷ is) = omega (arith, has ts i, code_has ts is)

codes_need : (ts : List (List ℕ)) (cs : List CodeFunction)
    → codes_weight ts cs (counting false) ≡ sum_of_functions checks_needed cs
codes_need ts [] = refl
codes_need ts (c ∷ cs) = omega (arith, code_needs ts c.code, codes_need ts cs)

codes_have : (ts : List (List ℕ)) (cs : List CodeFunction)
    → codes_weight ts cs (counting true) ≡ sum_of_functions checks_needed cs + sum_of_functions is_check cs
codes_have ts [] = refl
codes_have ts (c ∷ cs) = omega (arith, code_has ts c.code, codes_have ts cs)

-- ---- the text

scalar_has : (j : Bool) → checks_for (mode_for j) ≡ scalar_checks j
scalar_has true = refl
scalar_has false = refl

access_has : (kind : Kind) (j : Bool) → checks_for_kind kind (mode_for j) ≡ access_checks kind j
access_has Void j = refl
access_has (OfScalar k) j = scalar_has j
access_has (Structure size) j = scalar_has j
access_has (Array size) j = refl

none_taken : (b : Bool) (kind : Kind) → taking_weight kind (counting b) ≡ 0
none_taken b Void = refl
none_taken b (OfScalar k) = refl
none_taken b (Structure size) = refl
none_taken b (Array size) = refl

none_returned : (b : Bool) (kind : Kind) → returning_weight kind (counting b) ≡ 0
none_returned b Void = refl
none_returned b (OfScalar k) = refl
none_returned b (Structure size) = refl
none_returned b (Array size) = refl

none_of_all : (b : Bool) (es : Expressions) → takings_weight es (counting b) ≡ 0
none_of_all b no_expressions = refl
none_of_all b (expressions e es) = omega (arith, none_taken b (kind_of e), none_of_all b es)

node_has : (b : Bool) (kind : Kind) (node : Node) (ns : List ℕ)
    → weight_made (counting b) (visited kind node) ns ≡ checks_made (visited kind node) ns
node_has q kind (constant n) ns = omega arith
node_has q kind (function f) ns = omega arith
node_has q kind (plain x) ns = omega arith
node_has q kind (read p) ns = ap (λ n. n + sum_of ns) (access_has (lvalue_kind p) (is_judged p))
node_has q kind (decay p) ns = omega arith
node_has q kind (address p) ns = omega arith
node_has q kind (parenthesized a) ns = omega arith
node_has q kind (deref_function a) ns = omega arith
node_has q kind (address_function a) ns = omega arith
node_has q kind (cast a) ns = omega (arith, no_conversion (keeps (kind_of a) kind) kind (counting q) refl)
node_has q kind (convert a) ns = omega (arith, no_conversion (keeps (kind_of a) kind) kind (counting q) refl)
node_has q kind (unary op a) ns = omega arith
node_has q kind (binary op a b) ns = omega arith
node_has q kind (offset_by form size a b) ns = omega arith
node_has q kind (difference size a b) ns = omega arith
node_has q kind (logical_and a b) ns = omega arith
node_has q kind (logical_or a b) ns = omega arith
node_has q kind (comma a b) ns = omega arith
node_has q kind (conditional a b e) ns = omega arith
node_has q kind (assign p a) ns = ap (λ n. n + sum_of ns) (access_has (lvalue_kind p) (is_judged p))
node_has q kind (assign_plain x a) ns = omega arith
node_has q kind (compound u p a) ns = ap (λ n. n + sum_of ns) (scalar_has (is_judged p))
node_has q kind (change_plain u x a) ns = omega arith
node_has q kind (step u fixity p) ns = ap (λ n. n + sum_of ns) (scalar_has (is_judged p))
node_has q kind (step_plain u fixity x) ns = omega arith
node_has q kind (call f es) ns = omega (arith, none_of_all q es)
node_has q kind (call_through type a es) ns = omega (arith, none_of_all q es)
node_has q kind (library routine es) ns = omega (arith, none_of_all q es)
node_has q kind (printf format es) ns = omega (arith, none_of_all q es)

place_has : (b : Bool) (kind : Kind) (node : LvalueNode) (ns : List ℕ)
    → weight_made (counting b) (visited_lvalue kind node) ns ≡ checks_made (visited_lvalue kind node) ns
place_has q kind (automatic x) ns = refl
place_has q kind (static n) ns = refl
place_has q kind (deref a) ns = refl
place_has q kind (index form size a b) ns = refl
place_has q kind (member p offset size) ns = refl
place_has q kind (arrow a offset size) ns = refl
place_has q kind (member_of_value a offset size) ns = refl
place_has q kind (parenthesized_lvalue p) ns = refl

both : {x y : ℕ} {xs ys : List ℕ} → x ≡ y → xs ≡ ys → x ∷ xs ≡ y ∷ ys
both {y = y} {xs = xs} e f = ap (λ z. z ∷ xs) e ∙ ap (λ zs. y ∷ zs) f

mutual
  expression_has : (b : Bool) (e : Expression) → walk (weight_made (counting b)) e ≡ walk checks_made e
  expression_has b (expression kind line node) =
      node_has b kind node (walk_operands (weight_made (counting b)) node)
      ∙ ap (checks_made (visited kind node)) (operands_have b node)

  lvalue_has : (b : Bool) (p : Lvalue) → walk_lvalue (weight_made (counting b)) p ≡ walk_lvalue checks_made p
  lvalue_has b (lvalue kind line node) =
      place_has b kind node (walk_lvalue_operands (weight_made (counting b)) node)
      ∙ ap (checks_made (visited_lvalue kind node)) (places_have b node)

  operands_have : (b : Bool) (node : Node)
      → walk_operands (weight_made (counting b)) node ≡ walk_operands checks_made node
  operands_have q (constant n) = refl
  operands_have q (function f) = refl
  operands_have q (plain x) = refl
  operands_have q (read p) = both (lvalue_has q p) refl
  operands_have q (decay p) = both (lvalue_has q p) refl
  operands_have q (address p) = both (lvalue_has q p) refl
  operands_have q (parenthesized a) = both (expression_has q a) refl
  operands_have q (deref_function a) = both (expression_has q a) refl
  operands_have q (address_function a) = both (expression_has q a) refl
  operands_have q (cast a) = both (expression_has q a) refl
  operands_have q (convert a) = both (expression_has q a) refl
  operands_have q (unary op a) = both (expression_has q a) refl
  operands_have q (binary op a b) = both (expression_has q a) (both (expression_has q b) refl)
  operands_have q (offset_by form size a b) = both (expression_has q a) (both (expression_has q b) refl)
  operands_have q (difference size a b) = both (expression_has q a) (both (expression_has q b) refl)
  operands_have q (logical_and a b) = both (expression_has q a) (both (expression_has q b) refl)
  operands_have q (logical_or a b) = both (expression_has q a) (both (expression_has q b) refl)
  operands_have q (comma a b) = both (expression_has q a) (both (expression_has q b) refl)
  operands_have q (conditional a b e) =
      both (expression_has q a) (both (expression_has q b) (both (expression_has q e) refl))
  operands_have q (assign p a) = both (lvalue_has q p) (both (expression_has q a) refl)
  operands_have q (assign_plain x a) = both (expression_has q a) refl
  operands_have q (compound u p a) = both (lvalue_has q p) (both (expression_has q a) refl)
  operands_have q (change_plain u x a) = both (expression_has q a) refl
  operands_have q (step u fixity p) = both (lvalue_has q p) refl
  operands_have q (step_plain u fixity x) = refl
  operands_have q (call f es) = each_has q es
  operands_have q (call_through type a es) = both (expression_has q a) (each_has q es)
  operands_have q (library routine es) = each_has q es
  operands_have q (printf format es) = each_has q es

  places_have : (b : Bool) (node : LvalueNode)
      → walk_lvalue_operands (weight_made (counting b)) node ≡ walk_lvalue_operands checks_made node
  places_have q (automatic x) = refl
  places_have q (static n) = refl
  places_have q (deref a) = both (expression_has q a) refl
  places_have q (index form size a b) = both (expression_has q a) (both (expression_has q b) refl)
  places_have q (member p offset size) = both (lvalue_has q p) refl
  places_have q (arrow a offset size) = both (expression_has q a) refl
  places_have q (member_of_value a offset size) = both (expression_has q a) refl
  places_have q (parenthesized_lvalue p) = both (lvalue_has q p) refl

  each_has : (b : Bool) (es : Expressions) → walk_each (weight_made (counting b)) es ≡ walk_each checks_made es
  each_has b no_expressions = refl
  each_has b (expressions e es) = both (expression_has b e) (each_has b es)

-- what is evaluated

together : (xs ys : List Content) → contents_checks (xs ++ ys) ≡ contents_checks xs + contents_checks ys
together [] ys = omega arith
together (x ∷ xs) ys = omega (arith, together xs ys)

content_has : (b : Bool) (c : Content) → content_weight c (counting b) ≡ content_checks c
content_has b (value_content e) = omega (arith, expression_has b e)
content_has b (literal_content bytes) = refl

parts_have : (b : Bool) (qs : List Part)
    → parts_weight qs (counting b) ≡ contents_checks (map (λ (q : Part). q.content) qs)
parts_have b [] = refl
parts_have b (q ∷ qs) = omega (arith, content_has b q.content, parts_have b qs)

initializer_has : (b : Bool) (x : ℕ) (o : Option Initializer)
    → initializer_weight x o (counting b) ≡ contents_checks (initializer_contents o)
initializer_has b x None = refl
initializer_has b x (Some (of_plain e)) = omega (arith, expression_has b e)
initializer_has b x (Some (of_object parts)) = omega (arith, parts_have b parts)

declared_has : (b : Bool) (ds : List DeclaredVariable)
    → declared_weight ds (counting b) ≡ contents_checks (declared_contents ds)
declared_has b [] = refl
declared_has b (d ∷ ds) =
    omega (
      arith,
      initializer_has b d.variable d.initializer,
      declared_has b ds,
      together (initializer_contents d.initializer) (declared_contents ds),
    )

first_has : (b : Bool) (first : First) → first_weight first (counting b) ≡ contents_checks (first_contents first)
first_has b nothing = refl
first_has b (first_expression e) = omega (arith, expression_has b e)
first_has b (first_declaration ds) = declared_has b ds

condition_has : (b : Bool) (o : Option Expression) → condition_weight o (counting b) ≡ contents_checks (if_any o)
condition_has b None = refl
condition_has b (Some e) = omega (arith, expression_has b e)

part_has : (b : Bool) (o : Option Expression) → part_weight o (counting b) ≡ contents_checks (if_any o)
part_has b None = refl
part_has b (Some e) = omega (arith, expression_has b e)

nothing_where : (h : Bool) → weight_where h 0 ≡ 0
nothing_where true = refl
nothing_where false = refl

none_of_block : (b : Bool) (vs : List Variable) (numbers : List ℕ) → block_weight vs numbers (counting b) ≡ 0
none_of_block b vs numbers =
    let none = nothing_where (has_objects (block_objects vs numbers)) in omega (arith, none)

none_of_labels : (b : Bool) (ls : List CaseLabel) → labels_weight ls (counting b) ≡ 0
none_of_labels b [] = refl
none_of_labels b (Case n ∷ ls) = omega (arith, none_of_labels b ls)
none_of_labels b (Default ∷ ls) = omega (arith, none_of_labels b ls)

mutual
  statement_has : (b : Bool) (vs : List Variable) (s : Statement)
      → statement_weight vs s (counting b) ≡ contents_checks (contents_of s)
  statement_has b vs (expression_statement e) = omega (arith, expression_has b e)
  statement_has b vs empty = refl
  statement_has b vs (declaration ds) = declared_has b ds
  statement_has b vs (block line body) =
      omega (arith, none_of_block b vs (block_variables body), statements_have b vs body)
  statement_has b vs (if_then e s) = omega (arith, expression_has b e, statement_has b vs s)
  statement_has b vs (if_else e s other) =
      omega (
        arith,
        expression_has b e,
        statement_has b vs s,
        statement_has b vs other,
        together (contents_of s) (contents_of other),
      )
  statement_has b vs (while_do e s) = omega (arith, expression_has b e, statement_has b vs s)
  statement_has b vs (do_while s e) =
      omega (
        arith,
        expression_has b e,
        statement_has b vs s,
        together (contents_of s) (value_content e ∷ []),
      )
  statement_has b vs (for line first test next s) =
      omega (
        arith,
        none_of_block b vs (first_variables first),
        first_has b first,
        condition_has b test,
        part_has b next,
        statement_has b vs s,
        together (first_contents first) (if_any test ++ (if_any next ++ contents_of s)),
        together (if_any test) (if_any next ++ contents_of s),
        together (if_any next) (contents_of s),
      )
  statement_has b vs (switch e line is) =
      omega (arith, expression_has b e, none_of_block b vs (switch_variables is), items_have b vs is)
  statement_has b vs break = refl
  statement_has b vs continue = refl
  statement_has b vs (return None) = refl
  statement_has b vs (return (Some e)) = omega (arith, expression_has b e, none_returned b (kind_of e))

  statements_have : (b : Bool) (vs : List Variable) (ss : Statements)
      → each_weight vs ss (counting b) ≡ contents_checks (each_contents ss)
  statements_have b vs no_statements = refl
  statements_have b vs (statements s ss) =
      omega (
        arith,
        statement_has b vs s,
        statements_have b vs ss,
        together (contents_of s) (each_contents ss),
      )

  items_have : (b : Bool) (vs : List Variable) (is : SwitchItems)
      → items_weight vs is (counting b) ≡ contents_checks (items_contents is)
  items_have b vs no_items = refl
  items_have b vs (items labels s is) =
      omega (
        arith,
        none_of_labels b labels,
        statement_has b vs s,
        items_have b vs is,
        together (contents_of s) (items_contents is),
      )

functions_have : (b : Bool) (results : List Kind) (fs : List Function)
    → functions_weight results fs (counting b) ≡ functions_checks fs
functions_have b results [] = refl
functions_have b results (f ∷ fs) = omega (arith, statements_have b (all_of f) f.body, functions_have b results fs)

-- ---- so there are none, and as many will be

text_has : (b : Bool) (p : Program) → program_weight p (counting b) ≡ checks_of p
text_has b p = functions_have b (map (λ (t : FunctionType). t.result) p.function_types) p.functions

pub awaits : (p : Program) (t : Tac) → IsWeighed p t → AwaitsChecks p t
awaits p t h =
    let needed = codes_need t.texts t.functions in
    let both = codes_have t.texts t.functions in
    let without = h.by (counting false) (record { by = λ kind. refl }) in
    let with_them = h.by (counting true) (record { by = λ kind. refl }) in
    let text = text_has false p in
    let same = text_has true p in
    record {
      none = omega (arith, needed, both, without, with_them, text, same);
      to_come = sym needed ∙ without ∙ text;
    }
