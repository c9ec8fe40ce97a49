-- A statement whose text assigns a plain variable nowhere has code that does not: what assigns it has a weight.
use Rattle.std.proofs.Common.{◌≡◌, ℕ, zero, suc, ◌+◌, ◌≤◌, Bool, true, false, List, [], ◌∷◌, length, Option}
use Rattle.std.proofs.Common.{Some, None, refl, ap, subst, arith}
use Rattle.std.specs.Prelude.{◌||◌, ◌==◌, not}
use Rattle.std.proofs.lemmas.Bool.{and_parts}
use Rattle.std.proofs.lemmas.Option.{same_Some}
use Rattle.c_tree.specs.declared.expression.Kind.{Kind}
use Rattle.c_tree.specs.declared.expression.Kind.TheVariants.{Void, Scalar as OfScalar, Structure, Array}
use Rattle.c_tree.specs.declared.program.Variable.{Variable}
use Rattle.c_tree.specs.declared.statement.CaseLabel.{CaseLabel}
use Rattle.c_tree.specs.declared.statement.CaseLabel.TheVariants.{Case, Default}
use Rattle.c_tree.specs.Tree.{Expression, expression, Expressions, no_expressions, expressions, Lvalue, lvalue, Node}
use Rattle.c_tree.specs.Tree.{constant, function, plain, read, decay, address, parenthesized, deref_function}
use Rattle.c_tree.specs.Tree.{address_function, cast, convert, unary, binary, offset_by, difference, logical_and}
use Rattle.c_tree.specs.Tree.{logical_or, comma, conditional, assign, assign_plain, compound, change_plain, step}
use Rattle.c_tree.specs.Tree.{step_plain, call, call_through, library, printf, LvalueNode, automatic, static, deref}
use Rattle.c_tree.specs.Tree.{index, member, arrow, member_of_value, parenthesized_lvalue, kind_of}
use Rattle.c_tree.specs.Walk.{visited, visited_lvalue, walk_lvalue, walk_operands, walk_lvalue_operands}
use Rattle.c_tree.specs.Walk.{walk_each, any_of, sum_of, assigns, assigns_itself, assigns_made}
use Rattle.c_tree.specs.Assigning.{content_assigns, parts_assign, initializer_assigns, declared_assign, first_assigns}
use Rattle.c_tree.specs.Assigning.{if_assigns, statement_assigns, each_assigns, items_assign}
use Rattle.c_tree.specs.Blocks.{block_objects, block_variables, first_variables, switch_variables}
use Rattle.c_tree.specs.Statements.{Content, value_content, literal_content, Part, Initializer, of_plain, of_object}
use Rattle.c_tree.specs.Statements.{DeclaredVariable, First, nothing, first_expression, first_declaration, Statement}
use Rattle.c_tree.specs.Statements.{expression_statement, empty, declaration, block, if_then, if_else, while_do}
use Rattle.c_tree.specs.Statements.{do_while, for, switch, break, continue, return, Statements, no_statements}
use Rattle.c_tree.specs.Statements.{statements, SwitchItems, no_items, items}
use Rattle.source_meaning.specs.Blocks.{has_objects}
use Rattle.tac_ir.specs.declared.instruction.Instruction.{Instruction}
use Rattle.tac_ir.specs.declared.instruction.Instruction.TheVariants as tac
use Rattle.tac_ir.specs.Bodies.{assigns_plain}
use Rattle.c_lower.specs.Counted.{CountedParts, Setting, counted_parts, counted_by, if_counted, set_first, compared_with}
use Rattle.c_lower.specs.Placed.{HasAt}
use Rattle.program_lowering.specs.declared.expressions.emitter.Emitter.{Emitter}
use Rattle.program_lowering.specs.ExpressionCode.Emitted.{Stays, Emits}
use Rattle.c_lower.specs.Conversions.{keeps}
use Rattle.program_lowering.proofs.ExpressionCode.Conversions.{no_conversion}
use Rattle.program_lowering.specs.ExpressionCode.Weights.{Weights, weight_of, code_weight, own_weight, weight_made}
use Rattle.program_lowering.specs.ExpressionCode.Weights.{taking_weight, returning_weight, takings_weight}
use Rattle.program_lowering.specs.ExpressionCode.Weights.{expression_weight}
use Rattle.program_lowering.specs.StatementParts.Weights.{content_weight, parts_weight, initializer_weight}
use Rattle.program_lowering.specs.StatementParts.Weights.{declared_weight, first_weight, condition_weight}
use Rattle.program_lowering.specs.StatementParts.Weights.{part_weight, block_weight, weight_where}
use Rattle.program_lowering.specs.StatementCode.Weights.{labels_weight, statement_weight, each_weight, items_weight}
use Rattle.program_lowering.proofs.ExpressionCode.Growing.{stays_all}

abbrev unit : Bool → ℕ
unit true = 1
unit false = 0

-- only what assigns a variable weighs
abbrev assigning : (variable : ℕ) → Weights
assigning v = record {
  skip = 0;
  constant = 0;
  function_pointer = 0;
  get_plain = 0;
  set_plain = λ x. unit (x == v);
  update_plain = λ x k. unit (x == v);
  home_pointer = 0;
  static_pointer = 0;
  zero_of = λ kind. 0;
  convert = λ kind. 0;
  unary = 0;
  binary = 0;
  offset = 0;
  difference = 0;
  narrow = 0;
  member = 0;
  take = λ kind. 0;
  take_first = λ kind. 0;
  read = λ kind mode. 0;
  write = λ kind mode. 0;
  update = λ k mode. 0;
  check = 0;
  zero = 0;
  store_part = λ kind. 0;
  store_text = λ bytes. 0;
  branch = 0;
  case = 0;
  turn = 0;
  library = λ r. 0;
  print = λ format. 0;
  call = λ f n. 0;
  call_through = λ type n. 0;
  enter_block = 0;
  leave_block = 0;
  return = 0;
}

-- what does not assign it weighs nothing

record Light (found : Bool) (weight : ℕ) : Type 0 where
  by : found ≡ false → weight ≡ 0

record AreLight (found : List Bool) (weights : List ℕ) : Type 0 where
  by : any_of found ≡ false → sum_of weights ≡ 0

either_false : (a b : Bool) → a || b ≡ false → (a ≡ false) × (b ≡ false)
either_false true b h = cc
either_false false b h = (refl, h)

none : AreLight [] []
none = record { by = λ h. refl }

both : {b : Bool} {n : ℕ} {bs : List Bool} {ns : List ℕ} → Light b n → AreLight bs ns → AreLight (b ∷ bs) (n ∷ ns)
both {b = b} {bs = bs} h g = record {
  by = λ f. let p = either_false b (any_of bs) f in omega (arith, h.by p.0, g.by p.1);
}

light : {n : ℕ} {b : Bool} → n ≡ 0 → Light b n
light e = record { by = λ h. e }

or_light : {a b : Bool} {m n k : ℕ} → Light a m → Light b n → k ≡ m + n → Light (a || b) k
or_light {a = a} {b = b} h g e = record {
  by = λ f. let p = either_false a b f in omega (arith, h.by p.0, g.by p.1, e);
}

or_both : {a b : Bool} {m n : ℕ} → Light a m → Light b n → Light (a || b) (m + n)
or_both h g = or_light h g refl

unit_light : (b : Bool) → Light b (unit b)
unit_light b = record { by = λ h. ap unit h }

-- expressions

none_taken : (v : ℕ) (kind : Kind) → taking_weight kind (assigning v) ≡ 0
none_taken v Void = refl
none_taken v (OfScalar k) = refl
none_taken v (Structure size) = refl
none_taken v (Array size) = refl

none_returned : (v : ℕ) (kind : Kind) → returning_weight kind (assigning v) ≡ 0
none_returned v Void = refl
none_returned v (OfScalar k) = refl
none_returned v (Structure size) = refl
none_returned v (Array size) = refl

none_of_all : (v : ℕ) (es : Expressions) → takings_weight es (assigning v) ≡ 0
none_of_all v no_expressions = refl
none_of_all v (expressions e es) = omega (arith, none_taken v (kind_of e), none_of_all v es)

own_light : (v : ℕ) (kind : Kind) (node : Node)
    → Light (assigns_itself v (visited kind node)) (own_weight kind node (assigning v))
own_light v kind (constant n) = light refl
own_light v kind (function f) = light refl
own_light v kind (plain x) = light refl
own_light v kind (read p) = light refl
own_light v kind (decay p) = light refl
own_light v kind (address p) = light refl
own_light v kind (parenthesized a) = light refl
own_light v kind (deref_function a) = light refl
own_light v kind (address_function a) = light refl
own_light v kind (cast a) = light (no_conversion (keeps (kind_of a) kind) kind (assigning v) refl)
own_light v kind (convert a) = light (no_conversion (keeps (kind_of a) kind) kind (assigning v) refl)
own_light v kind (unary op a) = light refl
own_light v kind (binary op a b) = light refl
own_light v kind (offset_by form size a b) = light refl
own_light v kind (difference size a b) = light refl
own_light v kind (logical_and a b) = light refl
own_light v kind (logical_or a b) = light refl
own_light v kind (comma a b) = light refl
own_light v kind (conditional a b e) = light refl
own_light v kind (assign p a) = light refl
own_light v kind (assign_plain x a) = unit_light (x.variable == v)
own_light v kind (compound u p a) = light refl
own_light v kind (change_plain u x a) = unit_light (x.variable == v)
own_light v kind (step u fixity p) = light refl
own_light v kind (step_plain u fixity x) = unit_light (x.variable == v)
own_light v kind (call f es) = light (omega (arith, none_of_all v es))
own_light v kind (call_through type a es) = light (omega (arith, none_of_all v es))
own_light v kind (library routine es) = light (omega (arith, none_of_all v es))
own_light v kind (printf format es) = light (omega (arith, none_of_all v es))

place_light : (v : ℕ) (kind : Kind) (node : LvalueNode) (bs : List Bool) (ns : List ℕ) → AreLight bs ns
    → Light (assigns_made v (visited_lvalue kind node) bs) (weight_made (assigning v) (visited_lvalue kind node) ns)
place_light v kind (automatic x) bs ns h = record { by = λ f. omega (arith, h.by f) }
place_light v kind (static n) bs ns h = record { by = λ f. omega (arith, h.by f) }
place_light v kind (deref a) bs ns h = record { by = λ f. omega (arith, h.by f) }
place_light v kind (index form size a b) bs ns h = record { by = λ f. omega (arith, h.by f) }
place_light v kind (member p offset size) bs ns h = record { by = λ f. omega (arith, h.by f) }
place_light v kind (arrow a offset size) bs ns h = record { by = λ f. omega (arith, h.by f) }
place_light v kind (member_of_value a offset size) bs ns h = record { by = λ f. omega (arith, h.by f) }
place_light v kind (parenthesized_lvalue p) bs ns h = record { by = λ f. omega (arith, h.by f) }

node_light : (v : ℕ) (kind : Kind) (node : Node) (bs : List Bool) (ns : List ℕ) → AreLight bs ns
    → Light (assigns_made v (visited kind node) bs) (weight_made (assigning v) (visited kind node) ns)
node_light v kind node bs ns h = record {
  by = λ f.
      let p = either_false (assigns_itself v (visited kind node)) (any_of bs) f in
      omega (arith, (own_light v kind node).by p.0, h.by p.1);
}

mutual
  expression_light : (v : ℕ) (e : Expression) → Light (assigns v e) (expression_weight e (assigning v))
  expression_light v (expression kind line node) = node_light v kind node _ _ (operands_light v node)

  lvalue_light : (v : ℕ) (p : Lvalue)
      → Light (walk_lvalue (assigns_made v) p) (walk_lvalue (weight_made (assigning v)) p)
  lvalue_light v (lvalue kind line node) = place_light v kind node _ _ (places_light v node)

  operands_light : (v : ℕ) (node : Node)
      → AreLight (walk_operands (assigns_made v) node) (walk_operands (weight_made (assigning v)) node)
  operands_light v (constant n) = none
  operands_light v (function f) = none
  operands_light v (plain x) = none
  operands_light v (read p) = both (lvalue_light v p) none
  operands_light v (decay p) = both (lvalue_light v p) none
  operands_light v (address p) = both (lvalue_light v p) none
  operands_light v (parenthesized a) = both (expression_light v a) none
  operands_light v (deref_function a) = both (expression_light v a) none
  operands_light v (address_function a) = both (expression_light v a) none
  operands_light v (cast a) = both (expression_light v a) none
  operands_light v (convert a) = both (expression_light v a) none
  operands_light v (unary op a) = both (expression_light v a) none
  operands_light v (binary op a b) = both (expression_light v a) (both (expression_light v b) none)
  operands_light v (offset_by form size a b) = both (expression_light v a) (both (expression_light v b) none)
  operands_light v (difference size a b) = both (expression_light v a) (both (expression_light v b) none)
  operands_light v (logical_and a b) = both (expression_light v a) (both (expression_light v b) none)
  operands_light v (logical_or a b) = both (expression_light v a) (both (expression_light v b) none)
  operands_light v (comma a b) = both (expression_light v a) (both (expression_light v b) none)
  operands_light v (conditional a b e) =
      both (expression_light v a) (both (expression_light v b) (both (expression_light v e) none))
  operands_light v (assign p a) = both (lvalue_light v p) (both (expression_light v a) none)
  operands_light v (assign_plain x a) = both (expression_light v a) none
  operands_light v (compound u p a) = both (lvalue_light v p) (both (expression_light v a) none)
  operands_light v (change_plain u x a) = both (expression_light v a) none
  operands_light v (step u fixity p) = both (lvalue_light v p) none
  operands_light v (step_plain u fixity x) = none
  operands_light v (call f es) = each_light v es
  operands_light v (call_through type a es) = both (expression_light v a) (each_light v es)
  operands_light v (library routine es) = each_light v es
  operands_light v (printf format es) = each_light v es

  places_light : (v : ℕ) (node : LvalueNode)
      → AreLight (walk_lvalue_operands (assigns_made v) node) (walk_lvalue_operands (weight_made (assigning v)) node)
  places_light v (automatic x) = none
  places_light v (static n) = none
  places_light v (deref a) = both (expression_light v a) none
  places_light v (index form size a b) = both (expression_light v a) (both (expression_light v b) none)
  places_light v (member p offset size) = both (lvalue_light v p) none
  places_light v (arrow a offset size) = both (expression_light v a) none
  places_light v (member_of_value a offset size) = both (expression_light v a) none
  places_light v (parenthesized_lvalue p) = both (lvalue_light v p) none

  each_light : (v : ℕ) (es : Expressions)
      → AreLight (walk_each (assigns_made v) es) (walk_each (weight_made (assigning v)) es)
  each_light v no_expressions = none
  each_light v (expressions e es) = both (expression_light v e) (each_light v es)

-- initializers

content_light : (v : ℕ) (c : Content) → Light (content_assigns v c) (content_weight c (assigning v))
content_light v (value_content e) = record { by = λ h. omega (arith, (expression_light v e).by h) }
content_light v (literal_content bytes) = light refl

parts_light : (v : ℕ) (qs : List Part) → Light (parts_assign v qs) (parts_weight qs (assigning v))
parts_light v [] = light refl
parts_light v (q ∷ qs) = or_both (content_light v q.content) (parts_light v qs)

initializer_light : (v x : ℕ) (o : Option Initializer)
    → Light (initializer_assigns v x o) (initializer_weight x o (assigning v))
initializer_light v x None = light refl
initializer_light v x (Some (of_plain e)) = or_light (unit_light (x == v)) (expression_light v e) (omega arith)
initializer_light v x (Some (of_object parts)) = record { by = λ h. omega (arith, (parts_light v parts).by h) }

declared_light : (v : ℕ) (ds : List DeclaredVariable)
    → Light (declared_assign v ds) (declared_weight ds (assigning v))
declared_light v [] = light refl
declared_light v (d ∷ ds) = or_both (initializer_light v d.variable d.initializer) (declared_light v ds)

first_light : (v : ℕ) (first : First) → Light (first_assigns v first) (first_weight first (assigning v))
first_light v nothing = light refl
first_light v (first_expression e) = expression_light v e
first_light v (first_declaration ds) = declared_light v ds

condition_light : (v : ℕ) (o : Option Expression) → Light (if_assigns v o) (condition_weight o (assigning v))
condition_light v None = light refl
condition_light v (Some e) = record { by = λ h. omega (arith, (expression_light v e).by h) }

part_light : (v : ℕ) (o : Option Expression) → Light (if_assigns v o) (part_weight o (assigning v))
part_light v None = light refl
part_light v (Some e) = expression_light v e

-- statements

nothing_where : (b : Bool) → weight_where b 0 ≡ 0
nothing_where true = refl
nothing_where false = refl

none_of_block : (v : ℕ) (vs : List Variable) (numbers : List ℕ) → block_weight vs numbers (assigning v) ≡ 0
none_of_block v vs numbers = let none = nothing_where (has_objects (block_objects vs numbers)) in omega (arith, none)

none_of_labels : (v : ℕ) (ls : List CaseLabel) → labels_weight ls (assigning v) ≡ 0
none_of_labels v [] = refl
none_of_labels v (Case n ∷ ls) = omega (arith, none_of_labels v ls)
none_of_labels v (Default ∷ ls) = omega (arith, none_of_labels v ls)

mutual
  statement_light : (v : ℕ) (vs : List Variable) (s : Statement)
      → Light (statement_assigns v s) (statement_weight vs s (assigning v))
  statement_light v vs (expression_statement e) = expression_light v e
  statement_light v vs empty = light refl
  statement_light v vs (declaration ds) = declared_light v ds
  statement_light v vs (block line body) = record {
    by = λ h. omega (arith, none_of_block v vs (block_variables body), (statements_light v vs body).by h);
  }
  statement_light v vs (if_then e s) = or_light (expression_light v e) (statement_light v vs s) (omega arith)
  statement_light v vs (if_else e s other) =
      or_light (expression_light v e) (or_both (statement_light v vs s) (statement_light v vs other)) (omega arith)
  statement_light v vs (while_do e s) = or_light (expression_light v e) (statement_light v vs s) (omega arith)
  statement_light v vs (do_while s e) = or_light (statement_light v vs s) (expression_light v e) (omega arith)
  statement_light v vs (for line first test next s) =
      or_light (first_light v first)
      (or_both (condition_light v test) (or_both (part_light v next) (statement_light v vs s)))
      (omega (arith, none_of_block v vs (first_variables first)))
  statement_light v vs (switch e line is) =
      or_light (expression_light v e) (items_light v vs is)
      (omega (arith, none_of_block v vs (switch_variables is)))
  statement_light v vs break = light refl
  statement_light v vs continue = light refl
  statement_light v vs (return None) = light refl
  statement_light v vs (return (Some e)) = record {
    by = λ h. omega (arith, (expression_light v e).by h, none_returned v (kind_of e));
  }

  statements_light : (v : ℕ) (vs : List Variable) (ss : Statements)
      → Light (each_assigns v ss) (each_weight vs ss (assigning v))
  statements_light v vs no_statements = light refl
  statements_light v vs (statements s ss) = or_both (statement_light v vs s) (statements_light v vs ss)

  items_light : (v : ℕ) (vs : List Variable) (is : SwitchItems)
      → Light (items_assign v is) (items_weight vs is (assigning v))
  items_light v vs no_items = light refl
  items_light v vs (items labels s is) =
      or_light (statement_light v vs s) (items_light v vs is) (omega (arith, none_of_labels v labels))

-- code without weight

assigns_nothing : (b : Bool) → unit b ≡ 0 → b ≡ false
assigns_nothing true h = absurd (omega (arith, h))
assigns_nothing false h = refl

weighs_nothing : (ts : List (List ℕ)) (v : ℕ) (i : Instruction) → weight_of ts i (assigning v) ≡ 0
    → assigns_plain i v ≡ false
weighs_nothing ts v tac.Reserved h = refl
weighs_nothing ts v (tac.Skip m) h = refl
weighs_nothing ts v (tac.Constant d n m) h = refl
weighs_nothing ts v (tac.FunctionPointer d f m) h = refl
weighs_nothing ts v (tac.GetPlain d x m) h = refl
weighs_nothing ts v (tac.SetPlain x a m) h = assigns_nothing (x == v) h
weighs_nothing ts v (tac.UpdatePlain u k f line d x right m) h = assigns_nothing (x == v) h
weighs_nothing ts v (tac.HomePointer d x m) h = refl
weighs_nothing ts v (tac.StaticPointer d n m) h = refl
weighs_nothing ts v (tac.ZeroOf kind d m) h = refl
weighs_nothing ts v (tac.Convert kind d a m) h = refl
weighs_nothing ts v (tac.Unary op t d a m) h = refl
weighs_nothing ts v (tac.Binary op t line d a e m) h = refl
weighs_nothing ts v (tac.Offset form size d a e m) h = refl
weighs_nothing ts v (tac.Difference size d a e m) h = refl
weighs_nothing ts v (tac.Narrow offset size d a m) h = refl
weighs_nothing ts v (tac.Member offset size d a m) h = refl
weighs_nothing ts v (tac.Take kind line d a m) h = refl
weighs_nothing ts v (tac.Read kind mode line key d a m) h = refl
weighs_nothing ts v (tac.Write kind mode line key d a e m) h = refl
weighs_nothing ts v (tac.Update u k f mode line at key d a right m) h = refl
weighs_nothing ts v (tac.Judge test size line key a m) h = refl
weighs_nothing ts v (tac.Zero x m) h = refl
weighs_nothing ts v (tac.StorePart kind line x offset a m) h = refl
weighs_nothing ts v (tac.StoreText n x offset m) h = refl
weighs_nothing ts v (tac.Branch a x y) h = refl
weighs_nothing ts v (tac.Case a n x y) h = refl
weighs_nothing ts v (tac.Turn counted m) h = refl
weighs_nothing ts v (tac.Library r line d n m) h = refl
weighs_nothing ts v (tac.Print x line d n m) h = refl
weighs_nothing ts v (tac.Call f line d n m) h = refl
weighs_nothing ts v (tac.CallThrough type line d n m) h = refl
weighs_nothing ts v (tac.EnterBlock e line m) h = refl
weighs_nothing ts v (tac.LeaveBlock e m) h = refl
weighs_nothing ts v (tac.Return a) h = refl

each_nothing : (ts : List (List ℕ)) (w : Weights) (is : List Instruction) (n : ℕ) (i : Instruction)
    → code_weight ts is w ≡ 0 → HasAt is n i → weight_of ts i w ≡ 0
each_nothing ts w [] n i h at = cc
each_nothing ts w (j ∷ is) zero i h at = omega (arith, h, ap (λ k. weight_of ts k w) (same_Some j i at))
each_nothing ts w (j ∷ is) (suc n) i h at = each_nothing ts w is n i (omega (arith, h)) at

no_first : {A : Type 0} (k : A) → None ≡ Some k → ⊥
no_first k e = cc

-- instructions that are added weigh nothing where all together do not
added_nothing : (ts : List (List ℕ)) (w : Weights) (is js : List Instruction) → Stays is js
    → code_weight ts js w ≡ code_weight ts is w → (n : ℕ) (i : Instruction) → length is ≤ n → HasAt js n i
    → weight_of ts i w ≡ 0
added_nothing ts w [] js s h n i le at = each_nothing ts w js n i h at
added_nothing ts w (k ∷ is) [] s h n i le at = absurd (no_first k (s 0 k refl))
added_nothing ts w (k ∷ is) (j ∷ js) s h zero i le at = absurd (omega (arith, le))
added_nothing ts w (k ∷ is) (j ∷ js) s h (suc n) i le at =
    let same = ap (λ x. weight_of ts x w) (same_Some j k (s 0 k refl)) in
    added_nothing ts w is js (λ m x g. s (suc m) x g) (omega (arith, h, same)) n i (omega (arith, le)) at

-- what is added for a statement assigns no variable that its text does not assign
pub statement_spares : {a b : Emitter} {most : ℕ} (vs : List Variable) (v : ℕ) (s : Statement)
    → Emits a b most (statement_weight vs s) → statement_assigns v s ≡ false → (n : ℕ) (i : Instruction)
    → length a.code.items ≤ n → HasAt b.code.items n i → assigns_plain i v ≡ false
statement_spares {a = a} {b = b} vs v s e spared n i le at =
    let texts = b.texts.items in
    let grown = (e.grown (assigning v) texts (stays_all texts)).exactly (record { by = λ kind. refl }) in
    let nothing : code_weight texts b.code.items (assigning v) ≡ code_weight texts a.code.items (assigning v) =
    omega (arith, grown, (statement_light v vs s).by spared) in
    weighs_nothing texts v i
    (added_nothing texts (assigning v) a.code.items b.code.items e.kept.code nothing n i le at)

-- the body of a counted loop assigns its variable nowhere

not_true : (b : Bool) → not b ≡ true → b ≡ false
not_true true h = cc
not_true false h = refl

pub counted_spares : (first : First) (test next : Option Expression) (s : Statement) (p : CountedParts)
    → counted_parts first test next s ≡ Some p → statement_assigns p.variable s ≡ false
counted_spares first test next s p = by (set_first first) (compared_with test)
  where
    chosen : (t : Bool) (x a b : ℕ) → if_counted t x a b ≡ Some p → (t ≡ true) × (x ≡ p.variable)
    chosen true x a b h = (refl, ap (λ (q : CountedParts). q.variable) (same_Some _ _ h))
    chosen false x a b h = absurd (cc)

    by : (a b : Option Setting) → counted_by a b next s ≡ Some p → statement_assigns p.variable s ≡ false
    by None b h = absurd (cc)
    by (Some a) None h = absurd (cc)
    by (Some a) (Some b) h =
        let c = chosen _ a.variable a.word b.word h in
        subst (λ x. statement_assigns x s ≡ false) c.1
        (not_true (statement_assigns a.variable s) (and_parts _ _ (and_parts _ _ c.0).1).1)
