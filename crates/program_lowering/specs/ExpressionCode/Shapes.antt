-- What operands an expression has, and where their code stands before what the expression itself does.
use Rattle.std.specs.Prelude.{◌≡◌, ℕ, ◌+◌, ◌*◌, max, List, [], ◌∷◌, None}
use Rattle.c_tree.specs.Tree.{Expression, expression, Expressions, Lvalue, lvalue, Node, constant, function, plain}
use Rattle.c_tree.specs.Tree.{read}
use Rattle.c_tree.specs.Tree.{decay, address, parenthesized, deref_function, address_function, cast, convert, unary}
use Rattle.c_tree.specs.Tree.{binary, offset_by, difference, logical_and, logical_or, comma, conditional, assign}
use Rattle.c_tree.specs.Tree.{assign_plain, compound, change_plain, step, step_plain, call, call_through, library}
use Rattle.c_tree.specs.Tree.{printf, LvalueNode, automatic, static, deref, index, member, arrow, member_of_value}
use Rattle.c_tree.specs.Tree.{parenthesized_lvalue}
use Rattle.tac_ir.specs.declared.instruction.Instruction.TheVariants as tac
use Rattle.c_lower.specs.Homes.{used, used_by_lvalue}
use Rattle.c_lower.specs.Placed.{Placed, Holds}
use Rattle.c_lower.specs.Values.{LowersExpression, LowersLvalue, LowersArguments}
use Rattle.program_lowering.specs.declared.expressions.emitter.Emitter.{Emitter}
use Rattle.program_lowering.specs.ExpressionCode.Sizes.{nodes, lvalue_nodes, arguments_nodes}
use Rattle.program_lowering.specs.ExpressionCode.Enclosed.{Leads}
use Rattle.program_lowering.specs.ExpressionCode.Weights.{Weights, weight_if, expression_weight, lvalue_weight}
use Rattle.program_lowering.specs.ExpressionCode.Weights.{arguments_weight}
use Rattle.program_lowering.specs.ExpressionCode.Emitted.{Fills, Emits, arguments_used}
use Rattle.program_lowering.specs.ExpressionCode.Last.{last_in, last_at}

pub data Operands : Type 0 where
  none : Operands
  one : Expression → Operands
  place : Lvalue → Operands
  two : (left right : Expression) → Operands
  place_and : Lvalue → Expression → Operands
  each : Expressions → Operands
  callee_and : Expression → Expressions → Operands
  both : (left right : Expression) → Operands
  either : (left right : Expression) → Operands
  sequence : (left right : Expression) → Operands
  choice : (condition first second : Expression) → Operands

abbrev pub operands_in : Node → Operands
operands_in (constant w) = none
operands_in (function f) = none
operands_in (plain x) = none
operands_in (read p) = place p
operands_in (decay p) = place p
operands_in (address p) = place p
operands_in (parenthesized a) = one a
operands_in (deref_function a) = one a
operands_in (address_function a) = one a
operands_in (cast a) = one a
operands_in (convert a) = one a
operands_in (unary op a) = one a
operands_in (binary op a b) = two a b
operands_in (offset_by form size a b) = two a b
operands_in (difference size a b) = two a b
operands_in (logical_and a b) = both a b
operands_in (logical_or a b) = either a b
operands_in (comma a b) = sequence a b
operands_in (conditional a b e) = choice a b e
operands_in (assign p a) = place_and p a
operands_in (assign_plain x a) = one a
operands_in (compound u p a) = place_and p a
operands_in (change_plain u x a) = one a
operands_in (step u fixity p) = place p
operands_in (step_plain u fixity x) = none
operands_in (call f es) = each es
operands_in (call_through type a es) = callee_and a es
operands_in (library routine es) = each es
operands_in (printf format es) = each es

abbrev pub operands_of : Expression → Operands
operands_of (expression kind line node) = operands_in node

abbrev pub operands_at : LvalueNode → Operands
operands_at (automatic x) = none
operands_at (static n) = none
operands_at (deref a) = one a
operands_at (index form size a b) = two a b
operands_at (member p offset size) = place p
operands_at (arrow a offset size) = one a
operands_at (member_of_value a offset size) = one a
operands_at (parenthesized_lvalue p) = place p

abbrev pub lvalue_operands : Lvalue → Operands
lvalue_operands (lvalue kind line node) = operands_at node

-- the values of operands, from a temporary on
abbrev pub LowersOperands : Placed → Operands → (d n0 n1 : ℕ) → Type 0
LowersOperands c none d n0 n1 = n0 ≡ n1
LowersOperands c (one a) d n0 n1 = LowersExpression c a d n0 n1
LowersOperands c (place p) d n0 n1 = LowersLvalue c p d n0 n1
LowersOperands c (two a b) d n0 n1 = (k : ℕ) × LowersExpression c a d n0 k × LowersExpression c b (d + 1) k n1
LowersOperands c (place_and p a) d n0 n1 = (k : ℕ) × LowersLvalue c p d n0 k × LowersExpression c a (d + 1) k n1
LowersOperands c (each es) d n0 n1 = LowersArguments c es d n0 n1
LowersOperands c (callee_and a es) d n0 n1 = (k : ℕ) × LowersExpression c a d n0 k × LowersArguments c es (d + 1) k n1
LowersOperands c (both a b) d n0 n1 =
    (k1 : ℕ) × (k2 : ℕ) × (kb : ℕ) × (zero : ℕ) × (one : ℕ) × LowersExpression c a d n0 k1
    × Holds c k1 (tac.Branch d kb zero)
    × LowersExpression c b d kb k2 × Holds c k2 (tac.Branch d one zero) × Holds c zero (tac.Constant d 0 n1)
    × Holds c one (tac.Constant d 1 n1)
LowersOperands c (either a b) d n0 n1 =
    (k1 : ℕ) × (k2 : ℕ) × (kb : ℕ) × (zero : ℕ) × (one : ℕ) × LowersExpression c a d n0 k1
    × Holds c k1 (tac.Branch d one kb)
    × LowersExpression c b d kb k2 × Holds c k2 (tac.Branch d one zero) × Holds c zero (tac.Constant d 0 n1)
    × Holds c one (tac.Constant d 1 n1)
LowersOperands c (sequence a b) d n0 n1 = (k : ℕ) × LowersExpression c a d n0 k × LowersExpression c b d k n1
LowersOperands c (choice a b e) d n0 n1 =
    (k : ℕ) × (kb : ℕ) × (ke : ℕ) × LowersExpression c a d n0 k × Holds c k (tac.Branch d kb ke)
    × LowersExpression c b d kb n1 × LowersExpression c e d ke n1

-- how many temporaries they need
abbrev pub operands_used : Operands → ℕ
operands_used none = 0
operands_used (one a) = used a
operands_used (place p) = used_by_lvalue p
operands_used (two a b) = max (used a) (1 + used b)
operands_used (place_and p a) = max (used_by_lvalue p) (1 + used a)
operands_used (each es) = arguments_used es
operands_used (callee_and a es) = max (used a) (1 + arguments_used es)
operands_used (both a b) = max 1 (max (used a) (used b))
operands_used (either a b) = max 1 (max (used a) (used b))
operands_used (sequence a b) = max (used a) (used b)
operands_used (choice a b e) = max 1 (max (used a) (max (used b) (used e)))

-- how many nodes they have
abbrev pub operands_nodes : Operands → ℕ
operands_nodes none = 0
operands_nodes (one a) = nodes a
operands_nodes (place p) = lvalue_nodes p
operands_nodes (two a b) = nodes a + nodes b
operands_nodes (place_and p a) = lvalue_nodes p + nodes a
operands_nodes (each es) = arguments_nodes es
operands_nodes (callee_and a es) = nodes a + arguments_nodes es
operands_nodes (both a b) = nodes a + nodes b
operands_nodes (either a b) = nodes a + nodes b
operands_nodes (sequence a b) = nodes a + nodes b
operands_nodes (choice a b e) = nodes a + (nodes b + nodes e)

-- and what they weigh, with the branches between them
abbrev pub operands_weight : Operands → Weights → ℕ
operands_weight none w = 0
operands_weight (one a) w = expression_weight a w
operands_weight (place p) w = lvalue_weight p w
operands_weight (two a b) w = expression_weight a w + expression_weight b w
operands_weight (place_and p a) w = lvalue_weight p w + expression_weight a w
operands_weight (each es) w = arguments_weight es w
operands_weight (callee_and a es) w = expression_weight a w + arguments_weight es w
operands_weight (both a b) w = 2 * w.branch + 2 * w.constant + (expression_weight a w + expression_weight b w)
operands_weight (either a b) w = 2 * w.branch + 2 * w.constant + (expression_weight a w + expression_weight b w)
operands_weight (sequence a b) w = expression_weight a w + expression_weight b w
operands_weight (choice a b e) w =
    w.branch + (expression_weight a w + (expression_weight b w + expression_weight e w))

-- the text of an expression that has one
abbrev pub text_in : Node → List (List ℕ)
text_in (printf format es) = format ∷ []
text_in node = []

-- what an expression or an lvalue itself weighs, once its operands are there
abbrev pub finish_weight : Expression → Weights → ℕ
finish_weight (expression kind line node) w = weight_if (text_in node) (last_in node kind line 0 None 0 0) w

abbrev pub lvalue_finish_weight : Lvalue → Weights → ℕ
lvalue_finish_weight (lvalue kind line node) w = weight_if [] (last_at node 0 0) w

pub record OperandsCode (before after : Emitter) (os : Operands) (d n0 n1 : ℕ) : Type 0 where
  pub emits : Emits before after (d + operands_used os) (operands_weight os)
  pub leads : Leads before after (n0 ∷ []) (n1 ∷ []) []
  pub stands : (c : Placed) → Fills after c → LowersOperands c os d n0 n1

-- what an expression itself does is added: where the code of its operands leads to it, the expression's stands
pub record Finishes (before after : Emitter) (expression : Expression) (d n0 n1 : ℕ) : Type 0 where
  pub emits : Emits before after (d + used expression) (finish_weight expression)
  pub leads : Leads before after (n0 ∷ []) (n1 ∷ []) []
  pub stands : (c : Placed) → Fills after c → (n : ℕ) → LowersOperands c (operands_of expression) d n n0
      → LowersExpression c expression d n n1

pub record LvalueFinishes (before after : Emitter) (lvalue : Lvalue) (d n0 n1 : ℕ) : Type 0 where
  pub emits : Emits before after (d + used_by_lvalue lvalue) (lvalue_finish_weight lvalue)
  pub leads : Leads before after (n0 ∷ []) (n1 ∷ []) []
  pub stands : (c : Placed) → Fills after c → (n : ℕ) → LowersOperands c (lvalue_operands lvalue) d n n0
      → LowersLvalue c lvalue d n n1
