-- What is made of a function so far: code and tables that only grow, and what stands in whatever code they grow to.
use Rattle.std.specs.Prelude.{◌≡◌, ◌≤◌, ℕ, ◌+◌, max, List, [], ◌∷◌, ◌++◌, length, Some, slice_get}
use Rattle.c_tree.specs.Tree.{Expression, Expressions, no_expressions, expressions, Lvalue}
use Rattle.tac_ir.specs.declared.instruction.Instruction.{Instruction}
use Rattle.tac_ir.specs.declared.instruction.Instruction.TheVariants.{Reserved}
use Rattle.tac_ir.specs.Temporaries.{temporaries}
use Rattle.c_lower.specs.Homes.{used, used_by_lvalue}
use Rattle.c_lower.specs.Placed.{Placed, Holds, HasAt}
use Rattle.c_lower.specs.Values.{LowersExpression, LowersLvalue, LowersArguments}
use Rattle.program_lowering.specs.declared.expressions.emitter.Emitter.{Emitter}
use Rattle.program_lowering.specs.ExpressionCode.Enclosed.{Leads}
use Rattle.program_lowering.specs.ExpressionCode.Weights.{Weights, Weighs, code_weight, expression_weight}
use Rattle.program_lowering.specs.ExpressionCode.Weights.{lvalue_weight}
use Rattle.program_lowering.specs.ExpressionCode.Weights.{arguments_weight}

abbrev pub Has : Emitter → (node : ℕ) → Instruction → Type 0
Has a n i = slice_get a.code.items n ≡ Some i

-- one node more, at the end
pub record Added (before after : Emitter) (node : ℕ) (instruction : Instruction) : Type 0 where
  pub code : after.code.items ≡ before.code.items ++ instruction ∷ []
  pub place : node ≡ length before.code.items
  pub keys : after.keys.items ≡ before.keys.items
  pub blocks : after.blocks.items ≡ before.blocks.items
  pub loops : after.loops.items ≡ before.loops.items
  pub texts : after.texts.items ≡ before.texts.items
  pub literals : after.literals.items ≡ before.literals.items

-- what stands in a table stays
abbrev pub Stays : {A : Type 0} → (before after : List A) → Type 0
Stays {A} xs ys = (n : ℕ) (x : A) → HasAt xs n x → HasAt ys n x

pub record Keeps (before after : Emitter) : Type 0 where
  pub code : Stays before.code.items after.code.items
  pub keys : Stays before.keys.items after.keys.items
  pub blocks : Stays before.blocks.items after.blocks.items
  pub loops : Stays before.loops.items after.loops.items
  pub texts : Stays before.texts.items after.texts.items
  pub literals : after.literals.items ≡ before.literals.items

-- a node that is filled later says nothing yet
abbrev pub IsReal : Instruction → Type 0
IsReal Reserved = ⊥
IsReal i = Unit {0}

-- code that has all that stands so far
pub record Fills (emitter : Emitter) (placed : Placed) : Type 0 where
  pub code : (n : ℕ) (i : Instruction) → IsReal i → Has emitter n i → Holds placed n i
  pub keys : Stays emitter.keys.items placed.keys
  pub blocks : Stays emitter.blocks.items placed.blocks
  pub loops : Stays emitter.loops.items placed.loops
  pub texts : Stays emitter.texts.items placed.texts
  pub literals : placed.literals ≡ emitter.literals.items

-- no instruction needs more temporaries
pub record Fits (limit : ℕ) (emitter : Emitter) : Type 0 where
  pub by : (n : ℕ) (i : Instruction) → Has emitter n i → temporaries i ≤ limit

-- what is added needs so many temporaries at most, and has just so much weight, whatever texts come later
pub record Emits (before after : Emitter) (most : ℕ) (weight : Weights → ℕ) : Type 0 where
  pub kept : Keeps before after
  pub fits : (limit : ℕ) → most ≤ limit → Fits limit before → Fits limit after
  pub grown : (w : Weights) (texts : List (List ℕ)) → Stays after.texts.items texts
      → Weighs w (code_weight texts after.code.items w) (code_weight texts before.code.items w + weight w)

-- how many temporaries arguments need from the first on
abbrev pub arguments_used : Expressions → ℕ
arguments_used no_expressions = 0
arguments_used (expressions e es) = max (used e) (1 + arguments_used es)

-- the code of an expression is added, from one node to another that stands
pub record ExpressionCode (before after : Emitter) (expression : Expression) (d n0 n1 : ℕ) : Type 0 where
  pub emits : Emits before after (d + used expression) (expression_weight expression)
  pub leads : Leads before after (n0 ∷ []) (n1 ∷ []) []
  pub stands : (c : Placed) → Fills after c → LowersExpression c expression d n0 n1

-- of an lvalue
pub record LvalueCode (before after : Emitter) (lvalue : Lvalue) (d n0 n1 : ℕ) : Type 0 where
  pub emits : Emits before after (d + used_by_lvalue lvalue) (lvalue_weight lvalue)
  pub leads : Leads before after (n0 ∷ []) (n1 ∷ []) []
  pub stands : (c : Placed) → Fills after c → LowersLvalue c lvalue d n0 n1

-- of arguments
pub record ArgumentsCode (before after : Emitter) (es : Expressions) (d n0 n1 : ℕ) : Type 0 where
  pub emits : Emits before after (d + arguments_used es) (arguments_weight es)
  pub leads : Leads before after (n0 ∷ []) (n1 ∷ []) []
  pub stands : (c : Placed) → Fills after c → LowersArguments c es d n0 n1
