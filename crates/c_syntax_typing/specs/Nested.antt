-- Function values that type the parts of a construct.
use Rattle.std.specs.Prelude.{◌≡◌, ℕ, ◌<◌, Bool, List, Result}
use Rattle.std.specs.Fn.{Once}
use denote.Ref.{MutBor, Bor}
use Rattle.c_syntax.specs.declared.tree.Declarator as code_declarator
use Rattle.c_syntax.specs.declared.tree.Expression as code_expression
use Rattle.c_syntax.specs.declared.tree.Specifier as code_specifier
use Rattle.c_syntax.specs.Tree.{Declarator, Expression, Specifiers}
use Rattle.c_syntax.specs.View.{declarator_of, expression_of, specifiers_in}
use Rattle.c_syntax.specs.Levels.{declarator_levels, expression_levels, specifiers_levels}
use Rattle.c_faults.specs.declared.fault.Refusal.{Refusal}
use Rattle.c_place_rules.specs.declared.operand.Operand as code_operand
use Rattle.c_place_rules.specs.Operands.{operand_of}
use Rattle.c_declarator_typing.specs.declared.shape.Shape as code_shape
use Rattle.c_declarator_typing.specs.declared.specification.Specification as code_specification
use Rattle.c_typing_state.specs.declared.typer.Typer.{Typer}
use Rattle.c_declarator_typing.specs.Declarators.{shape_of}
use Rattle.c_declarator_typing.specs.Specifications.{specification_of}
use Rattle.c_typing_state.specs.State.{Types, state_of}
use Rattle.c_expression_typing.specs.Typed.{shape, specification, typed}
use Rattle.c_syntax_typing.specs.declared.nested.Nested.{Nested}

-- what may be called with a typer, a flag and a part of a construct, and gives an R or refuses
abbrev pub Typing : (F T R : Type 0) → Type 1
Typing F T R = Once F (MutBor Typer × (Bool × (Bor T × Unit {0}))) (Result R Refusal × (MutBor Typer × Unit {0}))

-- a function value that types this expression
pub record TypesExpression {F : Type 0} (typing : Typing F code_expression.Expression code_operand.Operand) (f : F)
    (expression : Expression) : Type 0 where
  pub callable : (old : MutBor Typer) (is_evaluated : Bool) (tree : Bor code_expression.Expression)
      → expression_of tree.now ≡ expression → typing.pre f (old, (is_evaluated, (tree, tt)))
  pub types : (old new : MutBor Typer) (is_evaluated : Bool) (tree : Bor code_expression.Expression)
      (result : Result code_operand.Operand Refusal) → expression_of tree.now ≡ expression
      → typing.post f (old, (is_evaluated, (tree, tt))) (result, (new, tt))
      → Types operand_of (state_of new.now) result (typed is_evaluated expression (state_of old.now))

-- one that types this declarator
pub record TypesDeclarator {F : Type 0} (typing : Typing F code_declarator.Declarator code_shape.Shape) (f : F)
    (declarator : Declarator) : Type 0 where
  pub callable : (old : MutBor Typer) (in_definition : Bool) (tree : Bor code_declarator.Declarator)
      → declarator_of tree.now ≡ declarator → typing.pre f (old, (in_definition, (tree, tt)))
  pub types : (old new : MutBor Typer) (in_definition : Bool) (tree : Bor code_declarator.Declarator)
      (result : Result code_shape.Shape Refusal) → declarator_of tree.now ≡ declarator
      → typing.post f (old, (in_definition, (tree, tt))) (result, (new, tt))
      → Types shape_of (state_of new.now) result (shape in_definition declarator (state_of old.now))

-- one that types these specifiers
pub record TypesSpecifiers {F : Type 0}
    (typing : Typing F (List code_specifier.Specifier) code_specification.Specification) (f : F) (specs : Specifiers)
    : Type 0 where
  pub callable : (old : MutBor Typer) (is_alone : Bool) (trees : Bor (List code_specifier.Specifier))
      → specifiers_in trees.now ≡ specs → typing.pre f (old, (is_alone, (trees, tt)))
  pub types : (old new : MutBor Typer) (is_alone : Bool) (trees : Bor (List code_specifier.Specifier))
      (result : Result code_specification.Specification Refusal) → specifiers_in trees.now ≡ specs
      → typing.post f (old, (is_alone, (trees, tt))) (result, (new, tt))
      → Types specification_of (state_of new.now) result (specification is_alone specs (state_of old.now))

-- the function value of these rules for expressions types those of fewer levels than n
pub record DeeperExpressions {E D S : Type 0} (rules : Nested E D S)
    (for_expressions : Typing E code_expression.Expression code_operand.Operand) (levels : ℕ) : Type 0 where
  pub expressions : (e : Expression) → expression_levels e < levels → TypesExpression for_expressions rules.expression e

-- the one for declarators
pub record DeeperDeclarators {E D S : Type 0} (rules : Nested E D S)
    (for_declarators : Typing D code_declarator.Declarator code_shape.Shape) (levels : ℕ) : Type 0 where
  pub declarators : (d : Declarator) → declarator_levels d < levels → TypesDeclarator for_declarators rules.declarator d

-- those for declarators and specifiers
pub record DeeperNames {E D S : Type 0} (rules : Nested E D S)
    (for_declarators : Typing D code_declarator.Declarator code_shape.Shape)
    (for_specifiers : Typing S (List code_specifier.Specifier) code_specification.Specification) (levels : ℕ)
    : Type 0 where
  pub declarators : (d : Declarator) → declarator_levels d < levels → TypesDeclarator for_declarators rules.declarator d
  pub specifiers : (specs : Specifiers) → specifiers_levels specs < levels
      → TypesSpecifiers for_specifiers rules.specifiers specs

-- all three
pub record Deeper {E D S : Type 0} (rules : Nested E D S)
    (for_expressions : Typing E code_expression.Expression code_operand.Operand)
    (for_declarators : Typing D code_declarator.Declarator code_shape.Shape)
    (for_specifiers : Typing S (List code_specifier.Specifier) code_specification.Specification) (levels : ℕ)
    : Type 0 where
  pub expressions : (e : Expression) → expression_levels e < levels → TypesExpression for_expressions rules.expression e
  pub declarators : (d : Declarator) → declarator_levels d < levels → TypesDeclarator for_declarators rules.declarator d
  pub specifiers : (specs : Specifiers) → specifiers_levels specs < levels
      → TypesSpecifiers for_specifiers rules.specifiers specs
