-- What types everything of fewer levels than a number: functions that may be called on that, and what types everything
-- of fewer levels than a greater one.
use Rattle.std.proofs.Common.{ℕ, ◌<◌, ◌≤◌, Bool, List, Result, sym, subst, arith}
use denote.Ref.{MutBor, Bor}
use Rattle.c_syntax.specs.declared.tree.Declarator.{Declarator}
use Rattle.c_syntax.specs.declared.tree.Expression.{Expression}
use Rattle.c_syntax.specs.declared.tree.Specifier.{Specifier}
use Rattle.c_syntax.specs.Levels.{declarator_levels, expression_levels, specifiers_levels}
use Rattle.c_syntax.specs.View.{declarator_of, expression_of, specifiers_in}
use Rattle.c_faults.specs.declared.fault.Refusal.{Refusal}
use Rattle.c_place_rules.specs.declared.operand.Operand.{Operand}
use Rattle.c_declarator_typing.specs.declared.shape.Shape.{Shape}
use Rattle.c_declarator_typing.specs.declared.specification.Specification.{Specification}
use Rattle.c_typing_state.specs.declared.typer.Typer.{Typer}
use Rattle.c_declarator_typing.specs.Declarators.{shape_of}
use Rattle.c_declarator_typing.specs.Specifications.{specification_of}
use Rattle.c_typing_state.specs.State.{Types, state_of}
use Rattle.c_place_rules.specs.Operands.{operand_of}
use Rattle.c_expression_typing.specs.Typed.{shape, specification, typed}
use Rattle.c_syntax_typing.specs.declared.nested.Nested.{Nested}
use Rattle.c_syntax_typing.specs.Nested.{Deeper, DeeperDeclarators, DeeperExpressions, DeeperNames, Typing}
use Rattle.c_syntax_typing.proofs.Composing.{declarator_typed, expression_typed, specifiers_typed}

module _ {E D S : Type 0} (rules : Nested E D S) (for_expressions : Typing E Expression Operand) (n m : ℕ) where
  pub lower_expressions : DeeperExpressions rules for_expressions n → m ≤ n → DeeperExpressions rules for_expressions m
  lower_expressions deeper fewer = record {
    expressions = λ e below. deeper.expressions e (omega (arith, below, fewer));
  }

module _ {E D S : Type 0} (rules : Nested E D S) (for_declarators : Typing D Declarator Shape)
    (for_specifiers : Typing S (List Specifier) Specification) (n : ℕ)
  where
    pub lower_names : (m : ℕ) → DeeperNames rules for_declarators for_specifiers n → m ≤ n
        → DeeperNames rules for_declarators for_specifiers m
    lower_names m deeper fewer = record {
      declarators = λ d below. deeper.declarators d (omega (arith, below, fewer));
      specifiers = λ specs below. deeper.specifiers specs (omega (arith, below, fewer));
    }

    -- of declarators alone
    pub for_declarators_alone : (m : ℕ) → DeeperNames rules for_declarators for_specifiers n → m ≤ n
        → DeeperDeclarators rules for_declarators m
    for_declarators_alone m deeper fewer = record {
      declarators = λ d below. deeper.declarators d (omega (arith, below, fewer));
    }

    -- the number of levels is that of a tree whose parts have fewer
    pub deeper_names : ((old : MutBor Typer) (b : Bool) (tree : Bor Declarator)
        → declarator_levels (declarator_of tree.now) < n
        → for_declarators.pre rules.declarator (old, (b, (tree, tt))))
        → ((old new : MutBor Typer) (b : Bool) (tree : Bor Declarator) (result : Result Shape Refusal)
        → for_declarators.post rules.declarator (old, (b, (tree, tt))) (result, (new, tt))
        → Types shape_of (state_of new.now) result (shape b (declarator_of tree.now) (state_of old.now)))
        → ((old : MutBor Typer) (b : Bool) (trees : Bor (List Specifier))
        → specifiers_levels (specifiers_in trees.now) < n → for_specifiers.pre rules.specifiers (old, (b, (trees, tt))))
        → ((old new : MutBor Typer) (b : Bool) (trees : Bor (List Specifier)) (result : Result Specification Refusal)
        → for_specifiers.post rules.specifiers (old, (b, (trees, tt))) (result, (new, tt))
        → Types specification_of (state_of new.now) result
        (specification b (specifiers_in trees.now) (state_of old.now)))
        → DeeperNames rules for_declarators for_specifiers n
    deeper_names call_d typed_d call_s typed_s = record {
      declarators = λ d below.
          record {
            callable = λ old b tree same. call_d old b tree (subst (λ z. declarator_levels z < n) (sym same) below);
            types = λ old new b tree result same post.
                declarator_typed _ _ _ _ _ _ same (typed_d old new b tree result post);
          };
      specifiers = λ specs below.
          record {
            callable = λ old b trees same. call_s old b trees (subst (λ z. specifiers_levels z < n) (sym same) below);
            types = λ old new b trees result same post.
                specifiers_typed _ _ _ _ _ _ same (typed_s old new b trees result post);
          };
    }

module _ {E D S : Type 0} (rules : Nested E D S) (for_expressions : Typing E Expression Operand)
    (for_declarators : Typing D Declarator Shape) (for_specifiers : Typing S (List Specifier) Specification) (n : ℕ)
  where
    pub lower : (m : ℕ) → Deeper rules for_expressions for_declarators for_specifiers n → m ≤ n
        → Deeper rules for_expressions for_declarators for_specifiers m
    lower m deeper fewer = record {
      expressions = λ e below. deeper.expressions e (omega (arith, below, fewer));
      declarators = λ d below. deeper.declarators d (omega (arith, below, fewer));
      specifiers = λ specs below. deeper.specifiers specs (omega (arith, below, fewer));
    }

    -- of expressions alone, and of declarators and specifiers
    pub for_expressions_alone : (m : ℕ) → Deeper rules for_expressions for_declarators for_specifiers n → m ≤ n
        → DeeperExpressions rules for_expressions m
    for_expressions_alone m deeper fewer = record {
      expressions = λ e below. deeper.expressions e (omega (arith, below, fewer));
    }

    pub for_names_alone : (m : ℕ) → Deeper rules for_expressions for_declarators for_specifiers n → m ≤ n
        → DeeperNames rules for_declarators for_specifiers m
    for_names_alone m deeper fewer = record {
      declarators = λ d below. deeper.declarators d (omega (arith, below, fewer));
      specifiers = λ specs below. deeper.specifiers specs (omega (arith, below, fewer));
    }

    -- the number of levels is that of a tree whose parts have fewer
    pub deeper : ((old : MutBor Typer) (b : Bool) (tree : Bor Expression)
        → expression_levels (expression_of tree.now) < n
        → for_expressions.pre rules.expression (old, (b, (tree, tt))))
        → ((old new : MutBor Typer) (b : Bool) (tree : Bor Expression) (result : Result Operand Refusal)
        → for_expressions.post rules.expression (old, (b, (tree, tt))) (result, (new, tt))
        → Types operand_of (state_of new.now) result (typed b (expression_of tree.now) (state_of old.now)))
        → DeeperNames rules for_declarators for_specifiers n
        → Deeper rules for_expressions for_declarators for_specifiers n
    deeper call_e typed_e names = record {
      expressions = λ e below.
          record {
            callable = λ old b tree same. call_e old b tree (subst (λ z. expression_levels z < n) (sym same) below);
            types = λ old new b tree result same post.
                expression_typed _ _ _ _ _ _ same (typed_e old new b tree result post);
          };
      declarators = names.declarators;
      specifiers = names.specifiers;
    }

pub ruleset parts_alone = (for_expressions_alone, for_names_alone)
