-- Conditions of `#if` and `#elif`, in which each name has become 0 (C99 6.10.1).
use Rattle.std.specs.Prelude.{◌≡◌, ℕ, ◌≤◌, List, [], ◌∷◌, Result, Ok, Err, Option, Some, None, ⊤}
use Rattle.c_lexer.specs.declared.token.Token.{Token}
use Rattle.c_syntax.specs.Tree.{Expression}
use Rattle.c_syntax.specs.Levels.{expression_levels}
use Rattle.c_syntax.specs.Words.{Words, positioned, expression_words}
use Rattle.c_syntax.specs.Formed.{IsExpression, precedence}
use Rattle.c_grammar.specs.LeastPrecedence as least
use Rattle.c_grammar.specs.Nested.{readers}
use Rattle.c_grammar.specs.Reader.{Outcome}
use Rattle.c_conditions.specs.declared.condition.ConditionFault.{ConditionFault}
use Rattle.c_conditions.specs.declared.condition.ConditionFault.TheVariants.{Memory, NoValue}
use Rattle.c_conditions.specs.declared.value.Value.{Value}
use Rattle.c_conditions.specs.Values.{value_of}

-- a conditional expression of at most 200 levels that is all of these words, where there is no typedef name (6.5.15)
pub record IsConditionalExpression (i : Words) (e : Expression) : Type 0 where
  pub formed : IsExpression [] e
  pub binding : least.conditional ≤ precedence e
  pub levels : expression_levels e ≤ 200
  pub words : expression_words e [] ≡ i

-- what was read, where no word is left
abbrev pub whole : Outcome Expression → Option Expression
whole (Ok (e, [])) = Some e
whole (Ok (e, first ∷ i)) = None
whole (Err i) = None

-- that expression, which the grammar's reader of expressions with fewer than 201 levels gives
unfoldable pub conditional_expression : Words → Option Expression
conditional_expression i = whole ((readers [] 201).expression None least.conditional i)

abbrev pub value_in : Option Expression → Option Value
value_in None = None
value_in (Some e) = value_of e

abbrev pub word_in : Option Value → Option ℕ
word_in None = None
word_in (Some v) = v.word

-- the word of the value of a condition: tokens that are none, and those where an operand that is evaluated divides by
-- zero, have none
unfoldable pub condition_value : List Token → Option ℕ
condition_value tokens = word_in (value_in (conditional_expression (positioned tokens)))

-- the value was told, or that there is none, or memory failed
abbrev pub Answers : Option ℕ → Result ℕ ConditionFault → Type 0
Answers value (Ok word) = value ≡ Some word
Answers value (Err NoValue) = value ≡ None
Answers value (Err Memory) = ⊤
