-- The lines of the first tokens of expressions and initializers.
use Rattle.std.specs.Prelude.{ℕ}
use Rattle.c_syntax.specs.Tree.{Expression, Initializer, identifier, integer, character, strings, parenthesized}
use Rattle.c_syntax.specs.Tree.{subscript, call, member, postfix, unary, sizeof_expression, sizeof_type, cast, binary}
use Rattle.c_syntax.specs.Tree.{conditional, assignment, value, braced}

abbrev pub expression_line : Expression → ℕ
expression_line (identifier x) = x.position.line
expression_line (integer x) = x.position.line
expression_line (character x) = x.position.line
expression_line (strings x more) = x.position.line
expression_line (parenthesized l e r) = l.line
expression_line (subscript a l b r) = expression_line a
expression_line (call f l args r) = expression_line f
expression_line (member e w at x) = expression_line e
expression_line (postfix e w at) = expression_line e
expression_line (unary w at e) = at.line
expression_line (sizeof_expression at e) = at.line
expression_line (sizeof_type at l x r) = at.line
expression_line (cast l x r e) = l.line
expression_line (binary a w at b) = expression_line a
expression_line (conditional c q a colon b) = expression_line c
expression_line (assignment a w at b) = expression_line a

abbrev pub initializer_line : Initializer → ℕ
initializer_line (value e) = expression_line e
initializer_line (braced l x more comma r) = l.line
