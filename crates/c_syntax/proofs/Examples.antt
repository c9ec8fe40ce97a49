-- Small trees, to compare the definitions with C99.
use Rattle.std.proofs.Common.{◌≡◌, ℕ, zero, suc, true, false, List, [], ◌∷◌, Some, None}
use mathlib.Core.Path.{refl}
use Rattle.c_lexer.specs.declared.keyword.Keyword.{Keyword}
use Rattle.c_lexer.specs.declared.keyword.Keyword.TheVariants as k
use Rattle.c_lexer.specs.declared.punctuator.Punctuator.TheVariants as p
use Rattle.c_syntax.specs.declared.position.Position.{Position}
use Rattle.c_syntax.specs.declared.position.Spelled.{Spelled}
use Rattle.c_syntax.specs.Tree.{Expression, Declarator, Parameters, Specifiers}
use Rattle.c_syntax.specs.Tree as t
use Rattle.c_syntax.specs.Statements.{Statement, Block, Declaration, Unit}
use Rattle.c_syntax.specs.Statements as s
use Rattle.c_syntax.specs.Words as w
use Rattle.c_syntax.specs.Levels.{expression_levels, statement_levels}
use Rattle.c_syntax.specs.Formed.{SIZE_T, is_among, with_specifier, with_keyword, names_one_type}
use Rattle.c_syntax.specs.Formed.{names_after_declaration, defines_function, ends_open, precedence}

abbrev at : Position
at = record { at = 0; line = 1 }

abbrev spelled : List ℕ → Spelled
spelled x = record { spelling = x; position = at }

-- `T`, `f`, `0`
abbrev T : Spelled
T = spelled (84 ∷ [])

abbrev f : Spelled
f = spelled (102 ∷ [])

abbrev zero_constant : Expression
zero_constant = t.integer (spelled (48 ∷ []))

-- 0 in n pairs of parentheses
abbrev nested : ℕ → Expression
nested zero = zero_constant
nested (suc n) = t.parenthesized at (nested n) at

levels_200 : expression_levels (nested 200) ≡ 200
levels_200 = refl

levels_201 : expression_levels (nested 201) ≡ 201
levels_201 = refl

-- `{}`, `;`, `{;}`, `{{}}`
abbrev empty_block : Statement
empty_block = s.compound (s.block at s.no_items at)

abbrev empty_statement : Statement
empty_statement = s.expression None at

abbrev in_block : Statement → Statement
in_block x = s.compound (s.block at (s.items (s.inner x) s.no_items) at)

empty_block_levels : statement_levels empty_block ≡ 0
empty_block_levels = refl

block_levels_1 : statement_levels (in_block empty_statement) ≡ 1
block_levels_1 = refl

block_levels_of_empty : statement_levels (in_block empty_block) ≡ 1
block_levels_of_empty = refl

-- the words of one type (C99 6.7.2)
abbrev words_of : List Keyword → Specifiers
words_of [] = t.no_specifiers
words_of (x ∷ z) = t.specifiers (t.keyword x at) (words_of z)

type_1 : names_one_type (words_of (k.Long ∷ k.Unsigned ∷ k.Int ∷ k.Long ∷ [])) ≡ true
unfolding with_specifier with_keyword
type_1 = refl

type_2 : names_one_type (words_of (k.Const ∷ k.Signed ∷ k.Static ∷ k.Char ∷ [])) ≡ true
unfolding with_specifier with_keyword
type_2 = refl

type_3 : names_one_type (words_of (k.Unsigned ∷ [])) ≡ true
unfolding with_specifier with_keyword
type_3 = refl

no_type_1 : names_one_type (words_of (k.Long ∷ k.Long ∷ k.Long ∷ [])) ≡ false
unfolding with_specifier with_keyword
no_type_1 = refl

no_type_2 : names_one_type (words_of (k.Signed ∷ k.Unsigned ∷ [])) ≡ false
unfolding with_specifier with_keyword
no_type_2 = refl

no_type_3 : names_one_type (words_of (k.Char ∷ k.Int ∷ [])) ≡ false
unfolding with_specifier with_keyword
no_type_3 = refl

no_type_4 : names_one_type (words_of (k.Short ∷ k.Long ∷ [])) ≡ false
unfolding with_specifier with_keyword
no_type_4 = refl

no_type_5 : names_one_type (words_of (k.Static ∷ k.Const ∷ [])) ≡ false
unfolding with_specifier with_keyword
no_type_5 = refl

no_type_6 : names_one_type (words_of (k.Float ∷ [])) ≡ false
unfolding with_specifier with_keyword
no_type_6 = refl

no_type_7 : names_one_type (t.specifiers (t.keyword k.Unsigned at) (t.specifiers (t.typedef_name T) t.no_specifiers))
    ≡ false
unfolding with_specifier with_keyword
no_type_7 = refl

-- `typedef int T;`
abbrev typedef_T : Declaration
typedef_T = record {
  specifiers = words_of (k.Typedef ∷ k.Int ∷ []);
  declarators = Some (record { first = record { declarator = t.named T; initializer = None }; others = [] });
  semicolon = at;
}

in_force : is_among T.spelling (names_after_declaration typedef_T (SIZE_T ∷ [])) ≡ true
unfolding is_among
in_force = refl

not_before : is_among T.spelling (SIZE_T ∷ []) ≡ false
unfolding is_among
not_before = refl

-- `if (0) ;` ends open, `if (0) ; else ;` does not, `if (0) ; else if (0) ;` does
abbrev open_if : Statement
open_if = s.if_then at at zero_constant at empty_statement

open_1 : ends_open open_if ≡ true
open_1 = refl

open_2 : ends_open (s.if_else at at zero_constant at empty_statement at empty_statement) ≡ false
open_2 = refl

open_3 : ends_open (s.if_else at at zero_constant at empty_statement at open_if) ≡ true
open_3 = refl

-- `f(void)`, `(f)()`, `*f(void)`, `f(int)`, `(*f)(void)`
abbrev called : Declarator → Parameters → Declarator
called d a = t.function d at a at

abbrev one_int : Parameters
one_int = t.parameters (t.typed (words_of (k.Int ∷ [])) t.unnamed) t.end_of_parameters

defines_1 : defines_function (called (t.named f) (t.void_parameters at)) ≡ true
defines_1 = refl

defines_2 : defines_function (called (t.grouped at (t.named f) at) t.no_parameters) ≡ true
defines_2 = refl

defines_3 : defines_function (t.pointer at [] (called (t.named f) (t.void_parameters at))) ≡ true
defines_3 = refl

defines_no_1 : defines_function (called (t.named f) one_int) ≡ false
defines_no_1 = refl

defines_no_2 : defines_function (called (t.grouped at (t.pointer at [] (t.named f)) at) (t.void_parameters at)) ≡ false
defines_no_2 = refl

-- the words of `typedef int T;`
words_1 : w.unit_words (record { externals = s.declaration typedef_T ∷ [] }) ≡ w.keyword k.Typedef at
    ∷ w.keyword k.Int at ∷ w.identifier T ∷ w.punctuator p.Semicolon at ∷ []
words_1 = refl

-- `sizeof (T) * 0` multiplies (C99 6.5.3.4): a cast is no operand of sizeof
precedence_1 : precedence (t.cast at (t.typed (words_of (k.Int ∷ [])) t.unnamed) at zero_constant) ≡ 14
precedence_1 = refl
