-- Expressions are read from their words.
use Rattle.std.proofs.Common.{◌≡◌, ℕ, zero, suc, ◌+◌, ◌<◌, ◌≤◌, Bool, true, false, ◌&&◌, List, [], ◌∷◌, Ok, Some, None}
use Rattle.std.proofs.Common.{length, refl, sym, ap, ◌∙◌, arith}
use Rattle.std.specs.Prelude.{nat_le}
use Rattle.std.proofs.lemmas.Bool.{le-leb, lt-ltb, lt-leb, and_from}
use Rattle.c_lexer.specs.Spellings.{punctuator_spelling}
use Rattle.c_lexer.specs.declared.punctuator.Punctuator.{Punctuator}
use Rattle.c_lexer.specs.declared.punctuator.Punctuator.TheVariants as p
use Rattle.c_lexer.specs.declared.token.TokenKind.{TokenKind}
use Rattle.c_lexer.specs.declared.token.TokenKind.TheVariants as kinds
use Rattle.c_syntax.specs.declared.position.Position.{Position}
use Rattle.c_syntax.specs.declared.position.Spelled.{Spelled}
use Rattle.c_syntax.specs.Tree.{Expression, Arguments, MoreArguments}
use Rattle.c_syntax.specs.Tree as t
use Rattle.c_syntax.specs.View.{more_arguments_of}
use Rattle.c_syntax.specs.Levels.{expression_levels, arguments_levels, more_arguments_levels, typed_levels}
use Rattle.c_syntax.specs.Words.{Words, word_at, punctuator, identifier, strings_words, typed_words, expression_words}
use Rattle.c_syntax.specs.Words.{arguments_words, more_arguments_words}
use Rattle.c_syntax.specs.Formed.{binary_precedence, operand_precedence, precedence, IsExpression, AreArguments}
use Rattle.c_syntax.specs.Formed.{AreMoreArguments}
use Rattle.c_grammar.specs.Reader.{◌>>=◌, is_same, is_punctuator, next_is, identifier_from, strings_from, behind_commas}
use Rattle.c_grammar.specs.Readers.{Readers, begins_specifiers}
use Rattle.c_grammar.specs.ExpressionReader.{operation, operation_binds, operation_needs, binds, cast_from}
use Rattle.c_grammar.specs.ExpressionReader.{parenthesized_from, parenthesis_from, sizeof_parenthesis_from, sizeof_from}
use Rattle.c_grammar.specs.ExpressionReader.{operand_by_punctuator, operand_from, arguments_from, operation_from}
use Rattle.c_grammar.specs.ExpressionReader.{goes_on, operations_from, expression_at}
use Rattle.c_grammar.specs.declared.operation.Operation.{Operation}
use Rattle.c_grammar.specs.declared.operation.Operation.TheVariants as op
use Rattle.c_grammar.specs.LeastPrecedence as least
use Rattle.c_grammar.proofs.Known.{CompleteReaders, word_binds, next_binds}
use Rattle.c_grammar.proofs.Facts.{same, expected, precedence_below, precedence_apart, operand_least, operand_most}
use Rattle.c_grammar.proofs.Facts.{binary_operation, assignment_operation, member_operation, postfix_operation}
use Rattle.c_grammar.proofs.Facts.{question_operation, bracket_operation, parenthesis_operation, next_apart}
use Rattle.c_grammar.proofs.Facts.{binds_below, parenthesis_binds, bracket_binds, colon_binds, comma_binds}
use Rattle.c_grammar.proofs.FirstWords.{is_expression_word, expression_first, expression_no_specifiers}
use Rattle.c_grammar.proofs.FirstWords.{expression_no_parenthesis}
use Rattle.c_grammar.proofs.Longer.{expression_longer}
use Rattle.c_grammar.proofs.Lists.{comma_turn, comma_end}
use Rattle.c_grammar.proofs.CompleteTyped.{type_name_again, type_name_first}

-- the elements of a list of arguments
abbrev pub arguments_list : MoreArguments → List (Position × Expression)
arguments_list t.end_of_arguments = []
arguments_list (t.more_arguments at e m) = (at, e) ∷ arguments_list m

pub same_arguments : (m : MoreArguments) → more_arguments_of (arguments_list m) ≡ m
same_arguments t.end_of_arguments = refl
same_arguments (t.more_arguments at e m) = ap (λ m. t.more_arguments at e m) (same_arguments m)

-- ---- what may stand behind an expression

-- what stands behind an expression must bind less tightly than this
abbrev pub binding_limit : Expression → ℕ
binding_limit (t.binary a w at b) = suc (binary_precedence w)
binding_limit (t.assignment a w at b) = 2
binding_limit (t.conditional c q a colon b) = 3
binding_limit (t.cast l x r e) = 16
binding_limit (t.unary w at e) = 16
binding_limit (t.sizeof_expression at e) = 16
binding_limit _ = 18

pub precedence_limit : (e : Expression) → precedence e ≤ binding_limit e
precedence_limit (t.binary a w at b) = omega arith
precedence_limit (t.assignment a w at b) = omega arith
precedence_limit (t.conditional c q a colon b) = omega arith
precedence_limit (t.cast l x r e) = omega arith
precedence_limit (t.unary w at e) = omega arith
precedence_limit (t.sizeof_expression at e) = omega arith
precedence_limit _ = omega arith

limit_postfix : (e : Expression) → 16 ≤ precedence e → 16 < binding_limit e
limit_postfix (t.binary a w at b) h = absurd (omega (arith, precedence_below w))
limit_postfix (t.assignment a w at b) h = absurd (omega arith)
limit_postfix (t.conditional c q a colon b) h = absurd (omega arith)
limit_postfix (t.cast l x r e) h = absurd (omega arith)
limit_postfix (t.unary w at e) h = absurd (omega arith)
limit_postfix (t.sizeof_expression at e) h = absurd (omega arith)
limit_postfix _ h = omega arith

limit_binary : (e : Expression) (w : Punctuator) → binary_precedence w ≤ precedence e
    → binary_precedence w < binding_limit e
limit_binary (t.binary a v at b) w h = omega arith
limit_binary (t.assignment a v at b) w h = omega (arith, precedence_apart w (omega arith))
limit_binary (t.conditional c q a colon b) w h = omega (arith, precedence_apart w h)
limit_binary (t.cast l x r e) w h = omega (arith, precedence_below w)
limit_binary (t.unary v at e) w h = omega (arith, precedence_below w)
limit_binary (t.sizeof_expression at e) w h = omega (arith, precedence_below w)
limit_binary _ w h = omega (arith, precedence_below w)

pub some_precedence : (names : List (List ℕ)) (e : Expression) → IsExpression names e → 1 ≤ precedence e
some_precedence names (t.binary a w at b) h = h.0
some_precedence names (t.assignment a w at b) h = omega arith
some_precedence names (t.conditional c q a colon b) h = omega arith
some_precedence names (t.cast l x r e) h = omega arith
some_precedence names (t.unary w at e) h = omega arith
some_precedence names (t.sizeof_expression at e) h = omega arith
some_precedence names _ h = omega arith

more_binds : (m : MoreArguments) (q : Position) (r : Words) → next_binds
    (more_arguments_words m (punctuator p.RightParenthesis q ∷ r)) < 2
more_binds t.end_of_arguments q r = omega (arith, parenthesis_binds q r)
more_binds (t.more_arguments at e m) q r =
    omega (arith, comma_binds at (expression_words e (more_arguments_words m (punctuator p.RightParenthesis q ∷ r))))

-- string literals are read as far as they go
string_ends : (w : TokenKind) (at : Position) (r : Words) → word_binds w < 18
    → strings_from (word_at w at ∷ r) ≡ Ok ([], word_at w at ∷ r)
unfolding strings_from
string_ends (kinds.StringLiteral s) at r h = absurd (omega arith)
string_ends _ at r h = refl

strings_again : (z : List Spelled) (r : Words) → next_binds r < 18 → strings_from (strings_words z r) ≡ Ok (z, r)
unfolding strings_from
strings_again [] [] h = refl
strings_again [] (first ∷ r) h = string_ends first.kind first.position r h
strings_again (x ∷ z) r h = rw (strings_again z r h) refl

-- an operation goes on where it binds tightly enough, and nothing else does
operation_goes_on : (names : List (List ℕ)) (deeper : Readers) (d m : ℕ) (l : Expression) (w : Punctuator)
    (o : Operation) → operation w ≡ Some o
    → m ≤ operation_binds w (Some o) → operation_needs w (Some o) ≤ precedence l → expression_levels l < d
    → goes_on names deeper d m l (kinds.Punctuator w) ≡ true
operation_goes_on names deeper d m l w o is a b c =
    rw is (and_from _ _ (le-leb m (operation_binds w (Some o)) a)
    (and_from _ _ (le-leb (operation_needs w (Some o)) (precedence l) b) (lt-ltb (expression_levels l) d c)))

word_ends : (names : List (List ℕ)) (deeper : Readers) (d m : ℕ) (l : Expression) (w : TokenKind) → word_binds w < m
    → goes_on names deeper d m l w ≡ false
word_ends names deeper d m l w a = rw (lt-leb m (binds w) (binds_below w m a)) refl

module _ (names : List (List ℕ)) (d : ℕ) (deeper : Readers) (known : CompleteReaders names d deeper) where
  -- from an operand that stands before a punctuator whose operation goes on with it
  operation_step : (x : Words) (m n : ℕ) (l e : Expression) (w : Punctuator) (at : Position) (o : Operation)
      (i r : Words)
      → expression_at names deeper d None m x ≡ operations_from names deeper d n m l (punctuator w at ∷ i)
      → d ≤ n + expression_levels l
      → operation w ≡ Some o → m ≤ operation_binds w (Some o) → operation_needs w (Some o) ≤ precedence l
      → expression_levels l < d
      → operation_from names deeper d l w at (Some o) i ≡ Ok (e, r) → expression_levels l < expression_levels e
      → (j : ℕ) × (d ≤ j + expression_levels e) × (expression_at names deeper d None m x
      ≡ operations_from names deeper d j m e r)
  unfolding operations_from
  operation_step x m zero l e w at o i r read room is a b c step up = absurd (omega arith)
  operation_step x m (suc n) l e w at o i r read room is a b c step up =
      (n, omega arith, read ∙ rw (operation_goes_on names deeper d m l w o is a b c, is, step) refl)

  pub operations_end : (m n : ℕ) (e : Expression) (r : Words) → next_binds r < m
      → operations_from names deeper d n m e r ≡ Ok (e, r)
  unfolding operations_from
  operations_end m zero e r h = refl
  operations_end m (suc n) e [] h = refl
  operations_end m (suc n) e (first ∷ r) h = rw (word_ends names deeper d m e first.kind h) refl

  more_again : (n : ℕ) (m : MoreArguments) (q : Position) (r : Words) → AreMoreArguments names m
      → more_arguments_levels m < d
      → length (more_arguments_words m (punctuator p.RightParenthesis q ∷ r)) ≤ n
      → behind_commas (deeper.expression None least.assignment) n
      (more_arguments_words m (punctuator p.RightParenthesis q ∷ r))
      ≡ Ok (arguments_list m, punctuator p.RightParenthesis q ∷ r)
  unfolding is_same punctuator_spelling
  more_again n t.end_of_arguments q r h low room = comma_end (deeper.expression None least.assignment) n
      (punctuator p.RightParenthesis q ∷ r) refl
  more_again zero (t.more_arguments at e m) q r h low room = absurd (omega arith)
  more_again (suc n) (t.more_arguments at e m) q r h low room =
      comma_turn (deeper.expression None least.assignment) n at _ _ _ e (arguments_list m)
      (known.expressions 2 e (more_arguments_words m (punctuator p.RightParenthesis q ∷ r)) h.1 (omega arith)
      (omega arith) h.0 (more_binds m q r))
      (more_again n m q r h.2 (omega arith) (omega (
        arith,
        expression_longer e
            (more_arguments_words m (punctuator p.RightParenthesis q ∷ r)),
      )))

  arguments_again : (a : Arguments) (q : Position) (r : Words) → AreArguments names a → arguments_levels a < d
      → arguments_from names deeper d (arguments_words a (punctuator p.RightParenthesis q ∷ r))
      ≡ Ok (a, punctuator p.RightParenthesis q ∷ r)
  unfolding arguments_from is_same punctuator_spelling
  arguments_again t.no_arguments q r h low = refl
  arguments_again (t.arguments e m) q r h low =
      rw (
        expression_no_parenthesis names e (more_arguments_words m (punctuator p.RightParenthesis q ∷ r)) h.1,
        known.expressions 2 e (more_arguments_words m (punctuator p.RightParenthesis q ∷ r)) h.1 (omega arith)
            (omega arith) h.0 (more_binds m q r),
        more_again (length (more_arguments_words m (punctuator p.RightParenthesis q ∷ r))) m q r h.2 (omega arith)
            (omega arith),
        same_arguments m,
      ) refl

  -- ---- operands

  unary_again : (m : ℕ) (w : Punctuator) (at : Position) (e : Expression) (r : Words) → 1 ≤ operand_precedence w
      → operand_precedence w ≤ precedence e → IsExpression names e
      → expression_levels e < d → next_binds r < 16 → operand_by_punctuator names deeper d m w at (expression_words e r)
      ≡ Ok (t.unary w at e, r)
  unfolding operand_by_punctuator
  unary_again m w at e r some fits h low f =
      let level : 1 ≤ d = omega arith in
      rw (
        le-leb 1 (operand_precedence w) some,
        le-leb 1 d level,
        known.expressions (operand_precedence w) e r h low (operand_most w) fits
            (omega (arith, operand_least w some, next_apart r f)),
      ) refl

  -- behind `(`
  opening : (m : ℕ) (l : Position) (i : Words) → 1 ≤ d → operand_by_punctuator names deeper d m p.LeftParenthesis l i
      ≡ parenthesis_from names deeper d m l i
  unfolding operand_by_punctuator operand_precedence is_same punctuator_spelling
  opening m l i level = rw (le-leb 1 d level) refl

  parenthesized_again : (m : ℕ) (l : Position) (e : Expression) (q : Position) (r : Words) → IsExpression names e
      → expression_levels e < d
      → parenthesis_from names deeper d m l (expression_words e (punctuator p.RightParenthesis q ∷ r))
      ≡ Ok (t.parenthesized l e q, r)
  unfolding parenthesis_from parenthesized_from
  parenthesized_again m l e q r h low =
      rw (
        expression_no_specifiers names e (punctuator p.RightParenthesis q ∷ r) h,
        known.expressions 1 e (punctuator p.RightParenthesis q ∷ r) h low (omega arith) (some_precedence names e h)
            (omega (arith, parenthesis_binds q r)),
        expected p.RightParenthesis q r,
      ) refl

  cast_again : (m : ℕ) (l : Position) (x : t.TypedDeclarator) (q : Position) (e : Expression) (r : Words) → m ≤ 14
      → IsExpression names (t.cast l x q e)
      → typed_levels x < d → expression_levels e < d → next_binds r < 16
      → parenthesis_from names deeper d m l (typed_words x (punctuator p.RightParenthesis q ∷ expression_words e r))
      ≡ Ok (t.cast l x q e, r)
  unfolding parenthesis_from cast_from
  cast_again m l x q e r at h low shallow f =
      rw (
        type_name_first names d deeper known x (punctuator p.RightParenthesis q ∷ expression_words e r) h.1,
        le-leb m 14 at,
        type_name_again names d deeper known
            (λ x r i. deeper.expression None least.cast i >>= λ e i. Ok (t.cast l x r e, i)) x q
            (expression_words e r) h.1 low,
        known.expressions 14 e r h.2 shallow (omega arith) h.0 (next_apart r f),
      ) refl

  -- ---- `sizeof`

  sizeof_type_again : (at l : Position) (x : t.TypedDeclarator) (q : Position) (r : Words)
      → IsExpression names (t.sizeof_type at l x q) → typed_levels x < d
      → sizeof_from names deeper d at (punctuator p.LeftParenthesis l
      ∷ typed_words x (punctuator p.RightParenthesis q ∷ r)) ≡ Ok (t.sizeof_type at l x q, r)
  unfolding sizeof_from sizeof_parenthesis_from
  sizeof_type_again at l x q r h low =
      rw (
        same p.LeftParenthesis,
        type_name_first names d deeper known x (punctuator p.RightParenthesis q ∷ r) h,
        type_name_again names d deeper known (λ x r i. Ok (t.sizeof_type at l x r, i)) x q r h low,
      ) refl

  -- the words begin with `(` and a type
  abbrev opens_type : Words → Bool
  opens_type [] = false
  opens_type (first ∷ i) = is_punctuator p.LeftParenthesis first.kind && begins_specifiers names i

  no_parenthesis : (w : Punctuator) → 1 ≤ operand_precedence w → is_same p.LeftParenthesis w ≡ false
  unfolding is_same punctuator_spelling operand_precedence
  no_parenthesis p.LeftParenthesis h = absurd (omega arith)
  no_parenthesis _ h = refl

  no_type_in_parentheses : (e : Expression) (i : Words) → IsExpression names e → 15 ≤ precedence e
      → opens_type (expression_words e i) ≡ false
  unfolding is_same punctuator_spelling
  no_type_in_parentheses (t.identifier x) i h o = refl
  no_type_in_parentheses (t.integer x) i h o = refl
  no_type_in_parentheses (t.character x) i h o = refl
  no_type_in_parentheses (t.strings x z) i h o = refl
  no_type_in_parentheses (t.parenthesized l e r) i h o = expression_no_specifiers names e _ h
  no_type_in_parentheses (t.subscript e l x r) i h o = no_type_in_parentheses e _ h.1 (omega (arith, h.0))
  no_type_in_parentheses (t.call e l a r) i h o = no_type_in_parentheses e _ h.1 (omega (arith, h.0))
  no_type_in_parentheses (t.member e w at x) i h o = no_type_in_parentheses e _ h.2 (omega (arith, h.1))
  no_type_in_parentheses (t.postfix e w at) i h o = no_type_in_parentheses e _ h.2 (omega (arith, h.1))
  no_type_in_parentheses (t.unary w at e) i h o = rw (no_parenthesis w h.0) refl
  no_type_in_parentheses (t.sizeof_expression at e) i h o = refl
  no_type_in_parentheses (t.sizeof_type at l x r) i h o = refl
  no_type_in_parentheses (t.cast l x r e) i h o = absurd (omega arith)
  no_type_in_parentheses (t.binary a w at b) i h o = absurd (omega (arith, precedence_below w))
  no_type_in_parentheses (t.conditional c q a colon b) i h o = absurd (omega arith)
  no_type_in_parentheses (t.assignment a w at b) i h o = absurd (omega arith)

  sizeof_by_punctuator : (x : Punctuator) (at l : Position) (i : Words) (e : Expression) (r : Words)
      → (is_same p.LeftParenthesis x && begins_specifiers names i) ≡ false
      → deeper.expression None least.unary (punctuator x l ∷ i) ≡ Ok (e, r)
      → sizeof_from names deeper d at (punctuator x l ∷ i) ≡ Ok (t.sizeof_expression at e, r)
  unfolding sizeof_from sizeof_parenthesis_from is_same punctuator_spelling
  sizeof_by_punctuator p.LeftParenthesis at l i e r h read = rw (h, known.opened l 15 i e r h read) refl
  sizeof_by_punctuator _ at l i e r h read = rw read refl

  sizeof_by : (w : TokenKind) (at l : Position) (i : Words) (e : Expression) (r : Words)
      → (is_punctuator p.LeftParenthesis w && begins_specifiers names i) ≡ false
      → deeper.expression None least.unary (word_at w l ∷ i) ≡ Ok (e, r)
      → sizeof_from names deeper d at (word_at w l ∷ i) ≡ Ok (t.sizeof_expression at e, r)
  unfolding sizeof_from
  sizeof_by (kinds.Punctuator x) at l i e r h read = sizeof_by_punctuator x at l i e r h read
  sizeof_by _ at l i e r h read = rw read refl

  sizeof_words : (at : Position) (i : Words) (e : Expression) (r : Words) → next_is (is_expression_word names) i ≡ true
      → opens_type i ≡ false
      → deeper.expression None least.unary i ≡ Ok (e, r)
      → sizeof_from names deeper d at i ≡ Ok (t.sizeof_expression at e, r)
  sizeof_words at [] e r some h read = cc
  sizeof_words at (first ∷ i) e r some h read = sizeof_by first.kind at first.position i e r h read

  sizeof_again : (at : Position) (e : Expression) (r : Words) → IsExpression names e → 15 ≤ precedence e
      → expression_levels e < d → next_binds r < 16
      → sizeof_from names deeper d at (expression_words e r) ≡ Ok (t.sizeof_expression at e, r)
  sizeof_again at e r h o low f =
      sizeof_words at (expression_words e r) e r (expression_first names e r h) (no_type_in_parentheses e r h o)
      (known.expressions 15 e r h low (omega arith) o (omega (arith, next_apart r f)))

  -- ---- the words of e and then r are read up to r, and what goes on is an operation on e
  read_up_to : (m : ℕ) (e : Expression) (r : Words) → m < 16 → m ≤ precedence e → IsExpression names e
      → expression_levels e ≤ d → next_binds r < binding_limit e
      → (j : ℕ) × (d ≤ j + expression_levels e) × (expression_at names deeper d None m (expression_words e r)
      ≡ operations_from names deeper d j m e r)
  unfolding expression_at operand_from identifier_from operation_from
  read_up_to m (t.identifier x) r low at h hi f = (d, omega arith, rw h refl)
  read_up_to m (t.integer x) r low at h hi f = (d, omega arith, refl)
  read_up_to m (t.character x) r low at h hi f = (d, omega arith, refl)
  read_up_to m (t.strings x z) r low at h hi f = (d, omega arith, rw (strings_again z r f) refl)
  read_up_to m (t.parenthesized l e q) r low at h hi f = (
    d,
    omega arith,
    rw (
      opening m l (expression_words e (punctuator p.RightParenthesis q ∷ r)) (omega arith),
      parenthesized_again m l e q r h (omega arith),
    ) refl,
  )
  read_up_to m (t.unary w p e) r low at h hi f =
      (d, omega arith, rw (unary_again m w p e r h.0 h.1 h.2 (omega arith) f) refl)
  read_up_to m (t.sizeof_expression p e) r low at h hi f =
      let level : 1 ≤ d = omega arith in
      (d, omega arith, rw (le-leb 1 d level, sizeof_again p e r h.1 h.0 (omega arith) f) refl)
  read_up_to m (t.sizeof_type p l x q) r low at h hi f =
      let level : 1 ≤ d = omega arith in
      (d, omega arith, rw (le-leb 1 d level, sizeof_type_again p l x q r h (omega arith)) refl)
  read_up_to m (t.cast l x q e) r low at h hi f = (
    d,
    omega arith,
    rw (
      opening m l (typed_words x (punctuator p.RightParenthesis q ∷ expression_words e r)) (omega arith),
      cast_again m l x q e r at h (omega arith) (omega arith) f,
    ) refl,
  )
  read_up_to m (t.binary a w p b) r low at h hi f =
      let is = binary_operation w h.0 in
      let s = read_up_to m a (punctuator w p ∷ expression_words b r) low (omega (arith, h.1)) h.3 (omega arith)
      (rw is (limit_binary a w h.1)) in
      operation_step _ m s.0 a (t.binary a w p b) w p op.Binary (expression_words b r) r s.2 s.1 is at h.1 (omega arith)
      (rw (known.expressions (suc (binary_precedence w)) b r h.4 (omega arith) (omega (arith, precedence_below w)) h.2
      f) refl) (omega arith)
  read_up_to m (t.assignment a w p b) r low at h hi f =
      let is = assignment_operation w h.0 in
      let s = read_up_to m a (punctuator w p ∷ expression_words b r) low (omega (arith, h.1)) h.3 (omega arith)
      (rw is (omega (arith, precedence_limit a, h.1))) in
      operation_step _ m s.0 a (t.assignment a w p b) w p op.Assignment (expression_words b r) r s.2 s.1 is at h.1
      (omega arith)
      (rw (known.expressions 2 b r h.4 (omega arith) (omega arith) h.2 f) refl) (omega arith)
  read_up_to m (t.conditional c q a colon b) r low at h hi f =
      let s = read_up_to m c (punctuator p.Question q ∷ expression_words a
      (punctuator p.Colon colon ∷ expression_words b r)) low (omega (arith, h.0)) h.2 (omega arith)
      (rw question_operation (omega (arith, precedence_limit c, h.0))) in
      operation_step _ m s.0 c (t.conditional c q a colon b) p.Question q op.Conditional
      (expression_words a (punctuator p.Colon colon ∷ expression_words b r)) r s.2 s.1 question_operation at h.0
      (omega arith)
      (rw (
        known.expressions 1 a (punctuator p.Colon colon ∷ expression_words b r) h.3 (omega arith) (omega arith)
            (some_precedence names a h.3) (omega (arith, colon_binds colon (expression_words b r))),
        expected p.Colon colon (expression_words b r),
        known.expressions 3 b r h.4 (omega arith) (omega arith) h.1 f,
      ) refl) (omega arith)
  read_up_to m (t.subscript e l x q) r low at h hi f =
      let s = read_up_to m e (punctuator p.LeftBracket l ∷ expression_words x (punctuator p.RightBracket q ∷ r)) low
      (omega (arith, h.0)) h.1 (omega arith) (rw bracket_operation (limit_postfix e h.0)) in
      operation_step _ m s.0 e (t.subscript e l x q) p.LeftBracket l op.Subscript
      (expression_words x (punctuator p.RightBracket q ∷ r)) r s.2 s.1 bracket_operation at h.0 (omega arith)
      (rw (
        known.expressions 1 x (punctuator p.RightBracket q ∷ r) h.2 (omega arith) (omega arith)
            (some_precedence names x h.2) (omega (arith, bracket_binds q r)),
        expected p.RightBracket q r,
      ) refl) (omega arith)
  read_up_to m (t.call e l a q) r low at h hi f =
      let s = read_up_to m e (punctuator p.LeftParenthesis l ∷ arguments_words a (punctuator p.RightParenthesis q ∷ r))
      low (omega (arith, h.0)) h.1 (omega arith) (rw parenthesis_operation (limit_postfix e h.0)) in
      operation_step _ m s.0 e (t.call e l a q) p.LeftParenthesis l op.Call
      (arguments_words a (punctuator p.RightParenthesis q ∷ r)) r s.2 s.1 parenthesis_operation at h.0 (omega arith)
      (rw (arguments_again a q r h.2 (omega arith), expected p.RightParenthesis q r) refl) (omega arith)
  read_up_to m (t.member e w p x) r low at h hi f =
      let is = member_operation w h.0 in
      let s = read_up_to m e (punctuator w p ∷ identifier x ∷ r) low (omega (arith, h.1)) h.2 (omega arith)
      (rw is (limit_postfix e h.1)) in
      operation_step _ m s.0 e (t.member e w p x) w p op.Member (identifier x ∷ r) r s.2 s.1 is at h.1 (omega arith)
      refl (omega arith)
  read_up_to m (t.postfix e w p) r low at h hi f =
      let is = postfix_operation w h.0 in
      let s = read_up_to m e (punctuator w p ∷ r) low (omega (arith, h.1)) h.2 (omega arith)
      (rw is (limit_postfix e h.1)) in
      operation_step _ m s.0 e (t.postfix e w p) w p op.Postfix r r s.2 s.1 is at h.1 (omega arith) refl (omega arith)

  pub expression_again : (m : ℕ) (e : Expression) (r : Words) → IsExpression names e → expression_levels e ≤ d → m < 16
      → m ≤ precedence e → next_binds r < m
      → expression_at names deeper d None m (expression_words e r) ≡ Ok (e, r)
  expression_again m e r h hi low at f = let s = read_up_to m e r low at h hi (omega (arith, precedence_limit e)) in
      s.2 ∙ operations_end m s.0 e r f

  opened_by : (l : Position) (m : ℕ) (x : Words) (e : Expression) (r : Words) (b : Bool) → nat_le 1 d ≡ b
      → begins_specifiers names x ≡ false
      → expression_at names deeper d None m (punctuator p.LeftParenthesis l ∷ x) ≡ Ok (e, r)
      → expression_at names deeper d (Some l) m x ≡ Ok (e, r)
  unfolding expression_at operand_from operand_by_punctuator parenthesis_from operand_precedence is_same
      punctuator_spelling
  opened_by l m x e r true level h read = sym (rw (level, h) refl) ∙ read
  opened_by l m x e r false level h read = cc

  -- it makes no difference who takes the first `(`
  pub opened_again : (l : Position) (m : ℕ) (x : Words) (e : Expression) (r : Words) → begins_specifiers names x ≡ false
      → expression_at names deeper d None m (punctuator p.LeftParenthesis l ∷ x) ≡ Ok (e, r)
      → expression_at names deeper d (Some l) m x ≡ Ok (e, r)
  opened_again l m x e r h read = opened_by l m x e r (nat_le 1 d) refl h read
