-- What is read as an expression is a well-formed one with the words that were read (C99 6.5).
use Rattle.std.proofs.Common.{◌≡◌, ℕ, zero, suc, ◌<◌, ◌≤◌, nat_le, nat_lt, true, List, [], ◌∷◌, length, Option, Some}
use Rattle.std.proofs.Common.{None, refl, sym, ap, ◌∙◌, arith}
use Rattle.std.proofs.lemmas.Bool.{leb-true, ltb-true, and_parts}
use Rattle.c_lexer.specs.declared.keyword.Keyword.TheVariants as k
use Rattle.c_lexer.specs.declared.punctuator.Punctuator.{Punctuator}
use Rattle.c_lexer.specs.declared.punctuator.Punctuator.TheVariants as p
use Rattle.c_lexer.specs.declared.token.TokenKind.{TokenKind}
use Rattle.c_lexer.specs.declared.token.TokenKind.TheVariants as kinds
use Rattle.c_syntax.specs.declared.position.Position.{Position}
use Rattle.c_syntax.specs.Tree.{Expression, Arguments}
use Rattle.c_syntax.specs.Tree as t
use Rattle.c_syntax.specs.View.{more_arguments_of}
use Rattle.c_syntax.specs.Levels.{expression_levels, arguments_levels, more_arguments_levels}
use Rattle.c_syntax.specs.Words.{Words, word_at, punctuator, keyword, expression_words, arguments_words}
use Rattle.c_syntax.specs.Words.{more_arguments_words}
use Rattle.c_syntax.specs.Formed.{binary_precedence, operand_precedence, is_assignment, is_member_operator}
use Rattle.c_syntax.specs.Formed.{is_postfix_operator, precedence, AreArguments, AreMoreArguments}
use Rattle.c_grammar.specs.Reader.{is_same}
use Rattle.c_grammar.specs.Readers.{Readers}
use Rattle.c_grammar.specs.ExpressionReader.{bracket_operation, operation, operation_binds, operation_needs, binds}
use Rattle.c_grammar.specs.ExpressionReader.{needs, cast_from, parenthesized_from, parenthesis_from}
use Rattle.c_grammar.specs.ExpressionReader.{sizeof_parenthesis_from, sizeof_from, operand_by_punctuator, operand_by}
use Rattle.c_grammar.specs.ExpressionReader.{operand_from, arguments_from, operation_from, operation_by, goes_on}
use Rattle.c_grammar.specs.ExpressionReader.{operations_from, first_operand, expression_at}
use Rattle.c_grammar.specs.declared.declarator_kind.DeclaratorKind.TheVariants as kind
use Rattle.c_grammar.specs.declared.operation.Operation.{Operation}
use Rattle.c_grammar.specs.declared.operation.Operation.TheVariants as op
use Rattle.c_grammar.specs.LeastPrecedence as least
use Rattle.c_grammar.proofs.Known.{SoundReaders, FoundExpression, with_opened}
use Rattle.c_grammar.proofs.Inversion.{Gives, gives_ok, gives_err, gives_bind, gives_map, gives_if, by_test}
use Rattle.c_grammar.proofs.Inversion.{same_punctuator, same_positioned, expect_gives, identifier_gives}
use Rattle.c_grammar.proofs.Inversion.{ordinary_by_gives, strings_gives, FoundEach, BehindComma, behind_commas_gives}
use Rattle.c_grammar.proofs.SoundTyped.{opened_part, expression_part, typed_gives}

-- ---- operators

binary_below : (x : Punctuator) → binary_precedence x < 15
unfolding binary_precedence
binary_below p.Comma = omega arith
binary_below _ = omega arith

operand_below : (x : Punctuator) → operand_precedence x < 16
unfolding operand_precedence
operand_below p.Star = omega arith
operand_below _ = omega arith

-- the punctuators of an operation
abbrev IsOperation : Punctuator → Option Operation → Type 0
IsOperation x None = Unit {0}
IsOperation x (Some op.Binary) = 1 ≤ binary_precedence x
IsOperation x (Some op.Assignment) = is_assignment x ≡ true
IsOperation x (Some op.Conditional) = x ≡ p.Question
IsOperation x (Some op.Subscript) = x ≡ p.LeftBracket
IsOperation x (Some op.Call) = x ≡ p.LeftParenthesis
IsOperation x (Some op.Member) = is_member_operator x ≡ true
IsOperation x (Some op.Postfix) = is_postfix_operator x ≡ true

bracket_is : (x : Punctuator) → IsOperation x (bracket_operation x)
bracket_is p.Question = refl
bracket_is p.LeftBracket = refl
bracket_is p.LeftParenthesis = refl
bracket_is _ = tt

operation_is : (x : Punctuator) → IsOperation x (operation x)
unfolding operation
operation_is x =
    by_test (λ o. IsOperation x o) (nat_le 1 (binary_precedence x)) _ _ (λ h. leb-true 1 (binary_precedence x) h) λ _.
    by_test (λ o. IsOperation x o) (is_assignment x) _ _ (λ h. h) λ _.
    by_test (λ o. IsOperation x o) (is_member_operator x) _ _ (λ h. h) λ _.
    by_test (λ o. IsOperation x o) (is_postfix_operator x) _ _ (λ h. h) λ _. bracket_is x

-- the same expression, where less is asked of its precedence
weaker : {names : List (List ℕ)} {n a b : ℕ} {i : Words} {e : Expression} {r : Words} → b ≤ a
    → FoundExpression names n a i e r → FoundExpression names n b i e r
weaker h f = record { formed = f.formed; low = f.low; binding = omega (arith, f.binding); same = f.same }

module _ (names : List (List ℕ)) (levels : ℕ) (deeper : Readers) (known : SoundReaders names levels deeper) where
  part : (m : ℕ) (i : Words) → m < 16 → Gives (deeper.expression None m i) (FoundExpression names levels m i)
  part m i low = expression_part names levels deeper known m i low

  -- ---- operands

  cast_gives : (l : Position) (i : Words) → Gives (cast_from names deeper levels l i)
      (FoundExpression names (suc levels) 14 (punctuator p.LeftParenthesis l ∷ i))
  unfolding cast_from
  cast_gives l i = gives_bind (typed_gives names levels deeper known kind.Abstract i) λ x i f.
      gives_bind (expect_gives p.RightParenthesis i) λ r i g.
      gives_bind (part 14 i (omega arith)) λ e i h. gives_ok (t.cast l x r e) i (record {
        formed = (h.binding, f.type_name refl, h.formed);
        low = omega (arith, f.low, h.low);
        binding = omega arith;
        same = rw (f.same, g, h.same) refl;
      })

  parenthesized_gives : (l : Position) (i : Words) → Gives (parenthesized_from names deeper levels l i)
      (FoundExpression names (suc levels) 16 (punctuator p.LeftParenthesis l ∷ i))
  unfolding parenthesized_from
  parenthesized_gives l i = gives_bind (part 1 i (omega arith)) λ e i f.
      gives_bind (expect_gives p.RightParenthesis i) λ r i g.
      gives_ok (t.parenthesized l e r) i (record {
        formed = f.formed;
        low = omega (arith, f.low);
        binding =
            omega arith;
        same = rw (f.same, g) refl;
      })

  parenthesis_gives : (m : ℕ) (l : Position) (i : Words) → m < 16
      → Gives (parenthesis_from names deeper levels m l i) (FoundExpression names (suc levels) m
      (punctuator p.LeftParenthesis l ∷ i))
  unfolding parenthesis_from
  parenthesis_gives m l i low = gives_if
      (λ _. gives_if (λ h. gives_map (cast_gives l i) λ e r f. weaker (leb-true m 14 h) f) (λ _. gives_err i))
      (λ _. gives_map (parenthesized_gives l i) λ e r f. weaker (omega arith) f)

  sizeof_parenthesis_gives : (at l : Position) (i : Words)
      → Gives (sizeof_parenthesis_from names deeper levels at l i)
      (FoundExpression names (suc levels) 15 (keyword k.Sizeof at ∷ punctuator p.LeftParenthesis l ∷ i))
  unfolding sizeof_parenthesis_from
  sizeof_parenthesis_gives at l i = gives_if
      (λ _. gives_bind (typed_gives names levels deeper known kind.Abstract i) λ x i f.
      gives_bind (expect_gives p.RightParenthesis i) λ r i g.
      gives_ok (t.sizeof_type at l x r) i (record {
        formed = f.type_name refl;
        low = omega (arith, f.low);
        binding =
            omega arith;
        same = rw (f.same, g) refl;
      }))
      (λ _. gives_bind (opened_part names levels deeper known (Some l) 15 i (omega arith)) λ e i f.
      gives_ok (t.sizeof_expression at e) i (record {
        formed = (f.binding, f.formed);
        low =
            omega (arith, f.low);
        binding = omega arith;
        same = ap (λ i. keyword k.Sizeof at ∷ i) f.same;
      }))

  sizeof_gives : (at : Position) (i : Words) → Gives (sizeof_from names deeper levels at i)
      (FoundExpression names (suc levels) 15 (keyword k.Sizeof at ∷ i))
  unfolding sizeof_from
  sizeof_gives at [] = gives_err []
  sizeof_gives at (first ∷ i) = gives_if
      (λ c. gives_map (sizeof_parenthesis_gives at first.position i) λ e r f. record {
        formed = f.formed;
        low = f.low;
        binding = f.binding;
        same = ap (λ i. keyword k.Sizeof at ∷ i) (same_positioned p.LeftParenthesis first.kind first.position i c)
            ∙ f.same;
      })
      (λ _. gives_bind (part 15 (first ∷ i) (omega arith)) λ e i f.
      gives_ok (t.sizeof_expression at e) i (record {
        formed = (f.binding, f.formed);
        low =
            omega (arith, f.low);
        binding = omega arith;
        same = ap (λ i. keyword k.Sizeof at ∷ i) f.same;
      }))

  operand_by_punctuator_gives : (m : ℕ) (x : Punctuator) (at : Position) (i : Words) → m < 16
      → Gives (operand_by_punctuator names deeper levels m x at i)
      (FoundExpression names (suc levels) m (punctuator x at ∷ i))
  unfolding operand_by_punctuator
  operand_by_punctuator_gives m x at i low = gives_if
      (λ c. gives_bind (part (operand_precedence x) i (operand_below x)) λ e i f.
      gives_ok (t.unary x at e) i (record {
        formed = (
          leb-true 1 (operand_precedence x) (and_parts (nat_le 1 (operand_precedence x)) (nat_le 1 levels) c).0,
          f.binding,
          f.formed,
        );
        low = omega (arith, f.low);
        binding = omega arith;
        same = ap (λ i. punctuator x at ∷ i) f.same;
      }))
      (λ _. gives_if
      (λ c. gives_map (parenthesis_gives m at i low) λ e r f. record {
        formed = f.formed;
        low = f.low;
        binding = f.binding;
        same =
            ap (λ x. punctuator x at ∷ i) (sym (same_punctuator p.LeftParenthesis x
            (and_parts (is_same p.LeftParenthesis x) (nat_le 1 levels) c).0)) ∙ f.same;
      })
      (λ _. gives_err (punctuator x at ∷ i)))

  operand_by_gives : (m : ℕ) (w : TokenKind) (at : Position) (i : Words) → m < 16
      → Gives (operand_by names deeper levels m w at i) (FoundExpression names (suc levels) m (word_at w at ∷ i))
  operand_by_gives m (kinds.Identifier s) at i low = gives_bind (ordinary_by_gives names (kinds.Identifier s) at i)
      λ x r f.
      gives_ok (t.identifier x) r (record { formed = f.0; low = omega arith; binding = omega arith; same = f.1 })
  operand_by_gives m (kinds.Integer s) at i low = gives_ok (t.integer (record { spelling = s; position = at })) i
      (record { formed = tt; low = omega arith; binding = omega arith; same = refl })
  operand_by_gives m (kinds.Character s) at i low = gives_ok (t.character (record { spelling = s; position = at })) i
      (record { formed = tt; low = omega arith; binding = omega arith; same = refl })
  operand_by_gives m (kinds.StringLiteral s) at i low = gives_bind (strings_gives i) λ z r f.
      gives_ok (t.strings (record { spelling = s; position = at }) z) r
      (record {
        formed = tt;
        low = omega arith;
        binding = omega arith;
        same =
            ap (λ i. word_at (kinds.StringLiteral s) at ∷ i) f;
      })
  operand_by_gives m (kinds.Punctuator x) at i low = operand_by_punctuator_gives m x at i low
  operand_by_gives m (kinds.Keyword k.Sizeof) at i low = gives_if
      (λ _. gives_map (sizeof_gives at i) λ e r f. weaker (omega arith) f) (λ _. gives_err (keyword k.Sizeof at ∷ i))
  operand_by_gives m w at i low = gives_err (word_at w at ∷ i)

  operand_gives : (m : ℕ) (i : Words) → m < 16 → Gives (operand_from names deeper levels m i)
      (FoundExpression names (suc levels) m i)
  unfolding operand_from
  operand_gives m [] low = gives_err []
  operand_gives m (first ∷ i) low = operand_by_gives m first.kind first.position i low

  -- ---- operations

  -- the words i are those of arguments and then r
  record FoundArguments (i : Words) (a : Arguments) (r : Words) : Type 0 where
    formed : AreArguments names a
    low : arguments_levels a < levels
    same : i ≡ arguments_words a r

  more_arguments_found : 0 < levels → (i : Words) (z : List (Position × Expression)) (r : Words)
      → FoundEach (BehindComma (FoundExpression names levels 2)) i z r
      → AreMoreArguments names (more_arguments_of z) × (more_arguments_levels (more_arguments_of z) < levels)
      × (i ≡ more_arguments_words (more_arguments_of z) r)
  more_arguments_found some i [] r f = (tt, some, f)
  more_arguments_found some i (x ∷ z) r f =
      let e = f.1.2 in
      let m = more_arguments_found some f.0 z r f.2 in (
        (e.binding, e.formed, m.0),
        omega (arith, e.low, m.1),
        f.1.1
            ∙ ap (λ i. punctuator p.Comma x.0 ∷ i) (e.same ∙ ap (λ i. expression_words x.1 i) m.2),
      )

  arguments_gives : 0 < levels → (i : Words) → Gives (arguments_from names deeper levels i) (FoundArguments i)
  unfolding arguments_from
  arguments_gives some i = gives_if
      (λ _. gives_ok t.no_arguments i (record { formed = tt; low = some; same = refl }))
      (λ _. gives_bind (part 2 i (omega arith)) λ e j f.
      gives_bind (behind_commas_gives (FoundExpression names levels 2) (deeper.expression None least.assignment)
      (λ i. part 2 i (omega arith)) (length j) j) λ z r g.
      let m = more_arguments_found some j z r g in
      gives_ok (t.arguments e (more_arguments_of z)) r
      (record {
        formed = (f.binding, f.formed, m.0);
        low = omega (arith, f.low, m.1);
        same =
            f.same ∙ ap (λ i. expression_words e i) m.2;
      }))

  -- an operation on an expression that stands before its punctuator
  operation_gives : (i : Words) (l : Expression) (x : Punctuator) (at : Position) (o : Option Operation) (j : Words)
      → IsOperation x o
      → FoundExpression names levels (operation_needs x o) i l (punctuator x at ∷ j)
      → Gives (operation_from names deeper levels l x at o j) (FoundExpression names (suc levels) (operation_binds x o)
      i)
  unfolding operation_from
  operation_gives i l x at None j is first = gives_err j
  operation_gives i l x at (Some op.Binary) j is first = gives_bind
      (part (suc (binary_precedence x)) j (omega (arith, binary_below x))) λ e r f.
      gives_ok (t.binary l x at e) r (record {
        formed = (is, first.binding, f.binding, first.formed, f.formed);
        low = omega (arith, first.low, f.low);
        binding = omega arith;
        same = rw (first.same, f.same) refl;
      })
  operation_gives i l x at (Some op.Assignment) j is first = gives_bind (part 2 j (omega arith)) λ e r f.
      gives_ok (t.assignment l x at e) r (record {
        formed = (is, first.binding, f.binding, first.formed, f.formed);
        low = omega (arith, first.low, f.low);
        binding = omega arith;
        same = rw (first.same, f.same) refl;
      })
  operation_gives i l x at (Some op.Conditional) j is first =
      gives_bind (part 1 j (omega arith)) λ a j f. gives_bind (expect_gives p.Colon j) λ colon j g.
      gives_bind (part 3 j (omega arith)) λ b r h. gives_ok (t.conditional l at a colon b) r (record {
        formed = (first.binding, h.binding, first.formed, f.formed, h.formed);
        low = omega (arith, first.low, f.low, h.low);
        binding = omega arith;
        same = rw (first.same, is, f.same, g, h.same) refl;
      })
  operation_gives i l x at (Some op.Subscript) j is first = gives_bind (part 1 j (omega arith)) λ e j f.
      gives_bind (expect_gives p.RightBracket j) λ right r g.
      gives_ok (t.subscript l at e right) r (record {
        formed = (first.binding, first.formed, f.formed);
        low = omega (arith, first.low, f.low);
        binding = omega arith;
        same = rw (first.same, is, f.same, g) refl;
      })
  operation_gives i l x at (Some op.Call) j is first = gives_bind (arguments_gives (omega (arith, first.low)) j)
      λ a j f. gives_bind (expect_gives p.RightParenthesis j) λ right r g.
      gives_ok (t.call l at a right) r (record {
        formed = (first.binding, first.formed, f.formed);
        low = omega (arith, first.low, f.low);
        binding = omega arith;
        same = rw (first.same, is, f.same, g) refl;
      })
  operation_gives i l x at (Some op.Member) j is first = gives_bind (identifier_gives j) λ y r f.
      gives_ok (t.member l x at y) r (record {
        formed = (is, first.binding, first.formed);
        low =
            omega (arith, first.low);
        binding = omega arith;
        same = rw (first.same, f) refl;
      })
  operation_gives i l x at (Some op.Postfix) j is first =
      gives_ok (t.postfix l x at) j (record {
        formed = (is, first.binding, first.formed);
        low =
            omega (arith, first.low);
        binding = omega arith;
        same = first.same;
      })

  operation_by_gives : (i : Words) (l : Expression) (w : TokenKind) (at : Position) (j : Words)
      → FoundExpression names levels (needs w) i l (word_at w at ∷ j)
      → Gives (operation_by names deeper levels l w at j) (FoundExpression names (suc levels) (binds w) i)
  operation_by_gives i l (kinds.Punctuator x) at j first = operation_gives i l x at (operation x) j (operation_is x)
      first
  operation_by_gives i l w at j first = gives_err j

  operations_gives : (n m : ℕ) (i : Words) (l : Expression) (j : Words) → FoundExpression names (suc levels) m i l j
      → Gives (operations_from names deeper levels n m l j) (FoundExpression names (suc levels) m i)
  unfolding operations_from
  operations_gives zero m i l j first = gives_ok l j first
  operations_gives (suc n) m i l [] first = gives_ok l [] first
  operations_gives (suc n) m i l (next ∷ j) first = gives_if {b = goes_on names deeper levels m l next.kind}
      (λ c.
      let tests = and_parts (nat_le m (binds next.kind)) _ c in
      let others = and_parts (nat_le (needs next.kind) (precedence l)) (nat_lt (expression_levels l) levels) tests.1 in
      let operand : FoundExpression names levels (needs next.kind) i l (next ∷ j) = record {
        formed = first.formed;
        low = ltb-true (expression_levels l) levels others.1;
        binding = leb-true (needs next.kind) (precedence l) others.0;
        same = first.same;
      } in
      gives_bind (operation_by_gives i l next.kind next.position j operand) λ e r f.
      operations_gives n m i e r (weaker (leb-true m (binds next.kind) tests.0) f))
      (λ _. gives_ok l (next ∷ j) first)

  first_operand_gives : (opened : Option Position) (m : ℕ) (i : Words) → m < 16
      → Gives (first_operand names deeper levels opened m i) (FoundExpression names (suc levels) m
      (with_opened opened i))
  first_operand_gives None m i low = operand_gives m i low
  first_operand_gives (Some l) m i low = gives_if (λ _. gives_map (parenthesized_gives l i) λ e r f.
      weaker (omega arith) f) (λ _. gives_err i)

  pub expression_gives : (opened : Option Position) (m : ℕ) (i : Words) → m < 16
      → Gives (expression_at names deeper levels opened m i) (FoundExpression names (suc levels) m
      (with_opened opened i))
  unfolding expression_at
  expression_gives opened m i low = gives_bind (first_operand_gives opened m i low) λ l j f.
      operations_gives levels m (with_opened opened i) l j f
