-- One more operation on an operand, and the end.
use Rattle.std.proofs.Common.{◌≡◌, ℕ, zero, suc, Bool, true, false, ◌&&◌, nat_le, nat_lt, List, [], ◌∷◌, Ok, refl, sym}
use Rattle.std.proofs.Common.{ap, ◌∙◌}
use Rattle.std.proofs.lemmas.Bool.{false≢true}
use Rattle.c_lexer.specs.declared.token.TokenKind.{TokenKind}
use Rattle.c_syntax.specs.Tree.{Expression}
use Rattle.c_syntax.specs.Levels.{expression_levels}
use Rattle.c_syntax.specs.Words.{Words}
use Rattle.c_syntax.specs.Formed.{precedence}
use Rattle.c_grammar.specs.Reader.{Outcome}
use Rattle.c_grammar.specs.Readers.{Readers}
use Rattle.c_grammar.specs.ExpressionReader.{binds, needs, operations_from}
use Rattle.c_grammar.specs.Reads.{Fails}
use Rattle.c_expressions.specs.Steps.{operation_next, operation_is_next}
use Rattle.c_grammar.specs.declared.cursor.Fault.{Fault}
use Rattle.c_grammar.specs.declared.cursor.Fault.TheVariants.{Memory, Refused}

module _ (names : List (List ℕ)) (deeper : Readers) (levels : ℕ) where
  -- the test with the levels themselves
  told : (b : Bool) (m : ℕ) (l : Expression) (w : TokenKind) (said : ℕ) → said ≡ expression_levels l
      → nat_le m (binds w) && (nat_le (needs w) (precedence l) && nat_lt said levels) ≡ b
      → nat_le m (binds w) && (nat_le (needs w) (precedence l) && nat_lt (expression_levels l) levels) ≡ b
  told b m l w said is test = ap (λ n. nat_le m (binds w) && (nat_le (needs w) (precedence l) && nat_lt n levels))
      (sym is) ∙ test

  pub operation_turn : (n m : ℕ) (l e : Expression) (i new : Words) (said : ℕ) → said ≡ expression_levels l
      → operation_is_next levels m l said i ≡ true
      → operation_next names deeper levels l i ≡ Ok (e, new) → operations_from names deeper levels (suc n) m l i
      ≡ operations_from names deeper levels n m e new
  unfolding operations_from
  operation_turn n m l e [] new said is test one = absurd (false≢true test)
  operation_turn n m l e (first ∷ i) new said is test one = rw (told true m l first.kind said is test, one) refl

  -- the operation is refused
  pub operation_fails : (n m : ℕ) (l : Expression) (i new : Words) (said : ℕ) (o : Outcome Expression) (f : Fault)
      → o ≡ operations_from names deeper levels (suc n) m l i
      → said ≡ expression_levels l → operation_is_next levels m l said i ≡ true
      → Fails (operation_next names deeper levels l i) f new → Fails o f new
  unfolding operations_from
  operation_fails n m l i new said o Memory read is test one = tt
  operation_fails n m l [] new said o Refused read is test one = absurd (false≢true test)
  operation_fails n m l (first ∷ i) new said o Refused read is test one =
      read ∙ rw (told true m l first.kind said is test, one) refl

  -- there is no more operation
  pub operation_end : (n m : ℕ) (l : Expression) (i : Words) (said : ℕ) → said ≡ expression_levels l
      → operation_is_next levels m l said i ≡ false
      → operations_from names deeper levels n m l i ≡ Ok (l, i)
  unfolding operations_from
  operation_end zero m l i said is test = refl
  operation_end (suc n) m l [] said is test = refl
  operation_end (suc n) m l (first ∷ i) said is test = rw (told false m l first.kind said is test) refl

  -- the count has ended
  pub operation_done : (m : ℕ) (l : Expression) (i : Words) → operations_from names deeper levels 0 m l i ≡ Ok (l, i)
  unfolding operations_from
  operation_done m l i = refl
