-- The conditional expression that is read is the only one with these words.
use Rattle.std.proofs.Common.{◌≡◌, [], ◌∷◌, Ok, Err, Some, None, sym, ap, subst}
use Rattle.std.proofs.Common.{arith}
use Rattle.c_syntax.specs.Tree.{Expression}
use Rattle.c_syntax.specs.Words.{Words, expression_words}
use Rattle.c_grammar.specs.LeastPrecedence as least
use Rattle.c_grammar.specs.Nested.{readers}
use Rattle.c_grammar.specs.Reader.{Outcome}
use Rattle.c_grammar.proofs.Known.{FoundExpression}
use Rattle.c_grammar.proofs.Sound.{sound}
use Rattle.c_grammar.proofs.Complete.{complete}
use Rattle.c_conditions.specs.Conditions.{IsConditionalExpression, conditional_expression, whole}

-- what is whole was read with no word left
whole_is_read : (o : Outcome Expression) (e : Expression) → whole o ≡ Some e → o ≡ Ok (e, [])
whole_is_read (Ok (f, [])) e h = cc
whole_is_read (Ok (f, first ∷ i)) e h = cc
whole_is_read (Err i) e h = cc

abbrev outcome_of : Words → Outcome Expression
outcome_of i = (readers [] 201).expression None least.conditional i

is_found : (i : Words) (e : Expression) → FoundExpression [] 201 least.conditional i e [] → IsConditionalExpression i e
is_found i e f = record { formed = f.formed; binding = f.binding; levels = omega (arith, f.low); words = sym f.same }

pub read_is_conditional : (i : Words) (e : Expression) → conditional_expression i ≡ Some e → IsConditionalExpression i e
unfolding conditional_expression
read_is_conditional i e h = is_found i e ((sound [] 201).expressions None least.conditional i e [] (omega arith)
    (whole_is_read (outcome_of i) e h))

pub conditional_is_read : (i : Words) (e : Expression) → IsConditionalExpression i e → conditional_expression i ≡ Some e
unfolding conditional_expression
conditional_is_read i e f =
    let read : outcome_of (expression_words e []) ≡ Ok (e, []) = (complete [] 201).expressions least.conditional e []
    f.formed (omega (arith, f.levels)) (omega arith) f.binding (omega arith) in
    ap whole (subst (λ j. outcome_of j ≡ Ok (e, [])) f.words read)
