-- An operand of string literals, of which the first is the next word.
use Rattle.std.proofs.Common.{◌≡◌, ℕ, List, length, get_or, take, drop, ◌-◌, ◌≤◌, ap, ◌∙◌}
use Rattle.c_lexer.specs.declared.token.TokenKind.TheVariants as kinds
use Rattle.c_syntax.specs.declared.position.Positioned.{Positioned}
use Rattle.c_syntax.specs.Words.{Words}
use Rattle.c_grammar.specs.Reader.{strings_from}
use Rattle.c_grammar.specs.Readers.{Readers}
use Rattle.c_grammar.specs.ExpressionReader.{operand_by, operand_from}
use Rattle.c_grammar.proofs.Taking.{first_word}
use Rattle.c_expressions.specs.Built as built

pub strings_next : (names : List (List ℕ)) (deeper : Readers) (levels m : ℕ) (i : Words) (first : Positioned)
    (s : List ℕ) → 1 ≤ length i → first ≡ get_or i 0 first → first.kind ≡ kinds.StringLiteral s
    → operand_from names deeper levels m i ≡ built.strings (record { spelling = s; position = first.position })
    (strings_from (take (length i - 1) (drop 1 i)))
unfolding operand_from
strings_next names deeper levels m i first s some is named =
    ap (λ i. operand_from names deeper levels m i) (first_word i first some is)
    ∙ ap (λ w. operand_by names deeper levels m w first.position (take (length i - 1) (drop 1 i))) named
