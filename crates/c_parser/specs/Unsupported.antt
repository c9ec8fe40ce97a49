-- Words of C99 that are in no part of the subset (6.4.1, 6.4.4.4, 6.4.5, 6.4.6).
use Rattle.std.specs.Prelude.{ℕ, List, [], ◌∷◌, Option, Some, None, codes}
use Rattle.c_lexer.specs.declared.keyword.Keyword.TheVariants as keyword
use Rattle.c_lexer.specs.declared.punctuator.Punctuator.TheVariants.{Ellipsis}
use Rattle.c_lexer.specs.declared.token.Token.{Token}
use Rattle.c_lexer.specs.declared.token.TokenKind.{TokenKind}
use Rattle.c_lexer.specs.declared.token.TokenKind.TheVariants as kinds
use Rattle.c_parser.specs.declared.unsupported.UnsupportedWord.{UnsupportedWord}
use Rattle.c_parser.specs.declared.unsupported.UnsupportedWord.TheVariants as u

-- `float`, `double`, `_Bool`, `_Complex`, `_Imaginary`, `volatile`, `restrict`, `goto`, `...` and wide literals
unfoldable pub unsupported : TokenKind → Option UnsupportedWord
unsupported (kinds.Keyword keyword.Float) = Some u.Float
unsupported (kinds.Keyword keyword.Double) = Some u.Double
unsupported (kinds.Keyword keyword.Bool) = Some u.Bool
unsupported (kinds.Keyword keyword.Complex) = Some u.Complex
unsupported (kinds.Keyword keyword.Imaginary) = Some u.Imaginary
unsupported (kinds.Keyword keyword.Volatile) = Some u.Volatile
unsupported (kinds.Keyword keyword.Restrict) = Some u.Restrict
unsupported (kinds.Keyword keyword.Goto) = Some u.Goto
unsupported (kinds.Punctuator Ellipsis) = Some u.Ellipsis
unsupported (kinds.Wide spelling) = Some u.Wide
unsupported _ = None

-- each as it is spelled, a wide literal by its `L`
unfoldable pub told_as : UnsupportedWord → List ℕ
told_as u.Float = codes "float"
told_as u.Double = codes "double"
told_as u.Bool = codes "_Bool"
told_as u.Complex = codes "_Complex"
told_as u.Imaginary = codes "_Imaginary"
told_as u.Volatile = codes "volatile"
told_as u.Restrict = codes "restrict"
told_as u.Goto = codes "goto"
told_as u.Ellipsis = codes "..."
told_as u.Wide = codes "L"

-- a word on this line, or else what comes behind
abbrev pub on_line_or : ℕ → Option UnsupportedWord → Option (UnsupportedWord × ℕ) → Option (UnsupportedWord × ℕ)
on_line_or line (Some w) behind = Some (w, line)
on_line_or line None behind = behind

-- the first unsupported word of the tokens and its line, wherever it stands
unfoldable pub first_unsupported : List Token → Option (UnsupportedWord × ℕ)
first_unsupported [] = None
first_unsupported (first ∷ i) = on_line_or first.line (unsupported first.kind) (first_unsupported i)
