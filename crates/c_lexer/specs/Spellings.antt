-- How keywords and punctuators are spelled.
use Rattle.std.specs.Prelude.{ℕ, List, Option, codes}
use Rattle.std.specs.List.{find}
use Rattle.std.specs.Str.{bytes_eq}
use Rattle.c_lexer.specs.declared.keyword.Keyword.{Keyword}
use Rattle.c_lexer.specs.declared.keyword.Keyword.TheVariants as keyword
use Rattle.c_lexer.specs.declared.punctuator.Punctuator.{Punctuator}
use Rattle.c_lexer.specs.declared.punctuator.Punctuator.TheVariants as punctuator
use Rattle.c_lexer.specs.declared.keyword.TheConstants.{KEYWORDS}
use Rattle.c_lexer.specs.declared.punctuator.TheConstants.{PUNCTUATORS}

-- C99 6.4.1
unfoldable pub keyword_spelling : Keyword → List ℕ
keyword_spelling keyword.Auto = codes "auto"
keyword_spelling keyword.Break = codes "break"
keyword_spelling keyword.Case = codes "case"
keyword_spelling keyword.Char = codes "char"
keyword_spelling keyword.Const = codes "const"
keyword_spelling keyword.Continue = codes "continue"
keyword_spelling keyword.Default = codes "default"
keyword_spelling keyword.Do = codes "do"
keyword_spelling keyword.Double = codes "double"
keyword_spelling keyword.Else = codes "else"
keyword_spelling keyword.Enum = codes "enum"
keyword_spelling keyword.Extern = codes "extern"
keyword_spelling keyword.Float = codes "float"
keyword_spelling keyword.For = codes "for"
keyword_spelling keyword.Goto = codes "goto"
keyword_spelling keyword.If = codes "if"
keyword_spelling keyword.Inline = codes "inline"
keyword_spelling keyword.Int = codes "int"
keyword_spelling keyword.Long = codes "long"
keyword_spelling keyword.Register = codes "register"
keyword_spelling keyword.Restrict = codes "restrict"
keyword_spelling keyword.Return = codes "return"
keyword_spelling keyword.Short = codes "short"
keyword_spelling keyword.Signed = codes "signed"
keyword_spelling keyword.Sizeof = codes "sizeof"
keyword_spelling keyword.Static = codes "static"
keyword_spelling keyword.Struct = codes "struct"
keyword_spelling keyword.Switch = codes "switch"
keyword_spelling keyword.Typedef = codes "typedef"
keyword_spelling keyword.Union = codes "union"
keyword_spelling keyword.Unsigned = codes "unsigned"
keyword_spelling keyword.Void = codes "void"
keyword_spelling keyword.Volatile = codes "volatile"
keyword_spelling keyword.While = codes "while"
keyword_spelling keyword.Bool = codes "_Bool"
keyword_spelling keyword.Complex = codes "_Complex"
keyword_spelling keyword.Imaginary = codes "_Imaginary"

-- C99 6.4.6
unfoldable pub punctuator_spelling : Punctuator → List ℕ
punctuator_spelling punctuator.LeftBracket = codes "["
punctuator_spelling punctuator.RightBracket = codes "]"
punctuator_spelling punctuator.LeftParenthesis = codes "("
punctuator_spelling punctuator.RightParenthesis = codes ")"
punctuator_spelling punctuator.LeftBrace = codes "{"
punctuator_spelling punctuator.RightBrace = codes "}"
punctuator_spelling punctuator.Dot = codes "."
punctuator_spelling punctuator.Arrow = codes "->"
punctuator_spelling punctuator.Increment = codes "++"
punctuator_spelling punctuator.Decrement = codes "--"
punctuator_spelling punctuator.Ampersand = codes "&"
punctuator_spelling punctuator.Star = codes "*"
punctuator_spelling punctuator.Plus = codes "+"
punctuator_spelling punctuator.Minus = codes "-"
punctuator_spelling punctuator.Tilde = codes "~"
punctuator_spelling punctuator.Exclamation = codes "!"
punctuator_spelling punctuator.Slash = codes "/"
punctuator_spelling punctuator.Percent = codes "%"
punctuator_spelling punctuator.ShiftLeft = codes "<<"
punctuator_spelling punctuator.ShiftRight = codes ">>"
punctuator_spelling punctuator.Less = codes "<"
punctuator_spelling punctuator.Greater = codes ">"
punctuator_spelling punctuator.LessOrEqual = codes "<="
punctuator_spelling punctuator.GreaterOrEqual = codes ">="
punctuator_spelling punctuator.Equal = codes "=="
punctuator_spelling punctuator.NotEqual = codes "!="
punctuator_spelling punctuator.Caret = codes "^"
punctuator_spelling punctuator.Bar = codes "|"
punctuator_spelling punctuator.And = codes "&&"
punctuator_spelling punctuator.Or = codes "||"
punctuator_spelling punctuator.Question = codes "?"
punctuator_spelling punctuator.Colon = codes ":"
punctuator_spelling punctuator.Semicolon = codes ";"
punctuator_spelling punctuator.Ellipsis = codes "..."
punctuator_spelling punctuator.Assign = codes "="
punctuator_spelling punctuator.MultiplyAssign = codes "*="
punctuator_spelling punctuator.DivideAssign = codes "/="
punctuator_spelling punctuator.RemainderAssign = codes "%="
punctuator_spelling punctuator.AddAssign = codes "+="
punctuator_spelling punctuator.SubtractAssign = codes "-="
punctuator_spelling punctuator.ShiftLeftAssign = codes "<<="
punctuator_spelling punctuator.ShiftRightAssign = codes ">>="
punctuator_spelling punctuator.AndAssign = codes "&="
punctuator_spelling punctuator.XorAssign = codes "^="
punctuator_spelling punctuator.OrAssign = codes "|="
punctuator_spelling punctuator.Comma = codes ","
punctuator_spelling punctuator.Hash = codes "#"

-- the keyword that is spelled so, exactly
unfoldable pub keyword_of : List ℕ → Option Keyword
keyword_of z = find (λ k. bytes_eq (keyword_spelling k) z) KEYWORDS

-- the punctuator that is spelled so
unfoldable pub punctuator_of : List ℕ → Option Punctuator
punctuator_of z = find (λ p. bytes_eq (punctuator_spelling p) z) PUNCTUATORS
