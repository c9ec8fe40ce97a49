-- Trees of the parts that are there and of what the last part is read as.
use Rattle.std.specs.Prelude.{List, Ok, Option}
use Rattle.c_lexer.specs.declared.keyword.Keyword.{Keyword}
use Rattle.c_lexer.specs.declared.punctuator.Punctuator.{Punctuator}
use Rattle.c_syntax.specs.declared.position.Position.{Position}
use Rattle.c_syntax.specs.declared.position.Spelled.{Spelled}
use Rattle.c_syntax.specs.Tree.{Expression, Arguments, TypedDeclarator, Declarator, Parameters}
use Rattle.c_syntax.specs.Tree.{Enumerator, Member, Members, Specifier, Specifiers}
use Rattle.c_syntax.specs.Tree as t
use Rattle.c_syntax.specs.View.{more_declarators_of}
use Rattle.c_grammar.specs.Reader.{Outcome, ◌>>=◌}

abbrev pub strings : Spelled → Outcome (List Spelled) → Outcome Expression
strings x o = o >>= λ z i. Ok (t.strings x z, i)

abbrev pub unary : Punctuator → Position → Outcome Expression → Outcome Expression
unary x at o = o >>= λ e i. Ok (t.unary x at e, i)

abbrev pub sizeof_expression : Position → Outcome Expression → Outcome Expression
sizeof_expression at o = o >>= λ e i. Ok (t.sizeof_expression at e, i)

abbrev pub sizeof_type : Position → Position → TypedDeclarator → Outcome Position → Outcome Expression
sizeof_type at l x o = o >>= λ r i. Ok (t.sizeof_type at l x r, i)

abbrev pub cast : Position → TypedDeclarator → Position → Outcome Expression → Outcome Expression
cast l x r o = o >>= λ e i. Ok (t.cast l x r e, i)

abbrev pub parenthesized : Position → Expression → Outcome Position → Outcome Expression
parenthesized l e o = o >>= λ r i. Ok (t.parenthesized l e r, i)

abbrev pub binary : Expression → Punctuator → Position → Outcome Expression → Outcome Expression
binary l x at o = o >>= λ e i. Ok (t.binary l x at e, i)

abbrev pub assignment : Expression → Punctuator → Position → Outcome Expression → Outcome Expression
assignment l x at o = o >>= λ e i. Ok (t.assignment l x at e, i)

abbrev pub conditional : Expression → Position → Expression → Position → Outcome Expression → Outcome Expression
conditional l at a colon o = o >>= λ b i. Ok (t.conditional l at a colon b, i)

abbrev pub subscript : Expression → Position → Expression → Outcome Position → Outcome Expression
subscript l at e o = o >>= λ r i. Ok (t.subscript l at e r, i)

abbrev pub call : Expression → Position → Arguments → Outcome Position → Outcome Expression
call l at a o = o >>= λ r i. Ok (t.call l at a r, i)

abbrev pub member : Expression → Punctuator → Position → Outcome Spelled → Outcome Expression
member l x at o = o >>= λ y i. Ok (t.member l x at y, i)

abbrev pub pointer : Position → List Position → Outcome Declarator → Outcome Declarator
pointer at z o = o >>= λ e i. Ok (t.pointer at z e, i)

abbrev pub grouped : Position → Declarator → Outcome Position → Outcome Declarator
grouped l e o = o >>= λ r i. Ok (t.grouped l e r, i)

abbrev pub function : Declarator → Position → Parameters → Outcome Position → Outcome Declarator
function e at a o = o >>= λ r i. Ok (t.function e at a r, i)

abbrev pub open_array : Declarator → Position → Outcome Position → Outcome Declarator
open_array e at o = o >>= λ r i. Ok (t.open_array e at r, i)

abbrev pub array : Declarator → Position → Expression → Outcome Position → Outcome Declarator
array e at x o = o >>= λ r i. Ok (t.array e at x r, i)

abbrev pub structure_body : Keyword → Position → Option Spelled → Position → Members → Outcome Position
    → Outcome Specifier
structure_body x at tag l m o = o >>= λ r i. Ok (t.structure_body x at tag l m r, i)

abbrev pub member_declaration : Specifiers → Declarator → List (Position × Declarator) → Outcome Position
    → Outcome Member
member_declaration z d m o = o >>= λ at i. Ok (t.member_declaration z d (more_declarators_of m) at, i)

abbrev pub valued : Spelled → Position → Outcome Expression → Outcome Enumerator
valued x at o = o >>= λ e i. Ok (t.valued x at e, i)
