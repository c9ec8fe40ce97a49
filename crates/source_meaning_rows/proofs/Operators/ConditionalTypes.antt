-- The text is rows/conditional_types.c; gcc 12.2.0 gives the same output and status.
--     void h(unsigned long v){if(v>15)h(v>>4);putchar("0123456789abcdef"[v&15]);}
--     void p(unsigned long v){h(v);putchar(32);}
--     int main(void){int i=-1;unsigned u=1;long l=-1;char*s="x";p(i<0?i:u);p(i<0?i:l);p(i>0?i:(signed
-- char)-1);p(*(i?s:0));p((i?0:s)==0);return 0;}
use Rattle.c_tree.specs.Programs.{Program, Function}
use Rattle.c_tree.specs.Statements.{Statement, expression_statement, declaration, return, literal_content}
use Rattle.c_tree.specs.Tree as tree
use Rattle.c_tree.specs.ValidProgram.{is_valid_program}
use Rattle.c_tree.specs.declared.expression.Kind.TheVariants.{Array, Void}
use Rattle.obj_memory.specs.declared.int_type.IntType.TheVariants.{Char, Long, SignedChar, UnsignedInt, UnsignedLong}
use Rattle.obj_memory.specs.declared.operator.BinaryOperator.TheVariants.{Equal, Greater, Less}
use Rattle.obj_memory.specs.declared.operator.UnaryOperator.TheVariants.{Negate}
use Rattle.sb_base.specs.Budgets.{default_sizes}
use Rattle.source_meaning.specs.Meaning.{meaning}
use Rattle.source_meaning_rows.proofs.Hexadecimal.{hex_digits, put_digits, put_number, put_type}
use Rattle.source_meaning_rows.proofs.Samples.{call, cast, compare, computing, conditional, convert, decay, defined}
use Rattle.source_meaning_rows.proofs.Samples.{deref, exited, four, int, integer_kind, lvalue, main_type, none, number}
use Rattle.source_meaning_rows.proofs.Samples.{one, parenthesized, part, plain, plain_variable, pointer, program_of}
use Rattle.source_meaning_rows.proofs.Samples.{read, seen, string_literal, three, two, unary, with_value}
use Rattle.std.proofs.Common.{Some, [], refl, true, ◌++◌, ◌∷◌, ◌≡◌}
use Rattle.std.specs.Prelude.{codes}

statement_1 : Statement
statement_1 = expression_statement (call 3 Void 1 (one (convert
    (integer_kind UnsignedLong)
    (conditional 3
    (compare 3 Less (plain 3 int 0) (number 3 0))
    (convert (integer_kind UnsignedInt) (plain 3 int 0))
    (plain 3 (integer_kind UnsignedInt) 1)))))

statement_2 : Statement
statement_2 = expression_statement (call 3 Void 1 (one (convert
    (integer_kind UnsignedLong)
    (conditional 3
    (compare 3 Less (plain 3 int 0) (number 3 0))
    (convert (integer_kind Long) (plain 3 int 0))
    (plain 3 (integer_kind Long) 2)))))

statement_3 : Statement
statement_3 = expression_statement (call 3 Void 1 (one (convert
    (integer_kind UnsignedLong)
    (conditional 3
    (compare 3 Greater (plain 3 int 0) (number 3 0))
    (plain 3 int 0)
    (convert int (cast 3 (integer_kind SignedChar) (unary 3 Negate (number 3 1))))))))

statement_4 : Statement
statement_4 = expression_statement (call 3 Void 1 (one (convert
    (integer_kind UnsignedLong)
    (read (deref 3 (integer_kind Char)
    (parenthesized (conditional 3 (plain 3 int 0) (plain 3 pointer 3) (convert pointer (number 3 0)))))))))

statement_5 : Statement
statement_5 = expression_statement (call 3 Void 1 (one (convert
    (integer_kind UnsignedLong)
    (compare 3 Equal
    (parenthesized (conditional 3 (plain 3 int 0) (convert pointer (number 3 0)) (plain 3 pointer 3)))
    (convert pointer (number 3 0))))))

function_main : Function
function_main = defined 3 0 none
    (four (plain_variable int)
    (plain_variable (integer_kind UnsignedInt))
    (plain_variable (integer_kind Long))
    (plain_variable pointer))
    368
    (declaration (one (with_value 0 (unary 3 Negate (number 3 1)))) ∷
    declaration (one (with_value 1 (convert (integer_kind UnsignedInt) (number 3 1)))) ∷
    declaration (one (with_value 2 (convert (integer_kind Long) (unary 3 Negate (number 3 1))))) ∷
    declaration (one (with_value 3 (decay (lvalue 3 (Array 2) (tree.static 1))))) ∷
    statement_1 ∷
    statement_2 ∷
    statement_3 ∷
    statement_4 ∷
    statement_5 ∷
    return (Some (number 3 0)) ∷ [])

program : Program
program = program_of
    (two hex_digits (string_literal (Array 2) (one (part 0 (literal_content (codes "x" ++ 0 ∷ []))))))
    (two main_type put_type)
    (three put_digits put_number function_main)
    2

run : seen (meaning program default_sizes [] 200) ≡ exited (codes "ffffffff ffffffffffffffff ffffffffffffffff 78 1 ") 0
unfolding program put_digits put_number function_main statement_1 statement_2 statement_3 statement_4 statement_5
    hex_digits put_type computing
run = refl

valid : is_valid_program program ≡ true
unfolding program put_digits put_number function_main statement_1 statement_2 statement_3 statement_4 statement_5
    hex_digits put_type computing
valid = refl
